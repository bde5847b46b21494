use mathlib.Core.Path.{◌≡◌, sym, ap, ap₂, ◌∙◌}
use mathlib.Core.Bool.{true, false}
use mathlib.Core.List.{List, ◌++◌}
use Prim.Native.Nat.{ℕ, ◌*◌, ◌≤◌}
use native.Mathlib.Omega.{arith}
use borrow.Author.Tests.{lt-ltb, le-ltb}
use lib.ListN.{length, length-replicate}
use Rattle.refusals.specs.{accepted}
use Rattle.refusals.specs.Order.{first}
use Rattle.octets.specs.Strings.{put}
use Rattle.rows.specs.Sizes.{most_rows, table_bytes}
use Rattle.rows.proofs.Tables.{fit_length}
use Rattle.roll.specs.Blocks.{block_bytes, blocks, first_blocks}
use Rattle.store.specs.Area.{area_right}
use Rattle.rules.specs.Bundle.{longest_bundle, old_count}
use Rattle.maker.specs.Rolls.{row_count, roll_made}
use Rattle.maker.specs.Lists.{all_led, bundle_made}
use Rattle.maker.specs.Making.{entries_tests, too_large, blocks_made}
use Rattle.maker.proofs.RollsMade.{made_fits}
use Rattle.gathering.specs.Old.{Given}
use Rattle.composing.specs.Sizes.{whole_size}
use Rattle.composing.specs.Written.{lists_of}
use Rattle.composing.proofs.Tabled.{bundle_is}
use Rattle.composing.proofs.Lengths.{rolls_fit, size_made, large_is, all_fitting, fitting}
use Rattle.composing.proofs.Feeding.{all_fed}
use Rattle.composing.proofs.Cascade.{known, entries_refused, unled_refused, rows_refused, large_refused, roll_refused, bundle_refused, written, roll_long, blocks_are}
use Rattle.composing.proofs.call.make.Goals as goal
use Rattle.composing.proofs.call.make.Goals.{then-roll-n-via-then-roll-n, then-roll-n-via-else-roll-n+then-bundle-size}
use Rattle.refusals.proofs.Answered.{number_refuses}
use Rattle.rules.proofs.Tolds.{handed_on}
use Rattle.composing.proofs.call.make.Goals.{After-roll_bytes-n, After-whole_size-size, In_ok-check_entries, Else-count-gt-MOST, Else-not-all_led, Else-size-gt-LONGEST}

-- nothing before the rolls refuses
accepts : (c : In_ok-check_entries) → let a = c.args in
    first (entries_tests a.previous.now a.own.now a.entries.now a.store.now) ≡ accepted
accepts c = sym c.in_ok-check_entries.ensures

sees : (c : In_ok-check_entries) → let a = c.args in
    (area_right a.store.now ≡ true) × Given a.entries.now
sees c = let a = c.args in
    known a.previous.now a.own.now a.entries.now a.store.now (accepts c)

leads : (c : Else-not-all_led) → let a = c.args in
    all_led a.entries.now a.store.now ≡ true
leads c = sym c.all_led.ensures ∙ c.if-not-all_led.false

-- the new roll has its rows in the table
few : (c : Else-count-gt-MOST)
    → row_count
    c.args.entries.now ≤ most_rows
few c = omega (arith, c.put_rows-count.ensures.0, c.if-count-gt-MOST.false)

size : (c : After-whole_size-size)
    → let e = c.args.entries.now in
    c.whole_size-size.result ≡ whole_size e (roll_made e).rows (row_count e) (old_count e)
size c =
    let e = c.args.entries.now in
    c.whole_size-size.ensures
    ∙ ap₂ (λ (t : List ℕ) (n : ℕ). whole_size e t n (old_count e)) (c.put_rows-count.ensures.1 (few (goal.at.After-whole_size-size c).Else-count-gt-MOST))
    c.put_rows-count.ensures.0

-- and the bundle fits
fit : (c : Else-size-gt-LONGEST)
    → let a = c.args
    in rolls_fit a.entries.now a.store.now (sees (goal.at.Else-size-gt-LONGEST c).In_ok-check_entries).1.rolls
    (few (goal.at.Else-size-gt-LONGEST c).Else-count-gt-MOST) ≡ true
fit c =
    let a = c.args in
    all_fitting a.entries.now a.store.now (sees (goal.at.Else-size-gt-LONGEST c).In_ok-check_entries).1.rolls
    (few (goal.at.Else-size-gt-LONGEST c).Else-count-gt-MOST) (omega (arith, size (goal.at.Else-size-gt-LONGEST c).After-whole_size-size, c.if-size-gt-LONGEST.false))

made : (c : Else-size-gt-LONGEST)
    → let a = c.args
    in c.whole_size-size.result ≡ length (bundle_made a.entries.now a.store.now)
made c =
    let a = c.args in
    size (goal.at.Else-size-gt-LONGEST c).After-whole_size-size
    ∙ size_made a.entries.now a.store.now (sees (goal.at.Else-size-gt-LONGEST c).In_ok-check_entries).1.rolls
    (few (goal.at.Else-size-gt-LONGEST c).Else-count-gt-MOST) (fit c)

not_large : (c : Else-size-gt-LONGEST)
    → let a = c.args
    in too_large a.entries.now a.store.now ≡ false
not_large c =
    let a = c.args in
    large_is a.entries.now a.store.now (sees (goal.at.Else-size-gt-LONGEST c).In_ok-check_entries).1.rolls
    (few (goal.at.Else-size-gt-LONGEST c).Else-count-gt-MOST)
    ∙ le-ltb longest_bundle
    (whole_size a.entries.now (roll_made a.entries.now).rows (row_count a.entries.now) (old_count a.entries.now))
    (omega (arith, size (goal.at.Else-size-gt-LONGEST c).After-whole_size-size, c.if-size-gt-LONGEST.false))

roll_size : (c : After-roll_bytes-n)
    → c.roll_bytes-n.result
    ≡ length (blocks_made
    c.args.entries.now)
roll_size c =
    let e = c.args.entries.now in
    c.roll_bytes-n.ensures ∙ ap (λ (n : ℕ). block_bytes * blocks n) c.put_rows-count.ensures.0
    ∙ sym (roll_long e (sees (goal.at.After-roll_bytes-n c).In_ok-check_entries).1.rolls
    (few (goal.at.After-roll_bytes-n c).Else-count-gt-MOST))

pub returns-in_err-check_entries : goal.returns-in_err-check_entries
returns-in_err-check_entries c =
    let a = c.args in
    rw (handed_on _ _ c.from_residual.ensures.1)
    (entries_refused a.previous.now a.own.now a.entries.now a.store.now a.roll.now a.bundle.now
    _ c.in_err-check_entries.ensures (number_refuses _))

pub all_led-requires : goal.all_led-requires
all_led-requires c = ((sees c).1, (sees c).0)

pub returns-then-not-all_led : goal.returns-then-not-all_led
returns-then-not-all_led c =
    let a = c.args in
    unled_refused a.previous.now a.own.now a.entries.now a.store.now a.roll.now a.bundle.now
    (accepts (goal.at.returns-then-not-all_led c).In_ok-check_entries) (sym c.all_led.ensures ∙ c.if-not-all_led.true)

pub put_rows-count-requires : goal.put_rows-count-requires
put_rows-count-requires c = ((sees (goal.at.put_rows-count-requires c).In_ok-check_entries).1, length-replicate {A = ℕ} table_bytes 0)

pub returns-then-count-gt-MOST : goal.returns-then-count-gt-MOST
returns-then-count-gt-MOST c =
    let a = c.args in
    rows_refused a.previous.now a.own.now a.entries.now a.store.now a.roll.now a.bundle.now
    (accepts (goal.at.returns-then-count-gt-MOST c).In_ok-check_entries) (leads (goal.at.returns-then-count-gt-MOST c).Else-not-all_led)
    (omega (arith, c.put_rows-count.ensures.0, c.if-count-gt-MOST.true))

-- the table's length
long : (c : Else-count-gt-MOST)
    → length (roll_made
    c.args.entries.now).rows
    ≡ table_bytes
long c =
    let e = c.args.entries.now in
    fit_length (row_count e) (roll_made e).rows (made_fits e (sees (goal.at.Else-count-gt-MOST c).In_ok-check_entries).1.rolls (few c))

pub whole_size-size-requires : goal.whole_size-size-requires
whole_size-size-requires c = (
  (sees (goal.at.whole_size-size-requires c).In_ok-check_entries).1,
  omega (arith, c.if-count-gt-MOST.false),
  ap length (c.put_rows-count.ensures.1 (few (goal.at.whole_size-size-requires c).Else-count-gt-MOST)) ∙ long (goal.at.whole_size-size-requires c).Else-count-gt-MOST,
)

pub returns-then-size-gt-LONGEST : goal.returns-then-size-gt-LONGEST
returns-then-size-gt-LONGEST c =
    let a = c.args in
    let large = large_is a.entries.now a.store.now
    (sees (goal.at.returns-then-size-gt-LONGEST c).In_ok-check_entries).1.rolls (few (goal.at.returns-then-size-gt-LONGEST c).Else-count-gt-MOST)
    ∙ lt-ltb longest_bundle
    (whole_size a.entries.now (roll_made a.entries.now).rows (row_count a.entries.now) (old_count a.entries.now))
    (omega (arith, size (goal.at.returns-then-size-gt-LONGEST c).After-whole_size-size, c.if-size-gt-LONGEST.true)) in
    large_refused a.previous.now a.own.now a.entries.now a.store.now a.roll.now a.bundle.now
    (accepts (goal.at.returns-then-size-gt-LONGEST c).In_ok-check_entries)
    (leads (goal.at.returns-then-size-gt-LONGEST c).Else-not-all_led) large

pub returns-then-roll-n : goal.returns-then-roll-n
returns-then-roll-n c =
    let a = c.args in
    let start = accepts (goal.at.returns-then-roll-n c).In_ok-check_entries in
    let all = leads (goal.at.returns-then-roll-n c).Else-not-all_led in
    let fits = not_large (goal.at.returns-then-roll-n c).Else-size-gt-LONGEST in
    let long = roll_size (goal.at.returns-then-roll-n c).After-roll_bytes-n in
    elim c.then-roll-n.branch [
      | then-roll-n-via-then-roll-n w ↦
          roll_refused a.previous.now a.own.now a.entries.now a.store.now a.roll.now a.bundle.now start all fits (omega (arith, long, w.if-roll-n.true))
      | then-roll-n-via-else-roll-n+then-bundle-size w ↦
          bundle_refused a.previous.now a.own.now a.entries.now a.store.now a.roll.now a.bundle.now start all fits (omega (arith, long, w.if-roll-n.false))
          (omega (arith, made (goal.at.returns-then-roll-n c).Else-size-gt-LONGEST, w.if-bundle-size.true))
    ]

pub put_bundle-requires : goal.put_bundle-requires
put_bundle-requires c =
    let a = c.args in
    let e = a.entries.now in
    let s = a.store.now in
    let held = (sees
    (goal.at.put_bundle-requires c).In_ok-check_entries).1.rolls in
    let table =
    c.put_rows-count.ensures.1
    (few (goal.at.put_bundle-requires c).Else-count-gt-MOST) in
    let count =
    c.put_rows-count.ensures.0 in (
      (sees (goal.at.put_bundle-requires c).In_ok-check_entries).1,
      (sees (goal.at.put_bundle-requires c).In_ok-check_entries).0,
      omega (arith, c.if-count-gt-MOST.false),
      ap length table ∙ long (goal.at.put_bundle-requires c).Else-count-gt-MOST,
      rw (table, count)
          (all_fed e s held
          (leads (goal.at.put_bundle-requires c).Else-not-all_led)
          (fitting e s held (few (goal.at.put_bundle-requires c).Else-count-gt-MOST)
          (fit (goal.at.put_bundle-requires c).Else-size-gt-LONGEST))),
      rw (table, count)
          (omega (
            arith,
            ap length (bundle_is e held s),
            made (goal.at.put_bundle-requires c).Else-size-gt-LONGEST,
            c.if-bundle-size.false,
          )),
    )

pub returns : goal.returns
returns c =
    let a = c.args in
    let e = a.entries.now in
    let s = a.store.now in
    let table =
    c.put_rows-count.ensures.1
    (few (goal.at.returns c).Else-count-gt-MOST) in
    let count =
    c.put_rows-count.ensures.0 in
    written a.previous.now a.own.now e s a.roll.now a.bundle.now
    (accepts (goal.at.returns c).In_ok-check_entries)
    (leads (goal.at.returns c).Else-not-all_led) (not_large (goal.at.returns c).Else-size-gt-LONGEST)
    (omega (
      arith,
      roll_size (goal.at.returns c).After-roll_bytes-n,
      c.if-roll-n.false,
    )) _ _ _ _
    (roll_size (goal.at.returns c).After-roll_bytes-n)
    (made (goal.at.returns c).Else-size-gt-LONGEST)
    (c.put_roll.ensures
    ∙ ap₂ (λ (t : List ℕ) (n : ℕ). put a.roll.now 0 (first_blocks n t (blocks n))) table count ∙ ap (put a.roll.now 0) (blocks_are e))
    (c.put_bundle.ensures ∙ ap₂ (λ (t : List ℕ) (n : ℕ). put a.bundle.now 0 (e ++ lists_of e s t n (old_count e))) table count
    ∙ ap (put a.bundle.now 0)
    (bundle_is e
    (sees (goal.at.returns c).In_ok-check_entries).1.rolls s))
    (omega (
      arith,
      made (goal.at.returns c).Else-size-gt-LONGEST,
      c.if-bundle-size.false,
    ))
