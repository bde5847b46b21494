use mathlib.Core.Path.{◌≡◌, refl, sym, ap, ap₂, ◌∙◌}
use mathlib.Core.Bool.{true, false}
use mathlib.Core.List.{List, ◌++◌}
use Prim.Native.Nat.{ℕ, ◌+◌, ◌*◌, ◌≤◌}
use native.Mathlib.Omega.{arith}
use lib.ListN.{replicate}
use Rattle.octets.specs.Numbers.{bytes_of}
use Rattle.octets.specs.Strings.{all_zero, put}
use Rattle.rows.specs.Sizes.{row_bytes, most_rows, table_bytes}
use Rattle.roll.specs.Roll.{filled}
use Rattle.store.specs.Area.{first_place}
use Rattle.store.proofs.Places.{first_next, first_found}
use Rattle.rules.specs.Bundle.{old_count}
use Rattle.maker.specs.declared.Highest.{Highest}
use Rattle.maker.specs.Rolls.{highest, next_of, label_number, row_count, row_made, rows_made, roll_made}
use Rattle.composing.proofs.Placed.{last_of, number_next, last_next, none_long, none_filled, more_long, more_filled}
use Rattle.composing.proofs.rows_made.put_rows.Goals as goal
use Rattle.composing.proofs.rows_made.put_rows.Invariants.{passed}
use Rattle.composing.proofs.rows_made.put_rows.Goals.{After-next_label, After-next_label-label, Else-is_zero}

-- what the table is where the count is known
made : (e : List ℕ) (r : ℕ) {t : List ℕ} → r ≡ row_count e → t ≡ filled table_bytes (rows_made e r) → t ≡ (roll_made e).rows
unfolding roll_made
made e r p q = q ∙ ap (λ (k : ℕ). filled table_bytes (rows_made e k)) p

-- the count, where number r is zeros and none before it
ended : (e : List ℕ) (r : ℕ) → r ≤ most_rows → passed e r → all_zero (label_number e r) ≡ true → r ≡ row_count e
unfolding row_count
ended e r h p z = sym (first_found (λ (k : ℕ). all_zero (label_number e k)) (most_rows + 1) r (omega arith) p z)

over : (e : List ℕ) → passed e most_rows → all_zero (label_number e most_rows) ≡ false → most_rows + 1 ≡ row_count e
unfolding row_count
over e p z = sym (first_next (λ (k : ℕ). all_zero (label_number e k)) most_rows p z)

pub loop-r-init : goal.loop-r-init
unfolding first_place last_of
loop-r-init c =
    let e = c.args.e.now in (
      refl,
      refl,
      none_long e,
      c.fill.ensures.after (λ y e. e)
          ∙ ap (λ (k : ℕ). replicate k 0) c.requires.1 ∙ none_filled e,
    )

-- the label with the loop's number
label : (c : After-next_label-label)
    → c.next_label-label.result ≡ label_number c.args.e.now
    c.loop-r.r
label c =
    let e = c.args.e.now in
    let l = c.loop-r in
    c.next_label-label.ensures ∙ ap (λ (x : List ℕ). next_of e x (old_count e)) l.invariant.0 ∙ number_next e l.r

pub returns-then-is_zero : goal.returns-then-is_zero
returns-then-is_zero c =
    let e = c.args.e.now in
    let l = c.loop-r in
    let z = ap all_zero (sym (label (goal.at.returns-then-is_zero c).After-next_label-label)) ∙ sym c.is_zero.ensures ∙ c.if-is_zero.true in
    let p = ended e l.r (omega arith) l.invariant.1 z in
    (p, λ few. made e l.r p l.invariant.3)

-- it is not zeros
some : (c : Else-is_zero)
    → all_zero
    (label_number c.args.e.now
    c.loop-r.r) ≡ false
some c = ap all_zero (sym (label (goal.at.Else-is_zero c).After-next_label-label)) ∙ sym c.is_zero.ensures ∙ c.if-is_zero.false

pub loop-r-preserved : goal.loop-r-preserved
unfolding row_made
loop-r-preserved c =
    let e = c.args.e.now
    in
    let l = c.loop-r in
    let held =
    c.requires.0.rolls in
    let lab = label (goal.at.loop-r-preserved c).After-next_label-label in
    let row : c.highest.result ≡ highest e (label_number e l.r) = c.highest.ensures
    ∙ ap (highest e) lab in
    let n = some (goal.at.loop-r-preserved c).Else-is_zero in (
      lab ∙ sym (last_next e l.r),
      first_next (λ (k : ℕ). all_zero (label_number e k)) l.r l.invariant.1 n,
      more_long e held l.r n l.invariant.2,
      c.put_row.ensures
          ∙ ap₂ (λ (x : List ℕ) (h : Highest). put l.table (row_bytes * l.r) (x ++ h.tail ++ bytes_of 8 h.height)) lab row
          ∙ ap (λ (t : List ℕ). put t (row_bytes * l.r) (row_made e (label_number e l.r))) l.invariant.3
          ∙ more_filled e held l.r n l.invariant.2 (omega arith),
    )

-- after 63 rows
last_label : (c : After-next_label)
    → c.next_label.result ≡ label_number c.args.e.now most_rows
last_label c =
    let e = c.args.e.now in
    let l = c.loop-r in
    let k : l.r ≡ most_rows = omega arith in
    c.next_label.ensures ∙ ap (λ (x : List ℕ). next_of e x (old_count e)) l.invariant.0 ∙ number_next e l.r ∙ ap (label_number e) k

pub returns-then-is_zero-2 : goal.returns-then-is_zero-2
returns-then-is_zero-2 c =
    let e = c.args.e.now in
    let l = c.loop-r in
    let k : l.r ≡ most_rows = omega arith in
    let p = ended e most_rows (omega arith) (rw k at l.invariant.1)
    (ap all_zero (sym (last_label (goal.at.returns-then-is_zero-2 c).After-next_label)) ∙ sym c.is_zero-2.ensures ∙ c.if-is_zero-2.true) in
    (p, λ few. made e most_rows p (rw k at l.invariant.3))

pub returns : goal.returns
returns c =
    let e = c.args.e.now in
    let l = c.loop-r in
    let k : l.r ≡ most_rows = omega arith in
    let p = over e (rw k at l.invariant.1) (ap all_zero (sym (last_label (goal.at.returns c).After-next_label)) ∙ sym c.is_zero-2.ensures ∙ c.if-is_zero-2.false) in
    (p, λ few. absurd (omega (arith, p)))
