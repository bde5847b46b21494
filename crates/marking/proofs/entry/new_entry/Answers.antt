use mathlib.Core.Path.{◌≡◌, sym, ap, ap₂, ◌∙◌}
use Prim.Native.Nat.{ℕ, ◌+◌, ◌*◌, ◌≤◌}
use native.Mathlib.Omega.{arith}
use borrow.Author.Tests.{lt-ltb, le-ltb, ltb-false, leb-false}
use lib.ListN.{length}
use lib.Dec.{leb}
use Rattle.std.proofs.Common.{rules}
use Rattle.std.specs.Bool.{then_some}
use Rattle.rules.specs.Bundle.{byte, old_count, new_at, new_count}
use Rattle.bundle.proofs.Listed.{then_none, then_is}
use Rattle.marking.proofs.Standing.{reached, no_new}
use Rattle.marking.proofs.entry.new_entry.Goals as goal
use Rattle.marking.proofs.entry.new_entry.Goals.{In_ok-at, In_ok-get}

-- the old entries end within, where the new ones begin
begins : (c : In_ok-at) → c.in_ok-at.at ≡ new_at c.args.s.now
begins c =
    let s = c.args.s.now in
    let k : c.from.result ≡ old_count s = search rules in
    (then_is _ _ _ (c.in_ok-at.ensures ∙ reached s c.from.result k)).1

-- how many there are
counted : (c : In_ok-get) → c.in_ok-get.field-0.now ≡ new_count c.args.s.now
counted c =
    let s = c.args.s.now in
    let k : c.in_ok-get.field-0.now ≡ byte s c.in_ok-at.at = search rules in
    k ∙ ap (byte s) (begins (goal.at.In_ok-get c).In_ok-at)

pub returns-in_err-at : goal.returns-in_err-at
returns-in_err-at c =
    let s = c.args.s.now in
    let k : c.from.result ≡ old_count s = search rules in
    let past = leb-false _ _ (then_none _ _ (c.in_err-at.ensures ∙ reached s c.from.result k)) in
    rw (c.from_residual-in_err-at.ensures, no_new s c.args.number (omega arith))

pub returns-in_err-get : goal.returns-in_err-get
returns-in_err-get c =
    let s = c.args.s.now in
    let past = ltb-false _ _ (sym c.in_err-get.ensures.lookup.0) in
    rw (c.from_residual-in_err-get.ensures, no_new s c.args.number (omega (arith, past, begins (goal.at.returns-in_err-get c).In_ok-at)))

pub returns-then-from-number : goal.returns-then-from-number
returns-then-from-number c =
    let few : new_count c.args.s.now ≤ c.args.number =
    omega (arith, c.if-from-number.true, c.from-2.ensures, counted (goal.at.returns-then-from-number c).In_ok-get) in
    rw (le-ltb _ _ few)

pub returns : goal.returns
returns c =
    let s = c.args.s.now in
    let i = c.args.number in
    let at = begins (goal.at.returns c).In_ok-at in
    let some = lt-ltb i (new_count s) (omega (arith, c.if-from-number.false, c.from-2.ensures, counted (goal.at.returns c).In_ok-get)) in
    let end : c.in_ok-at.at + (1 + 2 * i) + 2 ≡ new_at s + (1 + 2 * (i + 1)) = omega (arith, at) in
    rw some
    (c.then_some.ensures
    ∙ ap₂ (λ (x y : ℕ). then_some (leb x (length s)) y) end (ap (λ (x : ℕ). x + (1 + 2 * i)) at))
