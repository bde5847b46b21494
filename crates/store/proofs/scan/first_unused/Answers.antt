use borrow.Author.Rules.{rules}
use borrow.Author.Tests.{tests}
use Prim.Native.Nat.{ℕ}
use Rattle.std.proofs.lemmas.Iterator.{first_from_Range}
use mathlib.Core.Path.{◌≡◌}
use mathlib.Core.Bool.{true, false}
use Rattle.cabinet.specs.Block.{unused}
use Rattle.store.specs.Area.{block_at, first_unused}
use Rattle.store.proofs.Places.{found_among}
use Rattle.store.proofs.scan.first_unused.Goals as goal

pub returns : goal.returns
unfolding first_unused
returns c =
    let a = c.args in
    found_among (λ (i : ℕ). unused (block_at a.area.now i)) a.n _
    (first_from_Range _ _ _ _ (λ i. unused (block_at a.area.now i) ≡ true) (λ i. unused (block_at a.area.now i) ≡ false) c.find.ensures.ran
    (λ x q k. search (rules, tests)) (λ x q k. search (rules, tests)))
