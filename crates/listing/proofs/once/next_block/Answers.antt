use borrow.Author.Rules.{rules}
use borrow.Author.Tests.{tests}
use mathlib.Core.Path.{◌≡◌}
use mathlib.Core.Bool.{true, false}
use Rattle.std.proofs.lemmas.Iterator.{first_from_Range}
use Rattle.listing.specs.Leading.{has_both}
use Rattle.listing.proofs.once.next_block.Goals as goal

pub returns : goal.returns
returns c =
    let has = has_both c.args.store.now c.args.label.now c.args.height in
    first_from_Range _ _ _ _ (λ i. has i ≡ true) (λ i. has i ≡ false) c.find.ensures.ran
    (λ x q k. search (rules, tests)) (λ x q k. search (rules, tests))
