use mathlib.Core.Path.{ap, ◌∙◌}
use borrow.Author.Rules.{rules}
use lib.ListN.{take}
use Rattle.std.proofs.lemmas.List.Sorted.{answers_always}
use Rattle.octets.specs.Strings.{before, rising}
use Rattle.rack.proofs.Shapes.{shaped}
use Rattle.rack.proofs.Walks.{sorted_is, first_keys}
use Rattle.rack.proofs.keys.is_rising.Goals as goal

pub returns : goal.returns
returns c =
    sorted_is (take c.min.result c.args.keys) c.is_sorted_by.result
    (c.is_sorted_by.ensures.cases before (answers_always _ _ _ (λ f a r g q. search rules)))
    ∙ ap rising (first_keys c.args.count c.min.result c.args.keys (shaped 0 c.args.keys _ c.well_formed.0).places c.min.ensures)
