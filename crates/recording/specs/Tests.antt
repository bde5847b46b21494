-- The tests of an append of many in parts, and its answer where they refuse, as the helpers give them.
use Rattle.std.specs.Prelude.{not, List, [], ◌∷◌, ◌++◌, ℕ, ◌+◌, eqb, ltb}
use Rattle.refusals.specs.{not_active, list_of_wrong_length, out_of_order, height_at_top}
use Rattle.refusals.specs.Order.{Test, ◌⇒◌}
use Rattle.rows.specs.Sizes.{top_height}
use Rattle.statement.specs.Kinds.{receipt_size}
use Rattle.rules.specs.Told.{Told}
use Rattle.rules.specs.Record.{active}
use Rattle.rules.specs.Outcomes.{Lent, refusing, readiness}
use Rattle.rules.specs.Rows.{present_height}
use Rattle.rules.specs.AppendMany.{is_list, append_many_refusal}

-- readiness and the list
abbrev pub listed : Lent → List ℕ → List Test
listed k list = readiness receipt_size active not_active k ++ (not (is_list list) ⇒ list_of_wrong_length) ∷ []

-- the heights, where n entries follow
abbrev pub ordered : ℕ → ℕ → ℕ → List Test
ordered expected height n =
    (not (eqb expected (height + 1)) ⇒ out_of_order)
    ∷ (ltb top_height (height + n) ⇒ height_at_top)
    ∷ []

-- the refusal; its number is 0 where no test holds
abbrev pub many_told : Lent → List ℕ → List ℕ → ℕ → Told
many_told k label list expected =
    record { answer = refusing (append_many_refusal receipt_size k label list expected) (present_height k label); head = k.head }
