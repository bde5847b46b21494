-- The tests of an append's heights, and the answer of a refused append, as the helpers give them.
use Rattle.std.specs.Prelude.{not, List, [], ◌∷◌, ℕ, ◌+◌, eqb}
use Rattle.refusals.specs.{out_of_order, height_at_top}
use Rattle.refusals.specs.Order.{Test, ◌⇒◌}
use Rattle.rows.specs.Sizes.{top_height}
use Rattle.rules.specs.Told.{Told}
use Rattle.rules.specs.Outcomes.{Lent, refusing}
use Rattle.rules.specs.Rows.{present_height}
use Rattle.rules.specs.Append.{append_refusal}

-- the heights
abbrev pub ordered : ℕ → ℕ → List Test
ordered expected height =
    (not (eqb expected (height + 1)) ⇒ out_of_order)
    ∷ (eqb height top_height ⇒ height_at_top)
    ∷ []

-- the refusal of an append into an area of so many bytes; its number is 0 where no test holds
abbrev pub append_told : ℕ → Lent → List ℕ → ℕ → Told
append_told size k label expected =
    record { answer = refusing (append_refusal size k label expected) (present_height k label); head = k.head }
