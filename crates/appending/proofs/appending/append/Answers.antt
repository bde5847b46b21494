use mathlib.Core.Path.{sym, ap, ◌∙◌}
use Prim.Native.Nat.{ℕ}
use Rattle.std.specs.Prelude.{Ok}
use Rattle.statement.specs.Kinds.{receipt_size}
use Rattle.rules.specs.Outcomes.{Lent, outcome, told_place}
use Rattle.rules.specs.Append.{appending}
use Rattle.rules.proofs.Tolds.{done_place}
use Rattle.appending.proofs.Answers.{told_number, hands_on}
use Rattle.appending.proofs.Entries.{appendable}
use Rattle.appending.proofs.appending.append.Goals as goal

pub returns-in_err-place-clause-outcome : goal.returns-in_err-place-clause-outcome
unfolding appending
returns-in_err-place-clause-outcome c =
    let a = c.args in
    let k : Lent = record { head = a.head; table = a.table.now; area = a.area.now } in
    hands_on receipt_size k a.label a.expected receipt_size _ _ _ c.from_residual.ensures.1 c.in_err-place.ensures.told

pub enter-requires : goal.enter-requires
enter-requires c =
    let place = c.in_ok-place.ensures in
    (appendable receipt_size _ _ _ (told_number _ _ _ _ c.in_ok-place.place place.told), place.place)

pub returns-clause-outcome : goal.returns-clause-outcome
unfolding appending
returns-clause-outcome c =
    let a = c.args in
    let k : Lent = record { head = a.head; table = a.table.now; area = a.area.now } in
    let e = c.enter.ensures in
    let place : ℕ = c.in_ok-place.place in
    ap (λ (n : ℕ). outcome (told_place a.head n (Ok place)) c.enter.new.table c.enter.new.area) (sym e.long)
    ∙ done_place k place _ _ _ _ _ _ (told_number receipt_size k a.label a.expected place c.in_ok-place.ensures.told) e.moves e.writes
