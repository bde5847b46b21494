use mathlib.Core.Path.{◌≡◌, sym, ap, ◌∙◌}
use Prim.Native.Nat.{ℕ}
use Rattle.std.specs.Prelude.{Result, Ok, Err}
use Rattle.refusals.specs.declared.Refusal.{Refusal}
use Rattle.refusals.proofs.Answered.{number_refuses}
use Rattle.statement.specs.Kinds.{receipt_size}
use Rattle.rules.specs.Told.{Told}
use Rattle.rules.specs.Outcomes.{Lent, outcome, told_place}
use Rattle.rules.specs.AppendMany.{append_many_refusal, appending_many}
use Rattle.rules.proofs.Tolds.{handed_on, done_place}
use Rattle.ledgers.proofs.Given.{refuses}
use Rattle.recording.proofs.Entries.{recordable}
use Rattle.recording.proofs.recording.append_many.Goals as goal
use Rattle.recording.proofs.recording.append_many.Goals.{In_ok-place, Start}

abbrev asked : Start → Lent
asked c = let a = c.args in record { head = a.head; table = a.table.now; area = a.area.now }

-- nothing refuses
passed : (c : In_ok-place) → append_many_refusal receipt_size (asked (goal.at.In_ok-place c).Start) c.args.label c.args.list.now c.args.expected ≡ 0
passed c = sym (ap (λ (t : Told). t.answer.number) c.in_ok-place.ensures.told)

pub returns-in_err-place-clause-outcome : goal.returns-in_err-place-clause-outcome
unfolding appending_many
returns-in_err-place-clause-outcome c =
    let a = c.args in
    let k = asked (goal.at.returns-in_err-place-clause-outcome c).Start in
    let told = c.in_err-place.ensures.told in
    ap (λ (x : Result ℕ Refusal). outcome (told_place a.head receipt_size x) a.table.now a.area.now) (handed_on _ _ c.from_residual.ensures.1)
    ∙ refuses k _ _ (told_place a.head receipt_size (Err _)) _ (λ z. number_refuses _ (ap (λ (t : Told). t.answer.number) told ∙ z)) told

pub enter_all-requires : goal.enter_all-requires
enter_all-requires c =
    (recordable _ _ _ c.args.expected (passed (goal.at.enter_all-requires c).In_ok-place), c.in_ok-place.ensures.place)

pub returns-clause-outcome : goal.returns-clause-outcome
unfolding appending_many
returns-clause-outcome c =
    let a = c.args in
    let e = c.enter_all.ensures in
    let place : ℕ = c.in_ok-place.place in
    ap (λ (n : ℕ). outcome (told_place a.head n (Ok place)) c.enter_all.new.table c.enter_all.new.area) (sym e.long)
    ∙ done_place (asked (goal.at.returns-clause-outcome c).Start) place _ _ _ _ _ _ (passed (goal.at.returns-clause-outcome c).In_ok-place) e.moves e.writes
