use mathlib.Core.Path.{◌≡◌, refl, sym, ap, ◌∙◌}
use mathlib.Core.Bool.{true, false}
use Prim.Native.Nat.{ℕ}
use native.Mathlib.Omega.{arith}
use lib.ListN.{length}
use Rattle.rows.proofs.Tables.{each_of}
use Rattle.statement.specs.declared.Statement.{Statement}
use Rattle.statement.specs.Kinds.{size, handover_size}
use Rattle.statement.specs.Contents.{statement_written, statement_fits}
use Rattle.statement.proofs.Records.{fits_kind, written_length}
use Rattle.statement.proofs.Types.{arrays}
use Rattle.rules.specs.Outcomes.{Lent}
use Rattle.rules.proofs.Tolds.{refused_alone, done_told, handed_on}
use Rattle.rules.specs.Bundle.{old_count}
use Rattle.rules.specs.Check.{old_list, spoken_of, checking}
use Rattle.bundle.specs.Lists.{list_number}
use Rattle.handover.specs.Asked.{roll_held, spoken}
use Rattle.handover.proofs.Cascades.{shown, listed, laid, check_other}
use Rattle.handover.proofs.Places.{old_lies}
use Rattle.handover.proofs.Statements.{spoken_fits, spoken-size, spoken_written, old_listed}
use Rattle.handover.proofs.checking.bytes_to_check.Goals as goal
use Rattle.handover.proofs.checking.bytes_to_check.Goals.{After-spoken}

-- the statement that the list of the number asks for
said : (c : After-spoken) → c.spoken.result ≡ spoken c.args.head c.args.table.now c.args.s.now c.args.list c.args.entry
said c = let a = c.args in c.spoken.ensures ∙ ap (λ (l : ℕ). spoken a.head a.table.now a.s.now l a.entry) c.in_ok-which.ensures.which

pub returns-in_err-which : goal.returns-in_err-which
unfolding checking
returns-in_err-which c =
    let a = c.args in
    let k : Lent = record { head = a.head; table = a.table.now; area = a.area.now } in
    rw (handed_on _ _ c.from_residual.ensures.1)
    (refused_alone k _ _ 0 _ c.in_err-which.ensures.answer (check_other k a.previous.now a.own.now a.s.now a.list a.entry))

pub spoken-requires : goal.spoken-requires
spoken-requires c =
    let a = c.args in
    let k : Lent = record { head = a.head; table = a.table.now; area = a.area.now } in
    let all = listed handover_size k a.previous.now a.own.now a.s.now a.list a.entry (sym c.in_ok-which.ensures.answer) in
    let seen = (shown handover_size k a.previous.now a.own.now a.s.now all.0).0 in
    let old = λ (e : list_number c.in_ok-which.which ≡ old_list). old_listed a.s.now a.list a.entry (sym c.in_ok-which.ensures.which ∙ e) all.1 in (
      λ e. old_lies (laid seen) a.entry (old e),
      (laid seen).short,
      λ e. each_of (roll_held a.s.now) (old_count a.s.now) a.entry (old e) seen.rolls,
    )

pub give-requires : goal.give-requires
give-requires c =
    let a = c.args in
    let k : Lent = record { head = a.head; table = a.table.now; area = a.area.now } in
    let all = listed handover_size k a.previous.now a.own.now a.s.now a.list a.entry (sym c.in_ok-which.ensures.answer) in
    let e = said (goal.at.give-requires c).After-spoken in
    let kind = ap (λ (v : Statement). size v.kind) e in (
      ap statement_fits e ∙ spoken_fits k a.s.now a.list a.entry,
      omega (arith, kind, spoken-size k a.s.now a.list a.entry, (shown handover_size k a.previous.now a.own.now a.s.now all.0).1),
    )

pub returns : goal.returns
unfolding checking
returns c =
    let a = c.args in
    let k : Lent = record { head = a.head; table = a.table.now; area = a.area.now } in
    let v = c.spoken in
    let e = said (goal.at.returns c).After-spoken in
    let fits : statement_fits v.result ≡ true = ap statement_fits e ∙ spoken_fits k a.s.now a.list a.entry in
    let kind : size v.result.kind ≡ handover_size = ap (λ (x : Statement). size x.kind) e ∙ spoken-size k a.s.now a.list a.entry in
    let long : length (statement_written v.result) ≡ handover_size = written_length v.result (arrays v.result _ v.type_inv) (fits_kind v.result fits) ∙ kind in
    let bytes : statement_written v.result ≡ spoken_of k a.s.now a.list a.entry =
    ap statement_written e ∙ spoken_written k a.s.now a.list a.entry in
    rw (← bytes)
    (done_told k _ _ 0 (statement_written v.result) _ _ _ _ (sym c.in_ok-which.ensures.answer)
    (ap (λ (n : ℕ). record { written = n; repeat = false; head = a.head }) (sym long)) refl c.give.ensures)
