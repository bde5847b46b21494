use mathlib.Core.Path.{◌≡◌, sym, ap, ◌∙◌}
use mathlib.Core.Bool.{true}
use Rattle.std.proofs.lemmas.Result.{err_from_is_err_and}
use borrow.Author.Tests.{ne_eqb}
use Rattle.octets.specs.Layouts.{holds}
use Rattle.statement.specs.Layout.{statement_layout}
use Rattle.refusals.specs.Refused.{refusal_number}
use Rattle.refusals.proofs.Answered.{number_refuses}
use Rattle.desk.specs.Verdict.{Question, nothing_shown, verdict_refusal, judging}
use Rattle.desk.specs.Asked.{asked_with, finding_of}
use Rattle.desk.proofs.Answers.{read_shown}
use Rattle.desk.proofs.Vouches.{vouched, asked}
use Rattle.desk.proofs.judging.vouched.Goals as goal

pub returns-in_err-check_verdict : goal.returns-in_err-check_verdict
unfolding judging
returns-in_err-check_verdict c =
    let r = c.in_err-check_verdict.field-0.0 in
    let p = err_from_is_err_and _ c.from_residual.ensures.1 in
    ap finding_of p.1 ∙ ap (λ q. nothing_shown (refusal_number q)) p.2 ∙ rw (← c.in_err-check_verdict.ensures, ne_eqb _ _ (number_refuses r))

pub returns : goal.returns
unfolding judging
returns c =
    let q : Question = asked_with c.args.question c.args.digested.rack.now in
    let s = c.args.s.now in
    let accepts : verdict_refusal q s c.args.signers.now ≡ 0 = sym c.in_ok-check_verdict.ensures in
    let h : holds statement_layout s ≡ true = (asked q s (vouched q s c.args.signers.now accepts).answers).statement_holds in
    rw accepts (read_shown s _ c.read_statement.ensures h)
