-- Laws of what reading a statement answers: the layout holds exactly where it accepts. Assumes nothing.
use mathlib.Core.Path.{◌≡◌, refl, sym, ap, ◌∙◌}
use mathlib.Core.Bool.{Bool, true, false}
use mathlib.Core.List.{List}
use Prim.Native.Nat.{ℕ}
use Rattle.std.specs.Result.{result_unwrap_or}
use Rattle.std.proofs.Common.{Result, Ok, Err}
use Rattle.refusals.specs.{accepted}
use Rattle.refusals.specs.Refused.{answer_of}
use Rattle.refusals.specs.declared.Refusal.{Refusal}
use Rattle.refusals.proofs.Answered.{number_refuses}
use Rattle.octets.specs.Layouts.{holds}
use Rattle.statement.specs.declared.Statement.{Statement}
use Rattle.statement.specs.Cut.{blank_statement, cut_statement}
use Rattle.statement.specs.Layout.{Reading, statement_layout, reading}
use Rattle.statement.proofs.StatementTrips.{reading-holds, reading_cut}
use Rattle.desk.specs.Verdict.{height_in, shown}
use Rattle.desk.specs.Asked.{finding_of}

module _ (s : List ℕ) (r : Reading) (e : r ≡ reading s) where
  pub refused_broken : (r.answer ≡ accepted → ⊥) → holds statement_layout s ≡ false
  refused_broken refuses = go (holds statement_layout s) refl
    where
      go : (b : Bool) → holds statement_layout s ≡ b → holds statement_layout s ≡ false
      go true h = absurd (refuses (ap (λ (o : Reading). o.answer) (e ∙ reading_cut s h)))
      go false h = h

  pub accepted-holds : r.answer ≡ accepted → holds statement_layout s ≡ true
  accepted-holds accepts = reading-holds s (ap (λ (o : Reading). o.answer) (sym e) ∙ accepts)

  pub accepted_cut : holds statement_layout s ≡ true → r.statement ≡ cut_statement s
  accepted_cut h = ap (λ (o : Reading). o.statement) (e ∙ reading_cut s h)

-- a statement read where the layout holds is shown
pub read_shown : (s : List ℕ) (r : Result Statement Refusal) → record { answer = answer_of r; statement = result_unwrap_or r blank_statement } ≡ reading s
    → holds statement_layout s ≡ true → finding_of r ≡ shown s
unfolding shown
read_shown s (Ok v) e h = ap (λ (w : Statement). record { number = accepted; tail = w.tail; height = height_in w.kind }) (accepted_cut s _ e h)
read_shown s (Err r) e h = absurd (number_refuses r (ap (λ (o : Reading). o.answer) (e ∙ reading_cut s h)))
