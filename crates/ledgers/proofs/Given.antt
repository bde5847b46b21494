-- Laws of what the calls on ledgers give: the bytes of a receipt, and the outcome of a refusal. Assumes nothing.
use mathlib.Core.Path.{◌≡◌, subst}
use mathlib.Core.Bool.{true}
use Prim.Native.Nat.{ℕ}
use borrow.Author.Tests.{ne_eqb}
use lib.ListN.{length}
use Rattle.refusals.specs.{accepted}
use Rattle.statement.specs.declared.Statement.{Statement}
use Rattle.statement.specs.Kinds.{size}
use Rattle.statement.specs.Shape.{Arrays}
use Rattle.statement.specs.Contents.{statement_fits, statement_written}
use Rattle.statement.proofs.Records.{fits_kind, written_length}
use Rattle.rules.specs.Told.{Told}
use Rattle.rules.specs.Outcomes.{Lent, Outcome, outcome, refusing, refused, unless}

-- the bytes of a statement that was made and fits
pub made_length : (u v : Statement) → u ≡ v → Arrays u → statement_fits v ≡ true → length (statement_written v) ≡ size v.kind
made_length u v e a fits = written_length v (subst Arrays e a) (fits_kind v fits)

module _ (k : Lent) (n height : ℕ) (r : Told) where
  pub refuses :
      (effect : Outcome) → (n ≡ accepted → ⊥) → r ≡ record { answer = refusing n height; head = k.head }
      → outcome r k.table k.area ≡ unless n height k effect
  unfolding refused unless
  refuses effect h e = rw (ne_eqb n accepted h, e)
