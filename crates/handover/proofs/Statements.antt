-- Laws of the statement that an entry's marks speak of: it fits, has its size, and is written as the rule says. Assumes nothing.
use mathlib.Core.Path.{◌≡◌, refl}
use mathlib.Core.Bool.{Bool, true, false, cond}
use mathlib.Core.List.{List}
use Prim.Native.Nat.{ℕ, ◌<◌}
use borrow.Author.Tests.{eq-eqb}
use lib.Dec.{eqb}
use Rattle.octets.specs.Strings.{all_zero}
use Rattle.statement.specs.declared.Kind.TheVariants.{Finalise, Initialise}
use Rattle.statement.specs.declared.Statement.{Statement}
use Rattle.statement.specs.Kinds.{size, handover_size}
use Rattle.statement.specs.Contents.{statement_written, handover_fits, fits_as, statement_fits}
use Rattle.rules.specs.Outcomes.{Lent}
use Rattle.rules.specs.Initialise.{initialise_statement}
use Rattle.rules.specs.Finalise.{finalise_statement}
use Rattle.rules.specs.Bundle.{old_count}
use Rattle.rules.specs.Check.{old_list, entries_of, old_statement, spoken_of}
use Rattle.statement.specs.Cut.{handover_of}
use Rattle.handover.specs.Asked.{spoken}

-- either statement
module _ (b : Bool) (i o p r i' o' p' r' : List ℕ) where
  abbrev either : Statement
  either = cond b (handover_of Finalise i o p r) (handover_of Initialise i' o' p' r')

either_fits : (b : Bool) (i o p r i' o' p' r' : List ℕ) → statement_fits (either b i o p r i' o' p' r') ≡ true
unfolding all_zero handover_fits fits_as statement_fits
either_fits true i o p r i' o' p' r' = refl
either_fits false i o p r i' o' p' r' = refl

either-size : (b : Bool) (i o p r i' o' p' r' : List ℕ) → size (either b i o p r i' o' p' r').kind ≡ handover_size
either-size true i o p r i' o' p' r' = refl
either-size false i o p r i' o' p' r' = refl

written_either : (b : Bool) (x y : Statement) → statement_written (cond b x y) ≡ cond b (statement_written x) (statement_written y)
written_either true x y = refl
written_either false x y = refl

module _ (k : Lent) (s : List ℕ) (list i : ℕ) where
  pub spoken_fits : statement_fits (spoken k.head k.table s list i) ≡ true
  spoken_fits = either_fits (eqb list old_list) _ _ _ _ _ _ _ _

  pub spoken-size : size (spoken k.head k.table s list i).kind ≡ handover_size
  spoken-size = either-size (eqb list old_list) _ _ _ _ _ _ _ _

  pub spoken_written : statement_written (spoken k.head k.table s list i) ≡ spoken_of k s list i
  unfolding spoken_of old_statement finalise_statement initialise_statement
  spoken_written = written_either (eqb list old_list) _ _

-- the first list is that of the old entries
pub old_listed : (s : List ℕ) (list i : ℕ) → list ≡ old_list → i < entries_of s list → i < old_count s
unfolding entries_of
old_listed s list i e h = rw (eq-eqb list old_list e) at h
