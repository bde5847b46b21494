-- What is written is the report of what was read.
use Rattle.std.specs.Prelude.{OnOk, IsErrAnd, MatchResult}
use Rattle.std.specs.Result.{is_ok}
use Rattle.std.proofs.lemmas.Bool.{false≢true}
use Rattle.std.specs.declared.io.Error.{Error}
use Rattle.std.proofs.Common.{true, sym, Result, Ok, Err, ◌≡◌, ℕ, List, arith, take, ap, subst, ◌∙◌, Option, Some, None, IfSome}
use Rattle.std.specs.Io.KnownBytes.{Appends}
use Rattle.octets.proofs.Puts.{take_put}
use Rattle.night.specs.declared.Night.{Night}
use Rattle.night.specs.Pass.{start, blocks, passed}
use Rattle.report.specs.Text.{Placed}
use Rattle.report.specs.Printed.{printed, report}
use Rattle.telling.specs.Told.{told}
use Rattle.telling.proofs.Telling.{report-told}
use Rattle.morning.specs.declared.Failure.{Failure}
use Rattle.morning.specs.declared.Failure.TheVariants.{Unwritten}
use Rattle.morning.specs.Reading.{Prints}

-- a text at the front of an area
pub front_placed : (r : ℕ) (before after text : List ℕ) → Placed r 0 before after text → take r after ≡ text
front_placed r before after text p = rw (p.next, p.left) (take_put before 0 text (omega arith))

-- a night that was counted over a file is printed as 02 tells of the file
pub told_printed : (file a b : Option (List ℕ)) (n : Night) → IfSome file (λ bytes. n ≡ passed start bytes (blocks bytes))
    → Appends a b (printed n) → IfSome file (λ bytes. Appends a b (told bytes))
unfolding report
told_printed None a b n x y = tt
told_printed (Some f) a b n x y = subst (Appends a b) (ap printed x ∙ report-told f) y

-- what is told of a night is written, or why it is not
pub written : (file a b : Option (List ℕ)) (n : Night) (w : Result Unit Error) (r : Result Unit Failure)
    → IfSome file (λ bytes. n ≡ passed start bytes (blocks bytes)) → OnOk w (Appends a b (printed n))
    → MatchResult w (λ x. r ≡ Ok x) (λ e. IsErrAnd r (λ f. f ≡ Unwritten e)) → Prints file a b r
written file a b n (Ok u) r all out e = subst (Prints file a b) (sym e) (told_printed file a b n all out)
written file a b n (Err e) (Ok u) all out h = absurd h
written file a b n (Err e) (Err f) all out h = subst (λ x. Prints file a b (Err x)) (sym h) tt

-- what is said of a value, where there is one
pub said : {E : Type 0} (P : Type 0) (w : Result Unit E) → true ≡ is_ok w → OnOk w P → P
said P (Ok x) h p = p
said P (Err x) h p = absurd (false≢true (sym h))
