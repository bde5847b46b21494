-- The place of a new row: behind as many rows as have a smaller label, counted one by one. Assumes nothing.
use mathlib.Core.Path.{◌≡◌, refl, sym, ap, ◌∙◌}
use mathlib.Core.Bool.{Bool, true, false, cond}
use mathlib.Core.List.{List}
use Prim.Native.Nat.{ℕ, zero, suc, ◌+◌}
use native.Mathlib.Omega.{arith}
use Rattle.octets.specs.Strings.{same, before}
use Rattle.std.specs.Prelude.{Result, Ok, Err}
use Rattle.rows.specs.Row.{label_of}
use Rattle.rows.specs.Search.{or_next, first_of, find}
use Rattle.rows.proofs.Searches.{fit_held}
use Rattle.rules.specs.Outcomes.{Lent}
use Rattle.rules.proofs.Noted.{row_of, Makeable}

-- how many of the first n rows have a smaller label
pub smaller : ℕ → List ℕ → List ℕ → ℕ
smaller zero rows label = 0
smaller (suc n) rows label = smaller n rows label + cond (before (label_of rows n) label) 1 0

module _ (rows label : List ℕ) where
  counted : (n k : ℕ) → first_of n rows label ≡ Err k → k ≡ smaller n rows label
  unfolding smaller first_of
  counted zero k e = let z : 0 ≡ k = cc in sym z
  counted (suc n) k e = go (first_of n rows label) refl (counted n) e
    where
      here :
          (m : ℕ) → m ≡ smaller n rows label → (t : Bool)
          → cond t (Ok n) (Err (m + cond (before (label_of rows n) label) 1 0)) ≡ Err k
          → k ≡ smaller n rows label + cond (before (label_of rows n) label) 1 0
      here m earlier true e = let z : ◌≡◌ {A = ℕ} 0 1 = cc in absurd (omega arith)
      here m earlier false e =
          let r : m + cond (before (label_of rows n) label) 1 0 ≡ k = cc in
          sym r ∙ ap (λ (x : ℕ). x + cond (before (label_of rows n) label) 1 0) earlier

      go :
          (f : Result ℕ ℕ) → first_of n rows label ≡ f → ((m : ℕ) → first_of n rows label ≡ Err m → m ≡ smaller n rows label)
          → or_next f n (label_of rows n) label ≡ Err k → k ≡ smaller n rows label + cond (before (label_of rows n) label) 1 0
      go (Ok j) p earlier e = let z : ◌≡◌ {A = ℕ} 0 1 = cc in absurd (omega arith)
      go (Err m) p earlier e = here m (earlier m p) (same (label_of rows n) label) e

pub new_place : (k : Lent) (label : List ℕ) → Makeable k label → row_of k label ≡ smaller k.head.count k.table label
unfolding find
new_place k label m =
    counted k.table label k.head.count (row_of k label)
    (ap (λ (n : ℕ). first_of n k.table label) (sym (fit_held k.head.count k.table m.fit)) ∙ m.new)
