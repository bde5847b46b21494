-- The law of the count of a company's rows: the rows that pass its test, one by one. Assumes nothing.
use mathlib.Core.Path.{◌≡◌}
use mathlib.Core.Bool.{Bool, true, false, cond}
use mathlib.Core.List.{List, [], ◌∷◌}
use Prim.Native.Nat.{ℕ, zero, suc, ◌+◌, ◌*◌}
use native.Mathlib.Omega.{arith}
use lib.ListN.{length, get_or}
use Rattle.std.specs.List.{filter, range_with_len}
use Rattle.rules.specs.Companies.{belongs, company_rows}
use Rattle.rules.proofs.Companies.{row_counted}

longer : (b : Bool) (i : ℕ) (xs : List ℕ) → length (cond b (i ∷ xs) xs) ≡ length xs + cond b 1 0
longer true i xs = omega arith
longer false i xs = omega arith

module _ (rows : List ℕ) (of : Bool) where
  -- whether row i is the company's
  abbrev pub theirs : ℕ → Bool
  theirs i = belongs (get_or rows (56 * i) 0 ∷ []) of

  -- those of n rows from row a on, and those before it
  from : (a n : ℕ) → length (filter theirs (range_with_len a n)) + company_rows a rows of ≡ company_rows (a + n) rows of
  from a zero = let e : a + 0 ≡ a = omega arith in rw e (omega arith)
  from a (suc n) =
      let e : a + suc n ≡ a + 1 + n = omega arith in
      rw e (omega (arith, longer (theirs a) a (filter theirs (range_with_len (a + 1) n)), row_counted a rows of, from (a + 1) n))

  pub counted : (n : ℕ) → length (filter theirs (range_with_len 0 n)) ≡ company_rows n rows of
  unfolding company_rows
  counted n = let e : 0 + n ≡ n = omega arith in omega (arith, rw e at (from 0 n))
