-- Laws of a table whose labels rise: no two rows have one label, and a search that finds none says how many rows in front have a smaller one. Assumes nothing.
use mathlib.Core.Path.{◌≡◌, refl, sym, ap, ◌∙◌}
use mathlib.Core.Bool.{Bool, true, false, cond}
use mathlib.Core.List.{List}
use Prim.Native.Nat.{ℕ, zero, suc, ◌+◌, ◌≤◌, ◌<◌}
use native.Mathlib.Decide.{dec_lt}
use native.Mathlib.Omega.{arith}
use Rattle.octets.specs.Strings.{same, before}
use Rattle.octets.proofs.Orders.{before_self}
use Rattle.std.specs.Prelude.{Result, Ok, Err}
use Rattle.rows.specs.Row.{label_of}
use Rattle.rows.specs.Table.{rows_fit}
use Rattle.rows.specs.Search.{or_next, first_of, find, Parts}
use Rattle.rows.proofs.Searches.{fit_held}
use Rattle.rows.proofs.InOrder.{in_order, smaller_up_to}
use Rattle.companies.proofs.Orders.{never}

module _ (count : ℕ) (rows : List ℕ) (fit : rows_fit count rows ≡ true) where
  unlike : (n m : ℕ) → m < n → n < count → label_of rows m ≡ label_of rows n → ⊥
  unlike n m h l e =
      never (sym (before_self (label_of rows n)) ∙ ap (λ (s : List ℕ). before s (label_of rows n)) (sym e) ∙ in_order count rows fit m n h l)

  -- one row has a label
  pub one_row : (m n : ℕ) → m < count → n < count → label_of rows m ≡ label_of rows n → m ≡ n
  one_row m n h l e = go (dec_lt m n) (dec_lt n m)
    where
      go : Dec (m < n) → Dec (n < m) → m ≡ n
      go (yes a) d = absurd (unlike n m a l e)
      go (no a) (yes b) = absurd (unlike m n b h (sym e))
      go (no a) (no b) = omega arith

  module _ (label : List ℕ) where
    -- a further row: where its label is smaller, so are those in front of it
    one_further : (n k : ℕ) → n < count → Parts n rows label k → Parts (suc n) rows label (k + cond (before (label_of rows n) label) 1 0)
    one_further n k h p = go (before (label_of rows n) label) refl
      where
        all_smaller : before (label_of rows n) label ≡ true → k ≡ n
        all_smaller e = here (dec_lt k n)
          where
            here : Dec (k < n) → k ≡ n
            here (yes l) = never (sym (p.from k (omega arith) l) ∙ smaller_up_to count rows fit label n h e k (omega arith))
            here (no l) = let m = p.within in omega arith

        go : (b : Bool) → before (label_of rows n) label ≡ b → Parts (suc n) rows label (k + cond b 1 0)
        go true e =
            let q = all_smaller e in
            record {
              within = omega arith;
              below = λ m l. smaller_up_to count rows fit label n h e m (omega arith);
              from = λ m g l. absurd (omega arith);
            }
        go false e =
            record { within = omega (arith, p.within); below = λ m l. p.below m (omega arith); from = λ m g l. last m l (p.from m (omega arith)) }
          where
            last : (m : ℕ) → m < suc n → (m < n → before (label_of rows m) label ≡ false) → before (label_of rows m) label ≡ false
            last m l earlier = here (dec_lt m n)
              where
                here : Dec (m < n) → before (label_of rows m) label ≡ false
                here (yes g) = earlier g
                here (no g) = let q : m ≡ n = omega arith in rw q e

    parts_among : (n k : ℕ) → n ≤ count → first_of n rows label ≡ Err k → Parts n rows label k
    unfolding first_of
    parts_among zero k h e =
        let z : 0 ≡ k = cc in
        record { within = omega arith; below = λ m l. absurd (omega arith); from = λ m g l. absurd (omega arith) }
    parts_among (suc n) k h e = go (first_of n rows label) (λ m p. parts_among n m (omega arith) p) refl e
      where
        here : (m : ℕ) → Parts n rows label m → (t : Bool) → cond t (Ok n) (Err (m + cond (before (label_of rows n) label) 1 0)) ≡ Err k
            → Parts (suc n) rows label k
        here m p true e = let z : ◌≡◌ {A = ℕ} 0 1 = cc in absurd (omega arith)
        here m p false e = let q : m + cond (before (label_of rows n) label) 1 0 ≡ k = cc in rw q at (one_further n m h p)

        go : (f : Result ℕ ℕ) → ((m : ℕ) → first_of n rows label ≡ Err m → Parts n rows label m) → first_of n rows label ≡ f
            → or_next f n (label_of rows n) label ≡ Err k → Parts (suc n) rows label k
        go (Ok j) earlier p e = let z : ◌≡◌ {A = ℕ} 0 1 = cc in absurd (omega arith)
        go (Err m) earlier p e = here m (earlier m p) (same (label_of rows n) label) e

    pub parts_of : (k : ℕ) → find count rows label ≡ Err k → Parts count rows label k
    unfolding find
    parts_of k e = parts_among count k (omega arith) (rw (fit_held count rows fit) at e)
