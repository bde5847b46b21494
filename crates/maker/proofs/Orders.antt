-- The byte order of strings, and labels that rise in it: a place for each label, and lists that have each other's labels are alike. Assumes nothing.
use mathlib.Core.Path.{◌≡◌, refl, sym, ap, ap₂, ◌∙◌}
use mathlib.Core.Bool.{Bool, true, false, cond, ◌&&◌}
use mathlib.Core.List.{List, [], ◌∷◌}
use Prim.Native.Nat.{ℕ, zero, suc, ◌+◌, ◌-◌, ◌≤◌, ◌<◌}
use native.Mathlib.Decide.{dec_lt}
use native.Mathlib.Nat.{not-suc-le-zero}
use native.Mathlib.Omega.{arith}
use borrow.Author.Tests.{eq-eqb, ne_eqb, lt-ltb}
use lib.ListN.{length, replicate}
use lib.Dec.{eqb, ltb}
use Rattle.octets.specs.Strings.{all_zero, before}
use Rattle.octets.proofs.Orders.{before_self, before_trans}

-- a test does not come out both ways
pub never : {P : Type 0} (b : Bool) → b ≡ true → b ≡ false → P
never b p q = let z : ◌≡◌ {A = Bool} true false = sym p ∙ q in let y : ◌≡◌ {A = ℕ} 0 1 = cc in absurd (omega arith)

-- two bytes decide by the smaller one, or leave it to what comes after them
less_first : (x y : ℕ) (r : Bool) → x < y → cond (eqb x y) r (ltb x y) ≡ true
less_first x y r h = rw (ne_eqb x y (λ e. omega arith), lt-ltb x y h)

same_first : (x y : ℕ) (r : Bool) → x ≡ y → r ≡ true → cond (eqb x y) r (ltb x y) ≡ true
same_first x y r e h = rw (eq-eqb x y e) h

-- of two strings as long as each other one comes first, or they are the same
pub before_total : (a b : List ℕ) → length a ≡ length b → before a b ≡ false → before b a ≡ false → a ≡ b
unfolding before
before_total [] [] e p q = refl
before_total [] (y ∷ b) e p q = absurd (omega arith)
before_total (x ∷ a) [] e p q = absurd (omega arith)
before_total (x ∷ a) (y ∷ b) e p q = go (dec_lt x y) (dec_lt y x) (before_total a b (omega arith))
  where
    go : Dec (x < y) → Dec (y < x) → (before a b ≡ false → before b a ≡ false → a ≡ b) → x ∷ a ≡ y ∷ b
    go (yes h) d later = never (cond (eqb x y) (before a b) (ltb x y)) (less_first x y (before a b) h) p
    go (no h) (yes k) later = never (cond (eqb y x) (before b a) (ltb y x)) (less_first y x (before b a) k) q
    go (no h) (no k) later =
        let r : x ≡ y = omega arith in
        ap₂ (λ (z : ℕ) (l : List ℕ). z ∷ l) r (later (rw (eq-eqb x y r) at p) (rw (eq-eqb y x (sym r)) at q))

-- zeros come before all else
pub zeros_first : (s : List ℕ) → all_zero s ≡ false → before (replicate (length s) 0) s ≡ true
unfolding all_zero before
zeros_first [] e = never true refl e
zeros_first (x ∷ s) e = go (dec_lt 0 x) (zeros_first s)
  where
    go : Dec (0 < x) → (all_zero s ≡ false → before (replicate (length s) 0) s ≡ true) → before (0 ∷ replicate (length s) 0) (x ∷ s) ≡ true
    go (yes h) later = less_first 0 x (before (replicate (length s) 0) s) h
    go (no h) later =
        let r : x ≡ 0 = omega arith in
        same_first 0 x (before (replicate (length s) 0) s) (sym r) (later (rw (eq-eqb x 0 r) at e))

-- a label that one of the first n has
pub record Place (f : ℕ → List ℕ) (n : ℕ) (label : List ℕ) : Type 0 where
  pub place : ℕ
  pub below : place < n
  pub is : f place ≡ label

-- the first n rise
abbrev pub Rising : (ℕ → List ℕ) → ℕ → Type 0
Rising f n = (i : ℕ) → suc i < n → before (f i) (f (suc i)) ≡ true

module _ (f : ℕ → List ℕ) (n : ℕ) (rises : Rising f n) where
  pub rising_order : (i j : ℕ) → i < j → j < n → before (f i) (f j) ≡ true
  rising_order i zero h l = absurd (not-suc-le-zero h)
  rising_order i (suc j) h l = go (λ k. rising_order i j k (omega arith)) (dec_lt i j)
    where
      go : (i < j → before (f i) (f j) ≡ true) → Dec (i < j) → before (f i) (f (suc j)) ≡ true
      go earlier (yes k) = before_trans (f i) (f j) (f (suc j)) (earlier k) (rises j l)
      go earlier (no k) = let e : i ≡ j = omega arith in rw e (rises j l)

  pub rising_back : (i j : ℕ) → i < n → j < n → before (f i) (f j) ≡ true → i < j
  rising_back i j h k e = go (dec_lt i j) (dec_lt j i)
    where
      go : Dec (i < j) → Dec (j < i) → i < j
      go (yes l) d = l
      go (no l) (yes m) = never (before (f i) (f i)) (before_trans (f i) (f j) (f i) e (rising_order j i m h)) (before_self (f i))
      go (no l) (no m) = let r : i ≡ j = omega arith in never (before (f j) (f j)) (rw r at e) (before_self (f j))

  -- none stands twice
  pub rising_once : (i j : ℕ) → i < n → j < n → f i ≡ f j → i ≡ j
  rising_once i j h k e = go (dec_lt i j) (dec_lt j i)
    where
      go : Dec (i < j) → Dec (j < i) → i ≡ j
      go (yes l) d = never (before (f j) (f j)) (rw e at (rising_order i j l k)) (before_self (f j))
      go (no l) (yes m) = never (before (f j) (f j)) (rw e at (rising_order j i m h)) (before_self (f j))
      go (no l) (no m) = omega arith

-- where each of the first a of one is among the first b of another, none stands earlier there, and there are no fewer
module _ (f g : ℕ → List ℕ) (a b : ℕ) (f-rises : Rising f a) (g-rises : Rising g b) (within : (r : ℕ) → r < a → Place g b (f r)) where
  pub no_earlier : (r q : ℕ) → r < a → q < b → g q ≡ f r → r ≤ q
  no_earlier zero q h k e = omega arith
  no_earlier (suc r) q h k e =
      let p = within r (omega arith) in
      let l : r ≤ p.place = no_earlier r p.place (omega arith) p.below p.is in
      let m : before (g p.place) (g q) ≡ true = rw (p.is, e) (f-rises r h) in
      omega (arith, rising_back g b g-rises p.place q p.below k m)

  pub no_fewer : a ≤ b
  no_fewer = go (dec_lt 0 a)
    where
      go : Dec (0 < a) → a ≤ b
      go (yes h) =
          let p = within (a - 1) (omega arith) in
          let k : p.place < b = p.below in
          omega (arith, no_earlier (a - 1) p.place (omega arith) p.below p.is)
      go (no h) = omega arith

-- where each has the other's, they are alike
module _ (f g : ℕ → List ℕ) (a b : ℕ) (f-rises : Rising f a) (g-rises : Rising g b)
    (within : (r : ℕ) → r < a → Place g b (f r)) (back : (q : ℕ) → q < b → Place f a (g q)) where
  pub as_many : a ≡ b
  as_many = omega (arith, no_fewer f g a b f-rises g-rises within, no_fewer g f b a g-rises f-rises back)

  pub alike : (r : ℕ) → r < a → f r ≡ g r
  alike r h =
      let p = within r h in
      let k : p.place < b = p.below in
      let up : r ≤ p.place = no_earlier f g a b f-rises g-rises within r p.place h k p.is in
      let down : p.place ≤ r = no_earlier g f b a g-rises f-rises back p.place r k h (sym p.is) in
      let e : p.place ≡ r = omega arith in
      sym p.is ∙ ap g e
