-- Elements of lists: of a list whose elements are mapped, of what is listed up to a number, and of two lists joined. Assumes nothing.
use mathlib.Core.Path.{◌≡◌, subst}
use mathlib.Core.List.{List, [], ◌∷◌, ◌++◌, map}
use Prim.Native.Nat.{ℕ, zero, suc, ◌<◌}
use native.Mathlib.Decide.{dec_lt}
use native.Mathlib.Nat.{not-suc-le-zero}
use native.Mathlib.Omega.{arith}
use Rattle.safety.specs.Histories.{◌∈◌, at_front, behind, listed}

pub in_map : {A B : Type 0} (f : A → B) {x : A} {l : List A} → x ∈ l → f x ∈ map f l
in_map f at_front = at_front
in_map f (behind m) = behind (in_map f m)

pub in_listed : {A : Type 0} (f : ℕ → A) (n i : ℕ) → i < n → f i ∈ listed n f
unfolding listed
in_listed f zero i h = absurd (not-suc-le-zero h)
in_listed f (suc n) i h = go (λ l. in_listed f n i l) (dec_lt i n)
  where
    go : (i < n → f i ∈ listed n f) → Dec (i < n) → f i ∈ (f n ∷ listed n f)
    go earlier (yes l) = behind (earlier l)
    go earlier (no l) = let e : n ≡ i = omega arith in subst (λ (j : ℕ). f j ∈ (f n ∷ listed n f)) e at_front

pub in_left : {A : Type 0} {x : A} {l : List A} (m : List A) → x ∈ l → x ∈ (l ++ m)
in_left m at_front = at_front
in_left m (behind i) = behind (in_left m i)

pub in_right : {A : Type 0} {x : A} (l : List A) {m : List A} → x ∈ m → x ∈ (l ++ m)
in_right [] i = i
in_right (y ∷ l) i = behind (in_right l i)
