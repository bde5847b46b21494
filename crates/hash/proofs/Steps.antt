-- Laws of steps: steps one after the other. Assumes nothing.
use Rattle.std.proofs.Common.{◌≡◌, ℕ, zero, suc, ◌+◌, sym, ap, ◌∙◌, ap₂, add-zero, add_assoc, add-suc}
use Rattle.hash.specs.Turns.{steps}

module _ {A : Type 0} (f : A → ℕ → A) where
  steps_add : (x : A) (t m n : ℕ) → steps f x t (m + n) ≡ steps f (steps f x t m) (t + m) n
  unfolding steps
  steps_add x t m zero = ap (steps f x t) (add-zero m)
  steps_add x t m (suc n) = ap (steps f x t) (add-suc m n) ∙ ap₂ f (steps_add x t m n) (sym (add_assoc t m n))

  -- m steps and then n more are m + n steps
  pub steps_then :
      (x y z : A) (t m n u k : ℕ) → t + m ≡ u → m + n ≡ k → y ≡ steps f x t m → z ≡ steps f y u n → z ≡ steps f x t k
  steps_then x y z t m n u k e d p q =
      q ∙ ap (λ (v : A). steps f v u n) p ∙ ap (λ (v : ℕ). steps f (steps f x t m) v n) (sym e) ∙ sym (steps_add x t m n)
      ∙ ap (steps f x t) d

  pub first_step : (x y : A) (t : ℕ) → y ≡ f x t → y ≡ steps f x t 1
  unfolding steps
  first_step x y t p = p ∙ ap (f x) (sym (add-zero t))

  -- n steps and then one more
  pub step_then : (x y z : A) (t n : ℕ) → y ≡ steps f x t n → z ≡ f y (t + n) → z ≡ steps f x t (suc n)
  unfolding steps
  step_then x y z t n p q = q ∙ ap (λ (v : A). f v (t + n)) p
