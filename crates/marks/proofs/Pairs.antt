-- A string cut into pairs: the pair that comes next, and what is left behind it. Assumes nothing.
use mathlib.Core.Path.{◌≡◌, sym, ap, ◌∙◌}
use mathlib.Core.List.{List, ◌++◌}
use Prim.Native.Nat.{ℕ, ◌+◌, ◌*◌, ◌/◌, ◌<◌, ◌≤◌}
use native.Mathlib.Omega.{arith}
use lib.ListN.{length, get_or, drop, length-append, length-drop, get_or-append}
use lib.Seq.{drop-drop, drop_at}
use Rattle.std.proofs.lemmas.List.{get_or-drop}

module _ (s : List ℕ) (i : ℕ) (rest x r : List ℕ) (h : drop (2 * i) s ≡ rest) (e : rest ≡ x ++ r) (l : length x ≡ 2) where
  here : drop (2 * i) s ≡ x ++ r
  here = h ∙ e

  pub pair_within : i < length s / 2
  pair_within = omega (arith, ap length here, length-drop (2 * i) s, length-append x r, l)

  read : (k : ℕ) → k < 2 → get_or x k 0 ≡ get_or s (2 * i + k) 0
  read k t = sym (get_or-append x r 0 k (omega arith)) ∙ sym (ap (λ (z : List ℕ). get_or z k 0) here) ∙ get_or-drop (2 * i) s k 0

  pub pair_first : get_or x 0 0 ≡ get_or s (2 * i) 0
  pair_first =
      let n : 2 * i + 0 ≡ 2 * i = omega arith in
      read 0 (omega arith) ∙ ap (λ (k : ℕ). get_or s k 0) n

  pub pair_second : get_or x 1 0 ≡ get_or s (2 * i + 1) 0
  pair_second = read 1 (omega arith)

  pub pairs_within : 2 * (i + 1) ≤ length s
  pairs_within = omega (arith, pair_within)

  pub pairs_left : drop (2 * (i + 1)) s ≡ r
  pairs_left =
      let n : 2 * (i + 1) ≡ 2 * i + 2 = omega arith in
      ap (λ (k : ℕ). drop k s) n ∙ sym (drop-drop 2 (2 * i) s) ∙ ap (drop 2) here ∙ drop_at x r 2 l

-- where no pair is left, all were passed
pub pairs_over : (s : List ℕ) (i : ℕ) (rest : List ℕ) → drop (2 * i) s ≡ rest → 2 * i ≤ length s → length rest < 2 → i ≡ length s / 2
pairs_over s i rest h w l = omega (arith, ap length h, length-drop (2 * i) s)
