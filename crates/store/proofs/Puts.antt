-- A block put into an area: the area keeps its size, the block stands at its place, and the others stay. Assumes nothing.
use mathlib.Core.Path.{◌≡◌, sym, ap, ◌∙◌}
use mathlib.Core.List.{List, ◌++◌, append_assoc}
use Prim.Native.Nat.{ℕ, ◌+◌, ◌-◌, ◌*◌, ◌/◌, ◌≤◌, ◌<◌}
use native.Mathlib.Decide.{dec_lt}
use native.Mathlib.Omega.{arith}
use lib.ListN.{length, take, drop, length-drop}
use lib.Seq.{take_at, drop_at, drop-drop, take-take, drop-append-le, take-append-le, length-take-le}
use Rattle.octets.specs.Strings.{put}
use Rattle.octets.proofs.Parts.{drop-take}
use Rattle.octets.proofs.Puts.{put-length, drop-put}
use Rattle.checks.specs.Check.{block_bytes}
use Rattle.store.specs.Area.{blocks, area_right, block_at}

pub whole_blocks : (area : List ℕ) → block_bytes * blocks area ≤ length area
unfolding blocks
whole_blocks area = omega arith

module _ (area : List ℕ) (p : ℕ) (b : List ℕ) (l : length b ≡ block_bytes) (w : p < blocks area) where
  fits : block_bytes * p + length b ≤ length area
  fits = let h = whole_blocks area in omega arith

  pub put_size : length (put area (block_bytes * p) b) ≡ length area
  put_size = put-length area (block_bytes * p) b fits

  pub put-blocks : blocks (put area (block_bytes * p) b) ≡ blocks area
  unfolding blocks
  put-blocks = ap (λ (n : ℕ). n / block_bytes) put_size

  pub put_right : area_right (put area (block_bytes * p) b) ≡ area_right area
  unfolding area_right blocks
  put_right = rw put_size

  pub put_here : block_at (put area (block_bytes * p) b) p ≡ b
  unfolding block_at put
  put_here =
      let h = fits in
      let front : length (take (block_bytes * p) area) ≡ block_bytes * p = length-take-le (block_bytes * p) area (omega arith) in
      let rest : List ℕ = drop (block_bytes * p + length b) area in
      ap (λ (s : List ℕ). take block_bytes (drop (block_bytes * p) s)) (append_assoc (take (block_bytes * p) area) b rest)
      ∙ ap (take block_bytes) (drop_at (take (block_bytes * p) area) (b ++ rest) (block_bytes * p) front) ∙ take_at b rest block_bytes l

  pub put_elsewhere : (j : ℕ) → (j ≡ p → ⊥) → block_at (put area (block_bytes * p) b) j ≡ block_at area j
  unfolding block_at put
  put_elsewhere j n = go (dec_lt j p)
    where
      go : Dec (j < p) → take block_bytes (drop (block_bytes * j) (put area (block_bytes * p) b)) ≡ take block_bytes (drop (block_bytes * j) area)
      go (yes h) =
          let k = fits in
          let at : ℕ = block_bytes * p in
          let front : length (take at area) ≡ at = length-take-le at area (omega arith) in
          let rest : List ℕ = b ++ drop (at + length b) area in
          let u : at ≡ block_bytes * j + (at - block_bytes * j) = omega arith in
          let cut : drop (block_bytes * j) (take at area) ≡ take (at - block_bytes * j) (drop (block_bytes * j) area) =
          ap (λ (m : ℕ). drop (block_bytes * j) (take m area)) u ∙ drop-take (block_bytes * j) (at - block_bytes * j) area in
          ap (λ (s : List ℕ). take block_bytes (drop (block_bytes * j) s)) (append_assoc (take at area) b (drop (at + length b) area))
          ∙ ap (take block_bytes) (drop-append-le (block_bytes * j) (take at area) rest (omega arith))
          ∙ take-append-le block_bytes (drop (block_bytes * j) (take at area)) rest (omega (arith, length-drop (block_bytes * j) (take at area)))
          ∙ ap (take block_bytes) cut
          ∙ take-take block_bytes (at - block_bytes * j) (drop (block_bytes * j) area) (omega arith)
      go (no h) =
          let k = fits in
          let at : ℕ = block_bytes * p in
          let e : block_bytes * j ≡ at + length b + (block_bytes * j - (at + length b)) = omega arith in
          let same_rest : drop (block_bytes * j) (put area at b) ≡ drop (block_bytes * j) area =
          ap (λ (m : ℕ). drop m (put area at b)) e ∙ sym (drop-drop (block_bytes * j - (at + length b)) (at + length b) (put area at b))
          ∙ ap (drop (block_bytes * j - (at + length b))) (drop-put area at b (omega arith))
          ∙ drop-drop (block_bytes * j - (at + length b)) (at + length b) area ∙ ap (λ (m : ℕ). drop m area) (sym e) in
          ap (take block_bytes) same_rest
