-- The front of a string: nothing put there, or a byte and another string behind it; and as much of the front as there is. Assumes nothing.
use mathlib.Core.Path.{◌≡◌, refl, sym, ap, ◌∙◌}
use Prim.Native.Nat.{ℕ, ◌+◌, ◌≤◌, ◌<◌, min}
use native.Mathlib.Nat.{add-zero}
use native.Mathlib.Decide.{dec_lt}
use native.Mathlib.Omega.{arith}
use mathlib.Core.List.{List, [], ◌∷◌, append-nil}
use lib.ListN.{length, take, set, take-append-drop}
use lib.Seq.{set_split, take_all}
use Rattle.octets.specs.Strings.{put}
use Rattle.octets.proofs.Puts.{put-put, take_put}

-- nothing put
pub put_none : (d : List ℕ) (at : ℕ) → put d at [] ≡ d
unfolding put
put_none d at = rw (append-nil (take at d), add-zero at) (take-append-drop at d)

-- a byte, and a string behind it
byte_put : (d : List ℕ) (b : ℕ) → 1 ≤ length d → set d 0 b ≡ put d 0 (b ∷ [])
unfolding put
byte_put d b h = set_split d 0 b h

pub put_behind : (d : List ℕ) (b : ℕ) (s : List ℕ) → 1 + length s ≤ length d → put (set d 0 b) 1 s ≡ put d 0 (b ∷ s)
put_behind d b s h = ap (λ (l : List ℕ). put l 1 s) (byte_put d b (omega arith)) ∙ put-put d 0 (b ∷ []) s 1 refl h

-- what stands in front after a byte and a string are put there
pub take_behind : (d : List ℕ) (b : ℕ) (s : List ℕ) (n : ℕ) → length s ≡ n → 1 + n ≤ length d → take (1 + n) (put (set d 0 b) 1 s) ≡ b ∷ s
take_behind d b s n e h =
    let k : 1 + n ≡ 0 + length (b ∷ s) = omega arith in
    rw (put_behind d b s (omega arith), k) (take_put d 0 (b ∷ s) (omega arith))

-- as many elements as there are, and no more than m
pub take_least : (n m : ℕ) (s : List ℕ) → n ≡ min (length s) m → take n s ≡ take m s
take_least n m s e = go (dec_lt (length s) m)
  where
    go : Dec (length s < m) → take n s ≡ take m s
    go (yes h) = take_all n s (omega arith) ∙ sym (take_all m s (omega arith))
    go (no h) = let k : n ≡ m = omega arith in rw k
