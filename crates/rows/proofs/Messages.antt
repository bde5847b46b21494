-- Laws of the buffers that messages are put together in. Assumes nothing.
use mathlib.Core.Path.{◌≡◌, sym, ◌∙◌}
use mathlib.Core.List.{List, ◌++◌, append_assoc}
use Prim.Native.Nat.{ℕ, ◌+◌, ◌≤◌}
use native.Mathlib.Omega.{arith}
use lib.ListN.{length, take, length-append}
use lib.Seq.{take_all}
use Rattle.octets.specs.Strings.{put}
use Rattle.octets.proofs.Puts.{take_put, put-length, put-put}

-- the front of a buffer after a string was put behind its first bytes
pub front_put : (d s : List ℕ) (at n : ℕ) → n ≡ at + length s → at ≤ length d → take n (put d at s) ≡ take at d ++ s
front_put d s at n e h = rw e (take_put d at s h)

-- a string put at the end of a buffer
pub put_end : (d : List ℕ) (at : ℕ) (s : List ℕ) → at + length s ≡ length d → put d at s ≡ take at d ++ s
put_end d at s h =
    sym (take_all (at + length s) (put d at s) (omega (arith, put-length d at s (omega arith)))) ∙ take_put d at s (omega arith)

-- two strings put one behind the other, up to the end of a buffer
pub two_put_end :
    (d : List ℕ) (at : ℕ) (a b : List ℕ) (u : ℕ) → u ≡ at + length a → at + length a + length b ≡ length d
    → put (put d at a) u b ≡ take at d ++ a ++ b
two_put_end d at a b u e h =
    put-put d at a b u e (omega arith) ∙ put_end d at (a ++ b) (omega (arith, length-append a b)) ∙ sym (append_assoc (take at d) a b)
