-- Strings of bytes: what is put together from such strings is one again. Assumes nothing.
use mathlib.Core.List.{List, [], ◌∷◌, ◌++◌}
use Prim.Native.Nat.{ℕ, zero, suc, ◌+◌, ◌/◌, ◌^◌}
use native.Mathlib.Nat.{mod-lt}
use lib.ListN.{length, take, drop, replicate}
use lib.Dec.{lit<}
use Rattle.octets.specs.Numbers.{bytes_of}
use Rattle.octets.specs.Strings.{put}
use Rattle.octets.proofs.Exact.{Octets, octets_take, octets_drop}

pub octets_append : (a b : List ℕ) → Octets a → Octets b → Octets (a ++ b)
octets_append [] b p q i = q i
octets_append (x ∷ a) b p q zero = p 0
octets_append (x ∷ a) b p q (suc i) = octets_append a b (λ j. p (suc j)) q i

pub octets_zeros : (n : ℕ) → Octets (replicate n 0)
octets_zeros zero i = lit< tt
octets_zeros (suc n) zero = lit< tt
octets_zeros (suc n) (suc i) = octets_zeros n i

-- the bytes of a number
pub octets_number : (n x : ℕ) → Octets (bytes_of n x)
unfolding bytes_of
octets_number zero x i = lit< tt
octets_number (suc n) x zero = mod-lt (x / 256 ^ n) (lit< tt)
octets_number (suc n) x (suc i) = octets_number n x i

pub octets_put : (d : List ℕ) (at : ℕ) (s : List ℕ) → Octets d → Octets s → Octets (put d at s)
unfolding put
octets_put d at s o p =
    octets_append (take at d ++ s) (drop (at + length s) d) (octets_append (take at d) s (octets_take at d o) p) (octets_drop (at + length s) d o)
