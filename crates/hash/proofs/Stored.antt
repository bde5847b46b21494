-- Words and bytes stored one after the other: the words of a string, and the bytes of words. Assumes nothing.
use Rattle.std.proofs.Common.{◌≡◌, ℕ, zero, suc, ◌+◌, ◌*◌, ◌<◌, ◌≤◌, List, [], ◌∷◌, ◌++◌, length, get_or, take, drop, set, sym, refl, ap, ◌∙◌, ap₂, mul-zero, mul-suc, add-one, arith, length-append, take-suc-set}
use Rattle.octets.specs.Numbers.{number_of, bytes_of}
use Rattle.octets.specs.Strings.{put}
use Rattle.octets.proofs.Numbers.{bytes_length}
use Rattle.octets.proofs.Puts.{take_put}
use Rattle.hash.specs.Padding.{words}
use Rattle.hash.specs.Digest.{joined}

pub words_stored :
    (k : ℕ) (s w : List ℕ) (n x : ℕ) → n < length w → take n w ≡ words k s n → x ≡ number_of (take k (drop (k * n) s))
    → take (n + 1) (set w n x) ≡ words k s (n + 1)
unfolding words
words_stored k s w n x h p q = rw (add-one n) (take-suc-set w n x h ∙ ap₂ (λ (l : List ℕ) (v : ℕ). l ++ (v ∷ [])) p q)

pub words-length : (k : ℕ) (s : List ℕ) (n : ℕ) → length (words k s n) ≡ n
unfolding words
words-length k s zero = refl
words-length k s (suc n) = simp (length-append, words-length k s n) (add-one n)

pub joined_stored :
    (H out : List ℕ) (n : ℕ) → 4 * n + 4 ≤ length out → take (4 * n) out ≡ joined 4 H n
    → take (4 * (n + 1)) (put out (4 * n) (bytes_of 4 (get_or H n 0))) ≡ joined 4 H (n + 1)
unfolding joined
joined_stored H out n h p =
    let b : List ℕ = bytes_of 4 (get_or H n 0) in
    let e : 4 * (n + 1) ≡ 4 * n + length b = omega (arith, bytes_length 4 (get_or H n 0)) in
    rw (e, add-one n) (take_put out (4 * n) b (omega arith) ∙ ap (λ (l : List ℕ). l ++ b) p)

pub joined_length : (k : ℕ) (H : List ℕ) (n : ℕ) → length (joined k H n) ≡ k * n
unfolding joined
joined_length k H zero = sym (mul-zero k)
joined_length k H (suc n) = simp (length-append, joined_length k H n, bytes_length k (get_or H n 0)) (sym (mul-suc k n))
