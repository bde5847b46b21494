-- Laws of a string put into another: its length, its parts, and one put after the other. Assumes nothing.
use mathlib.Core.Path.{◌≡◌, sym, ap, ap₂, ◌∙◌}
use mathlib.Core.List.{List, ◌++◌, append_assoc, append-nil}
use Prim.Native.Nat.{ℕ, ◌+◌, ◌-◌, ◌≤◌}
use native.Mathlib.Nat.{zero-add, add_assoc}
use native.Mathlib.Omega.{arith}
use lib.ListN.{length, take, drop, length-append, length-take, length-drop}
use lib.Seq.{drop-drop, paste, take-length, take_at, drop_at, length-take-le, drop-length}
use Rattle.octets.specs.Strings.{put}

-- as the library has it for a copy
pub put-paste : (d : List ℕ) (at : ℕ) (s : List ℕ) → paste d at s (length s) ≡ put d at s
unfolding put
put-paste d at s = rw (take-length s)

-- as the checker has it of a part that is lent and comes back
pub put-part : (d : List ℕ) (at : ℕ) (s : List ℕ) → take at d ++ (s ++ drop (at + length s - at) (drop at d)) ≡ put d at s
unfolding put
put-part d at s =
    let n : at + length s - at ≡ length s = omega arith in
    rw (n, drop-drop (length s) at d) (sym (append_assoc (take at d) s (drop (at + length s) d)))

pub put-length : (d : List ℕ) (at : ℕ) (s : List ℕ) → at + length s ≤ length d → length (put d at s) ≡ length d
unfolding put
put-length d at s h = simp (length-append, length-take, length-drop) (omega arith)

head_length : (d : List ℕ) (at : ℕ) (s : List ℕ) → at ≤ length d → length (take at d ++ s) ≡ at + length s
head_length d at s h = length-append (take at d) s ∙ ap (λ (k : ℕ). k + length s) (length-take-le at d h)

pub take_put : (d : List ℕ) (at : ℕ) (s : List ℕ) → at ≤ length d → take (at + length s) (put d at s) ≡ take at d ++ s
unfolding put
take_put d at s h = take_at (take at d ++ s) (drop (at + length s) d) (at + length s) (head_length d at s h)

pub drop-put : (d : List ℕ) (at : ℕ) (s : List ℕ) → at ≤ length d → drop (at + length s) (put d at s) ≡ drop (at + length s) d
unfolding put
drop-put d at s h = drop_at (take at d ++ s) (drop (at + length s) d) (at + length s) (head_length d at s h)

-- one string and then another behind it
pub put-put :
    (d : List ℕ) (at : ℕ) (a b : List ℕ) (u : ℕ) → u ≡ at + length a → at + length a + length b ≤ length d
    → put (put d at a) u b ≡ put d at (a ++ b)
unfolding put
put-put d at a b u e h =
    let p : take u (put d at a) ≡ take at d ++ a = rw e (take_put d at a (omega arith)) in
    let q : drop (u + length b) (put d at a) ≡ drop (at + length (a ++ b)) d =
    rw (e, length-append a b, ← add_assoc at (length a) (length b))
    (sym (drop-drop (length b) (at + length a) (put d at a)) ∙ ap (drop (length b)) (drop-put d at a (omega arith)) ∙ drop-drop (length b) (at + length a) d) in
    ap₂ (λ (x y : List ℕ). x ++ b ++ y) p q ∙ ap (λ (x : List ℕ). x ++ drop (at + length (a ++ b)) d) (append_assoc (take at d) a b)

-- a string over all of another
pub put_all : (d s : List ℕ) → length s ≡ length d → put d 0 s ≡ s
unfolding put
put_all d s e = rw (zero-add (length s), e, drop-length d) (append-nil s)
