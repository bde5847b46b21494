-- Laws of a string put into the rest of another, behind a place, where that rest was lent for it and has come back. Assumes nothing.
use mathlib.Core.Path.{◌≡◌, sym}
use mathlib.Core.List.{List, [], ◌++◌, append-nil, append_assoc}
use Prim.Native.Nat.{ℕ, ◌+◌, ◌-◌}
use native.Mathlib.Nat.{zero-add}
use native.Mathlib.Omega.{arith}
use borrow.Rule.Slice.PartMut.{put_mid}
use lib.ListN.{length, take, drop, length-drop, drop_of_length-le}
use lib.Seq.{drop-drop, take_all}
use Rattle.octets.specs.Strings.{put}

pub rest_put :
    (d : List ℕ) (at : ℕ) (s : List ℕ) → put_mid at (length d - at) d (put (take (length d - at) (drop at d)) 0 s) ≡ put d at s
unfolding put
rest_put d at s =
    let none : drop (length d - at) (drop at d) ≡ [] = drop_of_length-le (drop at d) {i = length d - at} (omega (arith, length-drop at d)) in
    let whole : take (length d - at) (drop at d) ≡ drop at d = take_all (length d - at) (drop at d) (omega (arith, length-drop at d)) in
    rw (none, whole, zero-add (length s), drop-drop (length s) at d, append-nil (s ++ drop (at + length s) d))
    (sym (append_assoc (take at d) s (drop (at + length s) d)))
