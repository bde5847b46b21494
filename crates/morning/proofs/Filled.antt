-- What a piece's front is after a read behind it.
use Rattle.std.proofs.Common.{◌≡◌, ℕ, ◌+◌, ◌-◌, ◌≤◌, List, ◌++◌, length, take, ap, ◌∙◌, le_refl, drop_at, length-take-le, drop}
use Rattle.std.proofs.lemmas.Slice.{take-put_mid_below}
use borrow.Rule.Slice.PartMut.{put_mid, post_of}
use lib.Seq.{take-add, take-append-le}

-- xs with the bytes ys put from a place on, of which n were read: the front is that of xs, and what was read
pub filled_front : (xs ys : List ℕ) (a n : ℕ) → a ≤ length xs → n ≤ length ys
    → take (a + n) (put_mid a (length xs - a) xs ys) ≡ take a xs ++ take n ys
filled_front xs ys a n within fits =
    let room = length xs - a in
    let after = post_of a room xs in
    take-add a n (put_mid a room xs ys)
    ∙ ap (λ l. l ++ take n (drop a (put_mid a room xs ys))) (take-put_mid_below a room xs ys a (le_refl a) within)
    ∙ ap (λ l. take a xs ++ l) (ap (take n) (drop_at (take a xs) (ys ++ after) a (length-take-le a xs within)) ∙ take-append-le n ys after fits)
