-- The law of the table: the rows from a place on moved one place up, and a row put there. Assumes nothing.
use mathlib.Core.Path.{◌≡◌, sym, ap, ap₂, ◌∙◌}
use mathlib.Core.List.{List, ◌++◌, append-nil, append_assoc}
use Prim.Native.Nat.{ℕ, ◌+◌, ◌-◌, ◌<◌}
use native.Mathlib.Omega.{arith}
use lib.ListN.{length, take, drop, length-append, drop_of_length-le}
use lib.Seq.{paste, length-take-le, take-append-le, take-append-add, take-take, drop_at}
use Rattle.octets.specs.Strings.{put}

pub put_in :
    (t row : List ℕ) (at : ℕ) → at < 3528 - 55 → length t ≡ 3528 → length row ≡ 56
    → put (paste t (at + 56) (drop at t) (3472 - at)) at row ≡ take (length t) (take at t ++ row ++ drop at t)
unfolding put
put_in t row at within whole long =
    let rest : ℕ = 3472 - at in
    let moved : List ℕ = take rest (drop at t) in
    let head : length (take (at + 56) t) ≡ at + 56 = length-take-le (at + 56) t (omega arith) in
    let front : length (take at t ++ row) ≡ at + 56 = length-append (take at t) row ∙ ap₂ (λ (x y : ℕ). x + y) (length-take-le at t (omega arith)) long in
    let all : length (take at t ++ row) + rest ≡ length t = omega (arith, front) in
    let kept : take at (paste t (at + 56) (drop at t) rest) ≡ take at t =
    take-append-le at (take (at + 56) t ++ moved) (drop (at + 56 + rest) t) (omega (arith, length-append (take (at + 56) t) moved, head))
    ∙ take-append-le at (take (at + 56) t) moved (omega (arith, head))
    ∙ take-take at (at + 56) t (omega arith) in
    let behind : drop (at + length row) (paste t (at + 56) (drop at t) rest) ≡ moved =
    ap (λ (n : ℕ). drop (at + n) (paste t (at + 56) (drop at t) rest)) long
    ∙ ap (drop (at + 56)) (append_assoc (take (at + 56) t) moved (drop (at + 56 + rest) t))
    ∙ drop_at (take (at + 56) t) (moved ++ drop (at + 56 + rest) t) (at + 56) head
    ∙ ap (λ (x : List ℕ). moved ++ x) (drop_of_length-le t {i = at + 56 + rest} (omega arith)) ∙ append-nil moved in
    ap₂ (λ (x y : List ℕ). x ++ row ++ y) kept behind
    ∙ sym (take-append-add (take at t ++ row) (drop at t) rest)
    ∙ ap (λ (n : ℕ). take n (take at t ++ row ++ drop at t)) all
