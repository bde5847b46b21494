-- Strings of one length joined, and a string cut into such pieces. Assumes nothing.
use mathlib.Core.Path.{◌≡◌, refl, sym, ap, ap₂, ◌∙◌}
use mathlib.Core.Bool.{true, ◌&&◌}
use Prim.Native.Nat.{ℕ, zero, suc, ◌+◌, ◌*◌, ◌-◌, ◌≤◌, ◌<◌}
use native.Mathlib.Nat.{mul-zero, mul-suc, zero-add, suc-add, add_comm, not-suc-le-zero, le_of_suc-le-suc, mul-le-mul_left}
use native.Mathlib.Numerals.{add-one}
use native.Mathlib.Omega.{arith}
use mathlib.Core.List.{List, [], ◌∷◌, ◌++◌, append_assoc, append-nil, flatten}
use lib.ListN.{length, get_or, take, drop, set, replicate, length-append, length-drop}
use lib.Seq.{take-suc, set_at, take_at, drop_at, take-add, drop-drop, take-append-le, drop-append-le, length-take-le}
use Rattle.octets.specs.Strings.{pieces, all_zero}
use Rattle.octets.proofs.Parts.{take-replicate, drop-replicate}
use Rattle.octets.proofs.RoundTrips.{and_left, and_right}
use Rattle.octets.proofs.Zeros.{zero_append, zero_is, zeros_are}

-- each string has k bytes
pub data Each (k : ℕ) : List (List ℕ) → Type 0 where
  none : Each k []
  more : {x : List ℕ} {l : List (List ℕ)} → length x ≡ k → Each k l → Each k (x ∷ l)

pub each_length : {k : ℕ} {l : List (List ℕ)} → Each k l → length (flatten l) ≡ k * length l
unfolding flatten
each_length {k} none = sym (mul-zero k)
each_length {k} (more {x} {l} e es) = length-append x (flatten l) ∙ ap₂ (λ (a b : ℕ). a + b) e (each_length es) ∙ add_comm k (k * length l) ∙ sym (mul-suc k (length l))

pub each_get : {k : ℕ} {l : List (List ℕ)} → Each k l → (i : ℕ) → i < length l → length (get_or l i []) ≡ k
each_get none i h = absurd (not-suc-le-zero h)
each_get (more e es) zero h = e
each_get (more e es) (suc i) h = each_get es i (le_of_suc-le-suc h)

pub each_take : {k : ℕ} {l : List (List ℕ)} → Each k l → (n : ℕ) → Each k (take n l)
each_take es zero = none
each_take none (suc n) = none
each_take (more e es) (suc n) = more e (each_take es n)

pub each_drop : {k : ℕ} {l : List (List ℕ)} → Each k l → (n : ℕ) → Each k (drop n l)
each_drop es zero = es
each_drop none (suc n) = none
each_drop (more e es) (suc n) = each_drop es n

pub flatten_append : (a b : List (List ℕ)) → flatten (a ++ b) ≡ flatten a ++ flatten b
unfolding flatten
flatten_append [] b = refl
flatten_append (x ∷ a) b = ap (λ (l : List ℕ). x ++ l) (flatten_append a b) ∙ sym (append_assoc x (flatten a) (flatten b))

pub flatten_one : (x : List ℕ) → flatten (x ∷ []) ≡ x
unfolding flatten
flatten_one x = append-nil x

-- one string more
pub flatten_next : (l : List (List ℕ)) (i : ℕ) → i < length l → flatten (take (i + 1) l) ≡ flatten (take i l) ++ get_or l i []
flatten_next l i h =
    rw (add-one i, take-suc l i [] h, flatten_append (take i l) (get_or l i [] ∷ []), flatten_one (get_or l i []))

pub pieces-length : (k n : ℕ) (s : List ℕ) → length (pieces k n s) ≡ n
unfolding pieces
pieces-length k zero s = refl
pieces-length k (suc n) s = ap suc (pieces-length k n (drop k s))

pub pieces_each : (k n : ℕ) (s : List ℕ) → k * n ≤ length s → Each k (pieces k n s)
unfolding pieces
pieces_each k zero s h = none
pieces_each k (suc n) s h =
    let m : k * suc n ≡ k * n + k = mul-suc k n in
    more (length-take-le k s (omega arith)) (pieces_each k n (drop k s) (omega (arith, length-drop k s)))

pub flatten-pieces : (k n : ℕ) (s : List ℕ) → flatten (pieces k n s) ≡ take (k * n) s
unfolding pieces flatten
flatten-pieces k zero s = rw (mul-zero k)
flatten-pieces k (suc n) s = rw (flatten-pieces k n (drop k s), mul-suc k n, add_comm (k * n) k) (sym (take-add k (k * n) s))

pub pieces_append : (k m n : ℕ) (s : List ℕ) → pieces k (m + n) s ≡ pieces k m s ++ pieces k n (drop (k * m) s)
unfolding pieces
pieces_append k zero n s = rw (zero-add n, mul-zero k)
pieces_append k (suc m) n s =
    rw (suc-add m n, pieces_append k m n (drop k s), drop-drop (k * m) k s, mul-suc k m, add_comm (k * m) k)

-- one piece more
pub pieces_snoc : (k n : ℕ) (s : List ℕ) → pieces k (n + 1) s ≡ pieces k n s ++ (take k (drop (k * n) s) ∷ [])
unfolding pieces
pieces_snoc k n s = pieces_append k n 1 s

-- a piece stored behind those before it
pub pieces_store :
    (k m i : ℕ) (s z v : List ℕ) → i < m → v ≡ take k (drop (k * i) s)
    → set (pieces k i s ++ replicate (m - i) z) i v ≡ pieces k (i + 1) s ++ replicate (m - (i + 1)) z
pieces_store k m i s z v h e =
    let u : m - i ≡ suc (m - (i + 1)) = omega arith in
    let rest : List (List ℕ) = replicate (m - (i + 1)) z in
    ap (λ (j : ℕ). set (pieces k i s ++ replicate j z) i v) u
    ∙ set_at (pieces k i s) z rest v i (pieces-length k i s)
    ∙ sym (append_assoc (pieces k i s) (v ∷ []) rest)
    ∙ ap (λ (l : List (List ℕ)). l ++ rest) (ap (λ (x : List ℕ). pieces k i s ++ (x ∷ [])) e ∙ sym (pieces_snoc k i s))

-- what stands behind the pieces does not matter
pub pieces_front : (k n : ℕ) (s t : List ℕ) → k * n ≤ length s → pieces k n (s ++ t) ≡ pieces k n s
unfolding pieces
pieces_front k zero s t h = refl
pieces_front k (suc n) s t h =
    let m : k * suc n ≡ k * n + k = mul-suc k n in
    let p : take k (s ++ t) ≡ take k s = take-append-le k s t (omega arith) in
    let q : drop k (s ++ t) ≡ drop k s ++ t = drop-append-le k s t (omega arith) in
    rw (p, q, pieces_front k n (drop k s) t (omega (arith, length-drop k s)))

-- strings joined are cut into themselves
pub pieces-flatten : {k : ℕ} {l : List (List ℕ)} → Each k l → pieces k (length l) (flatten l) ≡ l
unfolding pieces flatten
pieces-flatten none = refl
pieces-flatten {k} (more {x} {l} e es) = rw (take_at x (flatten l) k e, drop_at x (flatten l) k e, pieces-flatten es)

pub pieces_zeros : (k n m : ℕ) → k * n ≤ m → pieces k n (replicate m 0) ≡ replicate n (replicate k 0)
unfolding pieces
pieces_zeros k zero m h = refl
pieces_zeros k (suc n) m h =
    let e : k * suc n ≡ k * n + k = mul-suc k n in
    let p : take {A = ℕ} k (replicate m 0) ≡ replicate k 0 = take-replicate k m 0 (omega arith) in
    let u : m ≡ k + (m - k) = omega arith in
    let q : drop {A = ℕ} k (replicate m 0) ≡ replicate (m - k) 0 = ap (λ (j : ℕ). drop {A = ℕ} k (replicate j 0)) u ∙ drop-replicate k (m - k) 0 in
    rw (p, q, pieces_zeros k n (m - k) (omega arith))

-- a string that ends early, with zeros behind it
pub pieces_padded :
    (k m n : ℕ) (t : List ℕ) → n ≤ m → length t ≡ k * n
    → pieces k m (t ++ replicate (k * m) 0) ≡ pieces k n t ++ replicate (m - n) (replicate k 0)
pieces_padded k m n t h e =
    let z : List ℕ = replicate (k * m) 0 in
    let u : m ≡ n + (m - n) = omega arith in
    let front : pieces k n (t ++ z) ≡ pieces k n t = pieces_front k n t z (omega arith) in
    let rest : pieces k (m - n) (drop (k * n) (t ++ z)) ≡ replicate (m - n) (replicate k 0) =
    ap (pieces k (m - n)) (drop_at t z (k * n) e) ∙ pieces_zeros k (m - n) (k * m) (mul-le-mul_left k (omega arith)) in
    ap (λ (j : ℕ). pieces k j (t ++ z)) u ∙ pieces_append k n (m - n) (t ++ z) ∙ ap₂ (λ (a b : List (List ℕ)). a ++ b) front rest

-- strings of k bytes that are all zero
pub each_zero : {k : ℕ} {l : List (List ℕ)} → Each k l → all_zero (flatten l) ≡ true → l ≡ replicate (length l) (replicate k 0)
unfolding flatten
each_zero none h = refl
each_zero {k} (more {x} {l} e es) h =
    let z : (all_zero x && all_zero (flatten l)) ≡ true = sym (zero_append x (flatten l)) ∙ h in
    ap₂ (λ (a : List ℕ) (b : List (List ℕ)). a ∷ b)
    (zero_is x (and_left (all_zero x) (all_zero (flatten l)) z) ∙ ap (λ (j : ℕ). replicate j 0) e)
    (each_zero es (and_right (all_zero x) (all_zero (flatten l)) z))

pub flatten_zeros : (k n : ℕ) → all_zero (flatten (replicate n (replicate k 0))) ≡ true
unfolding flatten all_zero
flatten_zeros k zero = refl
flatten_zeros k (suc n) =
    rw (zero_append (replicate k 0) (flatten (replicate n (replicate k 0))), zeros_are k) (flatten_zeros k n)
