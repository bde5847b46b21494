-- The lists that are written read back: each begins where those before it end, has as many digests as are needed and those that the store answers, and the
-- last ends where the bundle does. Assumes nothing.
use mathlib.Core.Path.{◌≡◌, refl, sym, ap, ap₂, subst, ◌∙◌}
use mathlib.Core.List.{List, [], ◌∷◌, ◌++◌, append-nil, append_assoc}
use Prim.Native.Nat.{ℕ, zero, suc, ◌+◌, ◌*◌, ◌≤◌, ◌<◌}
use native.Mathlib.Decide.{dec_lt}
use native.Mathlib.Nat.{mul-suc}
use native.Mathlib.Omega.{arith}
use lib.ListN.{length, get_or, take, drop, length-append}
use lib.Seq.{take_all}
use Rattle.octets.specs.Numbers.{number_of, bytes_of}
use Rattle.octets.proofs.Numbers.{bytes_length}
use Rattle.octets.proofs.Exact.{number_bytes}
use Rattle.octets.proofs.Parts.{part_cons}
use Rattle.statement.specs.Kinds.{digest_bytes}
use Rattle.rules.specs.Bundle.{most_added, old_count, two_byte, list_at, list_of, added, digests}
use Rattle.rules.proofs.RowsParts.{part_front, part_back}
use Rattle.maker.specs.Rolls.{old_height, label_number, row_count}
use Rattle.maker.specs.Lists.{needed, listed, list_made, lists_for, lists_made, bundle_made}
use Rattle.maker.proofs.Listings.{listed_long}

-- a string begins with another
pub record Begins (x s : List ℕ) : Type 0 where
  pub rest : List ℕ
  pub is : s ≡ x ++ rest

begins_self : (x : List ℕ) → Begins x x
begins_self x = record { rest = []; is = sym (append-nil x) }

begins_then : {x y z : List ℕ} → Begins x y → Begins y z → Begins x z
begins_then {x} p q =
    record { rest = p.rest ++ q.rest; is = q.is ∙ ap (λ (l : List ℕ). l ++ q.rest) p.is ∙ append_assoc x p.rest q.rest }

begins_behind : (w : List ℕ) {x y : List ℕ} → Begins x y → Begins (w ++ x) (w ++ y)
begins_behind w {x} p = record { rest = p.rest; is = ap (λ (l : List ℕ). w ++ l) p.is ∙ sym (append_assoc w x p.rest) }

-- what is put together piece by piece begins with what it was
grows : (f g : ℕ → List ℕ) → ((n : ℕ) → f (suc n) ≡ f n ++ g n) → (r n : ℕ) → r ≤ n → Begins (f r) (f n)
grows f g next r zero h = let e : r ≡ 0 = omega arith in rw e (begins_self (f 0))
grows f g next r (suc n) h = go (grows f g next r n) (dec_lt r (suc n))
  where
    go : (r ≤ n → Begins (f r) (f n)) → Dec (r < suc n) → Begins (f r) (f (suc n))
    go earlier (yes l) = begins_then (earlier (omega arith)) (record { rest = g n; is = next n })
    go earlier (no l) = let e : r ≡ suc n = omega arith in rw e (begins_self (f (suc n)))

-- a count and its digests, read where they stand in a string
module _ (x d : List ℕ) (n : ℕ) (few : n ≤ most_added) (long : length d ≡ digest_bytes * n) {s : List ℕ} (b : Begins (x ++ (bytes_of 2 n ++ d)) s) where
  here_long : length (x ++ (bytes_of 2 n ++ d)) ≡ length x + (2 + digest_bytes * n)
  here_long = simp length-append (omega (arith, bytes_length 2 n, long))

  part_there : (at p m : ℕ) → at ≡ length x + p → p + m ≤ 2 + digest_bytes * n → take m (drop at s) ≡ take m (drop p (bytes_of 2 n ++ d))
  part_there at p m e h =
      ap (λ (l : List ℕ). take m (drop at l)) b.is
      ∙ part_front (x ++ (bytes_of 2 n ++ d)) b.rest at m (omega (arith, here_long))
      ∙ part_back x (bytes_of 2 n ++ d) p m at e

  within : length x + (2 + digest_bytes * n) ≤ length s
  within = omega (arith, ap length b.is ∙ length-append (x ++ (bytes_of 2 n ++ d)) b.rest, here_long)

  two_there : take 2 (drop (length x) s) ≡ bytes_of 2 n
  two_there =
      part_there (length x) 0 2 (omega arith) (omega arith)
      ∙ part_front (bytes_of 2 n) d 0 2 (omega (arith, bytes_length 2 n))
      ∙ take_all 2 (bytes_of 2 n) (omega (arith, bytes_length 2 n))

  count_read : two_byte s (length x) ≡ n
  unfolding two_byte
  count_read =
      let a = part_cons s (length x) 1 (omega (arith, within)) in
      let c = part_cons s (length x + 1) 0 (omega (arith, within)) in
      ap (λ (l : List ℕ). number_of (get_or s (length x) 0 ∷ l)) (sym c) ∙ ap number_of (sym a ∙ two_there) ∙ number_bytes 2 n (omega arith)

  digests_read : take (digest_bytes * n) (drop (length x + 2) s) ≡ d
  digests_read =
      part_there (length x + 2) 2 (digest_bytes * n) refl (omega arith)
      ∙ part_back (bytes_of 2 n) d 0 (digest_bytes * n) 2 (omega (arith, bytes_length 2 n))
      ∙ take_all (digest_bytes * n) d (omega arith)

-- the list of old entry i and row r, and what stands before it
abbrev pub count_for : List ℕ → ℕ → ℕ → ℕ
count_for e i r = needed e (label_number e r) i

abbrev pub digests_for : List ℕ → List ℕ → ℕ → ℕ → List ℕ
digests_for e store i r = listed store (label_number e r) (old_height e (label_number e r) i) (needed e (label_number e r) i)

unfoldable before_list : List ℕ → List ℕ → ℕ → ℕ → List ℕ
before_list e store i r = e ++ (lists_made e store i ++ lists_for e store i r)

-- the lists of a bundle that is made, whose counts fit
module _ (e store : List ℕ) (few : (i r : ℕ) → i < old_count e → r < row_count e → count_for e i r ≤ most_added) where
  module _ (i r : ℕ) (h : i < old_count e) (k : r < row_count e) where
    list_long : length (digests_for e store i r) ≡ digest_bytes * count_for e i r
    list_long = listed_long store (label_number e r) (old_height e (label_number e r) i) (count_for e i r)

    begins : Begins (before_list e store i (suc r)) (bundle_made e store)
    unfolding before_list lists_made bundle_made lists_for
    begins =
        begins_behind e
        (begins_then
        (begins_behind (lists_made e store i) (grows (lists_for e store i) (λ n. list_made e store i (label_number e n)) (λ n. refl) (suc r) (row_count e) k))
        (grows (lists_made e store) (λ n. lists_for e store n (row_count e)) (λ n. refl) (suc i) (old_count e) h))

    next_is : before_list e store i (suc r) ≡ before_list e store i r ++ (bytes_of 2 (count_for e i r) ++ digests_for e store i r)
    unfolding before_list lists_for list_made
    next_is =
        let list = list_made e store i (label_number e r) in
        ap (λ (l : List ℕ). e ++ l) (sym (append_assoc (lists_made e store i) (lists_for e store i r) list))
        ∙ sym (append_assoc e (lists_made e store i ++ lists_for e store i r) list)

    begins_here : Begins (before_list e store i r ++ (bytes_of 2 (count_for e i r) ++ digests_for e store i r)) (bundle_made e store)
    begins_here = subst (λ (l : List ℕ). Begins l (bundle_made e store)) next_is begins

    count_here : two_byte (bundle_made e store) (length (before_list e store i r)) ≡ count_for e i r
    count_here = count_read (before_list e store i r) (digests_for e store i r) (count_for e i r) (few i r h k) list_long begins_here

    next_long : length (before_list e store i (suc r)) ≡ length (before_list e store i r) + (2 + digest_bytes * count_for e i r)
    next_long =
        ap length next_is ∙ here_long (before_list e store i r) (digests_for e store i r) (count_for e i r) (few i r h k) list_long begins_here

    digests_here :
        take (digest_bytes * count_for e i r) (drop (length (before_list e store i r) + 2) (bundle_made e store)) ≡ digests_for e store i r
    digests_here = digests_read (before_list e store i r) (digests_for e store i r) (count_for e i r) (few i r h k) list_long begins_here

  module _ (front : list_at (bundle_made e store) 0 ≡ length e) where
    -- where the lists of an old entry begin, each of them begins where those before it end
    along :
        (i : ℕ) → i < old_count e → list_at (bundle_made e store) (row_count e * i) ≡ length (before_list e store i 0) → (r : ℕ) → r ≤ row_count e
        → list_at (bundle_made e store) (list_of (row_count e) i r) ≡ length (before_list e store i r)
    unfolding list_at
    along i h e0 zero k = let z : row_count e * i + 0 ≡ row_count e * i = omega arith in ap (list_at (bundle_made e store)) z ∙ e0
    along i h e0 (suc r) k =
        let z : row_count e * i + suc r ≡ suc (row_count e * i + r) = omega arith in
        ap (list_at (bundle_made e store)) z
        ∙ ap (λ (x : ℕ). x + (2 + digest_bytes * two_byte (bundle_made e store) x)) (along i h e0 r (omega arith))
        ∙ ap (λ (n : ℕ). length (before_list e store i r) + (2 + digest_bytes * n)) (count_here i r h k)
        ∙ sym (next_long i r h k)

    entry_at : (i : ℕ) → i ≤ old_count e → list_at (bundle_made e store) (row_count e * i) ≡ length (before_list e store i 0)
    unfolding before_list lists_made lists_for
    entry_at zero h =
        let z : row_count e * 0 ≡ 0 = omega arith in
        ap (list_at (bundle_made e store)) z ∙ front ∙ sym (ap length (append-nil e))
    entry_at (suc i) h =
        ap (list_at (bundle_made e store)) (mul-suc (row_count e) i)
        ∙ along i h (entry_at i (omega arith)) (row_count e) (omega arith)
        ∙ ap (λ (l : List ℕ). length (e ++ l)) (sym (append-nil (lists_made e store i ++ lists_for e store i (row_count e))))

    module _ (i r : ℕ) (h : i < old_count e) (k : r < row_count e) where
      at_list : list_at (bundle_made e store) (list_of (row_count e) i r) ≡ length (before_list e store i r)
      at_list = along i h (entry_at i (omega arith)) r (omega arith)

      pub added_made : added (bundle_made e store) (list_of (row_count e) i r) ≡ count_for e i r
      added_made = ap (two_byte (bundle_made e store)) at_list ∙ count_here i r h k

      pub digests_made : digests (bundle_made e store) (list_of (row_count e) i r) ≡ digests_for e store i r
      unfolding digests
      digests_made =
          ap₂ (λ (n x : ℕ). take (digest_bytes * n) (drop (x + 2) (bundle_made e store))) added_made at_list ∙ digests_here i r h k

    pub lists_end : list_at (bundle_made e store) (row_count e * old_count e) ≡ length (bundle_made e store)
    unfolding before_list lists_for bundle_made
    lists_end = entry_at (old_count e) (omega arith) ∙ ap (λ (l : List ℕ). length (e ++ l)) (append-nil (lists_made e store (old_count e)))
