-- The kind of a string, and the string again from its parts. Assumes nothing.
use mathlib.Core.Path.{◌≡◌, refl, sym, ap, ◌∙◌}
use mathlib.Core.Bool.{Bool, true, false, cond}
use mathlib.Core.List.{List, ◌∷◌, ◌++◌, append_assoc}
use Prim.Native.Nat.{ℕ, ◌+◌, ◌≤◌, ◌<◌}
use native.Mathlib.Omega.{arith}
use borrow.Author.Tests.{eqb-true}
use lib.ListN.{length, get_or, drop, length-drop}
use lib.Seq.{take_all}
use lib.Dec.{eqb}
use Rattle.octets.specs.Numbers.{bytes_of}
use Rattle.octets.proofs.Exact.{Octets}
use Rattle.octets.proofs.Parts.{drop_next}
use Rattle.octets.proofs.RoundTrips.{and_left, and_right}
use Rattle.statement.specs.declared.Kind.{Kind}
use Rattle.statement.specs.declared.Kind.TheVariants.{Blank, New, Append, Read, Finalise, Initialise}
use Rattle.statement.specs.Kinds.{kind_number, size, handover_size, digest_bytes, label_bytes, number_bytes}
use Rattle.statement.specs.Kinds.{identity_place, first_place, second_place, third_place, label_place, tail_place, height_place, nonce_place, nonce_half, digest_at, label_at, number_at}
use Rattle.statement.specs.Contents.{receipt, body, statement_written}
use Rattle.statement.specs.Cut.{starts, kind_at, receipt_at, handover_at, cut_as}
use Rattle.statement.proofs.Fields.{joined, number_field}

-- the numbers that a kind has stand in a string
abbrev pub Stands : Kind → List ℕ → Type 0
Stands Blank s = Unit {0}
Stands New s = number_at height_place s ≡ 0
Stands (Append height) s = number_at height_place s ≡ height
Stands (Read height nonce-high nonce-low) s =
    (number_at height_place s ≡ height) × (number_at nonce_place s ≡ nonce-high) × (number_at nonce_half s ≡ nonce-low)
Stands Finalise s = Unit {0}
Stands Initialise s = Unit {0}

-- a string begins as one of a kind, and is as long
pub record Of (k : Kind) (s : List ℕ) : Type 0 where
  pub sized : length s ≡ size k
  pub named : get_or s 0 0 ≡ kind_number k
  pub stands : Stands k s

by_test : (P : Kind → Type 0) (b : Bool) (x y : Kind) → (b ≡ true → P x) → P y → P (cond b x y)
by_test P true x y f g = f refl
by_test P false x y f g = g

-- what a test of the first byte and the length shows
pub starts-length : (k : Kind) (s : List ℕ) → starts k s ≡ true → length s ≡ size k
starts-length k s e = eqb-true (length s) (size k) (and_left (eqb (length s) (size k)) (eqb (get_or s 0 0) (kind_number k)) e)

pub starts_number : (k : Kind) (s : List ℕ) → starts k s ≡ true → get_or s 0 0 ≡ kind_number k
starts_number k s e = eqb-true (get_or s 0 0) (kind_number k) (and_right (eqb (length s) (size k)) (eqb (get_or s 0 0) (kind_number k)) e)

of_starts : (k : Kind) (s : List ℕ) → starts k s ≡ true → Stands k s → Of k s
of_starts k s e n = record { sized = starts-length k s e; named = starts_number k s e; stands = n }

abbrev Known : List ℕ → Kind → Type 0
Known s k = 0 < kind_number k → Of k s

-- where a string has a kind, it is one of that kind
pub of_kind : (s : List ℕ) → 0 < kind_number (kind_at s) → Of (kind_at s) s
unfolding kind_at
of_kind s =
    by_test (Known s) (starts New s) _ _
    (λ e. by_test (Known s) (eqb (number_at height_place s) 0) New Blank (λ z p. of_starts New s e (eqb-true (number_at height_place s) 0 z)) (λ p. absurd (omega arith)))
    (by_test (Known s) (starts (Append (number_at height_place s)) s) _ _ (λ e p. of_starts (Append (number_at height_place s)) s e refl)
    (by_test (Known s) (starts (Read (number_at height_place s) (number_at nonce_place s) (number_at nonce_half s)) s) _ _
    (λ e p. of_starts (Read (number_at height_place s) (number_at nonce_place s) (number_at nonce_half s)) s e (refl, refl, refl))
    (by_test (Known s) (starts Finalise s) _ _ (λ e p. of_starts Finalise s e tt)
    (by_test (Known s) (starts Initialise s) Initialise Blank (λ e p. of_starts Initialise s e tt) (λ p. absurd (omega arith))))))

pub kind_sized : (k : Kind) (s : List ℕ) → 0 < kind_number k → k ≡ kind_at s → length s ≡ size k
kind_sized k s p e = let o : Of k s = rw (← e) at (of_kind s (rw (← e) p)) in o.sized

-- and the other way
pub kind_of : (k : Kind) (s : List ℕ) → 0 < kind_number k → Of k s → kind_at s ≡ k
unfolding kind_at
kind_of Blank s p o = absurd (omega arith)
kind_of New s p o = rw (o.sized, o.named, o.stands)
kind_of (Append height) s p o = rw (o.sized, o.named, o.stands)
kind_of (Read height nonce-high nonce-low) s p o = rw (o.sized, o.named, o.stands.0, o.stands.1, o.stands.2)
kind_of Finalise s p o = rw (o.sized, o.named)
kind_of Initialise s p o = rw (o.sized, o.named)

module _ (s : List ℕ) (n : ℕ) (long : 0 < length s) (first : get_or s 0 0 ≡ n) where
  front : n ∷ drop 1 s ≡ s
  front = rw (← first) (sym (drop_next s 0 long))

  -- the fields of a receipt in a row are the string
  receipt_string :
      (z : List ℕ) → z ≡ drop height_place s
      → n ∷ (digest_at identity_place s ++ (digest_at first_place s ++ (label_at label_place s ++ (digest_at tail_place s ++ z)))) ≡ s
  receipt_string z e = rw (e, joined s tail_place digest_bytes, joined s label_place label_bytes, joined s first_place digest_bytes, joined s identity_place digest_bytes) front

  -- and those of a handover statement
  handover_string :
      length s ≡ handover_size
      → n ∷ (digest_at identity_place s ++ (digest_at first_place s ++ (digest_at second_place s ++ digest_at third_place s))) ≡ s
  handover_string l =
      let e : digest_at third_place s ≡ drop third_place s = take_all digest_bytes (drop third_place s) (omega (arith, length-drop third_place s)) in
      rw (e, joined s second_place digest_bytes, joined s first_place digest_bytes, joined s identity_place digest_bytes) front

module _ (s : List ℕ) (o : Octets s) where
  -- the last number of a string
  last_number : (i : ℕ) → length s ≡ i + number_bytes → bytes_of number_bytes (number_at i s) ≡ drop i s
  last_number i l = number_field s i number_bytes o (omega arith) ∙ take_all number_bytes (drop i s) (omega (arith, length-drop i s))

  -- and one before it
  next_number : (i : ℕ) (z : List ℕ) → i + number_bytes ≤ length s → z ≡ drop (i + number_bytes) s → bytes_of number_bytes (number_at i s) ++ z ≡ drop i s
  next_number i z l e = rw (e, number_field s i number_bytes o l) (joined s i number_bytes)

  -- a string of a kind is written again from its fields
  pub written_again : (k : Kind) → 0 < kind_number k → Of k s → statement_written (cut_as k s) ≡ s
  unfolding receipt body statement_written receipt_at handover_at cut_as
  written_again Blank p h = absurd (omega arith)
  written_again New p h =
      simp append_assoc (receipt_string s (kind_number New) (omega (arith, h.sized)) h.named (bytes_of number_bytes 0) (ap (bytes_of number_bytes) (sym h.stands) ∙ last_number height_place h.sized))
  written_again (Append x) p h =
      simp append_assoc (receipt_string s (kind_number (Append x)) (omega (arith, h.sized)) h.named (bytes_of number_bytes x) (ap (bytes_of number_bytes) (sym h.stands) ∙ last_number height_place h.sized))
  written_again (Read x y z) p h =
      simp append_assoc
      (receipt_string s (kind_number (Read x y z)) (omega (arith, h.sized)) h.named (bytes_of number_bytes x ++ (bytes_of number_bytes y ++ bytes_of number_bytes z))
      (rw (← h.stands.0, ← h.stands.1, ← h.stands.2)
      (next_number height_place (bytes_of number_bytes (number_at nonce_place s) ++ bytes_of number_bytes (number_at nonce_half s)) (omega (arith, h.sized))
      (next_number nonce_place (bytes_of number_bytes (number_at nonce_half s)) (omega (arith, h.sized)) (last_number nonce_half h.sized)))))
  written_again Finalise p h = simp append_assoc (handover_string s (kind_number Finalise) (omega (arith, h.sized)) h.named h.sized)
  written_again Initialise p h = simp append_assoc (handover_string s (kind_number Initialise) (omega (arith, h.sized)) h.named h.sized)
