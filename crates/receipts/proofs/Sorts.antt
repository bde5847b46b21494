-- What a block is that is a rack's or a receipt's. Assumes nothing.
use mathlib.Core.Path.{◌≡◌, refl, sym}
use mathlib.Core.Bool.{Bool, true, false, cond}
use mathlib.Core.List.{List}
use Prim.Native.Nat.{ℕ, ◌≤◌}
use native.Mathlib.Omega.{arith}
use borrow.Author.Tests.{eqb-true, leb-true}
use lib.ListN.{length}
use lib.Dec.{eqb, leb}
use Rattle.octets.proofs.RoundTrips.{and_left, and_right}
use Rattle.rack.specs.Racks.{most}
use Rattle.statement.specs.Kinds.{reading_size}
use Rattle.checks.specs.Check.{block_bytes, check_right}
use Rattle.receipts.specs.Block.{rack_type, receipt_type, type_in, key_count, rack_sound, length_in, count_in, receipt_sound, whole, sort}

module _ (b : List ℕ) where
  -- which of the tests a type tells of
  pub is_whole : (k : ℕ) → sort b ≡ k → (k ≡ 0 → ⊥) → whole b ≡ true
  unfolding sort
  is_whole k e n = go (whole b) refl e
    where
      go : (w : Bool) → whole b ≡ w → cond w (cond (rack_sound b) 1 (cond (receipt_sound b) 2 0)) 0 ≡ k → whole b ≡ true
      go true h f = h
      go false h f = absurd (n (sym f))

  pub is_rack_sort : sort b ≡ rack_type → rack_sound b ≡ true
  unfolding sort
  is_rack_sort e = go (whole b) (rack_sound b) (receipt_sound b) e
    where
      go : (w r s : Bool) → ◌≡◌ {A = ℕ} (cond w (cond r 1 (cond s 2 0)) 0) 1 → r ≡ true
      go true true s f = refl
      go true false true f = absurd (omega arith)
      go true false false f = absurd (omega arith)
      go false r s f = absurd (omega arith)

  pub is_receipt_sort : sort b ≡ receipt_type → receipt_sound b ≡ true
  unfolding sort
  is_receipt_sort e = go (whole b) (rack_sound b) (receipt_sound b) e
    where
      go : (w r s : Bool) → ◌≡◌ {A = ℕ} (cond w (cond r 1 (cond s 2 0)) 0) 2 → s ≡ true
      go true true s f = absurd (omega arith)
      go true false true f = refl
      go true false false f = absurd (omega arith)
      go false r s f = absurd (omega arith)

  pub whole_length : whole b ≡ true → length b ≡ block_bytes
  unfolding whole
  whole_length h = eqb-true (length b) block_bytes (and_left (eqb (length b) block_bytes) (check_right b) h)

  pub rack_keys : rack_sound b ≡ true → key_count b ≤ most
  unfolding rack_sound
  rack_keys h = leb-true (key_count b) most (and_left (leb (key_count b) most) _ (and_right (eqb (type_in b) rack_type) _ h))

  pub receipt_length : receipt_sound b ≡ true → length_in b ≤ reading_size
  unfolding receipt_sound
  receipt_length h = leb-true (length_in b) reading_size (and_left (leb (length_in b) reading_size) _ (and_right (eqb (type_in b) receipt_type) _ h))

  pub receipt_count : receipt_sound b ≡ true → count_in b ≤ most
  unfolding receipt_sound
  receipt_count h =
      leb-true (count_in b) most
      (and_left (leb (count_in b) most) _ (and_right (leb (length_in b) reading_size) _ (and_right (eqb (type_in b) receipt_type) _ h)))

-- all of these, for a proof that goes by the sort
pub ruleset of_sorts = (is_whole, is_rack_sort, is_receipt_sort, whole_length, rack_keys, receipt_length, receipt_count)
