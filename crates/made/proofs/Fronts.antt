-- Two strings that agree as far as the lists of the one begin have the same entries. Assumes nothing.
use mathlib.Core.Path.{◌≡◌, refl, sym, ap, ap₂, ◌∙◌}
use mathlib.Core.List.{List}
use Prim.Native.Nat.{ℕ, zero, suc, ◌+◌, ◌*◌, ◌≤◌, ◌<◌}
use native.Mathlib.Omega.{arith}
use lib.ListN.{get_or, take, drop}
use lib.Seq.{get_or-take, take-take}
use Rattle.octets.proofs.Parts.{drop-take}
use Rattle.roll.specs.Blocks.{block_bytes}
use Rattle.roll.specs.Roll.{roll_layout}
use Rattle.rules.specs.Bundle.{byte, old_count, old_at, old_position, old_marks, old_blocks, old_roll, new_at, new_count, new_entries, list_at}
use Rattle.rules.specs.Derivation.{roll_of}
use Rattle.bundle.proofs.Places.{list_first, new_some, old_before_new, new_before_lists}

module _ (s t : List ℕ) (n : ℕ) (alike : take n s ≡ take n t) where
  byte-alike : (i : ℕ) → i < n → byte t i ≡ byte s i
  byte-alike i h = sym (get_or-take n t i 0 h) ∙ sym (ap (λ (l : List ℕ). get_or l i 0) alike) ∙ get_or-take n s i 0 h

  part_alike : (at m : ℕ) → at + m ≤ n → take m (drop at t) ≡ take m (drop at s)
  part_alike at m h =
      sym (drop-take at m t)
      ∙ ap (drop at) (sym (take-take (at + m) n t h) ∙ sym (ap (take (at + m)) alike) ∙ take-take (at + m) n s h)
      ∙ drop-take at m s

  module _ (within : list_at s 0 ≤ n) where
    new_ends : new_at s + (1 + 2 * new_count s) ≤ n
    new_ends = omega (arith, new_before_lists s 0, within)

    pub count_alike : old_count t ≡ old_count s
    count_alike = byte-alike 0 (omega (arith, new_some s, new_ends))

    module _ (i : ℕ) (h : i < old_count s) where
      old_ends : old_at s i + (3 + block_bytes * old_blocks s i) ≤ n
      old_ends = omega (arith, old_before_new s i h, new_ends)

    at_alike : (i : ℕ) → i ≤ old_count s → old_at t i ≡ old_at s i
    unfolding old_at
    at_alike zero h = refl
    at_alike (suc i) h =
        ap (λ (x : ℕ). x + (3 + block_bytes * byte t (x + 2))) (at_alike i (omega arith))
        ∙ ap (λ (b : ℕ). old_at s i + (3 + block_bytes * b)) (byte-alike (old_at s i + 2) (omega (arith, old_ends i (omega arith))))

    module _ (i : ℕ) (h : i < old_count s) where
      pub position_alike : old_position t i ≡ old_position s i
      position_alike = ap (byte t) (at_alike i (omega arith)) ∙ byte-alike (old_at s i) (omega (arith, old_ends i h))

      pub old_marks_alike : old_marks t i ≡ old_marks s i
      old_marks_alike = ap (λ (x : ℕ). byte t (x + 1)) (at_alike i (omega arith)) ∙ byte-alike (old_at s i + 1) (omega (arith, old_ends i h))

      pub blocks_alike : old_blocks t i ≡ old_blocks s i
      blocks_alike = ap (λ (x : ℕ). byte t (x + 2)) (at_alike i (omega arith)) ∙ byte-alike (old_at s i + 2) (omega (arith, old_ends i h))

      pub blocks_of_alike : old_roll t i ≡ old_roll s i
      unfolding old_roll
      blocks_of_alike =
          ap₂ (λ (x b : ℕ). take (block_bytes * b) (drop (x + 3) t)) (at_alike i (omega arith)) blocks_alike
          ∙ part_alike (old_at s i + 3) (block_bytes * old_blocks s i) (omega (arith, old_ends i h))

      pub roll_alike : roll_of t i ≡ roll_of s i
      roll_alike = ap roll_layout.cut blocks_of_alike

    new_at_alike : new_at t ≡ new_at s
    unfolding new_at
    new_at_alike = ap (old_at t) count_alike ∙ at_alike (old_count s) (omega arith)

    pub new_count_alike : new_count t ≡ new_count s
    new_count_alike = ap (byte t) new_at_alike ∙ byte-alike (new_at s) (omega (arith, new_ends))

    pub new_entries_alike : new_entries t ≡ new_entries s
    unfolding new_entries
    new_entries_alike =
        ap₂ (λ (x c : ℕ). take (2 * c) (drop (x + 1) t)) new_at_alike new_count_alike
        ∙ part_alike (new_at s + 1) (2 * new_count s) (omega (arith, new_ends))

    pub lists_alike : list_at t 0 ≡ list_at s 0
    lists_alike = list_first t ∙ ap₂ (λ (x c : ℕ). x + (1 + 2 * c)) new_at_alike new_count_alike ∙ sym (list_first s)
