-- Laws of a walk over the old entries: each lies within, has a roll, and adds a row of the label. Assumes nothing.
use mathlib.Core.Path.{◌≡◌}
use mathlib.Core.Bool.{true, false, cond}
use mathlib.Core.List.{List}
use Prim.Native.Nat.{ℕ, ◌+◌, ◌*◌, ◌<◌, ◌≤◌}
use native.Mathlib.Numerals.{add-one}
use native.Mathlib.Omega.{arith}
use lib.ListN.{length, take, drop}
use lib.Dec.{ltb}
use Rattle.octets.specs.Layouts.{holds}
use Rattle.octets.specs.Strings.{all_zero, before}
use Rattle.rows.proofs.Tables.{each_of}
use Rattle.roll.specs.Blocks.{block_bytes}
use Rattle.roll.specs.Roll.{roll_layout}
use Rattle.roll.specs.Places.{Spread}
use Rattle.roll.proofs.Spreads.{roll_spread}
use Rattle.rules.specs.Bundle.{byte, old_count, old_at, old_roll}
use Rattle.rules.specs.Derivation.{roll_of}
use Rattle.bundle.proofs.Places.{old_before_new}
use Rattle.maker.specs.Rolls.{old_height, old_tail, highest_of, nearest, nearest_in, next_of}
use Rattle.gathering.specs.Old.{Given, row_of}

module _ {e : List ℕ} (g : Given e) where
  -- the first byte is there
  pub some_byte : 0 < length e
  some_byte = omega (arith, g.within)

  -- an old entry, where a walk is at it
  module _ (i at : ℕ) (placed : at ≡ old_at e i) (below : i < old_count e) where
    pub entry_lies : at + (3 + block_bytes * byte e (at + 2)) ≤ length e
    entry_lies = rw placed (omega (arith, g.within, old_before_new e i below))

    pub head_lies : at + 3 ≤ length e
    head_lies = omega (arith, entry_lies)

  pub roll_holds : (i : ℕ) → i < old_count e → holds roll_layout (old_roll e i) ≡ true
  roll_holds i h = each_of (λ (i : ℕ). holds roll_layout (old_roll e i)) (old_count e) i h g.rolls

  pub roll_spreads : (i : ℕ) → i < old_count e → Spread (old_roll e i)
  roll_spreads i h = roll_spread (old_roll e i) (roll_holds i h)

pub roll_cut : (e : List ℕ) (i at : ℕ) → at ≡ old_at e i → take (block_bytes * byte e (at + 2)) (drop (at + 3) e) ≡ old_roll e i
unfolding old_roll
roll_cut e i at p = rw p

pub highest_next :
    (e label : List ℕ) (i : ℕ)
    → highest_of e label (i + 1)
    ≡ cond (ltb (highest_of e label i).height (row_of (old_roll e i) label).height) (row_of (old_roll e i) label) (highest_of e label i)
unfolding highest_of old_height old_tail row_of
highest_next e label i = rw (add-one i)

pub next_next :
    (e last : List ℕ) (i : ℕ) → next_of e last (i + 1) ≡ nearest_in (roll_of e i) last (next_of e last i) (roll_of e i).count
unfolding next_of
next_next e last i = rw (add-one i)

-- the label that is nearer, by the tests in turn
module _ (last best label : List ℕ) where
  pub not_after : before last label ≡ false → nearest last best label ≡ best
  unfolding nearest
  not_after h = rw h

  module _ (h : before last label ≡ true) where
    pub first_found : all_zero best ≡ true → nearest last best label ≡ label
    unfolding nearest
    first_found k = rw (h, k)

    module _ (k : all_zero best ≡ false) where
      pub nearer_found : before label best ≡ true → nearest last best label ≡ label
      unfolding nearest
      nearer_found l = rw (h, k, l)

      pub farther : before label best ≡ false → nearest last best label ≡ best
      unfolding nearest
      farther l = rw (h, k, l)
