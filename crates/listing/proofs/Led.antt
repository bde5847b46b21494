-- Laws of the labels that are led: an old roll's row leads as the walk finds it, and what an earlier roll showed of a label holds. Assumes nothing.
use mathlib.Core.Path.{◌≡◌, refl}
use mathlib.Core.Bool.{Bool, true, false}
use mathlib.Core.List.{List}
use Prim.Native.Nat.{ℕ, ◌<◌, ◌≤◌}
use native.Mathlib.Omega.{arith}
use borrow.Author.Tests.{not-true}
use Rattle.rows.specs.Row.{label_of}
use Rattle.rows.specs.Table.{each}
use Rattle.rows.specs.Search.{find}
use Rattle.rows.proofs.Tables.{each_of}
use Rattle.rules.specs.Rows.{is_absent}
use Rattle.rules.specs.Bundle.{old_count, old_roll}
use Rattle.rules.specs.Derivation.{some, roll_of}
use Rattle.rules.proofs.Somes.{some_none}
use Rattle.maker.specs.Rolls.{old_height, old_tail, highest}
use Rattle.maker.specs.Lists.{needed, leads, led, roll_led}
use Rattle.maker.proofs.Orders.{never}
use Rattle.maker.proofs.OldLabels.{RollsHold, old_fits}
use Rattle.maker.proofs.Tops.{there_is, highest_most}
use Rattle.gathering.specs.Old.{row_of}
use Rattle.listing.specs.Leading.{leads_on, has_label}

module _ (e store label : List ℕ) (i : ℕ) where
  pub leads_is : leads_on store label (row_of (old_roll e i) label) (highest e label) ≡ leads e store label i
  unfolding leads_on leads needed row_of old_height old_tail
  leads_is = refl

  pub lower : RollsHold e → i < old_count e → (row_of (old_roll e i) label).height ≤ (highest e label).height
  unfolding row_of old_height
  lower held h = highest_most e held label i h

module _ (e store : List ℕ) (held : RollsHold e) (label : List ℕ) where
  led_there : (i : ℕ) → i < old_count e → roll_led e store i ≡ true → has_label (old_roll e i) label ≡ true → led e store label ≡ true
  unfolding has_label roll_led
  led_there i h r k =
      let p = there_is (roll_of e i).count (roll_of e i).rows (old_fits e held i h) label
      (not-true (is_absent (find (roll_of e i).count (roll_of e i).rows label)) k) in
      rw p.is at (each_of (λ (q : ℕ). led e store (label_of (roll_of e i).rows q)) (roll_of e i).count p.place p.below r)

  has_not : (i : ℕ) → i < old_count e → roll_led e store i ≡ true → led e store label ≡ false → has_label (old_roll e i) label ≡ false
  has_not i h r p = go (has_label (old_roll e i) label) refl
    where
      go : (b : Bool) → has_label (old_roll e i) label ≡ b → has_label (old_roll e i) label ≡ false
      go false k = k
      go true k = never (led e store label) (led_there i h r k) p

  pub early_led :
      (n : ℕ) → n ≤ old_count e → each (roll_led e store) n ≡ true → some (λ (i : ℕ). has_label (old_roll e i) label) n ≡ true → led e store label ≡ true
  early_led n h a s = go (led e store label) refl
    where
      go : (b : Bool) → led e store label ≡ b → led e store label ≡ true
      go true p = p
      go false p =
          never (some (λ (i : ℕ). has_label (old_roll e i) label) n) s
          (some_none (λ (i : ℕ). has_label (old_roll e i) label) n (λ i l. has_not i (omega arith) (each_of (roll_led e store) n i l a) p))
