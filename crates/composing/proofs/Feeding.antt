-- Where all labels are led, the store answers what each list needs. Assumes nothing.
use mathlib.Core.Path.{◌≡◌}
use mathlib.Core.Bool.{true}
use mathlib.Core.List.{List}
use Prim.Native.Nat.{ℕ, suc, ◌+◌, ◌<◌, ◌≤◌}
use native.Mathlib.Omega.{arith}
use Rattle.octets.proofs.RoundTrips.{and_left}
use Rattle.octets.specs.Strings.{same}
use Rattle.rows.specs.Row.{label_of}
use Rattle.rows.specs.Table.{each}
use Rattle.rows.proofs.Tables.{each_of}
use Rattle.rules.specs.Bundle.{most_added, old_count, old_roll}
use Rattle.rules.specs.Derivation.{grown, roll_of}
use Rattle.maker.specs.Rolls.{old_height, old_tail, highest, label_number, row_count, roll_made}
use Rattle.maker.specs.Lists.{answered, needed, listed, leads, led, roll_led, all_led}
use Rattle.maker.proofs.OldLabels.{RollsHold, OldLabel, number_old, row_some}
use Rattle.maker.proofs.Tops.{highest_most, highest_low}
use Rattle.maker.proofs.RollsMade.{made_label}
use Rattle.composing.specs.Sizes.{need_of}
use Rattle.composing.specs.Written.{AllFed}
use Rattle.composing.proofs.Tabled.{row_height, need_is}

module _ (e store : List ℕ) (held : RollsHold e) where
  label-led : all_led e store ≡ true → (label : List ℕ) → OldLabel e label → led e store label ≡ true
  unfolding all_led roll_led
  label-led a label o =
      rw o.label_is at
      (each_of (λ (q : ℕ). led e store (label_of (roll_of e o.entry).rows q)) (roll_of e o.entry).count o.row o.row_is
      (each_of (roll_led e store) (old_count e) o.entry o.entry_is a))

  answers_all : (label : List ℕ) → led e store label ≡ true → (i : ℕ) → i < old_count e
      → each (λ (d : ℕ). answered store label (old_height e label i + suc d)) (needed e label i) ≡ true
  unfolding led leads
  answers_all label a i h =
      and_left (each (λ (d : ℕ). answered store label (old_height e label i + suc d)) (needed e label i))
      (same (grown (old_tail e label i) (listed store label (old_height e label i) (needed e label i)) (needed e label i)) (highest e label).tail)
      (each_of (leads e store label) (old_count e) i h a)

  pub all_fed :
      all_led e store ≡ true
      → ((i : ℕ) → i < old_count e → (r : ℕ) → r < row_count e → need_of (old_roll e i) (roll_made e).rows r ≤ most_added)
      → AllFed e store (roll_made e).rows (row_count e)
  unfolding needed
  all_fed a few i h r k =
      let label = label_number e r in
      record {
        few = few i h r k;
        low = omega (arith, row_height e held i r k, need_is e held i r k, highest_most e held label i h, highest_low e held label);
        answers =
            rw (row_height e held i r k, need_is e held i r k, made_label e held r k)
            (answers_all label (label-led a label (number_old e held r (row_some e held r k))) i h);
      }
