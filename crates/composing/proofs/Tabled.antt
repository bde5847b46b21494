-- The new roll's table in the place of its labels: what is needed and listed by it is what the rule says. Assumes nothing.
use mathlib.Core.Path.{◌≡◌, refl, ap, ap₂}
use mathlib.Core.List.{List, ◌++◌}
use Prim.Native.Nat.{ℕ, zero, suc, ◌<◌, ◌≤◌}
use native.Mathlib.Omega.{arith}
use Rattle.octets.specs.Numbers.{bytes_of}
use Rattle.rows.specs.Row.{label_of}
use Rattle.rules.specs.Bundle.{old_count, old_roll}
use Rattle.maker.specs.Rolls.{old_height, label_number, row_count, roll_made}
use Rattle.maker.specs.Lists.{needed, listed, list_made, lists_for, lists_made, bundle_made}
use Rattle.maker.proofs.OldLabels.{RollsHold}
use Rattle.maker.proofs.RollsMade.{made_label, made_height}
use Rattle.gathering.specs.Old.{row_of}
use Rattle.composing.specs.Sizes.{need_of}
use Rattle.composing.specs.Written.{lists_by, lists_of}

module _ (e : List ℕ) (held : RollsHold e) where
  abbrev table : List ℕ
  table = (roll_made e).rows

  module _ (i r : ℕ) (h : r < row_count e) where
    pub row_height : (row_of (old_roll e i) (label_of table r)).height ≡ old_height e (label_number e r) i
    unfolding row_of old_height
    row_height = rw (made_label e held r h)

    pub need_is : need_of (old_roll e i) table r ≡ needed e (label_number e r) i
    unfolding need_of needed
    need_is = rw (row_height, made_height e held r h)

    pub list_is :
        (store : List ℕ)
        → bytes_of 2 (need_of (old_roll e i) table r)
        ++ listed store (label_of table r) (row_of (old_roll e i) (label_of table r)).height (need_of (old_roll e i) table r)
        ≡ list_made e store i (label_number e r)
    unfolding list_made
    list_is store = rw (need_is, row_height, made_label e held r h)

  pub lists_are : (store : List ℕ) (i n : ℕ) → n ≤ row_count e → lists_by (old_roll e i) store table n ≡ lists_for e store i n
  unfolding lists_by lists_for
  lists_are store i zero h = refl
  lists_are store i (suc n) h = ap₂ (λ (a b : List ℕ). a ++ b) (lists_are store i n (omega arith)) (list_is i n h store)

  pub all_lists : (store : List ℕ) (n : ℕ) → lists_of e store table (row_count e) n ≡ lists_made e store n
  unfolding lists_of lists_made
  all_lists store zero = refl
  all_lists store (suc n) = ap₂ (λ (a b : List ℕ). a ++ b) (all_lists store n) (lists_are store n (row_count e) (omega arith))

  pub bundle_is : (store : List ℕ) → e ++ lists_of e store table (row_count e) (old_count e) ≡ bundle_made e store
  unfolding bundle_made
  bundle_is store = ap (λ (l : List ℕ). e ++ l) (all_lists store (old_count e))
