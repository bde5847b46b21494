-- Laws of the places of a bundle's parts, walked from one to the next, and of the parts that are cut out there. Assumes nothing.
use mathlib.Core.Path.{◌≡◌, sym, ap, ◌∙◌}
use mathlib.Core.List.{List}
use Prim.Native.Nat.{ℕ, ◌+◌, ◌*◌, ◌/◌, ◌<◌, ◌≤◌}
use native.Mathlib.Nat.{mul-le-mul_left}
use native.Mathlib.Omega.{arith}
use lib.ListN.{length, drop, length-drop}
use lib.Seq.{length-take-le}
use Rattle.rows.specs.Sizes.{most_rows}
use Rattle.statement.specs.Kinds.{digest_bytes}
use Rattle.rules.specs.Bundle.{old_count, old_at, new_at, new_count, two_byte, list_at, added, digests}
use Rattle.bundle.proofs.Places.{old_next, list_next, list_later, list_ends, old_before_new, new_before_lists}
use Rattle.handover.specs.Asked.{Laid}

module _ (s : List ℕ) where
  -- the end of a list, where a walk is at it
  pub list_step : (j at end : ℕ) → at ≡ list_at s j → end ≡ at + (2 + digest_bytes * two_byte s at) → end ≡ list_at s (j + 1)
  list_step j at end p q = q ∙ ap (λ (k : ℕ). k + (2 + digest_bytes * two_byte s k)) p ∙ sym (list_next s j)

  pub digests_count : (j : ℕ) → list_at s j + (2 + digest_bytes * added s j) ≤ length s → length (digests s j) / digest_bytes ≡ added s j
  unfolding digests
  digests_count j h =
      let n : length (digests s j) ≡ digest_bytes * added s j = length-take-le (digest_bytes * added s j) (drop (list_at s j + 2) s) (omega (arith, length-drop (list_at s j + 2) s)) in
      omega arith

pub few_lists : (rows i : ℕ) → rows ≤ most_rows → i < 256 → rows * i ≤ 16128
few_lists rows i h k = omega (arith, mul-le-mul_left {m = i} {n = 256} rows (omega arith))

-- where the parts lie within
module _ {rows : ℕ} {s : List ℕ} (l : Laid rows s) where
  pub list_begins : (j : ℕ) → j ≤ rows * old_count s → list_at s j ≤ length s
  list_begins j h = omega (arith, l.ends, list_later s j (rows * old_count s) h)

  pub list_lies : (j : ℕ) → j < rows * old_count s → list_at s j + (2 + digest_bytes * added s j) ≤ length s
  list_lies j h = omega (arith, l.ends, list_ends s j (rows * old_count s) h)

  pub new_lies : new_at s + (1 + 2 * new_count s) ≤ length s
  new_lies = omega (arith, l.ends, new_before_lists s (rows * old_count s))

  pub old_lies : (i : ℕ) → i < old_count s → old_at s (i + 1) ≤ length s
  old_lies i h = omega (arith, new_lies, old_next s i, old_before_new s i h)
