-- Laws of the rows put into the table one after the other. Assumes nothing.
use mathlib.Core.Path.{◌≡◌, refl, sym, ap, ◌∙◌}
use mathlib.Core.Bool.{false}
use mathlib.Core.List.{List, ◌++◌}
use Prim.Native.Nat.{ℕ, zero, suc, ◌+◌, ◌*◌, ◌<◌, ◌≤◌}
use native.Mathlib.Numerals.{add-one}
use native.Mathlib.Omega.{arith}
use lib.ListN.{length, replicate, length-append}
use Rattle.octets.specs.Numbers.{bytes_of}
use Rattle.octets.specs.Strings.{all_zero, put}
use Rattle.octets.proofs.Numbers.{bytes_length}
use Rattle.octets.proofs.Puts.{put-put}
use Rattle.rows.specs.Sizes.{row_bytes, most_rows, table_bytes}
use Rattle.roll.specs.Roll.{filled}
use Rattle.roll.proofs.Strings.{put-filled}
use Rattle.rules.specs.Bundle.{old_count}
use Rattle.statement.specs.Cut.{no_label}
use Rattle.maker.specs.Rolls.{highest, next_of, label_number, row_made, rows_made}
use Rattle.maker.proofs.OldLabels.{RollsHold, number_long}
use Rattle.maker.proofs.Tops.{highest_long}

-- the parts of a row, put one behind the other
pub row_put :
    (d label tail : List ℕ) (height at : ℕ) → length label ≡ 16 → length tail ≡ 32 → at + row_bytes ≤ length d
    → put (put (put d at label) (at + 16) tail) (at + 16 + 32) (bytes_of 8 height) ≡ put d at (label ++ tail ++ bytes_of 8 height)
row_put d label tail height at l t h =
    ap (λ (s : List ℕ). put s (at + 16 + 32) (bytes_of 8 height)) (put-put d at label tail (at + 16) (omega arith) (omega arith))
    ∙ put-put d at (label ++ tail) (bytes_of 8 height) (at + 16 + 32) (omega (arith, length-append label tail))
    (omega (arith, length-append label tail, bytes_length 8 height))

module _ (e : List ℕ) where
  -- the label after which number r is the first
  unfoldable pub last_of : ℕ → List ℕ
  last_of zero = no_label
  last_of (suc r) = label_number e r

  pub number_next : (r : ℕ) → next_of e (last_of r) (old_count e) ≡ label_number e r
  unfolding last_of label_number
  number_next zero = refl
  number_next (suc r) = refl

  pub last_next : (r : ℕ) → last_of (r + 1) ≡ label_number e r
  unfolding last_of
  last_next r = rw (add-one r)

  -- no row, and one more
  pub none_long : length (rows_made e 0) ≡ row_bytes * 0
  unfolding rows_made
  none_long = refl

  pub none_filled : replicate table_bytes 0 ≡ filled table_bytes (rows_made e 0)
  unfolding rows_made filled
  none_filled = refl

  module _ (held : RollsHold e) (r : ℕ) (n : all_zero (label_number e r) ≡ false) (long : length (rows_made e r) ≡ row_bytes * r) where
    row_long : length (row_made e (label_number e r)) ≡ row_bytes
    unfolding row_made
    row_long =
        let l = label_number e r in
        omega (
          arith,
          length-append (l ++ (highest e l).tail) (bytes_of 8 (highest e l).height),
          length-append l (highest e l).tail,
          number_long e held r n,
          highest_long e held l,
          bytes_length 8 (highest e l).height,
        )

    pub more_long : length (rows_made e (r + 1)) ≡ row_bytes * (r + 1)
    unfolding rows_made
    more_long = rw (add-one r) (omega (arith, length-append (rows_made e r) (row_made e (label_number e r)), row_long, long))

    pub more_filled :
        r < most_rows → put (filled table_bytes (rows_made e r)) (row_bytes * r) (row_made e (label_number e r)) ≡ filled table_bytes (rows_made e (r + 1))
    unfolding rows_made
    more_filled h = put-filled table_bytes (rows_made e r) (row_made e (label_number e r)) (row_bytes * r) (sym long) (omega (arith, long, row_long))
        ∙ rw (add-one r)
