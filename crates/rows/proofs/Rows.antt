-- Laws of a row: where its parts stand in a string, and what each test of it decides. Assumes nothing.
use mathlib.Core.Path.{◌≡◌, refl, ap₂}
use mathlib.Core.Bool.{true, false, cond, ◌&&◌}
use mathlib.Core.List.{List}
use Prim.Native.Nat.{ℕ, ◌+◌, ◌-◌, ◌*◌}
use native.Mathlib.Omega.{arith}
use lib.ListN.{take, drop}
use lib.Dec.{eqb, leb}
use Rattle.octets.specs.Numbers.{number_of}
use Rattle.octets.specs.Strings.{all_zero}
use Rattle.rows.specs.Sizes.{label_bytes, tail_bytes, height_bytes, row_bytes, top_height}
use Rattle.rows.specs.Row.{label_of, tail_of, height_of, row_holds, row_fits}

module _ (rows : List ℕ) (i : ℕ) where
  pub label_part : take (row_bytes * i + label_bytes - row_bytes * i) (drop (row_bytes * i) rows) ≡ label_of rows i
  unfolding label_of
  label_part = let e : row_bytes * i + label_bytes - row_bytes * i ≡ label_bytes = omega arith in rw e

  pub tail_part : take (row_bytes * i + label_bytes + tail_bytes - (row_bytes * i + label_bytes)) (drop (row_bytes * i + label_bytes) rows) ≡ tail_of rows i
  unfolding tail_of
  tail_part = let e : row_bytes * i + label_bytes + tail_bytes - (row_bytes * i + label_bytes) ≡ tail_bytes = omega arith in rw e

  -- a test of the parts that the code takes is a test of the row
  pub row_part :
      row_holds
      (take (row_bytes * i + label_bytes - row_bytes * i) (drop (row_bytes * i) rows))
      (take (row_bytes * i + label_bytes + tail_bytes - (row_bytes * i + label_bytes)) (drop (row_bytes * i + label_bytes) rows))
      (number_of (take height_bytes (drop (row_bytes * i + label_bytes + tail_bytes) rows)))
      ≡ row_fits rows i
  unfolding height_of row_fits
  row_part = ap₂ (λ (l t : List ℕ). row_holds l t (height_of rows i)) label_part tail_part

  -- a row that has a label goes by its tail and height
  pub labelled :
      all_zero (label_of rows i) ≡ false
      → row_fits rows i ≡ (leb (height_of rows i) top_height && cond (eqb (height_of rows i) 0) (all_zero (tail_of rows i)) true)
  unfolding row_holds row_fits
  labelled e = rw e

  pub height_part : number_of (take height_bytes (drop (row_bytes * i + label_bytes + tail_bytes) rows)) ≡ height_of rows i
  unfolding height_of
  height_part = refl
