-- Laws of a table with a row more: the new row, and those before and behind it. Assumes nothing.
use mathlib.Core.Path.{◌≡◌, sym, ap, ◌∙◌}
use mathlib.Core.List.{List, ◌++◌}
use Prim.Native.Nat.{ℕ, suc, ◌+◌, ◌-◌, ◌*◌, ◌≤◌, ◌<◌}
use native.Mathlib.Omega.{arith}
use lib.ListN.{length, take, drop, replicate, length-append, length-replicate}
use lib.Seq.{take_at, drop_at, drop-drop, take_all, length-take-le}
use Rattle.octets.specs.Numbers.{number_of}
use Rattle.rows.specs.Sizes.{label_bytes, tail_bytes, height_bytes, row_bytes}
use Rattle.rows.specs.Row.{label_of, tail_of, height_of}
use Rattle.statement.specs.Cut.{no_digest}
use Rattle.rules.specs.Table.{new_row, widened}
use Rattle.rules.proofs.RowsParts.{part_front, part_back, part_cut, part_part, row_at, label_in, tail_in, height_in_row}

module _ (t label : List ℕ) (i : ℕ) (within : row_bytes * i + row_bytes ≤ length t) (sized : length label ≡ label_bytes) where
  abbrev longer : List ℕ
  longer = take (row_bytes * i) t ++ new_row label ++ drop (row_bytes * i) t

  row_long : length (new_row label) ≡ row_bytes
  row_long = simp (length-append, length-replicate) (omega arith)

  front_long : length (take (row_bytes * i) t) ≡ row_bytes * i
  front_long = length-take-le (row_bytes * i) t (omega arith)

  both_long : length (take (row_bytes * i) t ++ new_row label) ≡ row_bytes * i + row_bytes
  both_long = length-append (take (row_bytes * i) t) (new_row label) ∙ omega (arith, row_long, front_long)

  pub row_before : (m : ℕ) → m < i → row_at (widened t i label) m ≡ row_at t m
  unfolding widened row_at
  row_before m h =
      part_cut longer (length t) (row_bytes * m) row_bytes (omega arith)
      ∙ part_front (take (row_bytes * i) t ++ new_row label) (drop (row_bytes * i) t) (row_bytes * m) row_bytes (omega (arith, both_long))
      ∙ part_front (take (row_bytes * i) t) (new_row label) (row_bytes * m) row_bytes (omega (arith, front_long))
      ∙ part_cut t (row_bytes * i) (row_bytes * m) row_bytes (omega arith)

  pub row_here : row_at (widened t i label) i ≡ new_row label
  unfolding widened row_at
  row_here =
      part_cut longer (length t) (row_bytes * i) row_bytes (omega arith)
      ∙ part_front (take (row_bytes * i) t ++ new_row label) (drop (row_bytes * i) t) (row_bytes * i) row_bytes (omega (arith, both_long))
      ∙ part_back (take (row_bytes * i) t) (new_row label) 0 row_bytes (row_bytes * i) (omega (arith, front_long))
      ∙ take_all row_bytes (new_row label) (omega (arith, row_long))

  pub row_behind : (m : ℕ) → i ≤ m → row_bytes * suc m + row_bytes ≤ length t → row_at (widened t i label) (suc m) ≡ row_at t m
  unfolding widened row_at
  row_behind m h last =
      let e : row_bytes * i + (row_bytes * m - row_bytes * i) ≡ row_bytes * m = omega arith in
      part_cut longer (length t) (row_bytes * suc m) row_bytes last
      ∙ part_back (take (row_bytes * i) t ++ new_row label) (drop (row_bytes * i) t) (row_bytes * m - row_bytes * i) row_bytes (row_bytes * suc m) (omega (arith, both_long))
      ∙ part_part t (row_bytes * i) (row_bytes * m - row_bytes * i) row_bytes ∙ ap (λ (j : ℕ). take row_bytes (drop j t)) e

  -- the new row has the label, no tail and height 0
  pub label_new : label_of (widened t i label) i ≡ label
  label_new = label_in (widened t i label) i ∙ ap (take label_bytes) row_here ∙ take_at label _ label_bytes sized

  pub tail_new : tail_of (widened t i label) i ≡ no_digest
  tail_new =
      tail_in (widened t i label) i ∙ ap (λ (r : List ℕ). take tail_bytes (drop label_bytes r)) row_here
      ∙ ap (take tail_bytes) (drop_at label (replicate (tail_bytes + height_bytes) 0) label_bytes sized)

  pub height_new : height_of (widened t i label) i ≡ 0
  unfolding number_of
  height_new =
      height_in_row (widened t i label) i ∙ ap (λ (r : List ℕ). number_of (take height_bytes (drop (label_bytes + tail_bytes) r))) row_here
      ∙ ap (λ (r : List ℕ). number_of (take height_bytes r)) (sym (drop-drop tail_bytes label_bytes (new_row label)))
      ∙ ap (λ (r : List ℕ). number_of (take height_bytes (drop tail_bytes r))) (drop_at label (replicate (tail_bytes + height_bytes) 0) label_bytes sized)
