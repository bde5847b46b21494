-- The roll that is made: its rows are the highest old rows in the order of their labels, it is a roll, and each old label is found in it. Assumes nothing.
use mathlib.Core.Path.{◌≡◌, refl, sym, ap, ◌∙◌}
use mathlib.Core.Bool.{Bool, true, false, not, cond, ◌&&◌}
use mathlib.Core.List.{List, [], ◌++◌, append_assoc}
use Prim.Native.Nat.{ℕ, zero, suc, ◌+◌, ◌-◌, ◌*◌, ◌^◌, ◌≤◌, ◌<◌}
use native.Mathlib.Decide.{dec_lt}
use native.Mathlib.Nat.{not-suc-le-zero}
use native.Mathlib.Omega.{arith}
use borrow.Author.Tests.{eq-eqb, ne_eqb, le-leb}
use lib.ListN.{length, take, drop, replicate, length-append, length-replicate}
use lib.Seq.{take_all, take_at, drop_at}
use lib.Dec.{eqb, leb}
use Rattle.octets.specs.Numbers.{number_of, bytes_of}
use Rattle.octets.specs.Strings.{all_zero, before}
use Rattle.octets.proofs.Numbers.{bytes_length}
use Rattle.octets.proofs.Exact.{number_bytes}
use Rattle.octets.proofs.Zeros.{zeros_are}
use Rattle.rows.specs.Sizes.{label_bytes, tail_bytes, height_bytes, row_bytes, most_rows, table_bytes, top_height}
use Rattle.rows.specs.Row.{label_of, tail_of, height_of, row_holds, row_fits}
use Rattle.rows.specs.Table.{rises, stands, rows_fit}
use Rattle.rows.specs.Search.{find}
use Rattle.std.specs.Prelude.{Ok}
use Rattle.roll.specs.Roll.{filled}
use Rattle.rules.specs.Rows.{is_absent}
use Rattle.rules.proofs.RowsParts.{part_front, part_back, row_at, label_in, tail_in, height_in_row}
use Rattle.rules.proofs.Somes.{each_all}
use Rattle.maker.specs.Rolls.{highest, label_number, row_count, row_made, rows_made, roll_made}
use Rattle.maker.proofs.Orders.{Place}
use Rattle.maker.proofs.OldLabels.{RollsHold, OldLabel, number_long, row_some, row_rises, has_row_number}
use Rattle.maker.proofs.Tops.{is_there, found_there, highest_zero, highest_low, highest_long}

-- the parts of a row
module _ (label tail : List ℕ) (height : ℕ) (l : length label ≡ label_bytes) (t : length tail ≡ tail_bytes) where
  row : List ℕ
  row = label ++ tail ++ bytes_of height_bytes height

  row_long : length row ≡ row_bytes
  unfolding row
  row_long = simp length-append (omega (arith, bytes_length height_bytes height))

  row_label : take label_bytes row ≡ label
  unfolding row
  row_label =
      ap (take label_bytes) (append_assoc label tail (bytes_of height_bytes height))
      ∙ take_at label (tail ++ bytes_of height_bytes height) label_bytes l

  row-tail : take tail_bytes (drop label_bytes row) ≡ tail
  unfolding row
  row-tail =
      ap (λ (s : List ℕ). take tail_bytes (drop label_bytes s)) (append_assoc label tail (bytes_of height_bytes height))
      ∙ ap (take tail_bytes) (drop_at label (tail ++ bytes_of height_bytes height) label_bytes l) ∙ take_at tail (bytes_of height_bytes height) tail_bytes t

  row_height : height ≤ top_height → number_of (take height_bytes (drop (label_bytes + tail_bytes) row)) ≡ height
  unfolding row
  row_height h =
      ap (λ (s : List ℕ). number_of (take height_bytes s))
      (drop_at (label ++ tail) (bytes_of height_bytes height) (label_bytes + tail_bytes) (simp length-append (omega arith)))
      ∙ ap number_of (take_all height_bytes (bytes_of height_bytes height) (omega (arith, bytes_length height_bytes height)))
      ∙ number_bytes height_bytes height (omega arith)

module _ (e : List ℕ) (held : RollsHold e) where
  module _ (r : ℕ) (n : all_zero (label_number e r) ≡ false) where
    made_long : length (row_made e (label_number e r)) ≡ row_bytes
    unfolding row_made row
    made_long =
        row_long (label_number e r) (highest e (label_number e r)).tail (highest e (label_number e r)).height (number_long e held r n)
        (highest_long e held (label_number e r))

  rows_long : (n : ℕ) → ((r : ℕ) → r < n → all_zero (label_number e r) ≡ false) → length (rows_made e n) ≡ row_bytes * n
  unfolding rows_made
  rows_long zero some = refl
  rows_long (suc n) some =
      length-append (rows_made e n) (row_made e (label_number e n))
      ∙ omega (arith, rows_long n (λ r h. some r (omega arith)), made_long n (some n (omega arith)))

  rows_cut :
      (n : ℕ) → ((r : ℕ) → r < n → all_zero (label_number e r) ≡ false) → (r : ℕ) → r < n
      → take row_bytes (drop (row_bytes * r) (rows_made e n)) ≡ row_made e (label_number e r)
  unfolding rows_made
  rows_cut zero some r h = absurd (not-suc-le-zero h)
  rows_cut (suc n) some r h = go (rows_cut n (λ r h. some r (omega arith)) r) (dec_lt r n)
    where
      long : length (rows_made e n) ≡ row_bytes * n
      long = rows_long n (λ r h. some r (omega arith))

      go :
          (r < n → take row_bytes (drop (row_bytes * r) (rows_made e n)) ≡ row_made e (label_number e r)) → Dec (r < n)
          → take row_bytes (drop (row_bytes * r) (rows_made e n ++ row_made e (label_number e n))) ≡ row_made e (label_number e r)
      go earlier (yes l) =
          part_front (rows_made e n) (row_made e (label_number e n)) (row_bytes * r) row_bytes (omega (arith, long)) ∙ earlier l
      go earlier (no l) =
          let same : r ≡ n = omega arith in
          part_back (rows_made e n) (row_made e (label_number e n)) 0 row_bytes (row_bytes * r) (omega (arith, long))
          ∙ take_all row_bytes (row_made e (label_number e n)) (omega (arith, made_long n (some n (omega arith))))
          ∙ ap (λ (q : ℕ). row_made e (label_number e q)) (sym same)

  all_long : length (rows_made e (row_count e)) ≡ row_bytes * row_count e
  all_long = rows_long (row_count e) (row_some e held)

  -- the zeros after them
  rest : List ℕ
  rest = replicate (table_bytes - length (rows_made e (row_count e))) 0

  module _ (r : ℕ) (h : r < row_count e) where
    there : row_at (roll_made e).rows r ≡ row_made e (label_number e r)
    unfolding row_at roll_made filled rest
    there =
        part_front (rows_made e (row_count e)) rest (row_bytes * r) row_bytes (omega (arith, all_long))
        ∙ rows_cut (row_count e) (row_some e held) r h

    long : length (label_number e r) ≡ label_bytes
    long = number_long e held r (row_some e held r h)

    pub made_label : label_of (roll_made e).rows r ≡ label_number e r
    unfolding row_made row
    made_label =
        label_in (roll_made e).rows r ∙ ap (take label_bytes) there
        ∙ row_label (label_number e r) (highest e (label_number e r)).tail (highest e (label_number e r)).height long (highest_long e held (label_number e r))

    pub made_tail : tail_of (roll_made e).rows r ≡ (highest e (label_number e r)).tail
    unfolding row_made row
    made_tail =
        tail_in (roll_made e).rows r ∙ ap (λ (s : List ℕ). take tail_bytes (drop label_bytes s)) there
        ∙ row-tail (label_number e r) (highest e (label_number e r)).tail (highest e (label_number e r)).height long (highest_long e held (label_number e r))

    pub made_height : height_of (roll_made e).rows r ≡ (highest e (label_number e r)).height
    unfolding row_made row
    made_height =
        height_in_row (roll_made e).rows r ∙ ap (λ (s : List ℕ). number_of (take height_bytes (drop (label_bytes + tail_bytes) s))) there
        ∙ row_height (label_number e r) (highest e (label_number e r)).tail (highest e (label_number e r)).height long
        (highest_long e held (label_number e r))
        (highest_low e held (label_number e r))

    row_right : row_holds (label_number e r) (highest e (label_number e r)).tail (highest e (label_number e r)).height ≡ true
    unfolding row_holds
    row_right =
        rw (row_some e held r h, le-leb (highest e (label_number e r)).height top_height (highest_low e held (label_number e r)))
        (go (dec_lt 0 (highest e (label_number e r)).height))
      where
        go :
            Dec (0 < (highest e (label_number e r)).height)
            → cond (eqb (highest e (label_number e r)).height 0) (all_zero (highest e (label_number e r)).tail) true ≡ true
        go (yes k) = rw (ne_eqb (highest e (label_number e r)).height 0 (λ z. omega arith))
        go (no k) =
            let z : (highest e (label_number e r)).height ≡ 0 = omega arith in
            rw (eq-eqb (highest e (label_number e r)).height 0 z, highest_zero e held (label_number e r) z) (zeros_are tail_bytes)

    row_fits_there : row_fits (roll_made e).rows r ≡ true
    unfolding row_fits
    row_fits_there = rw (made_label, made_tail, made_height) row_right

  stands_there : (r : ℕ) → r < row_count e → stands (roll_made e).rows r ≡ true
  unfolding stands rises
  stands_there zero h = rw (row_fits_there 0 h)
  stands_there (suc r) h =
      rw (row_fits_there (suc r) h, made_label r (omega arith), made_label (suc r) h) (row_rises e held r h)

  module _ (few : row_count e ≤ most_rows) where
    table_long : length (roll_made e).rows ≡ table_bytes
    unfolding roll_made filled rest
    table_long =
        length-append (rows_made e (row_count e)) rest
        ∙ omega (arith, length-replicate {A = ℕ} (table_bytes - length (rows_made e (row_count e))) 0, all_long)

    rest_zero : all_zero (drop (row_bytes * row_count e) (roll_made e).rows) ≡ true
    unfolding roll_made filled rest
    rest_zero =
        ap all_zero (drop_at (rows_made e (row_count e)) rest (row_bytes * row_count e) all_long)
        ∙ zeros_are (table_bytes - length (rows_made e (row_count e)))

    pub made_fits : rows_fit (row_count e) (roll_made e).rows ≡ true
    unfolding rows_fit
    made_fits =
        let all = each_all (stands (roll_made e).rows) (row_count e) stands_there in
        rw (eq-eqb (length (roll_made e).rows) table_bytes table_long, le-leb (row_count e) most_rows few, all) rest_zero

    pub made_found : (r : ℕ) → r < row_count e → find (row_count e) (roll_made e).rows (label_number e r) ≡ Ok r
    made_found r h = found_there (row_count e) (roll_made e).rows made_fits (label_number e r) r h (made_label r h)

    -- each old label has a row
    pub made_has : (l : List ℕ) → OldLabel e l → is_absent (find (row_count e) (roll_made e).rows l) ≡ false
    made_has l o =
        let p = has_row_number e held few l o in
        is_there (row_count e) (roll_made e).rows made_fits l
        (record { place = p.place; below = p.below; is = made_label p.place p.below ∙ p.is })
