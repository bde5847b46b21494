-- What a company's rows become where a row of the table is moved on: its own as it then stands, and nothing else. Assumes nothing.
use mathlib.Core.Path.{◌≡◌, refl, sym, ap, ap₂, ◌∙◌}
use mathlib.Core.Bool.{Bool, true, false, cond}
use mathlib.Core.List.{List, [], ◌∷◌, ◌++◌, map}
use Prim.Native.Nat.{ℕ, zero, suc, ◌+◌, ◌*◌, ◌≤◌, ◌<◌}
use native.Mathlib.Decide.{dec_lt}
use native.Mathlib.Omega.{arith}
use lib.ListN.{length, take, drop, take-append-drop, length-append}
use lib.Seq.{take_all}
use Rattle.octets.specs.Numbers.{bytes_of}
use Rattle.octets.specs.Strings.{same}
use Rattle.octets.proofs.Numbers.{bytes_length}
use Rattle.octets.proofs.Parts.{drop-take}
use Rattle.octets.proofs.RoundTrips.{same_is, same_refl}
use Rattle.rows.specs.Sizes.{label_bytes, tail_bytes, height_bytes, row_bytes}
use Rattle.rows.specs.Row.{label_of}
use Rattle.rows.specs.Table.{rows_fit}
use Rattle.rules.specs.Companies.{belongs}
use Rattle.rules.specs.Table.{moved}
use Rattle.rules.proofs.RowsParts.{put_inside, part_part, row_at, label_in}
use Rattle.rules.proofs.RowsMoved as moves
use Rattle.companies.specs.Runs.{rows_of}
use Rattle.companies.proofs.Places.{one_row}
use Rattle.companies.proofs.Those.{map_append}
use Rattle.companies.proofs.CompanyRows.{part, rows_next, rows_none}

-- rows of which the one with a label has another tail and height
unfoldable pub turned : List ℕ → List ℕ → ℕ → List ℕ → List ℕ
turned label tail height row = cond (same (take label_bytes row) label) (label ++ (tail ++ bytes_of height_bytes height)) row

unlike : (a b : List ℕ) → (a ≡ b → ⊥) → same a b ≡ false
unlike a b differs = go (same a b) refl
  where
    go : (s : Bool) → same a b ≡ s → same a b ≡ false
    go true e = absurd (differs (same_is a b e))
    go false e = e

module _ (count : ℕ) (t : List ℕ) (i : ℕ) (tail : List ℕ) (height : ℕ) (fit : rows_fit count t ≡ true) (place : i < count)
    (within : row_bytes * i + row_bytes ≤ length t) (sized : length tail ≡ tail_bytes) where
  abbrev after : List ℕ
  after = moved t i tail height

  abbrev new_bytes : List ℕ
  new_bytes = tail ++ bytes_of height_bytes height

  stays : (m : ℕ) → label_of after m ≡ label_of t m
  stays = moves.label_stays t i tail height within sized

  other_row : (m : ℕ) → (m ≡ i → ⊥) → row_at after m ≡ row_at t m
  other_row m differs = go (dec_lt m i)
    where
      go : Dec (m < i) → row_at after m ≡ row_at t m
      go (yes l) = moves.row_before t i tail height within sized m l
      go (no l) = moves.row_behind t i tail height within sized m (omega arith)

  new_long : length new_bytes ≡ tail_bytes + height_bytes
  new_long = length-append tail (bytes_of height_bytes height) ∙ omega (arith, bytes_length height_bytes height)

  behind_label : drop label_bytes (row_at after i) ≡ new_bytes
  unfolding row_at moved
  behind_label =
      drop-take label_bytes (tail_bytes + height_bytes) (drop (row_bytes * i) after)
      ∙ part_part after (row_bytes * i) label_bytes (tail_bytes + height_bytes)
      ∙ put_inside t (row_bytes * i + label_bytes) new_bytes (omega arith) (row_bytes * i + label_bytes) 0 (tail_bytes + height_bytes) (omega arith)
      (omega (arith, new_long))
      ∙ take_all (tail_bytes + height_bytes) new_bytes (omega (arith, new_long))

  this_row : row_at after i ≡ label_of t i ++ new_bytes
  this_row =
      sym (take-append-drop label_bytes (row_at after i)) ∙ ap₂ (λ (a b : List ℕ). a ++ b) (sym (label_in after i) ∙ stays i) behind_label

  module _ (first : Bool) where
    part_stays : (m : ℕ) → (m ≡ i → ⊥) → part first after m ≡ part first t m
    unfolding part
    part_stays m differs =
        ap₂ (λ (l row : List ℕ). cond (belongs l first) (row ∷ []) []) (stays m) (other_row m differs)

    -- another company's row
    module _ (other : belongs (label_of t i) first ≡ false) where
      part-other : (m : ℕ) → part first after m ≡ part first t m
      unfolding part
      part-other m = go (dec_lt m i) (dec_lt i m)
        where
          go : Dec (m < i) → Dec (i < m) → part first after m ≡ part first t m
          go (yes l) d = part_stays m (λ e. omega arith)
          go (no l) (yes g) = part_stays m (λ e. omega arith)
          go (no l) (no g) = let e : m ≡ i = omega arith in rw (e, stays i, other)

      pub moved_other : (n : ℕ) → rows_of first n after ≡ rows_of first n t
      moved_other zero = rows_none first after ∙ sym (rows_none first t)
      moved_other (suc n) =
          rows_next first n after ∙ ap₂ (λ (a b : List (List ℕ)). a ++ b) (moved_other n) (part-other n) ∙ sym (rows_next first n t)

    -- its own
    module _ (own : belongs (label_of t i) first ≡ true) where
      abbrev turn : List ℕ → List ℕ
      turn = turned (label_of t i) tail height

      turned_here : turn (row_at t i) ≡ row_at after i
      unfolding turned
      turned_here = rw (sym (label_in t i), same_refl (label_of t i)) (sym this_row)

      turned_not : (m : ℕ) → m < count → (m ≡ i → ⊥) → turn (row_at t m) ≡ row_at t m
      unfolding turned
      turned_not m h differs = rw (sym (label_in t m), unlike (label_of t m) (label_of t i) (λ e. differs (one_row count t fit m i h place e)))

      one_turned : (b : Bool) (m : ℕ) → map turn (cond b (row_at t m ∷ []) []) ≡ cond b (turn (row_at t m) ∷ []) []
      one_turned true m = refl
      one_turned false m = refl

      part_turned : (m : ℕ) → m < count → part first after m ≡ map turn (part first t m)
      unfolding part
      part_turned m h = go (dec_lt m i) (dec_lt i m)
        where
          turned_so : turn (row_at t m) ≡ row_at after m → part first after m ≡ map turn (part first t m)
          turned_so e =
              ap₂ (λ (l row : List ℕ). cond (belongs l first) (row ∷ []) []) (stays m) (sym e) ∙ sym (one_turned (belongs (label_of t m) first) m)

          elsewhere : (m ≡ i → ⊥) → part first after m ≡ map turn (part first t m)
          elsewhere differs = turned_so (turned_not m h differs ∙ sym (other_row m differs))

          go : Dec (m < i) → Dec (i < m) → part first after m ≡ map turn (part first t m)
          go (yes l) d = elsewhere (λ e. omega arith)
          go (no l) (yes g) = elsewhere (λ e. omega arith)
          go (no l) (no g) = let e : m ≡ i = omega arith in turned_so (ap (λ (j : ℕ). turn (row_at t j)) e ∙ turned_here ∙ ap (row_at after) (sym e))

      pub moved_own : (n : ℕ) → n ≤ count → rows_of first n after ≡ map turn (rows_of first n t)
      moved_own zero h = rows_none first after ∙ ap (map turn) (sym (rows_none first t))
      moved_own (suc n) h =
          rows_next first n after ∙ ap₂ (λ (a b : List (List ℕ)). a ++ b) (moved_own n (omega arith)) (part_turned n h)
          ∙ sym (map_append turn (rows_of first n t) (part first t n)) ∙ ap (map turn) (sym (rows_next first n t))
