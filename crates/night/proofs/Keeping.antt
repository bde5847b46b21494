-- What is kept from block to block, and so "Blocks .. is the sum of racks, accepted, refused, over and damaged." Assumes nothing.
use mathlib.Core.Path.{◌≡◌, refl, sym, ap, ◌∙◌}
use mathlib.Core.Bool.{Bool, true, false, cond}
use mathlib.Core.List.{List, []}
use Prim.Native.Nat.{ℕ, zero, suc, ◌+◌, ◌≤◌, ◌<◌}
use native.Mathlib.Numerals.{add-one}
use native.Mathlib.Omega.{arith}
use borrow.Author.Tests.{ltb-true, ltb-false, eqb-true}
use lib.ListN.{length, get_or, take, drop, set, length-set, length-replicate}
use lib.Seq.{take-set-lt, take-suc-set, get_or-take, take-take, length-take-le}
use lib.Dec.{eqb, ltb}
use Rattle.rack.specs.Racks.{most, rack_bytes, rack_digest}
use Rattle.rack.proofs.RackTrips.{rack_length}
use Rattle.statement.specs.Cut.{no_label}
use Rattle.checks.specs.Check.{block_at}
use Rattle.desk.specs.declared.Finding.{Finding}
use Rattle.receipts.specs.Block.{rack_type, receipt_type, rack_place, key_count, label_in, sort}
use Rattle.receipts.specs.Judged.{finding}
use Rattle.receipts.proofs.Sorts.{is_rack_sort, rack_keys}
use Rattle.night.specs.declared.Line.{Line}
use Rattle.night.specs.declared.Night.{Night}
use Rattle.night.specs.Lines.{most_labels, new_line, no_line, place, line_after, counted_in}
use Rattle.night.specs.Pass.{nearest_rack, rack_read, with_rack, with_over, with_damaged, with_line, with_label, with_receipt, step, start, passed, Kept}
use Rattle.night.proofs.Lined.{both, place_within, counted_at, counted_set, counted_more, line_after_one, new_line_none}

module _ (n : Night) (k : Kept n) where
  -- each counter is at most the blocks
  pub known-length : length (take n.known n.lines) ≡ n.known
  known-length = length-take-le n.known n.lines (omega (arith, k.few, k.places))

  pub line_below : (i : ℕ) → i < n.known → both (get_or n.lines i no_line) ≤ n.totals.blocks
  line_below i h =
      let e : get_or (take n.known n.lines) i no_line ≡ get_or n.lines i no_line = get_or-take n.known n.lines i no_line h in
      let c : both (get_or (take n.known n.lines) i no_line) ≤ counted_in (take n.known n.lines) =
      counted_at (take n.known n.lines) i (omega (arith, known-length)) in
      let d : both (get_or n.lines i no_line) ≤ counted_in (take n.known n.lines) = rw e at c in
      omega (arith, k.sum)

  kept_over : Kept (with_over n)
  unfolding with_over
  kept_over = record { few = k.few; places = k.places; room = k.room; digested = k.digested; sum = omega (arith, k.sum) }

  kept_damaged : Kept (with_damaged n)
  unfolding with_damaged
  kept_damaged = record { few = k.few; places = k.places; room = k.room; digested = k.digested; sum = omega (arith, k.sum) }

  kept_rack : (b : List ℕ) → key_count b ≤ most → Kept (with_rack n b)
  unfolding with_rack rack_read
  kept_rack b h =
      record {
        few = k.few;
        places = k.places;
        room = omega arith;
        digested = λ held. ap rack_digest (sym (take-take (rack_bytes (key_count b)) (rack_bytes most) (drop rack_place b) (omega arith)));
        sum = omega (arith, k.sum);
      }

  -- a line counts one receipt more
  kept_known : (i : ℕ) (l : Line) → i < n.known → both l ≡ both (get_or n.lines i no_line) + 1 → Kept (with_line n i n.known l)
  kept_known i l h e =
      let ls : List Line = take n.known n.lines in
      let g : get_or ls i no_line ≡ get_or n.lines i no_line = get_or-take n.known n.lines i no_line h in
      let s : counted_in (set ls i l) + both (get_or ls i no_line) ≡ counted_in ls + both l = counted_set ls i l (omega (arith, known-length)) in
      let t : counted_in (set ls i l) + both (get_or n.lines i no_line) ≡ counted_in ls + both l = rw g at s in
      let u : counted_in (take n.known (set n.lines i l)) ≡ counted_in (set ls i l) = ap counted_in (take-set-lt n.known n.lines i l h) in
      record {
        few = k.few;
        places = length-set n.lines i l ∙ k.places;
        room = k.room;
        digested = k.digested;
        sum = omega (arith, k.sum);
      }

  kept_new : (l : Line) → n.known < most_labels → both l ≡ 1 → Kept (with_line n n.known (n.known + 1) l)
  kept_new l h e =
      let ls : List Line = take n.known n.lines in
      let u : counted_in (take (n.known + 1) (set n.lines n.known l)) ≡ counted_in ls + both l =
      rw (add-one n.known) (ap counted_in (take-suc-set n.lines n.known l (omega (arith, k.places))) ∙ counted_more ls l) in
      record {
        few = omega arith;
        places = length-set n.lines n.known l ∙ k.places;
        room = k.room;
        digested = k.digested;
        sum = omega (arith, k.sum);
      }

  kept_label : (b : List ℕ) (i : ℕ) → i ≤ n.known → i < most_labels → Kept (with_label n b i)
  unfolding with_label
  kept_label b i h few = go (ltb i n.known) refl
    where
      f : Finding
      f = finding (nearest_rack n.nearest) b

      go :
          (t : Bool) → ltb i n.known ≡ t
          → Kept (cond t (with_line n i n.known (line_after (get_or n.lines i no_line) f)) (with_line n i (n.known + 1) (line_after (new_line (label_in b)) f)))
      go true e = kept_known i (line_after (get_or n.lines i no_line) f) (ltb-true i n.known e) (line_after_one (get_or n.lines i no_line) f)
      go false e =
          let same : n.known ≡ i = omega (arith, ltb-false i n.known e) in
          rw (sym same)
          (kept_new (line_after (new_line (label_in b)) f) (omega arith) (line_after_one (new_line (label_in b)) f ∙ ap (λ (m : ℕ). m + 1) (new_line_none (label_in b))))

  kept_receipt : (b : List ℕ) → Kept (with_receipt n b)
  unfolding with_receipt
  kept_receipt b = go (ltb (place (label_in b) (take n.known n.lines)) most_labels) refl
    where
      i : ℕ
      i = place (label_in b) (take n.known n.lines)

      go : (t : Bool) → ltb (place (label_in b) (take n.known n.lines)) most_labels ≡ t → Kept (cond t (with_label n b (place (label_in b) (take n.known n.lines))) (with_over n))
      go true e =
          kept_label b (place (label_in b) (take n.known n.lines))
          (omega (arith, place_within (label_in b) (take n.known n.lines), known-length))
          (ltb-true (place (label_in b) (take n.known n.lines)) most_labels e)
      go false e = kept_over

  pub kept_step : (b : List ℕ) → Kept (step n b)
  unfolding step
  kept_step b = go (eqb (sort b) rack_type) refl (eqb (sort b) receipt_type)
    where
      go :
          (r : Bool) → eqb (sort b) rack_type ≡ r → (s : Bool)
          → Kept (cond r (with_rack n b) (cond s (with_receipt n b) (with_damaged n)))
      go true e s = kept_rack b (rack_keys b (is_rack_sort b (eqb-true (sort b) rack_type e)))
      go false e true = kept_receipt b
      go false e false = kept_damaged

-- a block more is one block more
pub step-blocks : (n : Night) (b : List ℕ) → (step n b).totals.blocks ≡ n.totals.blocks + 1
unfolding step with_rack with_receipt with_damaged with_label with_over
step-blocks n b = go (eqb (sort b) rack_type) (eqb (sort b) receipt_type) (ltb (place (label_in b) (take n.known n.lines)) most_labels) (ltb (place (label_in b) (take n.known n.lines)) n.known)
  where
    go : (r s t u : Bool) → (cond r (with_rack n b) (cond s (cond t (cond u (with_line n (place (label_in b) (take n.known n.lines)) n.known
        (line_after (get_or n.lines (place (label_in b) (take n.known n.lines)) no_line) (finding (nearest_rack n.nearest) b))) (with_line n
        (place (label_in b) (take n.known n.lines)) (n.known + 1) (line_after (new_line (label_in b)) (finding (nearest_rack n.nearest) b))))
        (with_over n)) (with_damaged n))).totals.blocks ≡ n.totals.blocks + 1
    go true s t u = refl
    go false true true true = refl
    go false true true false = refl
    go false true false u = refl
    go false false t u = refl

pub kept_start : Kept start
unfolding start counted_in
kept_start = record { few = omega arith; places = length-replicate most_labels (new_line no_label); room = omega arith; digested = λ held. absurd (omega (arith, rack_length [] held)); sum = refl }

-- the pass keeps it
pub kept_passed : (n : Night) (s : List ℕ) → Kept n → (i : ℕ) → Kept (passed n s i)
unfolding passed
kept_passed n s k zero = k
kept_passed n s k (suc i) = kept_step (passed n s i) (kept_passed n s k i) (block_at s i)

pub passed-blocks : (n : Night) (s : List ℕ) (i : ℕ) → (passed n s i).totals.blocks ≡ n.totals.blocks + i
unfolding passed
passed-blocks n s zero = omega arith
passed-blocks n s (suc i) = omega (arith, step-blocks (passed n s i) (block_at s i), passed-blocks n s i)
