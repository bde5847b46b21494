-- The pass over the blocks in turn prints the report. Assumes nothing.
use mathlib.Core.Path.{◌≡◌, refl, sym, ap, ap₂, ◌∙◌}
use mathlib.Core.Bool.{Bool, true, false, cond, ◌&&◌}
use mathlib.Core.List.{List, [], ◌∷◌, ◌++◌, map}
use Prim.Native.Nat.{ℕ, zero, suc, ◌+◌, ◌<◌}
use native.Mathlib.Numerals.{add-one}
use native.Mathlib.Omega.{arith}
use borrow.Author.Tests.{eqb-true, lt-ltb, le-ltb, ltb-true, ltb-false}
use lib.ListN.{length, get_or, take, drop, set, length-map}
use lib.Seq.{take-take, take-set-lt, take-suc-set, get_or-take}
use lib.Dec.{eqb, ltb}
use Rattle.octets.proofs.RoundTrips.{same_refl}
use Rattle.rack.specs.Racks.{most, rack_bytes, is_among}
use Rattle.checks.specs.Check.{block_at}
use Rattle.receipts.specs.Block.{rack_type, receipt_type, damaged, rack_place, key_count, label_in, rack_sound, receipt_sound, whole, sort}
use Rattle.receipts.specs.Judged.{finding}
use Rattle.receipts.proofs.Sorts.{is_rack_sort, rack_keys}
use Rattle.night.specs.declared.Line.{Line}
use Rattle.night.specs.declared.Totals.{Totals}
use Rattle.night.specs.declared.Night.{Night}
use Rattle.night.specs.Lines.{most_labels, new_line, no_line, place, line_after}
use Rattle.night.specs.Pass.{nearest_rack, rack_read, counted, with_rack, with_over, with_damaged, with_line, with_label, with_receipt, step, start, blocks, passed, Kept}
use Rattle.night.proofs.Keeping.{known-length, kept_start, kept_passed}
use Rattle.report.specs.Printed.{heading, lines_text, totals_text, printed, report}
use Rattle.telling.specs.Told.{is_rack, is_receipt, is_damaged, label, nearest, judgement, labels, how_many, told_line, is_over, told_totals, told}
use Rattle.telling.proofs.Among.{never, among_last, found_place, no_place, others_stay, one_moves}
use Rattle.telling.proofs.Counting.{none_stays, other_stays, own_moves, labels_none, labels_known, labels_new, labels_full, labels-distinct, fresh}

-- a night is as the report tells of the first n blocks
pub record AsTold (file : List ℕ) (n : ℕ) (m : Night) : Type 0 where
  pub lines : take m.known m.lines ≡ map (told_line file n) (labels file n)
  pub totals : m.totals ≡ told_totals file n
  pub rack : nearest_rack m.nearest ≡ nearest file n

all_stay : (g h : List ℕ → Line) → ((k : List ℕ) → h k ≡ g k) → (ks : List (List ℕ)) → map g ks ≡ map h ks
all_stay g h e [] = refl
all_stay g h e (k ∷ ks) = ap₂ (λ (x : Line) (xs : List Line). x ∷ xs) (sym (e k)) (all_stay g h e ks)

map_more : (g : List ℕ → Line) (ks : List (List ℕ)) (k : List ℕ) → map g (ks ++ (k ∷ [])) ≡ map g ks ++ (g k ∷ [])
map_more g [] k = refl
map_more g (x ∷ ks) k = ap (λ (xs : List Line). g x ∷ xs) (map_more g ks k)

-- a block that is no rack and no receipt is damaged
third : (b : List ℕ) → eqb (sort b) rack_type ≡ false → eqb (sort b) receipt_type ≡ false → eqb (sort b) damaged ≡ true
unfolding sort
third b p q = go (whole b) (rack_sound b) (receipt_sound b) p q
  where
    go :
        (w r s : Bool) → eqb (cond w (cond r 1 (cond s 2 0)) 0) 1 ≡ false → eqb (cond w (cond r 1 (cond s 2 0)) 0) 2 ≡ false
        → eqb (cond w (cond r 1 (cond s 2 0)) 0) 0 ≡ true
    go true true s p q = never p
    go true false true p q = never q
    go true false false p q = refl
    go false r s p q = refl

module _ (file : List ℕ) (n : ℕ) where
  counted_told :
      (x y z : ℕ) → cond (is_rack file n) 1 0 ≡ x → cond (is_over file n) 1 0 ≡ y → cond (is_damaged file n) 1 0 ≡ z
      → counted (told_totals file n) x y z ≡ told_totals file (suc n)
  unfolding told_totals how_many
  counted_told x y z p q r = rw (p, q, r, add-one n)

  line_named : (k : List ℕ) → (told_line file n k).label ≡ k
  unfolding told_line
  line_named k = refl

  no_rack : is_rack file n ≡ false → nearest file (suc n) ≡ nearest file n
  unfolding nearest
  no_rack e = rw e

  no_over : is_receipt file n ≡ false → ◌≡◌ {A = ℕ} (cond (is_over file n) 1 0) 0
  unfolding is_over
  no_over e = rw e

  lined_over : is_among (label file n) (labels file (suc n)) ≡ true → ◌≡◌ {A = ℕ} (cond (is_over file n) 1 0) 0
  unfolding is_over
  lined_over e = rw e (go (is_receipt file n))
    where
      go : (t : Bool) → ◌≡◌ {A = ℕ} (cond (t && false) 1 0) 0
      go true = refl
      go false = refl

  yes_over : is_receipt file n ≡ true → is_among (label file n) (labels file (suc n)) ≡ false → ◌≡◌ {A = ℕ} (cond (is_over file n) 1 0) 1
  unfolding is_over
  yes_over e a = rw (e, a)

  module _ (m : Night) (k : Kept m) (t : AsTold file n m) where
    -- lines that stay, in a block that is no receipt
    lines_stay : is_receipt file n ≡ false → take m.known m.lines ≡ map (told_line file (suc n)) (labels file (suc n))
    lines_stay e =
        t.lines ∙ all_stay (told_line file n) (told_line file (suc n)) (λ l. none_stays file n l e) (labels file n)
        ∙ ap (map (told_line file (suc n))) (sym (labels_none file n e))

    rack_told : sort (block_at file n) ≡ rack_type → AsTold file (suc n) (with_rack m (block_at file n))
    unfolding with_rack is_rack is_receipt is_damaged nearest rack_read
    rack_told e =
        let r : is_receipt file n ≡ false = rw e in
        record {
          lines = lines_stay r;
          totals = ap (λ (x : Totals). counted x 1 0 0) t.totals ∙ counted_told 1 0 0 (rw e) (no_over r) (rw e);
          rack =
              rw (e)
              (take-take (rack_bytes (key_count (block_at file n))) (rack_bytes most) (drop rack_place (block_at file n))
              (omega (arith, rack_keys (block_at file n) (is_rack_sort (block_at file n) e))));
        }

    damaged_told :
        eqb (sort (block_at file n)) rack_type ≡ false → eqb (sort (block_at file n)) receipt_type ≡ false → AsTold file (suc n) (with_damaged m)
    unfolding with_damaged is_rack is_receipt is_damaged
    damaged_told p q =
        record {
          lines = lines_stay q;
          totals =
              ap (λ (x : Totals). counted x 0 0 1) t.totals
              ∙ counted_told 0 0 1 (rw p) (no_over q) (rw (third (block_at file n) p q));
          rack = t.rack ∙ sym (no_rack p);
        }

    module _ (e : sort (block_at file n) ≡ receipt_type) where
      receipt : is_receipt file n ≡ true
      unfolding is_receipt
      receipt = rw e

      rackless : is_rack file n ≡ false
      unfolding is_rack
      rackless = rw e

      undamaged : ◌≡◌ {A = ℕ} (cond (is_damaged file n) 1 0) 0
      unfolding is_damaged
      undamaged = rw e

      rack_not : ◌≡◌ {A = ℕ} (cond (is_rack file n) 1 0) 0
      rack_not = rw rackless

      rack_stays : nearest_rack m.nearest ≡ nearest file (suc n)
      rack_stays = t.rack ∙ sym (no_rack rackless)

      found : finding (nearest_rack m.nearest) (block_at file n) ≡ judgement file n
      unfolding judgement
      found = ap (λ (r : List ℕ). finding r (block_at file n)) t.rack

      -- the place of the label's line
      at : place (label_in (block_at file n)) (take m.known m.lines) ≡ place (label file n) (map (told_line file n) (labels file n))
      unfolding label
      at = ap (place (label_in (block_at file n))) t.lines

      known_is : m.known ≡ length (labels file n)
      known_is = sym (known-length m k) ∙ ap length t.lines ∙ length-map (labels file n) (told_line file n)

      over_told : is_among (label file n) (labels file n) ≡ false → ltb (length (labels file n)) most_labels ≡ false → AsTold file (suc n) (with_over m)
      unfolding with_over
      over_told a w =
          let p : labels file (suc n) ≡ labels file n = labels_full file n w in
          record {
            lines =
                t.lines ∙ others_stay (told_line file n) (told_line file (suc n)) (label file n) (λ l s. other_stays file n l s) (labels file n) a
                ∙ ap (map (told_line file (suc n))) (sym p);
            totals = ap (λ (x : Totals). counted x 0 1 0) t.totals ∙ counted_told 0 1 0 rack_not (yes_over receipt (rw p a)) undamaged;
            rack = rack_stays;
          }

      known_told :
          is_among (label file n) (labels file n) ≡ true
          → AsTold file (suc n) (with_line m (place (label file n) (map (told_line file n) (labels file n))) m.known (line_after (get_or m.lines
          (place (label file n) (map (told_line file n) (labels file n))) no_line) (judgement file n)))
      known_told a =
          let i : ℕ = place (label file n) (map (told_line file n) (labels file n)) in
          let h : i < m.known = omega (arith, found_place (told_line file n) line_named (label file n) (labels file n) a, known_is) in
          let p : labels file (suc n) ≡ labels file n = labels_known file n a in
          let g : get_or m.lines i no_line ≡ get_or (map (told_line file n) (labels file n)) i no_line =
          sym (get_or-take m.known m.lines i no_line h) ∙ ap (λ (ls : List Line). get_or ls i no_line) t.lines in
          record {
            lines =
                take-set-lt m.known m.lines i (line_after (get_or m.lines i no_line) (judgement file n)) h
                ∙ ap₂ (λ (ls : List Line) (l : Line). set ls i (line_after l (judgement file n))) t.lines g
                ∙ one_moves (told_line file n) (told_line file (suc n)) (label file n) (λ l s. other_stays file n l s) (judgement file n) line_named
                (λ l s. own_moves file n l receipt s) (labels file n) (labels-distinct file n) a
                ∙ ap (map (told_line file (suc n))) (sym p);
            totals = ap (λ (x : Totals). counted x 0 0 0) t.totals ∙ counted_told 0 0 0 rack_not (lined_over (rw p a)) undamaged;
            rack = rack_stays;
          }

      new_told :
          is_among (label file n) (labels file n) ≡ false → ltb (length (labels file n)) most_labels ≡ true
          → AsTold file (suc n) (with_line m m.known (m.known + 1) (line_after (new_line (label file n)) (judgement file n)))
      new_told a w =
          let l : Line = line_after (new_line (label file n)) (judgement file n) in
          let few : length (labels file n) < most_labels = ltb-true (length (labels file n)) most_labels w in
          let p : labels file (suc n) ≡ labels file n ++ (label file n ∷ []) = labels_new file n receipt a w in
          let own : told_line file (suc n) (label file n) ≡ l =
          own_moves file n (label file n) receipt (same_refl (label file n))
          ∙ ap (λ (x : Line). line_after x (judgement file n)) (fresh file (label file n) n few a) in
          record {
            lines =
                rw (add-one m.known)
                (take-suc-set m.lines m.known l (omega (arith, k.places, known_is))
                ∙ ap₂ (λ (ls : List Line) (x : Line). ls ++ (x ∷ []))
                (t.lines ∙ others_stay (told_line file n) (told_line file (suc n)) (label file n) (λ l s. other_stays file n l s) (labels file n) a)
                (sym own)
                ∙ sym (map_more (told_line file (suc n)) (labels file n) (label file n))
                ∙ ap (map (told_line file (suc n))) (sym p));
            totals =
                ap (λ (x : Totals). counted x 0 0 0) t.totals
                ∙ counted_told 0 0 0 rack_not (lined_over (rw p (among_last (label file n) (labels file n)))) undamaged;
            rack = rack_stays;
          }

      label_told :
          AsTold file (suc n) (with_line m m.known (m.known + 1) (line_after (new_line (label file n)) (judgement file n)))
          → AsTold file (suc n) (with_line m m.known (m.known + 1) (line_after (new_line (label_in (block_at file n))) (judgement file n)))
      unfolding label
      label_told x = x

      receipt_told : AsTold file (suc n) (with_receipt m (block_at file n))
      unfolding with_receipt with_label
      receipt_told =
          rw (at, found)
          (go (is_among (label file n) (labels file n)) refl (ltb (length (labels file n)) most_labels) refl)
        where
          go :
              (a : Bool) → is_among (label file n) (labels file n) ≡ a → (w : Bool) → ltb (length (labels file n)) most_labels ≡ w
              → AsTold file (suc n) (cond (ltb (place (label file n) (map (told_line file n) (labels file n))) most_labels) (cond (ltb (place
              (label file n) (map (told_line file n) (labels file n))) m.known) (with_line m (place (label file n) (map (told_line file n)
              (labels file n))) m.known (line_after (get_or m.lines (place (label file n) (map (told_line file n) (labels file n))) no_line)
              (judgement file n))) (with_line m (place (label file n) (map (told_line file n) (labels file n))) (m.known + 1) (line_after (new_line
              (label_in (block_at file n))) (judgement file n)))) (with_over m))
          go true a w u =
              let h : place (label file n) (map (told_line file n) (labels file n)) < m.known =
              omega (arith, found_place (told_line file n) line_named (label file n) (labels file n) a, known_is) in
              rw (lt-ltb (place (label file n) (map (told_line file n) (labels file n))) most_labels (omega (arith, k.few)), lt-ltb (place (label file n) (map (told_line file n) (labels file n))) m.known h) (known_told a)
          go false a true u =
              let h : place (label file n) (map (told_line file n) (labels file n)) ≡ m.known =
              no_place (told_line file n) line_named (label file n) (labels file n) a ∙ sym known_is in
              rw (h, lt-ltb m.known most_labels (omega (arith, ltb-true (length (labels file n)) most_labels u, known_is)), le-ltb m.known m.known (omega arith))
              (label_told (new_told a u))
          go false a false u =
              let h : place (label file n) (map (told_line file n) (labels file n)) ≡ length (labels file n) =
              no_place (told_line file n) line_named (label file n) (labels file n) a in
              rw (le-ltb (place (label file n) (map (told_line file n) (labels file n))) most_labels (omega (arith, ltb-false (length (labels file n)) most_labels u))) (over_told a u)

    pub step_told : AsTold file (suc n) (step m (block_at file n))
    unfolding step
    step_told = go (eqb (sort (block_at file n)) rack_type) refl (eqb (sort (block_at file n)) receipt_type) refl
      where
        go :
            (r : Bool) → eqb (sort (block_at file n)) rack_type ≡ r → (s : Bool) → eqb (sort (block_at file n)) receipt_type ≡ s
            → AsTold file (suc n) (cond r (with_rack m (block_at file n)) (cond s (with_receipt m (block_at file n)) (with_damaged m)))
        go true p s q = rack_told (eqb-true (sort (block_at file n)) rack_type p)
        go false p true q = receipt_told (eqb-true (sort (block_at file n)) receipt_type q)
        go false p false q = damaged_told p q

start_told : (file : List ℕ) → AsTold file 0 start
unfolding start labels told_totals how_many nearest
start_told file = record { lines = refl; totals = refl; rack = refl }

pub pass_told : (file : List ℕ) (n : ℕ) → AsTold file n (passed start file n)
unfolding passed
pass_told file zero = start_told file
pass_told file (suc n) = step_told file n (passed start file n) (kept_passed start file kept_start n) (pass_told file n)

-- the pass over the blocks in turn, and the printing, are the report
pub report-told : (file : List ℕ) → report file ≡ told file
unfolding report printed told
report-told file =
    let t : AsTold file (blocks file) (passed start file (blocks file)) = pass_told file (blocks file) in
    ap₂ (λ (ls : List Line) (x : Totals). heading ++ (lines_text ls ++ totals_text x)) t.lines t.totals
