-- A fitting statement is cut out of what it is written as. Assumes nothing.
use mathlib.Core.Path.{◌≡◌, refl, sym, ap, ◌∙◌}
use mathlib.Core.Bool.{Bool, true, false, ◌&&◌}
use mathlib.Core.List.{List, ◌∷◌, ◌++◌, append_assoc}
use Prim.Native.Nat.{ℕ, ◌+◌, ◌<◌, ◌^◌}
use native.Mathlib.Omega.{arith}
use lib.ListN.{length, drop, length-append}
use lib.Dec.{leb, lit<}
use Rattle.octets.specs.Strings.{all_zero}
use Rattle.octets.specs.Numbers.{bytes_of}
use Rattle.octets.proofs.Numbers.{bytes_length}
use Rattle.octets.proofs.RoundTrips.{and_left, and_right}
use Rattle.statement.specs.declared.Kind.{Kind}
use Rattle.statement.specs.declared.Kind.TheVariants.{Blank, New, Append, Read, Finalise, Initialise}
use Rattle.statement.specs.declared.Statement.{Statement}
use Rattle.statement.specs.Kinds.{kind_number, receipt_size, handover_size, size, digest_bytes, label_bytes, number_bytes, first_place, second_place, height_place, nonce_place, nonce_half, digest_at, number_at}
use Rattle.rows.specs.Row.{row_holds}
use Rattle.statement.specs.Contents.{receipt, body, statement_written, receipt_fits, handover_fits, fits_as, statement_fits}
use Rattle.statement.specs.Cut.{no_digest, no_label, receipt_at, handover_at, cut_as, cut_statement}
use Rattle.statement.specs.Shape.{Arrays, Numbers, Shaped}
use Rattle.statement.proofs.Fields.{behind, zero_is}
use Rattle.statement.proofs.Strings.{Stands, Of, kind_of}
use Rattle.statement.proofs.Laid.{receipt_word, height_on, receipt_flat, receipt_first, receipt_length, receipt_cut, handover_word}
use Rattle.statement.proofs.Laid.{handover_flat, handover_begins, handover_length, handover_first, handover_second, handover_cut, number_in, last_in}

module _ (v : Statement) (a : Arrays v) where
  by_kind : (k : Kind) (w : List ℕ) → 0 < kind_number k → Of k w → cut_as k w ≡ v → cut_statement w ≡ v
  unfolding cut_statement
  by_kind k w p o e = ap (λ (j : Kind). cut_as j w) (kind_of k w p o) ∙ e

  -- what a fitting statement has not is zero
  receipt_parts : (x : ℕ) → receipt_fits v x ≡ true → (v.other ≡ no_digest) × (v.roll ≡ no_digest)
  unfolding receipt_fits
  receipt_parts x f =
      let z : (all_zero v.other && all_zero v.roll) ≡ true = and_right (row_holds v.label v.tail x) (all_zero v.other && all_zero v.roll) f in (
        zero_is v.other digest_bytes a.other (and_left (all_zero v.other) (all_zero v.roll) z),
        zero_is v.roll digest_bytes a.roll (and_right (all_zero v.other) (all_zero v.roll) z),
      )

  handover_parts : handover_fits v ≡ true → (v.label ≡ no_label) × (v.tail ≡ no_digest)
  unfolding handover_fits
  handover_parts f = (
    zero_is v.label label_bytes a.label (and_left (all_zero v.label) (all_zero v.tail) f),
    zero_is v.tail digest_bytes a.tail (and_right (all_zero v.label) (all_zero v.tail) f),
  )

  receipt_back :
      (k : Kind) (x : ℕ) (z : List ℕ) → v.kind ≡ k → 0 < kind_number k
      → cut_as k (receipt_word v a (kind_number k) z) ≡ receipt_at k (receipt_word v a (kind_number k) z) → Of k (receipt_word v a (kind_number k) z)
      → receipt_fits v x ≡ true → cut_statement (kind_number k ∷ v.identity ++ (v.own ++ v.label ++ v.tail ++ z)) ≡ v
  receipt_back k x z e p c o f =
      let n : ℕ = kind_number k in
      let r : (v.other ≡ no_digest) × (v.roll ≡ no_digest) = receipt_parts x f in
      rw (receipt_flat v a n z) (by_kind k (receipt_word v a n z) p o (c ∙ receipt_cut v a n z k e r.0 r.1))

  -- kinds 1 and 2, which end with the height
  short_of :
      (k : Kind) (x : ℕ) → size k ≡ receipt_size → x < 2 ^ 64 → ((w : List ℕ) → number_at height_place w ≡ x → Stands k w)
      → Of k (receipt_word v a (kind_number k) (bytes_of number_bytes x))
  short_of k x l h t =
      let n : ℕ = kind_number k in
      let z : List ℕ = bytes_of number_bytes x in
      record {
        sized = receipt_length v a n z ∙ ap (λ (i : ℕ). height_place + i) (bytes_length number_bytes x) ∙ sym l;
        named = receipt_first v a n z;
        stands = t (receipt_word v a n z) (last_in (receipt_word v a n z) height_place x (height_on v a n z) h);
      }

  -- kind 3, which has the nonce behind it
  long_of :
      (x y z : ℕ) → x < 2 ^ 64 → y < 2 ^ 64 → z < 2 ^ 64
      → Of (Read x y z) (receipt_word v a (kind_number (Read x y z)) (bytes_of number_bytes x ++ (bytes_of number_bytes y ++ bytes_of number_bytes z)))
  long_of x y z hx hy hz =
      let t : List ℕ = bytes_of number_bytes x ++ (bytes_of number_bytes y ++ bytes_of number_bytes z) in
      let n : ℕ = kind_number (Read x y z) in
      let w : List ℕ = receipt_word v a n t in
      let l : length t ≡ number_bytes + (number_bytes + number_bytes) = simp length-append (omega (arith, bytes_length number_bytes x, bytes_length number_bytes y, bytes_length number_bytes z)) in
      let e : drop nonce_place w ≡ bytes_of number_bytes y ++ bytes_of number_bytes z =
      behind w (bytes_of number_bytes x) (bytes_of number_bytes y ++ bytes_of number_bytes z) height_place number_bytes (height_on v a n t) (bytes_length number_bytes x) in
      record {
        sized = receipt_length v a n t ∙ ap (λ (i : ℕ). height_place + i) l;
        named = receipt_first v a n t;
        stands = (
          number_in w (bytes_of number_bytes y ++ bytes_of number_bytes z) height_place x (height_on v a n t) hx,
          number_in w (bytes_of number_bytes z) nonce_place y e hy,
          last_in w nonce_half z (behind w (bytes_of number_bytes y) (bytes_of number_bytes z) nonce_place number_bytes e (bytes_length number_bytes y)) hz,
        );
      }

  -- kinds 4 and 5
  handover_back :
      (k : Kind) (x y : ℕ) (p q : List ℕ) (lp : length p ≡ digest_bytes) (lq : length q ≡ digest_bytes) → v.kind ≡ k → 0 < kind_number k
      → size k ≡ handover_size → Stands k (handover_word v a (kind_number k) p q lp lq)
      → cut_as k (handover_word v a (kind_number k) p q lp lq) ≡ handover_at k x y (handover_word v a (kind_number k) p q lp lq)
      → digest_at x (handover_word v a (kind_number k) p q lp lq) ≡ v.own → digest_at y (handover_word v a (kind_number k) p q lp lq) ≡ v.other
      → handover_fits v ≡ true → cut_statement (kind_number k ∷ v.identity ++ (p ++ q ++ v.roll)) ≡ v
  handover_back k x y p q lp lq e h l t c i j f =
      let n : ℕ = kind_number k in
      let z : (v.label ≡ no_label) × (v.tail ≡ no_digest) = handover_parts f in
      rw (handover_flat v a n p q lp lq)
      (by_kind k (handover_word v a n p q lp lq) h
      (record { sized = handover_length v a n p q lp lq ∙ sym l; named = handover_begins v a n p q lp lq; stands = t })
      (c ∙ handover_cut v a n p q lp lq k x y e i j z.0 z.1))

-- the one fact that the layout owes: a fitting statement is cut out of what it is written as
pub cut_written : (v : Statement) → Shaped v → statement_fits v ≡ true → cut_statement (statement_written v) ≡ v
unfolding receipt body statement_written fits_as statement_fits cut_as
cut_written v h f = go v.kind refl h.numbers f
  where
    a : Arrays v
    a = h.arrays

    go : (k : Kind) → v.kind ≡ k → Numbers k → fits_as v k ≡ true → cut_statement (kind_number k ∷ v.identity ++ body v k) ≡ v
    go Blank e m f = let z : ◌≡◌ {A = Bool} false true = f in let y : ◌≡◌ {A = ℕ} 0 1 = cc in absurd (omega arith)
    go New e m f = receipt_back v a New 0 (bytes_of number_bytes 0) e (lit< tt) refl (short_of v a New 0 refl (lit< tt) (λ w t. t)) f
    go (Append x) e m f =
        let g : receipt_fits v x ≡ true = and_right (leb 1 x) (receipt_fits v x) f in
        receipt_back v a (Append x) x (bytes_of number_bytes x) e (lit< tt) refl (short_of v a (Append x) x refl m (λ w t. t)) g
    go (Read x y z) e m f =
        rw (
          append_assoc (v.own ++ v.label ++ v.tail ++ bytes_of number_bytes x) (bytes_of number_bytes y) (bytes_of number_bytes z),
          append_assoc (v.own ++ v.label ++ v.tail) (bytes_of number_bytes x) (bytes_of number_bytes y ++ bytes_of number_bytes z),
        )
        (receipt_back v a (Read x y z) x (bytes_of number_bytes x ++ (bytes_of number_bytes y ++ bytes_of number_bytes z)) e (lit< tt) refl (long_of v a x y z m.0 m.1 m.2) f)
    go Finalise e m f =
        handover_back v a Finalise first_place second_place v.own v.other a.own a.other e (lit< tt) refl tt refl
        (handover_first v a (kind_number Finalise) v.own v.other a.own a.other) (handover_second v a (kind_number Finalise) v.own v.other a.own a.other) f
    go Initialise e m f =
        handover_back v a Initialise second_place first_place v.other v.own a.other a.own e (lit< tt) refl tt refl
        (handover_second v a (kind_number Initialise) v.other v.own a.other a.own) (handover_first v a (kind_number Initialise) v.other v.own a.other a.own) f
