-- How the report's counts and labels go on from one block to the next. Assumes nothing.
use mathlib.Core.Path.{◌≡◌, refl, sym, ap, ◌∙◌}
use mathlib.Core.Bool.{Bool, true, false, not, cond, ◌&&◌, ◌||◌}
use mathlib.Core.List.{List, [], ◌∷◌, ◌++◌}
use Prim.Native.Nat.{ℕ, zero, suc, ◌+◌, ◌<◌, max}
use native.Mathlib.Nat.{add-zero}
use native.Mathlib.Omega.{arith}
use borrow.Author.Tests.{ltb-true, ltb-false}
use lib.ListN.{length}
use lib.Dec.{eqb, ltb}
use Rattle.octets.specs.Strings.{same}
use Rattle.octets.proofs.RoundTrips.{same_is}
use Rattle.rack.specs.Racks.{is_among}
use Rattle.desk.specs.declared.Finding.{Finding}
use Rattle.night.specs.declared.Line.{Line}
use Rattle.night.specs.Lines.{most_labels, new_line, line_after}
use Rattle.telling.specs.Told.{is_receipt, label, judgement, labels, how_many, accepts, refuses, highest, told_line}
use Rattle.telling.proofs.Among.{never, or_left, or_right, same_not, among_more, distinct, distinct_none, distinct_more}

how_yes : (t : ℕ → Bool) (n : ℕ) → t n ≡ true → how_many t (suc n) ≡ how_many t n + 1
unfolding how_many
how_yes t n e = rw e

how_no : (t : ℕ → Bool) (n : ℕ) → t n ≡ false → how_many t (suc n) ≡ how_many t n
unfolding how_many
how_no t n e = rw (e, add-zero (how_many t n))

line_is :
    (l : List ℕ) (a b c x y z : ℕ) → a ≡ x → b ≡ y → c ≡ z
    → ◌≡◌ {A = Line} (record { label = l; accepted = a; refused = b; top = c }) (record { label = l; accepted = x; refused = y; top = z })
line_is l a b c x y z p q r = rw (p, q, r)

line_yes :
    (l : Line) (f : Finding) → eqb f.number 0 ≡ true
    → line_after l f ≡ record { label = l.label; accepted = l.accepted + 1; refused = l.refused; top = max l.top f.height }
unfolding line_after
line_yes l f e = rw e

line_no :
    (l : Line) (f : Finding) → eqb f.number 0 ≡ false
    → line_after l f ≡ record { label = l.label; accepted = l.accepted; refused = l.refused + 1; top = l.top }
unfolding line_after
line_no l f e = rw e

and_no : (t : Bool) → (t && false) ≡ false
and_no true = refl
and_no false = refl

module _ (file : List ℕ) (n : ℕ) (l : List ℕ) where
  highest_no : accepts file l n ≡ false → highest file l (suc n) ≡ highest file l n
  unfolding highest
  highest_no e = rw e

  highest_yes : accepts file l n ≡ true → highest file l (suc n) ≡ max (highest file l n) (judgement file n).height
  unfolding highest
  highest_yes e = rw e

  stays : accepts file l n ≡ false → refuses file l n ≡ false → told_line file (suc n) l ≡ told_line file n l
  unfolding told_line
  stays a r = line_is l _ _ _ _ _ _ (how_no (accepts file l) n a) (how_no (refuses file l) n r) (highest_no a)

  pub none_stays : is_receipt file n ≡ false → told_line file (suc n) l ≡ told_line file n l
  unfolding accepts refuses
  none_stays e = stays (rw e) (rw e)

  pub other_stays : same l (label file n) ≡ false → told_line file (suc n) l ≡ told_line file n l
  unfolding accepts refuses
  other_stays e = stays (rw e (and_no (is_receipt file n))) (rw e (and_no (is_receipt file n)))

  module _ (e : is_receipt file n ≡ true) (s : same l (label file n) ≡ true) where
    own_accepts : accepts file l n ≡ eqb (judgement file n).number 0
    unfolding accepts
    own_accepts = rw (e, s)

    own_refuses : refuses file l n ≡ not (eqb (judgement file n).number 0)
    unfolding refuses
    own_refuses = rw (e, s)

    own_yes : eqb (judgement file n).number 0 ≡ true → told_line file (suc n) l ≡ line_after (told_line file n l) (judgement file n)
    unfolding told_line
    own_yes k =
        line_is l _ _ _ _ _ _ (how_yes (accepts file l) n (own_accepts ∙ k)) (how_no (refuses file l) n (own_refuses ∙ ap not k)) (highest_yes (own_accepts ∙ k))
        ∙ sym (line_yes (told_line file n l) (judgement file n) k)

    own_no : eqb (judgement file n).number 0 ≡ false → told_line file (suc n) l ≡ line_after (told_line file n l) (judgement file n)
    unfolding told_line
    own_no k =
        line_is l _ _ _ _ _ _ (how_no (accepts file l) n (own_accepts ∙ k)) (how_yes (refuses file l) n (own_refuses ∙ ap not k)) (highest_no (own_accepts ∙ k))
        ∙ sym (line_no (told_line file n l) (judgement file n) k)

    pub own_moves : told_line file (suc n) l ≡ line_after (told_line file n l) (judgement file n)
    own_moves = go (eqb (judgement file n).number 0) refl
      where
        go : (t : Bool) → eqb (judgement file n).number 0 ≡ t → told_line file (suc n) l ≡ line_after (told_line file n l) (judgement file n)
        go true k = own_yes k
        go false k = own_no k

module _ (file : List ℕ) (n : ℕ) where
  pub labels_none : is_receipt file n ≡ false → labels file (suc n) ≡ labels file n
  unfolding labels
  labels_none e = rw e

  pub labels_known : is_among (label file n) (labels file n) ≡ true → labels file (suc n) ≡ labels file n
  unfolding labels
  labels_known e = rw e (go (is_receipt file n))
    where
      go : (t : Bool) → cond (t && false) (labels file n ++ (label file n ∷ [])) (labels file n) ≡ labels file n
      go true = refl
      go false = refl

  pub labels_new :
      is_receipt file n ≡ true → is_among (label file n) (labels file n) ≡ false → ltb (length (labels file n)) most_labels ≡ true
      → labels file (suc n) ≡ labels file n ++ (label file n ∷ [])
  unfolding labels
  labels_new r a w = rw (r, a, w)

  pub labels_full : ltb (length (labels file n)) most_labels ≡ false → labels file (suc n) ≡ labels file n
  unfolding labels
  labels_full w = rw w (go (is_receipt file n) (not (is_among (label file n) (labels file n))))
    where
      go : (t a : Bool) → cond (t && (a && false)) (labels file n ++ (label file n ∷ [])) (labels file n) ≡ labels file n
      go true true = refl
      go true false = refl
      go false a = refl

module _ (file : List ℕ) where
  pub labels-distinct : (n : ℕ) → distinct (labels file n) ≡ true
  unfolding labels
  labels-distinct zero = distinct_none
  labels-distinct (suc n) =
      go (labels-distinct n) (is_receipt file n) (is_among (label file n) (labels file n)) refl (ltb (length (labels file n)) most_labels)
    where
      go :
          distinct (labels file n) ≡ true → (r a : Bool) → is_among (label file n) (labels file n) ≡ a → (w : Bool)
          → distinct (cond (r && (not a && w)) (labels file n ++ (label file n ∷ [])) (labels file n)) ≡ true
      go d false a e w = d
      go d true true e w = d
      go d true false e true = distinct_more (labels file n) (label file n) d e
      go d true false e false = d

  first_line : (l : List ℕ) → told_line file zero l ≡ new_line l
  unfolding told_line how_many highest new_line
  first_line l = refl

  -- a label that has no line while there is room for one has had no receipt
  pub fresh : (l : List ℕ) (n : ℕ) → length (labels file n) < most_labels → is_among l (labels file n) ≡ false → told_line file n l ≡ new_line l
  fresh l zero h a = first_line l
  fresh l (suc n) h a =
      go (λ x y. fresh l n x y) (is_receipt file n) refl (is_among (label file n) (labels file n)) refl (ltb (length (labels file n)) most_labels) refl
    where
      known : is_among (label file n) (labels file n) ≡ true → is_among l (labels file n) ≡ false → same l (label file n) ≡ false
      known k f = case (same l (label file n)) refl
        where
          case : (t : Bool) → same l (label file n) ≡ t → same l (label file n) ≡ false
          case false e = e
          case true e = let q : l ≡ label file n = same_is l (label file n) e in never (sym k ∙ (rw q at f))

      go :
          (length (labels file n) < most_labels → is_among l (labels file n) ≡ false → told_line file n l ≡ new_line l)
          → (r : Bool) → is_receipt file n ≡ r → (k : Bool) → is_among (label file n) (labels file n) ≡ k → (w : Bool)
          → ltb (length (labels file n)) most_labels ≡ w → told_line file (suc n) l ≡ new_line l
      go earlier false e k m w u =
          let p : labels file (suc n) ≡ labels file n = labels_none file n e in
          none_stays file n l e ∙ earlier (rw p at h) (rw p at a)
      go earlier true e true m w u =
          let p : labels file (suc n) ≡ labels file n = labels_known file n m in
          let f : is_among l (labels file n) ≡ false = rw p at a in
          other_stays file n l (known m f) ∙ earlier (rw p at h) f
      go earlier true e false m true u =
          let p : labels file (suc n) ≡ labels file n ++ (label file n ∷ []) = labels_new file n e m u in
          let f : (is_among l (labels file n) || same (label file n) l) ≡ false = sym (among_more l (labels file n) (label file n)) ∙ (rw p at a) in
          other_stays file n l (same_not (label file n) l (or_right (is_among l (labels file n)) (same (label file n) l) f))
          ∙ earlier (ltb-true (length (labels file n)) most_labels u) (or_left (is_among l (labels file n)) (same (label file n) l) f)
      go earlier true e false m false u =
          let p : labels file (suc n) ≡ labels file n = labels_full file n u in
          let q : length (labels file n) < most_labels = rw p at h in
          absurd (omega (arith, ltb-false (length (labels file n)) most_labels u))
