-- Laws of the refusals of marks: their numbers, one entry more, the first entry that is refused, what is known where none is, another number for a
-- signature that is not valid, and lists that agree. Assumes nothing.
use mathlib.Core.Path.{◌≡◌, refl, sym, ap, ap₂, ◌∙◌}
use mathlib.Core.Bool.{Bool, true, false, not, cond, ◌&&◌}
use mathlib.Core.List.{List, [], ◌∷◌, ◌++◌}
use Prim.Native.Nat.{ℕ, zero, suc, ◌+◌, ◌<◌}
use native.Mathlib.Decide.{dec_lt}
use native.Mathlib.Nat.{not-suc-le-zero}
use native.Mathlib.Numerals.{add-one}
use native.Mathlib.Omega.{arith}
use borrow.Author.Tests.{ne_eqb, eqb-true, eqb-false, not-false}
use lib.Dec.{eqb, lit<}
use Rattle.refusals.specs.{accepted, not_attested, signature_not_valid}
use Rattle.refusals.specs.Order.{Test, first}
use Rattle.refusals.proofs.Orders.{numbered, passes, first_then, stops, goes_on, none_refuses}
use Rattle.marks.specs.{attested, valid, marks_fit}
use Rattle.marks.specs.Entries.{mark_tests, marks_tests, answer_with}
use Rattle.marks.proofs.Four.{three}

-- two lists of tests whose numbers are refusals, one behind the other
numbered_both : (ts us : List Test) → numbered ts ≡ true → numbered us ≡ true → numbered (ts ++ us) ≡ true
unfolding numbered
numbered_both [] us h k = k
numbered_both (t ∷ ts) us h k = go (not (eqb t.number accepted)) (λ r. numbered_both ts us r k) h
  where
    go : (b : Bool) → (numbered ts ≡ true → numbered (ts ++ us) ≡ true) → (b && numbered ts) ≡ true → (b && numbered (ts ++ us)) ≡ true
    go true later r = later r
    go false later r = r

module _ (number : ℕ) (refusal : 0 < number) where
  some : number ≡ accepted → ⊥
  some e = omega arith

  pub mark_numbered : (m : ℕ) → numbered (mark_tests number m) ≡ true
  unfolding mark_tests numbered
  mark_numbered m = rw (ne_eqb number accepted some)

  pub marks-numbered : (marks : ℕ → ℕ) (c : ℕ) → numbered (marks_tests number marks c) ≡ true
  unfolding marks_tests numbered
  marks-numbered marks zero = refl
  marks-numbered marks (suc c) = numbered_both (marks_tests number marks c) (mark_tests number (marks c)) (marks-numbered marks c) (mark_numbered (marks c))

  module _ (marks : ℕ → ℕ) where
    pub unrefused_more :
        (i : ℕ) → first (marks_tests number marks i) ≡ accepted → first (mark_tests number (marks i)) ≡ accepted
        → first (marks_tests number marks (i + 1)) ≡ accepted
    unfolding marks_tests
    unrefused_more i h k =
        rw (add-one i) (goes_on (marks_tests number marks i) (mark_tests number (marks i)) accepted (marks-numbered marks i) (sym h) refl ∙ k)

    -- the first entry that is refused decides
    pub refused_at :
        (c i n : ℕ) → i < c → first (marks_tests number marks i) ≡ accepted → n ≡ first (mark_tests number (marks i)) → (n ≡ accepted → ⊥)
        → n ≡ first (marks_tests number marks c)
    unfolding marks_tests
    refused_at zero i n l h e r = absurd (not-suc-le-zero l)
    refused_at (suc c) i n l h e r = go (λ l. refused_at c i n l h e r) (dec_lt i c)
      where
        go : (i < c → n ≡ first (marks_tests number marks c)) → Dec (i < c) → n ≡ first (marks_tests number marks c ++ mark_tests number (marks c))
        go earlier (yes l) =
            let f = earlier l in
            f ∙ sym (stops (marks_tests number marks c) (mark_tests number (marks c)) n (marks-numbered marks c) f r)
        go earlier (no g) =
            let q : i ≡ c = omega arith in
            (rw q at e) ∙ sym (goes_on (marks_tests number marks c) (mark_tests number (marks c)) accepted (marks-numbered marks c) (sym (rw q at h)) refl)

    -- where none is refused, none is of the first ones
    pub none_refused :
        (c i : ℕ) → i < c → first (marks_tests number marks c) ≡ accepted → first (mark_tests number (marks i)) ≡ accepted
    unfolding marks_tests
    none_refused zero i l h = absurd (not-suc-le-zero l)
    none_refused (suc c) i l h = go (λ l. none_refused c i l p.0) (dec_lt i c)
      where
        p : (first (marks_tests number marks c) ≡ accepted) × (first (mark_tests number (marks c)) ≡ accepted)
        p = none_refuses (marks_tests number marks c) (mark_tests number (marks c)) (marks-numbered marks c) h

        go : (i < c → first (mark_tests number (marks i)) ≡ accepted) → Dec (i < c) → first (mark_tests number (marks i)) ≡ accepted
        go earlier (yes l) = earlier l
        go earlier (no g) = let q : c ≡ i = omega arith in rw q at p.1

  -- a mark that is not refused: the key is attested, and its signature is valid
  pub unrefused : (m : ℕ) → first (mark_tests number m) ≡ accepted → (attested m ≡ true) × (valid m ≡ true)
  unfolding mark_tests
  unrefused m e =
      let a = passes (not (attested m)) not_attested _ (eqb-false 17 0 refl) e in
      let b = passes (not (valid m)) number _ some a.1 in
      (not-false (attested m) a.0, not-false (valid m) b.0)

  pub unrefused-three : (m : ℕ) → marks_fit m ≡ true → first (mark_tests number m) ≡ accepted → m ≡ 3
  unrefused-three m h e = let p = unrefused m e in three m h p.0 p.1

-- the tests with another number for a signature that is not valid
pub mark_answer : (number m : ℕ) → answer_with number (first (mark_tests signature_not_valid m)) ≡ first (mark_tests number m)
unfolding first mark_tests
mark_answer number m = go (attested m) (valid m)
  where
    go :
        (a v : Bool)
        → answer_with number (cond (not a) not_attested (cond (not v) signature_not_valid accepted)) ≡ cond (not a) not_attested (cond (not v) number accepted)
    go false v = refl
    go true false = refl
    go true true = refl

module _ (number : ℕ) (refusal : 0 < number) where
  then_answer : (a b : ℕ) → answer_with number (cond (eqb a accepted) b a) ≡ cond (eqb (answer_with number a) accepted) (answer_with number b) (answer_with number a)
  then_answer a b = go (eqb a signature_not_valid) (eqb a accepted) refl refl
    where
      go :
          (x y : Bool) → eqb a signature_not_valid ≡ x → eqb a accepted ≡ y
          → answer_with number (cond (eqb a accepted) b a) ≡ cond (eqb (answer_with number a) accepted) (answer_with number b) (answer_with number a)
      go true true p q = absurd (eqb-false 18 0 refl (sym (eqb-true a 18 p) ∙ eqb-true a 0 q))
      go true false p q = rw (q, p, ne_eqb number accepted (some number refusal))
      go false true p q = rw (p, q)
      go false false p q = rw (p, q, p)

  pub marks_answer : (marks : ℕ → ℕ) (c : ℕ) → answer_with number (first (marks_tests signature_not_valid marks c)) ≡ first (marks_tests number marks c)
  unfolding first marks_tests
  marks_answer marks zero = refl
  marks_answer marks (suc c) =
      ap (answer_with number) (first_then (marks_tests signature_not_valid marks c) (mark_tests signature_not_valid (marks c))
      (marks-numbered signature_not_valid (lit< tt) marks c))
      ∙ then_answer (first (marks_tests signature_not_valid marks c)) (first (mark_tests signature_not_valid (marks c)))
      ∙ ap₂ (λ (a b : ℕ). cond (eqb a accepted) b a) (marks_answer marks c) (mark_answer number (marks c))
      ∙ sym (first_then (marks_tests number marks c) (mark_tests number (marks c)) (marks-numbered number refusal marks c))

-- marks that agree in the first c entries
pub marks_alike : (number : ℕ) (m l : ℕ → ℕ) (c : ℕ) → ((i : ℕ) → i < c → m i ≡ l i) → marks_tests number m c ≡ marks_tests number l c
unfolding marks_tests
marks_alike number m l zero e = refl
marks_alike number m l (suc c) e =
    ap₂ {A = List Test} {B = List Test} ◌++◌ (marks_alike number m l c (λ i h. e i (omega arith))) (ap (mark_tests number) (e c (omega arith)))
