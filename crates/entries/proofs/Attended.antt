-- Laws of the tests of a bundle's entries in their order: which part decides. Assumes nothing.
use mathlib.Core.Path.{◌≡◌, refl, sym, ◌∙◌}
use mathlib.Core.Bool.{true, false, not}
use mathlib.Core.List.{List, [], ◌∷◌, ◌++◌}
use Prim.Native.Nat.{ℕ, zero, suc}
use native.Mathlib.Omega.{arith}
use lib.Dec.{eqb}
use Rattle.refusals.specs.{accepted, out_of_order, too_few, signature_not_valid, initialise_not_valid}
use Rattle.refusals.specs.Order.{Test, first}
use Rattle.refusals.proofs.Orders.{numbered, lacks, stops, goes_on, refuses, lets_by}
use Rattle.octets.proofs.RoundTrips.{and_left, and_right}
use Rattle.marks.specs.Entries.{mark_tests, marks_tests, pair_marks}
use Rattle.marks.proofs.Refused.{marks-numbered}
use Rattle.rules.specs.Bundle.{old_count, old_marks, new_count, new_entries}
use Rattle.entries.specs.Asked.{few, attended_tests}

numbered_both : (ts us : List Test) → numbered ts ≡ true → numbered us ≡ true → numbered (ts ++ us) ≡ true
unfolding numbered
numbered_both [] us h k = k
numbered_both (t ∷ ts) us h k =
    let x = not (eqb t.number accepted) in rw (and_left x (numbered ts) h) (numbered_both ts us (and_right x (numbered ts) h) k)

lacks_both : (m : ℕ) (ts us : List Test) → lacks m ts ≡ true → lacks m us ≡ true → lacks m (ts ++ us) ≡ true
unfolding lacks
lacks_both m [] us h k = k
lacks_both m (t ∷ ts) us h k =
    let x = not (eqb t.number m) in rw (and_left x (lacks m ts) h) (lacks_both m ts us (and_right x (lacks m ts) h) k)

-- no refusal of marks shows a height
marks_lack : (number : ℕ) → eqb number out_of_order ≡ false → (marks : ℕ → ℕ) (c : ℕ) → lacks out_of_order (marks_tests number marks c) ≡ true
unfolding lacks mark_tests marks_tests
marks_lack number other marks zero = refl
marks_lack number other marks (suc c) =
    lacks_both out_of_order (marks_tests number marks c) (mark_tests number (marks c)) (marks_lack number other marks c) (rw other)

module _ (previous own s : List ℕ) where
  abbrev olds : List Test
  olds = marks_tests signature_not_valid (old_marks s) (old_count s)

  abbrev news : List Test
  news = marks_tests initialise_not_valid (pair_marks (new_entries s)) (new_count s)

  olds-numbered : numbered olds ≡ true
  olds-numbered = marks-numbered signature_not_valid (omega arith) (old_marks s) (old_count s)

  pub attended_numbered : numbered (attended_tests previous own s) ≡ true
  unfolding attended_tests numbered
  attended_numbered = numbered_both olds news olds-numbered (marks-numbered initialise_not_valid (omega arith) (pair_marks (new_entries s)) (new_count s))

  -- none of these refusals shows a height, nor does one after them that shows none
  pub attended_lack : (us : List Test) → lacks out_of_order us ≡ true → lacks out_of_order (attended_tests previous own s ++ us) ≡ true
  unfolding attended_tests lacks
  attended_lack us h =
      lacks_both out_of_order (olds ++ news) us
      (lacks_both out_of_order olds news (marks_lack signature_not_valid refl (old_marks s) (old_count s))
      (marks_lack initialise_not_valid refl (pair_marks (new_entries s)) (new_count s)))
      h

  pub few_refuse : few previous own s ≡ true → first (attended_tests previous own s) ≡ too_few
  unfolding attended_tests
  few_refuse e = refuses (few previous own s) too_few (olds ++ news) e

  module _ (many : few previous own s ≡ false) where
    marks_next : first (attended_tests previous own s) ≡ first (olds ++ news)
    unfolding attended_tests
    marks_next = lets_by (few previous own s) too_few (olds ++ news) many

    pub old_refuse : (n : ℕ) → n ≡ first olds → (n ≡ accepted → ⊥) → n ≡ first (attended_tests previous own s)
    old_refuse n e r = e ∙ sym (marks_next ∙ stops olds news n olds-numbered e r)

    pub new_decide : first olds ≡ accepted → first (attended_tests previous own s) ≡ first news
    new_decide e = marks_next ∙ goes_on olds news accepted olds-numbered (sym e) refl
