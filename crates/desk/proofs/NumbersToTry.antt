-- 01, "Numbers to try", marked P, as far as they speak of the verdict. Assumes nothing.
use mathlib.Core.Path.{◌≡◌}
use mathlib.Core.Bool.{true, false, and-false}
use mathlib.Core.List.{List, [], ◌∷◌}
use Prim.Native.Nat.{ℕ, ◌<◌}
use native.Mathlib.Omega.{arith}
use borrow.Author.Tests.{lt-ltb}
use Rattle.refusals.specs.Order.{first}
use Rattle.octets.specs.Layouts.{holds}
use Rattle.marks.specs.Entries.{goes_up, entry_fits, entries_fit, mark_tests, marks_tests}
use Rattle.rack.specs.Racks.{rack_layout, rack_cut}
use Rattle.desk.specs.Verdict.{Question, signers_fit, is_asked_for, has_other_nonce, verdict_refusal, nothing_shown, shown, judging}

-- "rack of 3"
module _ (q : Question) (s : List ℕ) (is_rack : holds rack_layout q.rack ≡ true) (of_three : (rack_cut q.rack).count ≡ 3) where
  -- "signer positions 1, 1: 22", whatever the marks and the statement
  pub listed_twice : (m n : ℕ) → judging q s (1 ∷ m ∷ 1 ∷ n ∷ []) ≡ nothing_shown 22
  unfolding first goes_up entry_fits entries_fit signers_fit verdict_refusal judging
  listed_twice m n = rw (is_rack, of_three, and-false)

  -- the statement that was asked for
  module _ (answers : is_asked_for q s ≡ true) (fresh : has_other_nonce q s ≡ false) where
    -- "one valid signer: 16"
    pub one_signer : (p : ℕ) → p < 3 → judging q s (p ∷ 3 ∷ []) ≡ nothing_shown 16
    unfolding first goes_up entry_fits entries_fit signers_fit verdict_refusal judging
    one_signer p h = rw (is_rack, of_three, lt-ltb p 3 h, answers, fresh)

    -- "two: accepted"
    pub two_signers : (p r : ℕ) → p < r → r < 3 → judging q s (p ∷ 3 ∷ r ∷ 3 ∷ []) ≡ shown s
    unfolding first goes_up entry_fits entries_fit mark_tests marks_tests signers_fit verdict_refusal judging
    two_signers p r l h =
        let k : p < 3 = omega arith in
        rw (is_rack, of_three, lt-ltb p 3 k, lt-ltb r 3 h, lt-ltb p r l, answers, fresh)
