-- Laws of what each test of a string decides of its being a bundle: a place past the end, like a part that does not fit, rules it out. Assumes nothing.
use mathlib.Core.Path.{◌≡◌, refl, sym, ◌∙◌}
use mathlib.Core.Bool.{Bool, true, false, not, ◌&&◌, and-false}
use mathlib.Core.List.{List}
use Prim.Native.Nat.{ℕ, ◌+◌, ◌*◌, ◌<◌, ◌≤◌}
use native.Mathlib.Omega.{arith}
use borrow.Author.Tests.{le-leb, lt-leb, le-ltb, ne_eqb, eqb-true, not-false, ltb-true, ltb-false, leb-true, leb-false}
use lib.ListN.{length}
use lib.Dec.{eqb, leb, ltb}
use Rattle.octets.proofs.RoundTrips.{and_left, and_right}
use Rattle.marks.specs.Entries.{entry_fits, entries_fit}
use Rattle.marks.proofs.Listed.{lowest, entry_by_lowest, one_fails}
use Rattle.rows.specs.Table.{each}
use Rattle.rows.proofs.Tables.{each_fails}
use Rattle.roll.specs.Blocks.{block_bytes}
use Rattle.statement.specs.Kinds.{digest_bytes}
use Rattle.rules.specs.Bundle.{longest_bundle, most_blocks, most_added, old_count, old_at, old_position, old_marks, old_blocks, blocks_fit}
use Rattle.rules.specs.Bundle.{new_at, list_at, added, added_fits, bundle_fits}
use Rattle.bundle.specs.Walked.{old_asked, list_asked, olds, news, olds_end, news_end, lists_end}
use Rattle.bundle.proofs.Places.{old_next, old_before_new, new_before_lists, list_next, list_later, list_ends}

-- one of two tests fails
fails : (p q : Bool) (goal : Type 0) → (p && q) ≡ false → (p ≡ false → goal) → (p ≡ true → q ≡ false → goal) → goal
fails true q goal e a b = b refl e
fails false q goal e a b = a refl

-- tests in turn, each of which decides where it fails, and the last where none does
in_turn :
    (a b c d e whole : Bool) → (a ≡ false → whole ≡ false) → (b ≡ false → whole ≡ false) → (b ≡ true → c ≡ false → whole ≡ false)
    → (b ≡ true → c ≡ true → d ≡ false → whole ≡ false) → (b ≡ true → c ≡ true → d ≡ true → e ≡ whole) → whole ≡ (a && b && c && d && e)
in_turn false b c d e whole p q r s t = p refl
in_turn true false c d e whole p q r s t = q refl
in_turn true true false d e whole p q r s t = r refl refl
in_turn true true true false e whole p q r s t = s refl refl refl
in_turn true true true true e whole p q r s t = sym (t refl refl refl)

-- a list that begins past the string's end
unended : (s : List ℕ) (j : ℕ) → length s < list_at s j → eqb (list_at s j) (length s) ≡ false
unended s j h = ne_eqb (list_at s j) (length s) (λ e. omega arith)

-- what an old entry has that may stand where it stands
pub record OldKept (n : ℕ) (s : List ℕ) (i : ℕ) : Type 0 where
  pub head : old_at s i + 3 ≤ length s
  pub near : old_at s (i + 1) ≤ length s + block_bytes * most_blocks
  pub entry : entry_fits n (old_position s) (old_marks s) i ≡ true
  pub blocks : blocks_fit s i ≡ true

-- old entry i at its place
module _ (n : ℕ) (s : List ℕ) (i at low : ℕ) (placed : at ≡ old_at s i) (lower : low ≡ lowest (old_position s) i) where
  inside : Bool
  inside = ltb (old_at s i + 2) (length s)

  entered : Bool
  entered = entry_fits n (old_position s) (old_marks s) i

  asked : old_asked s n low at ≡ (inside && entered && blocks_fit s i)
  unfolding blocks_fit inside entered
  asked = rw (placed, entry_by_lowest n (old_position s) (old_marks s) i low lower)

  -- one that may not stand where it stands decides
  pub old_fails : i < old_count s → old_asked s n low at ≡ false → olds_end n s ≡ false
  unfolding inside entered
  old_fails h e =
      let all = entries_fit n (old_position s) (old_marks s) (old_count s) in
      fails (inside && entered) (blocks_fit s i) _ (sym asked ∙ e)
      (λ lost. fails inside entered _ lost
      (λ past.
      let f = le-ltb (new_at s) (length s) (omega (arith, old_before_new s i h, ltb-false (old_at s i + 2) (length s) past)) in
      rw f (and-false (olds n s)))
      (λ _ bad. rw (one_fails n (old_position s) (old_marks s) (old_count s) i h bad)))
      (λ _ bad. rw (each_fails (blocks_fit s) (old_count s) i h bad, and-false all))

  pub old_kept : old_asked s n low at ≡ true → OldKept n s i
  unfolding blocks_fit inside entered
  old_kept e =
      let whole = sym asked ∙ e in
      let front = and_left (inside && entered) (blocks_fit s i) whole in
      let b = and_right (inside && entered) (blocks_fit s i) whole in
      let few = leb-true (old_blocks s i) most_blocks (and_right (leb 1 (old_blocks s i)) (leb (old_blocks s i) most_blocks) b) in
      let within = ltb-true (old_at s i + 2) (length s) (and_left inside entered front) in
      record { head = omega arith; near = omega (arith, old_next s i); entry = and_right inside entered front; blocks = b }

-- what a list has that may stand where it stands
pub record ListKept (s : List ℕ) (j : ℕ) : Type 0 where
  pub head : list_at s j + 2 ≤ length s
  pub near : list_at s (j + 1) ≤ length s + digest_bytes * most_added
  pub few : added_fits s j ≡ true

-- list j at its place
module _ (s : List ℕ) (j at : ℕ) (placed : at ≡ list_at s j) where
  listed : list_asked s at ≡ (ltb (list_at s j + 1) (length s) && added_fits s j)
  unfolding added_fits
  listed = rw placed

  pub list_fails : (count : ℕ) → j < count → list_asked s at ≡ false → lists_end count s ≡ false
  list_fails count h e =
      fails (ltb (list_at s j + 1) (length s)) (added_fits s j) _ (sym listed ∙ e)
      (λ past.
      let f = unended s count (omega (arith, list_ends s j count h, ltb-false (list_at s j + 1) (length s) past)) in
      rw f (and-false (each (added_fits s) count)))
      (λ _ bad. rw (each_fails (added_fits s) count j h bad))

  pub list_kept : list_asked s at ≡ true → ListKept s j
  unfolding added_fits
  list_kept e =
      let p = ltb (list_at s j + 1) (length s) in
      let b = and_right p (added_fits s j) (sym listed ∙ e) in
      let count = leb-true (added s j) most_added b in
      let within = ltb-true (list_at s j + 1) (length s) (and_left p (added_fits s j) (sym listed ∙ e)) in
      record { head = omega arith; near = omega (arith, list_next s j); few = b }

-- the whole string
module _ (n m rows : ℕ) (s : List ℕ) where
  pub too_long : longest_bundle < length s → bundle_fits n m rows s ≡ false
  unfolding bundle_fits
  too_long h = rw (lt-leb (length s) longest_bundle h)

  -- a part that ends past the string's end
  pub past_end : length s < list_at s 0 → bundle_fits n m rows s ≡ false
  unfolding bundle_fits
  past_end h =
      let last = rows * old_count s in
      let f = unended s last (omega (arith, list_later s 0 last (omega arith))) in
      rw f (and-false (leb (length s) longest_bundle && olds n s && news m s && each (added_fits s) last))

  pub empty : length s ≡ 0 → bundle_fits n m rows s ≡ false
  empty e = past_end (omega (arith, new_before_lists s 0))

  module _ (short : length s ≤ longest_bundle) where
    pub old_decide : olds_end n s ≡ false → bundle_fits n m rows s ≡ false
    unfolding bundle_fits
    old_decide e =
        fails (olds n s) (ltb (new_at s) (length s)) _ e
        (λ bad. rw (le-leb (length s) longest_bundle short, bad))
        (λ _ past. past_end (omega (arith, new_before_lists s 0, ltb-false (new_at s) (length s) past)))

    module _ (old : olds_end n s ≡ true) where
      old_fit : olds n s ≡ true
      old_fit = and_left (olds n s) (ltb (new_at s) (length s)) old

      pub new_decide : news_end m s ≡ false → bundle_fits n m rows s ≡ false
      unfolding bundle_fits
      new_decide e =
          fails (leb (list_at s 0) (length s)) (news m s) _ e
          (λ past. past_end (leb-false (list_at s 0) (length s) past))
          (λ _ bad. rw (le-leb (length s) longest_bundle short, old_fit, bad))

      -- where the entries keep the rules, the lists decide
      pub lists_decide : news_end m s ≡ true → lists_end (rows * old_count s) s ≡ bundle_fits n m rows s
      unfolding bundle_fits
      lists_decide new = rw (le-leb (length s) longest_bundle short, old_fit, and_right (leb (list_at s 0) (length s)) (news m s) new)

  -- the tests of the code, one after the other
  pub tested :
      bundle_fits n m rows s
      ≡ (not (eqb (length s) 0) && leb (length s) longest_bundle && olds_end n s && news_end m s && lists_end (rows * old_count s) s)
  tested =
      in_turn (not (eqb (length s) 0)) (leb (length s) longest_bundle) (olds_end n s) (news_end m s) (lists_end (rows * old_count s) s) _
      (λ e. empty (eqb-true (length s) 0 (not-false (eqb (length s) 0) e)))
      (λ e. too_long (leb-false (length s) longest_bundle e))
      (λ b e. old_decide (leb-true (length s) longest_bundle b) e)
      (λ b c e. new_decide (leb-true (length s) longest_bundle b) c e)
      (λ b c d. lists_decide (leb-true (length s) longest_bundle b) c d)

pub old_inside : (n : ℕ) (s : List ℕ) → olds_end n s ≡ true → new_at s < length s
old_inside n s e = ltb-true (new_at s) (length s) (and_right (olds n s) (ltb (new_at s) (length s)) e)

pub new_inside : (m : ℕ) (s : List ℕ) → news_end m s ≡ true → list_at s 0 ≤ length s
new_inside m s e = leb-true (list_at s 0) (length s) (and_left (leb (list_at s 0) (length s)) (news m s) e)
