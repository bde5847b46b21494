-- The calls on a bundle: each entry that Bytes to check can speak of is found, at the position that the rules read; and setting marks moves no entry and changes
-- no position. Assumes nothing.
use mathlib.Core.Path.{◌≡◌, refl, sym, ap, ap₂, ◌∙◌}
use mathlib.Core.Bool.{Bool, true, false, cond}
use mathlib.Core.List.{List}
use Prim.Native.Nat.{ℕ, zero, suc, ◌+◌, ◌*◌, ◌≤◌, ◌<◌}
use native.Mathlib.Decide.{dec_lt}
use native.Mathlib.Omega.{arith}
use borrow.Author.Tests.{lt-ltb, le-leb}
use lib.ListN.{length, set, drop}
use lib.Seq.{get_or-take, get_or-drop, get_or-set_same, get_or-set_other}
use lib.Dec.{eqb}
use Rattle.marks.specs.Entries.{pair_position}
use Rattle.roll.specs.Blocks.{block_bytes}
use Rattle.rules.specs.Bundle.{longest_bundle, byte, old_count, old_at, old_position, new_at, new_count, new_entries, bundle_fits}
use Rattle.rules.specs.Check.{old_list, new_list, entries_of}
use Rattle.bundle.proofs.Places.{old_ends, old_before_new, bundle_short, old_within, new_within}
use Rattle.marking.specs.Entry.{entry_at, position_of, marks_place, has_entry}
use Rattle.marking.proofs.Standing.{has_counted, has_within}

-- of a bundle, whatever the racks and the roll
module _ (n m rows : ℕ) (s : List ℕ) (fit : bundle_fits n m rows s ≡ true) (list i : ℕ) (h : i < entries_of s list) where
  ends : entry_at s list (i + 1) ≤ length s
  unfolding entry_at entries_of
  ends = go (eqb list old_list) (eqb list new_list) h
    where
      go : (a b : Bool) → i < cond a (old_count s) (cond b (new_count s) 0) → cond a (old_at s (i + 1)) (new_at s + (1 + 2 * (i + 1))) ≤ length s
      go true b l = old_within n m rows s fit (i + 1) (omega arith)
      go false true l = omega (arith, new_within n m rows s fit)
      go false false l = absurd (omega arith)

  -- each entry of its lists is found
  pub bundle_has : has_entry s list i ≡ true
  unfolding has_entry
  bundle_has =
      rw (le-leb (length s) longest_bundle (bundle_short n m rows s fit), lt-ltb i (entries_of s list) h, le-leb (entry_at s list (i + 1)) (length s) ends)

-- the positions are those that the rules read
pub old_positioned : (s : List ℕ) (i : ℕ) → position_of s old_list i ≡ old_position s i
unfolding entry_at
old_positioned s i = refl

pub new_positioned : (s : List ℕ) (i : ℕ) → i < new_count s → position_of s new_list i ≡ pair_position (new_entries s) i
unfolding entry_at new_entries
new_positioned s i h =
    let e : new_at s + (1 + 2 * i) ≡ new_at s + 1 + 2 * i = omega arith in
    ap (byte s) e ∙ sym (get_or-drop (new_at s + 1) s (2 * i) 0) ∙ sym (get_or-take (2 * new_count s) (drop (new_at s + 1) s) (2 * i) 0 (omega arith))

-- a byte that no block count is moves no old entry
module _ (s : List ℕ) (p m : ℕ) where
  old_stays : (c : ℕ) → ((k : ℕ) → k < c → p ≡ old_at s k + 2 → ⊥) → (k : ℕ) → k ≤ c → old_at (set s p m) k ≡ old_at s k
  unfolding old_at
  old_stays c free zero l = refl
  old_stays c free (suc k) l =
      ap (λ (x : ℕ). x + (3 + block_bytes * byte (set s p m) (x + 2))) (old_stays c free k (omega arith))
      ∙ ap (λ (y : ℕ). old_at s k + (3 + block_bytes * y)) (get_or-set_other s p (old_at s k + 2) m 0 (λ e. free k (omega arith) (sym e)))

-- an entry marked
module _ (s : List ℕ) (list i m : ℕ) (h : has_entry s list i ≡ true) where
  abbrev pub p : ℕ
  p = marks_place s list i

  abbrev pub marked : List ℕ
  marked = set s p m

  -- its marks are no block count, and neither of the counts
  no_blocks : (k : ℕ) → k < old_count s → p ≡ old_at s k + 2 → ⊥
  unfolding entry_at entries_of
  no_blocks k l = go (eqb list old_list) (eqb list new_list) (has_counted s list i h)
    where
      old : i < old_count s → Dec (k < i) → Dec (i < k) → old_at s i + 1 ≡ old_at s k + 2 → ⊥
      old c (yes a) b e = omega (arith, old_ends s k i a)
      old c (no a) (yes b) e = omega (arith, old_ends s i k b)
      old c (no a) (no b) e = let z : i ≡ k = omega arith in let y : old_at s i ≡ old_at s k = ap (old_at s) z in omega arith

      go :
          (a b : Bool) → i < cond a (old_count s) (cond b (new_count s) 0) → cond a (old_at s i) (new_at s + (1 + 2 * i)) + 1 ≡ old_at s k + 2 → ⊥
      go true b c e = old c (dec_lt k i) (dec_lt i k) e
      go false b c e = omega (arith, old_before_new s k l)

  pub marks_stand : byte marked p ≡ m
  marks_stand = get_or-set_same s p m 0 (has_within s list i h)

  -- every count stays, and so every place
  olds_stay : old_count marked ≡ old_count s
  olds_stay = get_or-set_other s p 0 m 0 (λ e. omega arith)

  no_count : new_at s ≡ p → ⊥
  unfolding entry_at entries_of
  no_count = go (eqb list old_list) (eqb list new_list) (has_counted s list i h)
    where
      go : (a b : Bool) → i < cond a (old_count s) (cond b (new_count s) 0) → new_at s ≡ cond a (old_at s i) (new_at s + (1 + 2 * i)) + 1 → ⊥
      go true b c e = omega (arith, old_before_new s i c)
      go false b c e = omega arith

  new_stays : new_at marked ≡ new_at s
  unfolding new_at
  new_stays = ap (old_at marked) olds_stay ∙ old_stays s p m (old_count s) no_blocks (old_count s) (omega arith)

  news_stay : new_count marked ≡ new_count s
  news_stay = ap (byte marked) new_stays ∙ get_or-set_other s p (new_at s) m 0 no_count

  pub entries_stay : (l : ℕ) → entries_of marked l ≡ entries_of s l
  unfolding entries_of
  entries_stay l = ap₂ (λ (a b : ℕ). cond (eqb l old_list) a (cond (eqb l new_list) b 0)) olds_stay news_stay

  pub places_stay : (l j : ℕ) → j ≤ entries_of s l → entry_at marked l j ≡ entry_at s l j
  unfolding entry_at entries_of
  places_stay l j = go (eqb l old_list) (eqb l new_list)
    where
      go :
          (a b : Bool) → j ≤ cond a (old_count s) (cond b (new_count s) 0)
          → cond a (old_at marked j) (new_at marked + (1 + 2 * j)) ≡ cond a (old_at s j) (new_at s + (1 + 2 * j))
      go true b c = old_stays s p m (old_count s) no_blocks j c
      go false b c = ap (λ (x : ℕ). x + (1 + 2 * j)) new_stays

  -- the marks are no entry's position
  no_position : (l j : ℕ) → j < entries_of s l → entry_at s l j ≡ p → ⊥
  unfolding entry_at entries_of
  no_position l j d = go (eqb list old_list) (eqb list new_list) (eqb l old_list) (eqb l new_list) (has_counted s list i h) d
    where
      old : Dec (j < i) → Dec (i < j) → old_at s j ≡ old_at s i + 1 → ⊥
      old (yes a) b e = omega (arith, old_ends s j i a)
      old (no a) (yes b) e = omega (arith, old_ends s i j b)
      old (no a) (no b) e = let z : i ≡ j = omega arith in let y : old_at s i ≡ old_at s j = ap (old_at s) z in omega arith

      go :
          (a b a' b' : Bool) → i < cond a (old_count s) (cond b (new_count s) 0) → j < cond a' (old_count s) (cond b' (new_count s) 0)
          → cond a' (old_at s j) (new_at s + (1 + 2 * j)) ≡ cond a (old_at s i) (new_at s + (1 + 2 * i)) + 1 → ⊥
      go true b true b' c c' e = old (dec_lt j i) (dec_lt i j) e
      go true b false b' c c' e = omega (arith, old_before_new s i c)
      go false b true b' c c' e = omega (arith, old_before_new s j c')
      go false b false b' c c' e = omega arith

  pub positions_stay : (l j : ℕ) → j < entries_of s l → position_of marked l j ≡ position_of s l j
  positions_stay l j d =
      ap (byte marked) (places_stay l j (omega arith)) ∙ get_or-set_other s p (entry_at s l j) m 0 (no_position l j d)
