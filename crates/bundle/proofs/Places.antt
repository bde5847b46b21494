-- Laws of the places in a bundle: they only grow, so that a string that ends where its last list does has every part within; and what a bundle has. Assumes nothing.
use mathlib.Core.Path.{◌≡◌, refl, sym, ap, ◌∙◌}
use mathlib.Core.Bool.{Bool, true, false, ◌&&◌}
use mathlib.Core.List.{List}
use Prim.Native.Nat.{ℕ, zero, suc, ◌+◌, ◌-◌, ◌*◌, ◌/◌, ◌<◌, ◌≤◌}
use native.Mathlib.Decide.{dec_lt}
use native.Mathlib.Nat.{add-zero, mul-suc, mul-le-mul_left}
use native.Mathlib.Numerals.{add-one}
use native.Mathlib.Omega.{arith}
use borrow.Author.Tests.{lt-leb, leb-true, eqb-true}
use lib.ListN.{length, take, drop, length-drop}
use lib.Seq.{length-take-le, get_or-take, get_or-drop}
use lib.Dec.{eqb, leb}
use Rattle.std.specs.Int.{w16, from_be_bytes}
use Rattle.octets.specs.Numbers.{number_of}
use Rattle.octets.proofs.RoundTrips.{and_left, and_right}
use Rattle.marks.specs.Entries.{entries_fit, pair_position, pair_marks}
use Rattle.marks.proofs.Listed.{no_more_than}
use Rattle.rows.specs.Table.{each}
use Rattle.rows.proofs.Tables.{each_of}
use Rattle.roll.specs.Blocks.{block_bytes}
use Rattle.statement.specs.Kinds.{digest_bytes}
use Rattle.rules.specs.Bundle.{longest_bundle, most_blocks, most_added, byte, old_count, old_at, old_position, old_marks, old_blocks, old_roll, blocks_fit}
use Rattle.rules.specs.Bundle.{new_at, new_count, new_entries, two_byte, list_at, list_of, added, digests, added_fits, bundle_fits}

-- what grows at each step has grown from any place to any later one
grown : (f : ℕ → ℕ) → ((i : ℕ) → f i ≤ f (suc i)) → (i j : ℕ) → i ≤ j → f i ≤ f j
grown f grows i zero h = let e : i ≡ 0 = omega arith in rw e (omega arith)
grown f grows i (suc j) h = go (λ l. grown f grows i j l) (dec_lt i (suc j))
  where
    go : (i ≤ j → f i ≤ f j) → Dec (i < suc j) → f i ≤ f (suc j)
    go earlier (yes l) = omega (arith, earlier (omega arith), grows j)
    go earlier (no g) = let e : i ≡ suc j = omega arith in rw e (omega arith)

-- the number of the two bytes at a place
pub two_bytes : (s : List ℕ) (at : ℕ) → from_be_bytes w16 (take 2 (drop at s)) ≡ two_byte s at
unfolding two_byte number_of
two_bytes s at =
    rw (
      get_or-take 2 (drop at s) 0 0 (omega arith),
      get_or-take 2 (drop at s) 1 0 (omega arith),
      get_or-drop at s 0 0,
      get_or-drop at s 1 0,
      add-zero at,
    ) (omega arith)

module _ (s : List ℕ) where
  pub old_next : (i : ℕ) → old_at s (i + 1) ≡ old_at s i + (3 + block_bytes * old_blocks s i)
  unfolding old_at
  old_next i = rw (add-one i)

  pub list_next : (j : ℕ) → list_at s (j + 1) ≡ list_at s j + (2 + digest_bytes * added s j)
  unfolding list_at
  list_next j = rw (add-one j)

  -- a step of a walk
  pub old_step : (i at : ℕ) {next : ℕ} → at ≡ old_at s i → next ≡ at + (3 + block_bytes * byte s (at + 2)) → next ≡ old_at s (i + 1)
  old_step i at p q = q ∙ ap (λ (x : ℕ). x + (3 + block_bytes * byte s (x + 2))) p ∙ sym (old_next i)

  pub list_step : (j at : ℕ) {next : ℕ} → at ≡ list_at s j → next ≡ at + (2 + digest_bytes * two_byte s at) → next ≡ list_at s (j + 1)
  list_step j at p q = q ∙ ap (λ (x : ℕ). x + (2 + digest_bytes * two_byte s x)) p ∙ sym (list_next j)

  pub list_first : list_at s 0 ≡ new_at s + (1 + 2 * new_count s)
  unfolding list_at
  list_first = refl

  old_grows : (i : ℕ) → old_at s i ≤ old_at s (suc i)
  unfolding old_at
  old_grows i = omega arith

  list_grows : (j : ℕ) → list_at s j ≤ list_at s (suc j)
  unfolding list_at
  list_grows j = omega arith

  pub old_later : (i j : ℕ) → i ≤ j → old_at s i ≤ old_at s j
  old_later i j h = grown (old_at s) old_grows i j h

  pub list_later : (i j : ℕ) → i ≤ j → list_at s i ≤ list_at s j
  list_later i j h = grown (list_at s) list_grows i j h

  -- the first byte stands before each old entry
  pub old_some : (i : ℕ) → 1 ≤ old_at s i
  unfolding old_at
  old_some i = old_later 0 i (omega arith)

  pub new_some : 1 ≤ new_at s
  unfolding new_at
  new_some = old_some (old_count s)

  -- an old entry has its head and blocks before the next place
  pub old_ends : (i j : ℕ) → i < j → old_at s i + (3 + block_bytes * old_blocks s i) ≤ old_at s j
  old_ends i j h = omega (arith, old_next i, old_later (i + 1) j (omega arith))

  -- where the head of an old entry does not fit, no later one ends within
  pub old_past : (i j : ℕ) → i < j → length s < old_at s i + 3 → leb (old_at s j) (length s) ≡ false
  old_past i j h past = lt-leb (old_at s j) (length s) (omega (arith, old_ends i j h))

  pub list_ends : (i j : ℕ) → i < j → list_at s i + (2 + digest_bytes * added s i) ≤ list_at s j
  list_ends i j h = omega (arith, list_next i, list_later (i + 1) j (omega arith))

  -- the old entries end where the new ones begin
  pub old_before_new : (i : ℕ) → i < old_count s → old_at s i + (3 + block_bytes * old_blocks s i) ≤ new_at s
  unfolding new_at
  old_before_new i h = old_ends i (old_count s) h

  pub new_before_lists : (j : ℕ) → new_at s + (1 + 2 * new_count s) ≤ list_at s j
  new_before_lists j = omega (arith, list_first, list_later 0 j (omega arith))

  -- what stands between two places
  pub roll_part : (i : ℕ) {from end : ℕ} → from ≡ old_at s i + 3 → end ≡ old_at s (i + 1) → take (end - from) (drop from s) ≡ old_roll s i
  unfolding old_roll
  roll_part i {from} {end} p q =
      let e : end - from ≡ block_bytes * old_blocks s i = omega (arith, old_next i) in rw (e, p)

  pub digests_part : (j : ℕ) {from end : ℕ} → from ≡ list_at s j + 2 → end ≡ list_at s (j + 1) → take (end - from) (drop from s) ≡ digests s j
  unfolding digests
  digests_part j {from} {end} p q =
      let e : end - from ≡ digest_bytes * added s j = omega (arith, list_next j) in rw (e, p)

  -- the new entries, where they lie within
  module _ (within : list_at s 0 ≤ length s) where
    pub new_part : {from end : ℕ} → from ≡ new_at s + 1 → end ≡ list_at s 0 → take (end - from) (drop from s) ≡ new_entries s
    unfolding new_entries
    new_part {from} {end} p q =
        let e : end - from ≡ 2 * new_count s = omega (arith, list_first) in rw (e, p)

    pub new_long : length (new_entries s) ≡ 2 * new_count s
    unfolding new_entries
    new_long = length-take-le (2 * new_count s) (drop (new_at s + 1) s) (omega (arith, length-drop (new_at s + 1) s, list_first))

    pub new_half : length (new_entries s) / 2 ≡ new_count s
    new_half = omega (arith, new_long)

-- the number of a list is below how many there are
pub list_below : (rows i a r : ℕ) → i < a → r < rows → list_of rows i r < rows * a
list_below rows i a r h k = omega (arith, mul-suc rows i, mul-le-mul_left {m = suc i} {n = a} rows h)

-- what a bundle has
module _ (n m rows : ℕ) (s : List ℕ) (fit : bundle_fits n m rows s ≡ true) where
  short : Bool
  short = leb (length s) longest_bundle

  olds : Bool
  olds = entries_fit n (old_position s) (old_marks s) (old_count s)

  blocked : Bool
  blocked = each (blocks_fit s) (old_count s)

  news : Bool
  news = entries_fit m (pair_position (new_entries s)) (pair_marks (new_entries s)) (new_count s)

  counted : Bool
  counted = each (added_fits s) (rows * old_count s)

  ended : Bool
  ended = eqb (list_at s (rows * old_count s)) (length s)

  front : (short && (olds && blocked) ≡ true) × (news ≡ true) × (counted ≡ true) × (ended ≡ true)
  unfolding bundle_fits short olds blocked news counted ended
  front =
      let p = and_left (short && (olds && blocked) && news && counted) ended fit in
      let q = and_left (short && (olds && blocked) && news) counted p in (
        and_left (short && (olds && blocked)) news q,
        and_right (short && (olds && blocked)) news q,
        and_right (short && (olds && blocked) && news) counted p,
        and_right (short && (olds && blocked) && news && counted) ended fit,
      )

  pub bundle_short : length s ≤ longest_bundle
  unfolding short
  bundle_short = leb-true (length s) longest_bundle (and_left short (olds && blocked) front.0)

  pub bundle_old : entries_fit n (old_position s) (old_marks s) (old_count s) ≡ true
  unfolding olds
  bundle_old = and_left olds blocked (and_right short (olds && blocked) front.0)

  pub bundle_new : entries_fit m (pair_position (new_entries s)) (pair_marks (new_entries s)) (new_count s) ≡ true
  unfolding news
  bundle_new = front.1

  pub bundle_ends : list_at s (rows * old_count s) ≡ length s
  unfolding ended
  bundle_ends = eqb-true (list_at s (rows * old_count s)) (length s) front.3

  pub old_few : old_count s ≤ n
  old_few = no_more_than n (old_position s) (old_marks s) (old_count s) bundle_old

  pub new_few : new_count s ≤ m
  new_few = no_more_than m (pair_position (new_entries s)) (pair_marks (new_entries s)) (new_count s) bundle_new

  pub list_within : (j : ℕ) → j ≤ rows * old_count s → list_at s j ≤ length s
  list_within j h = omega (arith, bundle_ends, list_later s j (rows * old_count s) h)

  pub list_whole : (j : ℕ) → j < rows * old_count s → list_at s j + (2 + digest_bytes * added s j) ≤ length s
  list_whole j h = omega (arith, bundle_ends, list_ends s j (rows * old_count s) h)

  pub added_few : (j : ℕ) → j < rows * old_count s → added s j ≤ most_added
  unfolding counted added_fits
  added_few j h = leb-true (added s j) most_added (each_of (added_fits s) (rows * old_count s) j h front.2)

  pub new_within : new_at s + (1 + 2 * new_count s) ≤ length s
  new_within = omega (arith, list_first s, list_within 0 (omega arith))

  pub old_whole : (i : ℕ) → i < old_count s → old_at s i + (3 + block_bytes * old_blocks s i) ≤ length s
  old_whole i h = omega (arith, new_within, old_before_new s i h)

  pub old_within : (i : ℕ) → i ≤ old_count s → old_at s i ≤ length s
  unfolding new_at
  old_within i h = omega (arith, new_within, old_later s i (old_count s) h)

  -- "block count 1 to 7"
  pub blocks_few : (i : ℕ) → i < old_count s → (1 ≤ old_blocks s i) × (old_blocks s i ≤ most_blocks)
  unfolding blocked blocks_fit
  blocks_few i h =
      let e = each_of (blocks_fit s) (old_count s) i h (and_right olds blocked (and_right short (olds && blocked) front.0)) in (
        leb-true 1 (old_blocks s i) (and_left (leb 1 (old_blocks s i)) (leb (old_blocks s i) most_blocks) e),
        leb-true (old_blocks s i) most_blocks (and_right (leb 1 (old_blocks s i)) (leb (old_blocks s i) most_blocks) e),
      )

  pub new_length : length (new_entries s) ≡ 2 * new_count s
  new_length = new_long s (list_within 0 (omega arith))
