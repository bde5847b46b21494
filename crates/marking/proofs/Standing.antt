-- Whether a list has an entry, test by test, and where the entry lies then. Assumes nothing.
use mathlib.Core.Path.{◌≡◌, ap}
use mathlib.Core.Bool.{Bool, true, false, cond, ◌&&◌}
use mathlib.Core.List.{List}
use Prim.Native.Nat.{ℕ, ◌+◌, ◌*◌, ◌≤◌, ◌<◌}
use native.Mathlib.Omega.{arith}
use borrow.Author.Tests.{eq-eqb, ne_eqb, le-ltb, le-leb, lt-leb, leb-true, ltb-true}
use lib.ListN.{length, get_or-eq_default}
use lib.Dec.{eqb, leb, ltb}
use Rattle.std.specs.Prelude.{Some}
use Rattle.std.specs.Bool.{then_some}
use Rattle.octets.proofs.RoundTrips.{and_left, and_right}
use Rattle.rules.specs.Bundle.{longest_bundle, old_count, old_at, new_at, new_count}
use Rattle.rules.specs.Check.{old_list, new_list, entries_of}
use Rattle.bundle.proofs.Listed.{then_is}
use Rattle.bundle.proofs.Places.{old_next}
use Rattle.marking.specs.Entry.{entry_at, has_entry}

module _ (s : List ℕ) where
  -- all old entries end where the new ones begin
  pub reached :
      (k : ℕ) → k ≡ old_count s → then_some (leb (old_at s k) (length s)) (old_at s k) ≡ then_some (leb (new_at s) (length s)) (new_at s)
  unfolding new_at
  reached k e = ap (λ (x : ℕ). then_some (leb (old_at s x) (length s)) (old_at s x)) e

  module _ (i : ℕ) where
    pub no_old : length s ≡ 0 → ltb i (old_count s) ≡ false
    no_old e = le-ltb i (old_count s) (omega (arith, get_or-eq_default s 0 {n = 0} (omega arith)))

    pub no_new : length s ≤ new_at s → ltb i (new_count s) ≡ false
    no_new past = le-ltb i (new_count s) (omega (arith, get_or-eq_default s 0 {n = new_at s} past))

module _ (s : List ℕ) (list i : ℕ) where
  pub at_old : list ≡ 0 → entry_at s list i ≡ old_at s i
  unfolding entry_at
  at_old e = rw (eq-eqb list old_list e)

  pub at_new : (list ≡ 0 → ⊥) → entry_at s list i ≡ new_at s + (1 + 2 * i)
  unfolding entry_at
  at_new n = rw (ne_eqb list old_list n)

  -- position and marks stand before the next place
  pub next_after : entry_at s list i + 2 ≤ entry_at s list (i + 1)
  unfolding entry_at
  next_after = go (eqb list old_list)
    where
      go : (b : Bool) → cond b (old_at s i) (new_at s + (1 + 2 * i)) + 2 ≤ cond b (old_at s (i + 1)) (new_at s + (1 + 2 * (i + 1)))
      go true = omega (arith, old_next s i)
      go false = omega arith

  -- each test decides
  pub too_long : longest_bundle < length s → has_entry s list i ≡ false
  unfolding has_entry
  too_long h = rw (lt-leb (length s) longest_bundle h)

  pub long_none : longest_bundle < length s → has_entry s list i ≡ false
  unfolding has_entry
  long_none h = rw (lt-leb (length s) longest_bundle h)

  module _ (short : length s ≤ longest_bundle) where
    pub old_has : list ≡ 0 → (ltb i (old_count s) && leb (old_at s (i + 1)) (length s)) ≡ has_entry s list i
    unfolding has_entry entry_at entries_of
    old_has e = rw (le-leb (length s) longest_bundle short, eq-eqb list old_list e)

    pub new_has : list ≡ 1 → (ltb i (new_count s) && leb (new_at s + (1 + 2 * (i + 1))) (length s)) ≡ has_entry s list i
    unfolding has_entry entry_at entries_of
    new_has e = rw (le-leb (length s) longest_bundle short, ne_eqb list old_list (λ z. omega arith), eq-eqb list new_list e)

    pub none_has : (list ≡ 0 → ⊥) → (list ≡ 1 → ⊥) → has_entry s list i ≡ false
    unfolding has_entry entries_of
    none_has m n = rw (le-leb (length s) longest_bundle short, ne_eqb list old_list m, ne_eqb list new_list n, le-ltb i 0 (omega arith))

  -- an entry that a list has
  module _ (h : has_entry s list i ≡ true) where
    short : Bool
    short = leb (length s) longest_bundle

    counted : Bool
    counted = ltb i (entries_of s list)

    ended : Bool
    ended = leb (entry_at s list (i + 1)) (length s)

    pub has_short : length s ≤ longest_bundle
    unfolding has_entry short counted ended
    has_short = leb-true (length s) longest_bundle (and_left short counted (and_left (short && counted) ended h))

    pub has_counted : i < entries_of s list
    unfolding has_entry short counted ended
    has_counted = ltb-true i (entries_of s list) (and_right short counted (and_left (short && counted) ended h))

    pub has_end : entry_at s list (i + 1) ≤ length s
    unfolding has_entry short counted ended
    has_end = leb-true (entry_at s list (i + 1)) (length s) (and_right (short && counted) ended h)

    -- position and marks stand within
    pub has_within : entry_at s list i + 1 < length s
    has_within = omega (arith, next_after, has_end)

-- where the search finds an entry: the string is short, and position and marks stand within
pub found_within :
    (s : List ℕ) (list i at : ℕ) → Some at ≡ then_some (has_entry s list i) (entry_at s list i) → (length s ≤ longest_bundle) × (at + 1 < length s)
found_within s list i at e =
    let p = then_is _ _ _ e in
    (has_short s list i p.0, omega (arith, p.1, has_within s list i p.0))
