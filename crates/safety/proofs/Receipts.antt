-- The receipts that New, Append and Read sign: how long they are, and that cut back they show the row. Assumes nothing.
use mathlib.Core.Path.{◌≡◌, refl, sym, ap, ap₂, subst, ◌∙◌}
use mathlib.Core.Bool.{true, false, not}
use mathlib.Core.List.{List, [], ◌∷◌, ◌++◌}
use Prim.Native.Nat.{ℕ, ◌+◌, ◌*◌, ◌/◌, ◌%◌, ◌^◌, ◌≤◌, ◌<◌}
use native.Mathlib.Omega.{arith}
use borrow.Author.Tests.{le-leb, ne_eqb}
use lib.ListN.{length}
use lib.Dec.{eqb}
use Rattle.octets.specs.Numbers.{bytes_of}
use Rattle.octets.specs.Strings.{all_zero}
use Rattle.octets.proofs.Exact.{bytes_above}
use Rattle.rows.specs.Sizes.{top_height}
use Rattle.rows.specs.Row.{row_holds}
use Rattle.statement.specs.declared.Kind.{Kind}
use Rattle.statement.specs.declared.Kind.TheVariants.{New, Append, Read}
use Rattle.statement.specs.declared.Statement.{Statement}
use Rattle.statement.specs.Kinds.{digest_bytes, label_bytes, number_bytes, receipt_size, reading_size}
use Rattle.statement.specs.Contents.{receipt, body, statement_written, receipt_fits, fits_as, statement_fits}
use Rattle.statement.specs.Cut.{cut_statement, no_digest}
use Rattle.statement.specs.Shape.{Arrays}
use Rattle.rules.specs.declared.Head.{Head}
use Rattle.rules.specs.Rows.{receipt_of}
use Rattle.safety.specs.Calls.{Keeper}
use Rattle.safety.specs.Histories.{◌∈◌, at_front, behind}
use Rattle.safety.proofs.Views.{roll_in, Notes, of_new, of_append, of_read, standing, look}
use Rattle.safety.proofs.Sizes.{Whole, Back, back}
use Rattle.rules.proofs.FoundRows.{row_below}

-- what is said by one statement, and by two
there : {v : Statement} {l : List Statement} → v ∈ l → 0 < length l
there at_front = omega arith
there (behind m) = omega arith

pub notes_one : (k : Keeper) (w : Statement) → Notes k w → (v : Statement) → v ∈ (w ∷ []) → Notes k v
notes_one k w n v at_front = n
notes_one k w n v (behind m) = absurd (omega (arith, there m))

pub notes_two : (k : Keeper) (w x : Statement) → Notes k w → Notes k x → (v : Statement) → v ∈ (w ∷ x ∷ []) → Notes k v
notes_two k w x n m v at_front = n
notes_two k w x n m v (behind i) = notes_one k x m v i

-- a statement shows its row at a keeper with the head's identity and own rack
pub record Signed (k : Keeper) (size : ℕ) (s : List ℕ) : Type 0 where
  pub long : length s ≡ size
  pub shows : Notes k (cut_statement s)

module _ (h : Head) (whole : Whole h) (label tail : List ℕ) (sized : length label ≡ label_bytes) (tailed : length tail ≡ digest_bytes)
    (k : Keeper) (identity : k.head.identity ≡ h.identity) (own : k.head.own ≡ h.own) where
  arrays : (kind : Kind) → Arrays (receipt_of h kind label tail)
  arrays kind = record { identity = whole.identity; own = whole.own; label = sized; tail = tailed; other = refl; roll = refl }

  pub new_signed : not (all_zero label) ≡ true → tail ≡ no_digest → look (roll_in k) label ≡ standing 0 tail → Signed k receipt_size (statement_written (receipt_of h New label tail))
  unfolding all_zero row_holds receipt_fits fits_as statement_fits
  new_signed nonzero empty e =
      let z : all_zero tail ≡ true = ap all_zero empty in
      let b : Back (receipt_of h New label tail) = back (receipt_of h New label tail) (record { arrays = arrays New; numbers = tt }) (rw (nonzero, z)) in
      record { long = b.long; shows = subst (Notes k) (sym b.cut) (record { receipt = of_new; identity = sym identity; own = sym own; shows = e }) }

  pub append_signed :
      (height : ℕ) → not (all_zero label) ≡ true → 1 ≤ height → height ≤ top_height → look (roll_in k) label ≡ standing height tail
      → Signed k receipt_size (statement_written (receipt_of h (Append height) label tail))
  unfolding all_zero row_holds receipt_fits fits_as statement_fits
  append_signed height nonzero low high e =
      let z : eqb height 0 ≡ false = ne_eqb height 0 (λ x. omega arith) in
      let b : Back (receipt_of h (Append height) label tail) =
      back (receipt_of h (Append height) label tail) (record { arrays = arrays (Append height); numbers = omega arith })
      (rw (nonzero, le-leb 1 height low, le-leb height top_height high, z)) in
      record { long = b.long; shows = subst (Notes k) (sym b.cut) (record { receipt = of_append; identity = sym identity; own = sym own; shows = e }) }

  -- a nonce's halves are written as their last eight bytes
  low : ℕ → ℕ
  low x = x % 18446744073709551616

  low_below : (x : ℕ) → low x < 2 ^ 64
  unfolding low
  low_below x = omega arith

  low_bytes : (x : ℕ) → bytes_of number_bytes x ≡ bytes_of number_bytes (low x)
  unfolding low
  low_bytes x =
      let e : x ≡ x / 18446744073709551616 * 256 ^ number_bytes + x % 18446744073709551616 = omega arith in
      ap (bytes_of number_bytes) e ∙ bytes_above number_bytes (x / 18446744073709551616) (x % 18446744073709551616)

  abbrev reading_of : ℕ → ℕ → ℕ → Statement
  reading_of height x y = receipt_of h (Read height x y) label tail

  read_written : (height x y : ℕ) → statement_written (reading_of height x y) ≡ statement_written (reading_of height (low x) (low y))
  unfolding receipt body statement_written
  read_written height x y =
      ap₂ (λ (a b : List ℕ). 3 ∷ h.identity ++ ((h.own ++ label ++ tail ++ bytes_of number_bytes height) ++ a ++ b)) (low_bytes x) (low_bytes y)

  read_fits : (height x y : ℕ) → row_holds label tail height ≡ true → statement_fits (reading_of height x y) ≡ true
  unfolding all_zero receipt_fits fits_as statement_fits
  read_fits height x y holds = rw holds

  pub read_signed :
      (height x y : ℕ) → row_holds label tail height ≡ true → look (roll_in k) label ≡ standing height tail
      → Signed k reading_size (statement_written (receipt_of h (Read height x y) label tail))
  read_signed height x y holds e =
      let top = row_below label tail height holds in
      let b : Back (reading_of height (low x) (low y)) =
      back (reading_of height (low x) (low y)) (record { arrays = arrays (Read height (low x) (low y)); numbers = (omega arith, low_below x, low_below y) })
      (read_fits height (low x) (low y) holds) in
      let r = read_written height x y in
      record {
        long = ap length r ∙ b.long;
        shows = subst (Notes k) (sym (ap cut_statement r ∙ b.cut)) (record { receipt = of_read; identity = sym identity; own = sym own; shows = e });
      }
