-- Writing a block, case by case, and the block that is written. Assumes nothing.
use mathlib.Core.Path.{◌≡◌, refl}
use mathlib.Core.Bool.{Bool, true, false}
use mathlib.Core.List.{List, [], ◌∷◌}
use Prim.Native.Nat.{ℕ, ◌+◌, ◌*◌, ◌/◌, ◌≤◌, ◌<◌}
use native.Mathlib.Omega.{arith}
use borrow.Author.Tests.{lt-ltb, le-ltb, leb-true, eqb-true}
use lib.ListN.{length}
use lib.Dec.{eqb, leb}
use Rattle.refusals.specs.{accepted, area_too_short}
use Rattle.octets.specs.Strings.{put}
use Rattle.octets.specs.Layouts.{unwritten}
use Rattle.octets.proofs.Puts.{put-put}
use Rattle.octets.proofs.RoundTrips.{and_left, and_right}
use Rattle.rack.specs.Racks.{most}
use Rattle.statement.specs.Kinds.{reading_size}
use Rattle.checks.specs.Check.{block_bytes, checked_bytes, check, checked}
use Rattle.checks.proofs.Checks.{check-length}
use Rattle.filing.specs.Filed.{receipt_fits, filed}

module _ (fits : Bool) (broken : ℕ) (body area : List ℕ) where
  pub filed-broken : fits ≡ false → record { answer = broken; count = 0; area = area } ≡ filed fits broken body area
  unfolding filed unwritten
  filed-broken f = rw f

  pub filed_short : fits ≡ true → length area < block_bytes → record { answer = area_too_short; count = 0; area = area } ≡ filed fits broken body area
  unfolding filed unwritten
  filed_short f h = rw (f, lt-ltb (length area) block_bytes h)

  pub filed_done :
      fits ≡ true → block_bytes ≤ length area → record { answer = accepted; count = block_bytes; area = put area 0 (checked body) } ≡ filed fits broken body area
  unfolding filed unwritten
  filed_done f h = rw (f, le-ltb (length area) block_bytes h)

-- a block's first bytes, and their check behind them
pub check_behind :
    (area body : List ℕ) → length body ≡ checked_bytes → block_bytes ≤ length area → put (put area 0 body) checked_bytes (check body) ≡ put area 0 (checked body)
unfolding checked
check_behind area body e h = put-put area 0 body (check body) checked_bytes (omega arith) (omega (arith, check-length body))

-- a byte, and a string behind it
pub counted_put : (d : List ℕ) (at c : ℕ) (s : List ℕ) → at + (1 + length s) ≤ length d → put (put d at (c ∷ [])) (at + 1) s ≡ put d at (c ∷ s)
counted_put d at c s h = put-put d at (c ∷ []) s (at + 1) refl (omega arith)

module _ (s signers : List ℕ) (h : receipt_fits s signers ≡ true) where
  pub fits_statement : length s ≤ reading_size
  unfolding receipt_fits
  fits_statement = leb-true (length s) reading_size (and_left (leb (length s) reading_size) _ h)

  pub fits_signers : length signers ≤ 2 * most
  unfolding receipt_fits
  fits_signers =
      let k = and_right (leb (length s) reading_size) _ h in
      let e : 2 * (length signers / 2) ≡ length signers = eqb-true _ _ (and_left (eqb (2 * (length signers / 2)) (length signers)) _ k) in
      let m : length signers / 2 ≤ most = leb-true _ _ (and_right (eqb (2 * (length signers / 2)) (length signers)) _ k) in
      omega arith
