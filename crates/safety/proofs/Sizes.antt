-- The sizes of what a woken keeper holds, and the statements that are written with it: how long they are, and that they are cut back. Assumes nothing.
use mathlib.Core.Path.{◌≡◌, refl}
use mathlib.Core.Bool.{true}
use mathlib.Core.List.{List}
use Prim.Native.Nat.{ℕ}
use lib.ListN.{length}
use Rattle.octets.specs.Strings.{all_zero}
use Rattle.hash.proofs.Promised.{sha256-length}
use Rattle.rack.specs.Racks.{rack_digest}
use Rattle.rows.specs.Digests.{roll_digest, appended}
use Rattle.statement.specs.declared.Statement.{Statement}
use Rattle.statement.specs.Kinds.{digest_bytes, size}
use Rattle.statement.specs.Contents.{statement_written, handover_fits, fits_as, statement_fits}
use Rattle.statement.specs.Cut.{cut_statement}
use Rattle.statement.specs.Shape.{Shaped}
use Rattle.statement.proofs.Cuts.{cut_written}
use Rattle.statement.proofs.Records.{fits_kind, written_length}
use Rattle.rules.specs.declared.Head.{Head}
use Rattle.safety.proofs.Views.{enter_of, leave_of}

pub record Whole (h : Head) : Type 0 where
  pub identity : length h.identity ≡ digest_bytes
  pub own : length h.own ≡ digest_bytes
  pub previous : length h.previous ≡ digest_bytes

-- digests are 32 bytes long
pub rack_digest_long : (rack : List ℕ) → length (rack_digest rack) ≡ digest_bytes
unfolding rack_digest
rack_digest_long rack = sha256-length _

pub roll_digest_long : (count : ℕ) (rows : List ℕ) → length (roll_digest count rows) ≡ digest_bytes
unfolding roll_digest
roll_digest_long count rows = sha256-length _

pub appended_long : (tail entry : List ℕ) → length (appended tail entry) ≡ digest_bytes
unfolding appended
appended_long tail entry = sha256-length _

-- a statement that is written is as long as its kind says, and is cut back
pub record Back (v : Statement) : Type 0 where
  pub long : length (statement_written v) ≡ size v.kind
  pub cut : cut_statement (statement_written v) ≡ v

pub back : (v : Statement) → Shaped v → statement_fits v ≡ true → Back v
back v shape fits = record { long = written_length v shape.arrays (fits_kind v fits); cut = cut_written v shape fits }

-- those of a handover
module _ (identity other own roll : List ℕ) (i : length identity ≡ digest_bytes) (x : length other ≡ digest_bytes) (o : length own ≡ digest_bytes) (r : length roll ≡ digest_bytes) where
  pub enter_back : Back (enter_of identity other own roll)
  unfolding all_zero handover_fits fits_as statement_fits
  enter_back =
      back (enter_of identity other own roll)
      (record { arrays = record { identity = i; own = o; label = refl; tail = refl; other = x; roll = r }; numbers = tt }) refl

  pub leave_back : Back (leave_of identity own other roll)
  unfolding all_zero handover_fits fits_as statement_fits
  leave_back =
      back (leave_of identity own other roll)
      (record { arrays = record { identity = i; own = o; label = refl; tail = refl; other = x; roll = r }; numbers = tt }) refl
