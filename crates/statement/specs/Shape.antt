-- What the types of a statement's fields give: arrays of 32 and 16 bytes, numbers of 64 bits.
use Rattle.std.specs.Prelude.{◌<◌, ◌^◌, ◌≡◌, length}
use Rattle.statement.specs.declared.Kind.{Kind}
use Rattle.statement.specs.declared.Kind.TheVariants.{Blank, New, Append, Read, Finalise, Initialise}
use Rattle.statement.specs.declared.Statement.{Statement}
use Rattle.statement.specs.Kinds.{digest_bytes, label_bytes}

pub record Arrays (v : Statement) : Type 0 where
  pub identity : length v.identity ≡ digest_bytes
  pub own : length v.own ≡ digest_bytes
  pub label : length v.label ≡ label_bytes
  pub tail : length v.tail ≡ digest_bytes
  pub other : length v.other ≡ digest_bytes
  pub roll : length v.roll ≡ digest_bytes

abbrev pub Numbers : Kind → Type 0
Numbers Blank = Unit {0}
Numbers New = Unit {0}
Numbers (Append height) = height < 2 ^ 64
Numbers (Read height nonce-high nonce-low) = (height < 2 ^ 64) × (nonce-high < 2 ^ 64) × (nonce-low < 2 ^ 64)
Numbers Finalise = Unit {0}
Numbers Initialise = Unit {0}

pub record Shaped (v : Statement) : Type 0 where
  pub arrays : Arrays v
  pub numbers : Numbers v.kind
