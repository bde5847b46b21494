-- Strings taken apart into statements, whether or not the layout holds. 01, "Layouts", "Statement": "A parsed statement is one record whose last part
-- depends on its kind."
use Rattle.std.specs.Prelude.{ℕ, Bool, cond, ◌&&◌, List, length, get_or, replicate, eqb}
use Rattle.statement.specs.declared.Kind.{Kind}
use Rattle.statement.specs.declared.Kind.TheVariants.{Blank, New, Append, Read, Finalise, Initialise}
use Rattle.statement.specs.declared.Statement.{Statement}
use Rattle.statement.specs.Kinds.{kind_number, size, digest_bytes, label_bytes, identity_place, first_place, second_place, third_place}
use Rattle.statement.specs.Kinds.{label_place, tail_place, height_place, nonce_place, nonce_half, digest_at, label_at, number_at}

-- a string has the length and the first byte of a kind
abbrev pub starts : Kind → List ℕ → Bool
starts k s = eqb (length s) (size k) && eqb (get_or s 0 0) (kind_number k)

-- the kind of a string, with its numbers; blank where it has none. "Kind 1 has height 0"
unfoldable pub kind_at : List ℕ → Kind
kind_at s =
    let append : Kind = Append (number_at height_place s) in
    let read : Kind = Read (number_at height_place s) (number_at nonce_place s) (number_at nonce_half s) in
    cond (starts New s) (cond (eqb (number_at height_place s) 0) New Blank)
    (cond (starts append s) append
    (cond (starts read s) read
    (cond (starts Finalise s) Finalise
    (cond (starts Initialise s) Initialise
    Blank))))

abbrev pub no_digest : List ℕ
no_digest = replicate digest_bytes 0

abbrev pub no_label : List ℕ
no_label = replicate label_bytes 0

-- a statement of digests, without a label and a tail
abbrev pub handover_of : Kind → List ℕ → List ℕ → List ℕ → List ℕ → Statement
handover_of kind identity own other roll =
    record { kind = kind; identity = identity; own = own; label = no_label; tail = no_digest; other = other; roll = roll }

-- no statement
unfoldable pub blank_statement : Statement
blank_statement =
    record { kind = Blank; identity = no_digest; own = no_digest; label = no_label; tail = no_digest; other = no_digest; roll = no_digest }

-- "own rack digest, label, tail" behind the identity; no other digest
unfoldable pub receipt_at : Kind → List ℕ → Statement
receipt_at k s =
    record {
      kind = k;
      identity = digest_at identity_place s;
      own = digest_at first_place s;
      label = label_at label_place s;
      tail = digest_at tail_place s;
      other = no_digest;
      roll = no_digest;
    }

-- three digests behind the identity, the own one and the other in either order; no label, no tail
unfoldable pub handover_at : Kind → ℕ → ℕ → List ℕ → Statement
handover_at k own_at other_at s =
    record {
      kind = k;
      identity = digest_at identity_place s;
      own = digest_at own_at s;
      label = no_label;
      tail = no_digest;
      other = digest_at other_at s;
      roll = digest_at third_place s;
    }

-- a string taken apart as one of a kind
unfoldable pub cut_as : Kind → List ℕ → Statement
cut_as Blank s = blank_statement
cut_as New s = receipt_at New s
cut_as (Append height) s = receipt_at (Append height) s
cut_as (Read height nonce-high nonce-low) s = receipt_at (Read height nonce-high nonce-low) s
cut_as Finalise s = handover_at Finalise first_place second_place s
cut_as Initialise s = handover_at Initialise second_place first_place s

unfoldable pub cut_statement : List ℕ → Statement
cut_statement s = cut_as (kind_at s) s
