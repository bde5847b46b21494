-- Where the layout of statements holds: tested on the string, and what stands where. Assumes nothing.
use mathlib.Core.Path.{◌≡◌, refl, sym, ap, ◌∙◌, subst}
use mathlib.Core.Bool.{Bool, true, false, ◌&&◌}
use mathlib.Core.List.{List}
use Prim.Native.Nat.{ℕ, ◌<◌}
use native.Mathlib.Omega.{arith}
use lib.ListN.{length, get_or}
use Rattle.octets.specs.Strings.{same}
use Rattle.octets.specs.Layouts.{holds}
use Rattle.octets.proofs.Exact.{Octets}
use Rattle.octets.proofs.RoundTrips.{same_refl, holds_fits}
use Rattle.statement.specs.declared.Kind.{Kind}
use Rattle.statement.specs.declared.Kind.TheVariants.{Blank, New, Append, Read, Finalise, Initialise}
use Rattle.statement.specs.declared.Statement.{Statement}
use Rattle.statement.specs.Kinds.{kind_number, size, identity_place, first_place, second_place, third_place, label_place, tail_place, digest_at, label_at}
use Rattle.statement.specs.Contents.{statement_written, statement_fits}
use Rattle.statement.specs.Cut.{blank_statement, receipt_at, handover_at, cut_as, cut_statement, kind_at}
use Rattle.statement.specs.Layout.{statement_layout}
use Rattle.statement.proofs.Records.{fits_kind}
use Rattle.statement.proofs.Strings.{Stands, of_kind, written_again}

as_kind : (k : Kind) (s : List ℕ) → (cut_as k s).kind ≡ k
unfolding blank_statement receipt_at handover_at cut_as
as_kind Blank s = refl
as_kind New s = refl
as_kind (Append height) s = refl
as_kind (Read height nonce-high nonce-low) s = refl
as_kind Finalise s = refl
as_kind Initialise s = refl

pub cut_kind : (s : List ℕ) → (cut_statement s).kind ≡ kind_at s
unfolding cut_statement
cut_kind s = as_kind (kind_at s) s

-- a string whose parts fit is what they are written as
pub fits_written : (s : List ℕ) → Octets s → statement_fits (cut_statement s) ≡ true → statement_written (cut_statement s) ≡ s
unfolding cut_statement
fits_written s o f =
    let p : 0 < kind_number (kind_at s) = rw (cut_kind s) at (fits_kind (cut_statement s) f) in
    written_again s o (kind_at s) p (of_kind s p)

-- so the layout is tested by the parts alone
pub holds_is : (s : List ℕ) → Octets s → holds statement_layout s ≡ statement_fits (cut_statement s)
unfolding holds
holds_is s o = go (statement_fits (cut_statement s)) refl
  where
    go : (b : Bool) → statement_fits (cut_statement s) ≡ b → (statement_fits (cut_statement s) && same (statement_written (cut_statement s)) s) ≡ statement_fits (cut_statement s)
    go true f = rw (f, fits_written s o f, same_refl s)
    go false f = rw f

-- what stands where, by the kind
pub record Receipt (s : List ℕ) (v : Statement) : Type 0 where
  pub own : v.own ≡ digest_at first_place s
  pub label : v.label ≡ label_at label_place s
  pub tail : v.tail ≡ digest_at tail_place s

pub record Handover (mine theirs : ℕ) (s : List ℕ) (v : Statement) : Type 0 where
  pub own : v.own ≡ digest_at mine s
  pub other : v.other ≡ digest_at theirs s
  pub roll : v.roll ≡ digest_at third_place s

abbrev pub Placed : Kind → List ℕ → Statement → Type 0
Placed Blank s v = Unit {0}
Placed New s v = Receipt s v
Placed (Append height) s v = Receipt s v
Placed (Read height nonce-high nonce-low) s v = Receipt s v
Placed Finalise s v = Handover first_place second_place s v
Placed Initialise s v = Handover second_place first_place s v

as_placed : (k : Kind) (s : List ℕ) → Placed k s (cut_as k s)
unfolding receipt_at handover_at cut_as
as_placed Blank s = tt
as_placed New s = record { own = refl; label = refl; tail = refl }
as_placed (Append height) s = record { own = refl; label = refl; tail = refl }
as_placed (Read height nonce-high nonce-low) s = record { own = refl; label = refl; tail = refl }
as_placed Finalise s = record { own = refl; other = refl; roll = refl }
as_placed Initialise s = record { own = refl; other = refl; roll = refl }

as_identity : (k : Kind) (s : List ℕ) → 0 < kind_number k → (cut_as k s).identity ≡ digest_at identity_place s
unfolding receipt_at handover_at cut_as
as_identity Blank s p = absurd (omega arith)
as_identity New s p = refl
as_identity (Append height) s p = refl
as_identity (Read height nonce-high nonce-low) s p = refl
as_identity Finalise s p = refl
as_identity Initialise s p = refl

module _ (s : List ℕ) (h : holds statement_layout s ≡ true) where
  pub held_kind : 0 < kind_number (kind_at s)
  held_kind = rw (cut_kind s) at (fits_kind (cut_statement s) (holds_fits statement_layout s h))

  -- the first byte is the kind, the length is that of the kind, and its numbers stand in the string
  pub held_first : get_or s 0 0 ≡ kind_number (cut_statement s).kind
  held_first = (of_kind s held_kind).named ∙ ap kind_number (sym (cut_kind s))

  pub held_length : length s ≡ size (cut_statement s).kind
  held_length = (of_kind s held_kind).sized ∙ ap size (sym (cut_kind s))

  pub held_numbers : Stands (cut_statement s).kind s
  held_numbers = rw (cut_kind s) (of_kind s held_kind).stands

  -- and so do the digests and the label
  pub held_identity : (cut_statement s).identity ≡ digest_at identity_place s
  unfolding cut_statement
  held_identity = as_identity (kind_at s) s held_kind

  pub held_fields : Placed (cut_statement s).kind s (cut_statement s)
  unfolding cut_statement
  held_fields = subst (λ (k : Kind). Placed k s (cut_as (kind_at s) s)) (sym (cut_kind s)) (as_placed (kind_at s) s)
