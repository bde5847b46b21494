-- The round trips of the calls, for every layout. Assumes nothing.
use mathlib.Core.Path.{◌≡◌, refl, ap, ◌∙◌}
use mathlib.Core.Bool.{Bool, true, false, cond}
use mathlib.Core.List.{List}
use mathlib.Core.Option.{Option, none, some}
use Prim.Native.Nat.{ℕ, ◌≤◌, ◌<◌}
use native.Mathlib.Nat.{zero-add}
use native.Mathlib.Omega.{arith}
use borrow.Author.Tests.{le-ltb}
use lib.ListN.{length, take}
use lib.Dec.{ltb}
use Rattle.refusals.specs.{accepted, area_too_short}
use Rattle.octets.specs.Strings.{put}
use Rattle.octets.specs.Layouts.{Layout, Written, holds, read, unwritten, writing}
use Rattle.octets.proofs.Puts.{take_put}
use Rattle.octets.proofs.RoundTrips.{holds_fits, holds-written}

-- a string is written at the front of an area
abbrev pub WrittenAs : List ℕ → List ℕ → Written
WrittenAs s area = record { answer = accepted; count = length s; area = put area 0 s }

-- the bytes that a writing reports
abbrev pub front : Written → List ℕ
front w = take w.count w.area

module _ {C : Type 0} (L : Layout C) (broken : ℕ) (b : 0 < broken) where
  -- an accepted writing is of contents that fit, and leaves in front what they are written as
  pub written-front : (v : C) (area : List ℕ) → (writing L broken v area).answer ≡ accepted → (L.fits v ≡ true) × (front (writing L broken v area) ≡ L.written v)
  unfolding writing unwritten
  written-front v area = go (L.fits v) refl (ltb (length area) (length w))
    where
      w : List ℕ
      w = L.written v

      chosen : Bool → Bool → Written
      chosen fit short = cond fit (cond short (unwritten area_too_short area) (WrittenAs w area)) (unwritten broken area)

      go : (fit : Bool) → L.fits v ≡ fit → (short : Bool) → (chosen fit short).answer ≡ accepted → (L.fits v ≡ true) × (front (chosen fit short) ≡ w)
      go true f true e = let z : ◌≡◌ {A = ℕ} area_too_short accepted = e in absurd (omega arith)
      go true f false e = (f, rw (zero-add (length w)) at (take_put area 0 w (omega arith)))
      go false f short e = let z : broken ≡ accepted = e in absurd (omega arith)

  -- what the layout holds of is written again
  written_again : (s area : List ℕ) → holds L s ≡ true → length s ≤ length area → writing L broken (L.cut s) area ≡ WrittenAs s area
  unfolding writing
  written_again s area h l = rw (holds_fits L s h, holds-written L s h, le-ltb (length area) (length s) l)

  -- the calls, for contents as C has them and what a reading gives of them
  module _ {D R : Type 0} (inner : D → C) (given : Option C → R) (number : R → ℕ) (contents : R → D) where
    pub read_written :
        (s area : List ℕ) → number (given none) ≡ broken → (holds L s ≡ true → inner (contents (given (some (L.cut s)))) ≡ L.cut s)
        → number (given (read L s)) ≡ accepted → length s ≤ length area → writing L broken (inner (contents (given (read L s)))) area ≡ WrittenAs s area
    unfolding read
    read_written s area n again = go (holds L s) refl
      where
        got : Bool → R
        got h = given (cond h (some (L.cut s)) none)

        go : (h : Bool) → holds L s ≡ h → number (got h) ≡ accepted → length s ≤ length area → writing L broken (inner (contents (got h))) area ≡ WrittenAs s area
        go true h e l = rw (again h) (written_again s area h l)
        go false h e l = let z : number (got false) ≡ broken = n in absurd (omega arith)

    pub written_read :
        (v : D) (r : R) (area : List ℕ) → (L.fits (inner v) ≡ true → read L (L.written (inner v)) ≡ some (inner v)) → (L.fits (inner v) ≡ true → given (some (inner v)) ≡ r)
        → (writing L broken (inner v) area).answer ≡ accepted → given (read L (front (writing L broken (inner v) area))) ≡ r
    written_read v r area back again e =
        let f : (L.fits (inner v) ≡ true) × (front (writing L broken (inner v) area) ≡ L.written (inner v)) = written-front (inner v) area e in
        ap (λ (s : List ℕ). given (read L s)) f.1 ∙ ap given (back f.0) ∙ again f.0
