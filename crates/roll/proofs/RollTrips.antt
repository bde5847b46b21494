-- The round trip of a roll: what is written reads back as the same contents, and what reading accepts is written again as the same string. Assumes nothing.
use mathlib.Core.Path.{◌≡◌, refl, ap, ◌∙◌}
use mathlib.Core.Bool.{Bool, true, false, cond}
use mathlib.Core.List.{List}
use mathlib.Core.Option.{Option, none, some}
use Prim.Native.Nat.{ℕ, ◌≤◌}
use native.Mathlib.Nat.{zero-add}
use native.Mathlib.Omega.{arith}
use borrow.Author.Tests.{le-ltb}
use lib.ListN.{length, take}
use lib.Dec.{ltb}
use Rattle.refusals.specs.{accepted, area_too_short, roll_broken}
use Rattle.octets.specs.Strings.{put}
use Rattle.octets.specs.Layouts.{holds, read, Written, unwritten, writing}
use Rattle.octets.proofs.Puts.{take_put}
use Rattle.octets.proofs.RoundTrips.{written_reads, holds-written, holds_fits, read_writes}
use Rattle.roll.specs.Roll.{Roll, roll_layout, Reading, outcome, reading_roll, writing_roll}
use Rattle.roll.proofs.Rolls.{cut_written}

-- contents that fit are read out of what they are written as
pub written_reads_back : (v : Roll) → roll_layout.fits v ≡ true → read roll_layout (roll_layout.written v) ≡ some v
written_reads_back v fit = written_reads roll_layout v fit (cut_written v fit)

-- what is read fits, and is written as the string itself
pub read_writes_again : (s : List ℕ) (v : Roll) → read roll_layout s ≡ some v → (roll_layout.written v ≡ s) × (roll_layout.fits v ≡ true)
read_writes_again s v e = read_writes roll_layout s v e

-- the calls: reading what a call has written gives back its contents
pub write_then_read :
    (count : ℕ) (rows area table : List ℕ) → (writing_roll count rows area).answer ≡ accepted
    → reading_roll (take (writing_roll count rows area).count (writing_roll count rows area).area) table
    ≡ record { answer = accepted; count = count; rows = rows }
unfolding writing_roll writing unwritten reading_roll outcome
write_then_read count rows area table = go (roll_layout.fits v) refl (ltb (length area) (length w))
  where
    v : Roll
    v = record { count = count; rows = rows }

    w : List ℕ
    w = roll_layout.written v

    chosen : Bool → Bool → Written
    chosen fit short =
        cond fit (cond short (unwritten area_too_short area) (record { answer = accepted; count = length w; area = put area 0 w })) (unwritten roll_broken area)

    go :
        (fit : Bool) → roll_layout.fits v ≡ fit → (short : Bool) → (chosen fit short).answer ≡ accepted
        → reading_roll (take (chosen fit short).count (chosen fit short).area) table ≡ record { answer = accepted; count = count; rows = rows }
    go true f true e = let z : ◌≡◌ {A = ℕ} area_too_short accepted = e in absurd (omega arith)
    go true f false e =
        let front : take (length w) (put area 0 w) ≡ w = rw (zero-add (length w)) at (take_put area 0 w (omega arith)) in
        ap (λ (s : List ℕ). outcome (read roll_layout s) table) front ∙ ap (λ (o : Option Roll). outcome o table) (written_reads_back v f)
    go false f short e = let z : ◌≡◌ {A = ℕ} roll_broken accepted = e in absurd (omega arith)

-- writing what a call has read gives back the string
pub read_then_write :
    (s table area : List ℕ) → (reading_roll s table).answer ≡ accepted → length s ≤ length area
    → writing_roll (reading_roll s table).count (reading_roll s table).rows area ≡ record { answer = accepted; count = length s; area = put area 0 s }
unfolding reading_roll read outcome writing_roll writing
read_then_write s table area = go (holds roll_layout s) refl
  where
    v : Roll
    v = roll_layout.cut s

    chosen : Bool → Reading
    chosen h = outcome (cond h (some v) none) table

    go :
        (h : Bool) → holds roll_layout s ≡ h → (chosen h).answer ≡ accepted → length s ≤ length area
        → writing roll_layout roll_broken (record { count = (chosen h).count; rows = (chosen h).rows }) area
        ≡ record { answer = accepted; count = length s; area = put area 0 s }
    go true h e l =
        let fits : roll_layout.fits v ≡ true = holds_fits roll_layout s h in
        let again : roll_layout.written v ≡ s = holds-written roll_layout s h in
        rw (fits, again, le-ltb (length area) (length s) l)
    go false h e l = let z : ◌≡◌ {A = ℕ} roll_broken accepted = e in absurd (omega arith)

-- reading refuses with 15 exactly where the layout is broken
pub refuses_exactly : (s table : List ℕ) → ((reading_roll s table).answer ≡ roll_broken → holds roll_layout s ≡ false) × (holds roll_layout s ≡ false → (reading_roll s table).answer ≡ roll_broken)
unfolding reading_roll read outcome
refuses_exactly s table = (go (holds roll_layout s) refl, λ h. rw h)
  where
    go :
        (h : Bool) → holds roll_layout s ≡ h → (outcome (cond h (some (roll_layout.cut s)) none) table).answer ≡ roll_broken
        → holds roll_layout s ≡ false
    go true h e = let z : ◌≡◌ {A = ℕ} accepted roll_broken = e in absurd (omega arith)
    go false h e = h
