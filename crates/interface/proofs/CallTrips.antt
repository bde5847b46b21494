-- The round trips of the calls for C: what reading accepts is written again as the same bytes, and what is written reads back. Assumes nothing.
use mathlib.Core.Path.{◌≡◌, refl, sym, ap, ◌∙◌}
use mathlib.Core.Bool.{true}
use mathlib.Core.List.{List, [], ◌∷◌, map}
use Prim.Native.Nat.{ℕ, ◌≤◌}
use lib.ListN.{length}
use lib.Dec.{lit<}
use Rattle.refusals.specs.{accepted, rack_broken, roll_broken, statement_not_asked}
use Rattle.octets.specs.Layouts.{holds}
use Rattle.octets.proofs.Exact.{Octets}
use Rattle.rack.specs.Racks.{rack_layout}
use Rattle.rack.proofs.RackTrips.{rack_written_reads}
use Rattle.rack.proofs.Shapes as rack-shape
use Rattle.rows.specs.Sizes.{most_rows}
use Rattle.roll.specs.Roll.{roll_layout}
use Rattle.roll.proofs.Cuts.{cut_octets, cut_long}
use Rattle.roll.proofs.RollTrips.{written_reads_back}
use Rattle.statement.specs.Cut.{cut_statement}
use Rattle.statement.specs.Layout.{statement_layout}
use Rattle.statement.proofs.Records.{fits_kind}
use Rattle.statement.proofs.Shapes.{cut_shaped}
use Rattle.statement.proofs.StatementTrips.{written_read as statement-back}
use Rattle.table.specs.Flat.{flattened, rows_of}
use Rattle.table.proofs.RowTrips.{AllTyped, rows-flattened, flattened_rows}
use Rattle.interface.specs.declared.Key.{Key}
use Rattle.interface.specs.declared.Rack.{Rack}
use Rattle.interface.specs.declared.Roll.{Roll}
use Rattle.interface.specs.declared.Plain.{Plain}
use Rattle.interface.specs.Contents.{key_of, bytes_in, keys_of, places_of, rack_of, roll_of, statement_of}
use Rattle.interface.specs.Calls.{rack_given, reading_rack, writing_rack, roll_given, reading_roll, writing_roll, statement_given, reading_statement, writing_statement}
use Rattle.interface.proofs.LayoutTrips.{WrittenAs, front, read_written, written_read}
use Rattle.interface.proofs.KindTrips.{Typed, statement_again, plain_again, typed_shaped}

keys_again : (keys : List (List ℕ)) → keys_of (places_of keys) ≡ keys
unfolding keys_of places_of
keys_again keys = go keys
  where
    go : (keys : List (List ℕ)) → map bytes_in (map key_of keys) ≡ keys
    go [] = refl
    go (k ∷ keys) = ap (λ (l : List (List ℕ)). k ∷ l) (go keys)

places_again : (places : List Key) → places_of (keys_of places) ≡ places
unfolding keys_of places_of
places_again places = go places
  where
    go : (places : List Key) → map key_of (map bytes_in places) ≡ places
    go [] = refl
    go (p ∷ places) = ap (λ (l : List Key). p ∷ l) (go places)

pub rack_read_written :
    (s area : List ℕ) → (reading_rack s).number ≡ accepted → length s ≤ length area → writing_rack (reading_rack s).rack area ≡ WrittenAs s area
unfolding rack_given reading_rack writing_rack
rack_read_written s area =
    read_written rack_layout rack_broken (lit< tt) rack_of rack_given (λ r. r.number) (λ r. r.rack) s area refl (λ h. rw (keys_again (rack_layout.cut s).keys))

pub rack_written_read :
    (r : Rack) (area : List ℕ) → rack-shape.Shaped (rack_of r) → (writing_rack r area).answer ≡ accepted
    → reading_rack (front (writing_rack r area)) ≡ record { number = accepted; rack = r }
unfolding rack_given reading_rack writing_rack
rack_written_read r area w =
    written_read rack_layout rack_broken (lit< tt) rack_of rack_given (λ r. r.number) (λ r. r.rack) r _ area (rack_written_reads (rack_of r) w) (λ f. rw (places_again r.keys))

-- the bytes of the rows of the table that a roll is taken apart into are it again
table_again : (s : List ℕ) → Octets s → holds roll_layout s ≡ true → flattened (rows_of most_rows (roll_layout.cut s).rows) ≡ (roll_layout.cut s).rows
table_again s o h = flattened_rows most_rows (roll_layout.cut s).rows (sym (cut_long s h)) (cut_octets s o)

pub roll_read_written :
    (s area : List ℕ) → Octets s → (reading_roll s).number ≡ accepted → length s ≤ length area → writing_roll (reading_roll s).roll area ≡ WrittenAs s area
unfolding roll_given reading_roll writing_roll
roll_read_written s area o =
    read_written roll_layout roll_broken (lit< tt) roll_of roll_given (λ r. r.number) (λ r. r.roll) s area refl (λ h. rw (table_again s o h))

pub roll_written_read :
    (r : Roll) (area : List ℕ) → length r.rows ≡ most_rows → AllTyped r.rows → (writing_roll r area).answer ≡ accepted
    → reading_roll (front (writing_roll r area)) ≡ record { number = accepted; roll = r }
unfolding roll_given reading_roll writing_roll
roll_written_read r area n t =
    let b : rows_of most_rows (flattened r.rows) ≡ r.rows = ap (λ (k : ℕ). rows_of k (flattened r.rows)) (sym n) ∙ rows-flattened t in
    written_read roll_layout roll_broken (lit< tt) roll_of roll_given (λ r. r.number) (λ r. r.roll) r _ area (written_reads_back (roll_of r)) (λ f. rw b)

pub statement_read_written :
    (s area : List ℕ) → Octets s → (reading_statement s).number ≡ accepted → length s ≤ length area → writing_statement (reading_statement s).statement area ≡ WrittenAs s area
unfolding statement_given reading_statement writing_statement
statement_read_written s area o =
    read_written statement_layout statement_not_asked (lit< tt) statement_of statement_given (λ r. r.number) (λ r. r.statement) s area refl
    (λ h. statement_again (cut_statement s) (cut_shaped s o).numbers)

pub statement_written_read :
    (p : Plain) (area : List ℕ) → Typed p → (writing_statement p area).answer ≡ accepted
    → reading_statement (front (writing_statement p area)) ≡ record { number = accepted; statement = p }
unfolding statement_given reading_statement writing_statement
statement_written_read p area t =
    written_read statement_layout statement_not_asked (lit< tt) statement_of statement_given (λ r. r.number) (λ r. r.statement) p _ area
    (statement-back (statement_of p) (typed_shaped p t)) (λ f. rw (plain_again p (fits_kind (statement_of p) f)))
