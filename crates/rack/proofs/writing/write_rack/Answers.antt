use mathlib.Core.Path.{◌≡◌, refl, sym, ap, ap₂, ◌∙◌}
use mathlib.Core.Bool.{true}
use mathlib.Core.List.{List, flatten}
use Prim.Native.Nat.{ℕ, ◌≤◌}
use native.Mathlib.Omega.{arith}
use lib.ListN.{length, take, set}
use lib.Seq.{length-take-le}
use Rattle.refusals.specs.{accepted, rack_broken}
use Rattle.octets.specs.Strings.{put}
use Rattle.octets.proofs.Writings.{writing-broken, writing_short, writing_done}
use Rattle.rack.specs.Racks.{Rack, most, rack_bytes, rack_written, rack_fits, rack_layout}
use Rattle.rack.proofs.Racks.{written_length, fits_few}
use Rattle.rack.proofs.Shapes.{Shaped, shaped}
use Rattle.rack.proofs.Walks.{flat_is}
use Rattle.rack.proofs.Writes.{put_rack}
use Rattle.rack.proofs.writing.write_rack.Goals as goal
use Rattle.rack.proofs.writing.write_rack.Goals.{After-is_fitting, Else-not-is_fitting}

abbrev contents : ℕ → List (List ℕ) → Rack
contents count keys = record { count = count; keys = keys }

tested : (c : After-is_fitting) → c.is_fitting.result ≡ rack_fits (contents c.args.count c.args.keys)
tested c = c.is_fitting.ensures ∙ ap (λ (n : ℕ). rack_fits (contents n c.args.keys)) c.from-n.ensures

pub returns-then-not-is_fitting : goal.returns-then-not-is_fitting
returns-then-not-is_fitting c =
    sym (writing-broken rack_layout rack_broken (contents c.args.count c.args.keys) c.args.area.now
    (sym (tested (goal.at.returns-then-not-is_fitting c).After-is_fitting) ∙ c.if-not-is_fitting.true))

-- past the first test
module _ (c : Else-not-is_fitting) where
  fitting : rack_fits (contents c.args.count c.args.keys) ≡ true
  fitting = sym (tested (goal.at.Else-not-is_fitting c).After-is_fitting) ∙ c.if-not-is_fitting.false

  shape : Shaped (contents c.args.count c.args.keys)
  shape = shaped _ _ _ c.well_formed.1.0

  few : c.args.count ≤ most
  few = fits_few (contents c.args.count c.args.keys) fitting

  needed : length (rack_written (contents c.args.count c.args.keys)) ≡ rack_bytes c.args.count
  needed = written_length (contents c.args.count c.args.keys) shape c.args.count few refl

pub returns-then-area-bytes : goal.returns-then-area-bytes
returns-then-area-bytes c =
    let then = (goal.at.returns-then-area-bytes c).Else-not-is_fitting in
    let r = contents c.args.count c.args.keys in
    sym (writing_short rack_layout rack_broken r c.args.area.now (fitting then) (omega (arith, needed then, c.from-n.ensures)))

pub slice_bounds-keys-end : goal.slice_bounds-keys-end
slice_bounds-keys-end c =
    let then = (goal.at.slice_bounds-keys-end c).Else-not-is_fitting in
    omega (arith, few then, (shape then).places, c.from-n.ensures)

pub slice_bounds-as_flattened-end : goal.slice_bounds-as_flattened-end
slice_bounds-as_flattened-end c =
    let then = (goal.at.slice_bounds-as_flattened-end c).Else-not-is_fitting in
    sym (length-take-le c.from-n.result c.args.keys (omega (arith, few then, (shape then).places, c.from-n.ensures)))

pub returns : goal.returns
returns c =
    let then = (goal.at.returns c).Else-not-is_fitting in
    let area = c.args.area.now in
    let r = contents c.args.count c.args.keys in
    let n = c.from-n.ensures in
    let flat = c.as_flattened.ensures.value ∙ flat_is _ ∙ ap (λ (k : ℕ). flatten (take k c.args.keys)) n in
    let stored = c.copy_at.ensures ∙ ap (put (set area 0 c.args.count) 1) flat ∙ put_rack r (shape then) (few then) area (omega arith) in
    ap₂ (λ (n : ℕ) (d : List ℕ). record { answer = accepted; count = n; area = d }) (ap rack_bytes n ∙ sym (needed then)) stored
    ∙ sym (writing_done rack_layout rack_broken r area (fitting then) (omega (arith, needed then)))
