-- What later crates cite of racks: the round trip, both ways; the count and the length of a string that is one; what reading it gives; and that its contents fix it.
-- Assumes nothing.
use mathlib.Core.Path.{◌≡◌, refl, sym, ap, ap₂, ◌∙◌}
use mathlib.Core.Bool.{Bool, true, false}
use mathlib.Core.Option.{some}
use mathlib.Core.List.{List, ◌++◌, flatten}
use Prim.Native.Nat.{ℕ, ◌-◌, ◌≤◌}
use native.Mathlib.Omega.{arith}
use lib.ListN.{length, take, drop, replicate, length-drop, take-append-drop}
use lib.Seq.{length-take-le, take_all}
use Rattle.refusals.specs.{accepted, rack_broken}
use Rattle.octets.specs.Strings.{pieces}
use Rattle.octets.specs.Layouts.{holds, read}
use Rattle.octets.proofs.RoundTrips.{written_reads, read_writes, holds-written}
use Rattle.octets.proofs.Pieces.{each_take, each_drop, each_zero, pieces-flatten, pieces_padded}
use Rattle.rack.specs.Racks.{Rack, most, key_bytes, rack_bytes, rack_written, rack_cut, rack_fits, rack_layout}
use Rattle.rack.specs.Promise.{Taken, taken, reading}
use Rattle.rack.proofs.Racks.{first_bytes, cut_keys, fits_few, fits_rest, holds_some, holds_few, holds_length}
use Rattle.rack.proofs.Shapes.{Shaped}

-- contents that fit are cut out of what they are written as
pub cut_written : (r : Rack) → Shaped r → rack_fits r ≡ true → rack_cut (rack_written r) ≡ r
unfolding rack_written rack_cut
cut_written r w f =
    let n : ℕ = r.count in
    let few : n ≤ most = fits_few r f in
    let first : List (List ℕ) = take n r.keys in
    let rest : List (List ℕ) = drop n r.keys in
    let z : List ℕ = replicate key_bytes 0 in
    let keys : pieces key_bytes n (flatten first) ≡ first =
    ap (λ (k : ℕ). pieces key_bytes k (flatten first)) (sym (length-take-le n r.keys (omega (arith, w.places)))) ∙ pieces-flatten (each_take w.sizes n) in
    let left : length rest ≡ most - n = length-drop n r.keys ∙ ap (λ (k : ℕ). k - n) w.places in
    let zeros : replicate (most - n) z ≡ rest = ap (λ (k : ℕ). replicate k z) (sym left) ∙ sym (each_zero (each_drop w.sizes n) (fits_rest r f)) in
    ap (λ (l : List (List ℕ)). record { count = n; keys = l })
    (pieces_padded key_bytes most n (flatten first) few (first_bytes r w n few)
    ∙ ap₂ (λ (a b : List (List ℕ)). a ++ b) keys zeros
    ∙ take-append-drop n r.keys)

-- what is written reads back as the same contents
pub rack_written_reads : (r : Rack) → Shaped r → rack_fits r ≡ true → read rack_layout (rack_written r) ≡ some r
rack_written_reads r w f = written_reads rack_layout r f (cut_written r w f)

-- what reading accepts is written again as the same string, and fits
pub rack_read_writes : (s : List ℕ) (r : Rack) → read rack_layout s ≡ some r → (rack_written r ≡ s) × (rack_fits r ≡ true)
rack_read_writes s r e = read_writes rack_layout s r e

module _ (s : List ℕ) (h : holds rack_layout s ≡ true) where
  pub rack_some : 1 ≤ (rack_cut s).count
  unfolding rack_cut
  rack_some = holds_some s h

  pub rack_few : (rack_cut s).count ≤ most
  unfolding rack_cut
  rack_few = holds_few s h

  pub rack_length : length s ≡ rack_bytes (rack_cut s).count
  unfolding rack_cut
  rack_length = holds_length s h

  -- and so all of it is digested
  pub rack_whole : take (rack_bytes most) s ≡ s
  rack_whole = take_all (rack_bytes most) s (omega (arith, holds_few s h, holds_length s h))

  pub reading_good : (keys : List (List ℕ)) → reading s keys ≡ record { answer = accepted; count = (rack_cut s).count; keys = (rack_cut s).keys }
  unfolding read taken reading
  reading_good keys = rw h

  -- two racks with the same contents are the same string
  pub same_contents : (t : List ℕ) → holds rack_layout t ≡ true → rack_cut s ≡ rack_cut t → s ≡ t
  same_contents t k e = sym (holds-written rack_layout s h) ∙ ap rack_written e ∙ holds-written rack_layout t k

pub reading_broken : (s : List ℕ) → holds rack_layout s ≡ false → (keys : List (List ℕ)) → reading s keys ≡ record { answer = rack_broken; count = 0; keys = keys }
unfolding read taken reading
reading_broken s h keys = rw h

-- what the check searches with for the call that reads
pub ruleset of_reading = (cut_keys, holds_few, holds_length, reading_good, reading_broken)

-- the answer alone tells whether the string is a rack
module _ (s : List ℕ) (keys : List (List ℕ)) where
  pub accepted-holds : (reading s keys).answer ≡ accepted → holds rack_layout s ≡ true
  accepted-holds e = go (holds rack_layout s) refl
    where
      go : (b : Bool) → holds rack_layout s ≡ b → holds rack_layout s ≡ true
      go true h = h
      go false h =
          let six : rack_broken ≡ accepted = sym (ap (λ (o : Taken). o.answer) (reading_broken s h keys)) ∙ e in
          absurd (omega arith)

  pub refused_broken : ((reading s keys).answer ≡ accepted → ⊥) → holds rack_layout s ≡ false
  refused_broken e = go (holds rack_layout s) refl
    where
      go : (b : Bool) → holds rack_layout s ≡ b → holds rack_layout s ≡ false
      go true h = absurd (e (ap (λ (o : Taken). o.answer) (reading_good s h keys)))
      go false h = h
