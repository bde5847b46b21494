-- Laws of what a roll shows: rows that are reached stay reached, and rolls with one string show the same. Assumes nothing.
use mathlib.Core.Path.{◌≡◌, refl, sym, ap, ap₂, ◌∙◌}
use mathlib.Core.List.{List, [], ◌∷◌}
use Prim.Native.Nat.{ℕ, zero, suc, ◌+◌, ◌*◌, ◌≤◌, ◌<◌}
use native.Mathlib.Omega.{arith}
use lib.ListN.{take, drop}
use Rattle.octets.specs.Numbers.{number_of}
use Rattle.rows.specs.Sizes.{label_bytes, tail_bytes, height_bytes, row_bytes}
use Rattle.rows.specs.Row.{label_of, tail_of, height_of}
use Rattle.std.specs.Prelude.{Result, Ok, Err}
use Rattle.rows.specs.Search.{held, or_next, first_of, find}
use Rattle.rows.specs.Digests.{roll_string}
use Rattle.rows.proofs.Searches.{first_is}
use Rattle.roll.specs.Roll.{Roll}
use Rattle.safety.proofs.Views.{string_of, standing, seen_at, look, Reaches, Grows}

-- what is reached in a roll is reached where it grew
pub reached_on : {v w : Roll} {label : List ℕ} {height : ℕ} {tail : List ℕ} → Grows v w → Reaches v label height tail → Reaches w label height tail
reached_on {label = label} g r =
    let s = g.reaches label r.top r.last r.shows in
    record {
      top = s.top;
      last = s.last;
      shows = s.shows;
      up = omega (arith, r.up, s.up);
      agrees = λ e. r.agrees (omega (arith, r.up, s.up)) ∙ s.agrees (omega (arith, r.up, s.up));
    }

pub reached_here : {v : Roll} {label : List ℕ} {height : ℕ} {tail : List ℕ} → look v label ≡ standing height tail → Reaches v label height tail
reached_here {height = h} {tail = t} e = record { top = h; last = t; shows = e; up = omega arith; agrees = λ p. refl }

pub grows_here : (v : Roll) → Grows v v
grows_here v = record { reaches = λ label height tail e. reached_here e }

pub grows_on : {u v w : Roll} → Grows u v → Grows v w → Grows u w
grows_on g k = record { reaches = λ label height tail e. reached_on k (g.reaches label height tail e) }

-- a row that stands at the height that is reached has its tail
pub reached_tail :
    {v : Roll} {label : List ℕ} {height : ℕ} {tail last : List ℕ} → Reaches v label height tail → look v label ≡ standing height last → tail ≡ last
reached_tail {height = h} {last = t} r e =
    let s : standing r.top r.last ≡ standing h t = sym r.shows ∙ e in
    let p : r.top ≡ h = cc in
    let q : r.last ≡ t = cc in
    r.agrees (sym p) ∙ q

-- a part within the front
front_part : (i n k : ℕ) (l : List ℕ) → i + n ≤ k → take n (drop i (take k l)) ≡ take n (drop i l)
front_part zero zero k l h = refl
front_part zero (suc n) zero l h = absurd (omega arith)
front_part zero (suc n) (suc k) [] h = refl
front_part zero (suc n) (suc k) (x ∷ l) h = ap (λ (r : List ℕ). x ∷ r) (front_part zero n k l (omega arith))
front_part (suc i) n zero l h = absurd (omega arith)
front_part (suc i) n (suc k) [] h = refl
front_part (suc i) n (suc k) (x ∷ l) h = front_part i n k l (omega arith)

module _ (n : ℕ) (a b : List ℕ) (e : take (row_bytes * n) a ≡ take (row_bytes * n) b) where
  part_same : (i m : ℕ) → i + m ≤ row_bytes * n → take m (drop i a) ≡ take m (drop i b)
  part_same i m h = sym (front_part i m (row_bytes * n) a h) ∙ ap (λ (l : List ℕ). take m (drop i l)) e ∙ front_part i m (row_bytes * n) b h

  label_same : (i : ℕ) → i < n → label_of a i ≡ label_of b i
  unfolding label_of
  label_same i h = part_same (row_bytes * i) label_bytes (omega arith)

  tail_same : (i : ℕ) → i < n → tail_of a i ≡ tail_of b i
  unfolding tail_of
  tail_same i h = part_same (row_bytes * i + label_bytes) tail_bytes (omega arith)

  height_same : (i : ℕ) → i < n → height_of a i ≡ height_of b i
  unfolding height_of
  height_same i h = ap number_of (part_same (row_bytes * i + label_bytes + tail_bytes) height_bytes (omega arith))

  first_same : (m : ℕ) (label : List ℕ) → m ≤ n → first_of m a label ≡ first_of m b label
  unfolding first_of
  first_same zero label h = refl
  first_same (suc m) label h =
      ap₂ (λ (f : Result ℕ ℕ) (l : List ℕ). or_next f m l label) (first_same m label (omega arith)) (label_same m h)

  seen_same : (f : Result ℕ ℕ) (label : List ℕ) → first_of n a label ≡ f → seen_at a f ≡ seen_at b f
  unfolding seen_at
  seen_same (Ok i) label h =
      let below = (first_is a label n i h).0 in
      ap₂ standing (height_same i below) (tail_same i below)
  seen_same (Err k) label h = refl

  find_same : (label : List ℕ) → seen_at a (first_of n a label) ≡ seen_at b (first_of n b label)
  find_same label = seen_same (first_of n a label) label refl ∙ ap (seen_at b) (first_same n label (omega arith))

string_count : (v w : Roll) → string_of v ≡ string_of w → held v.count v.rows ≡ held w.count w.rows
unfolding roll_string
string_count v w e = cc

string_rows : (v w : Roll) → string_of v ≡ string_of w
    → take (row_bytes * held v.count v.rows) v.rows ≡ take (row_bytes * held w.count w.rows) w.rows
unfolding roll_string
string_rows v w e = cc

-- rolls with one string show the same
pub look_same : (v w : Roll) → string_of v ≡ string_of w → (label : List ℕ) → look v label ≡ look w label
unfolding look find
look_same v w e label =
    let c = string_count v w e in
    let r : take (row_bytes * held v.count v.rows) v.rows ≡ take (row_bytes * held v.count v.rows) w.rows
    = string_rows v w e ∙ ap (λ (n : ℕ). take (row_bytes * n) w.rows) (sym c) in
    find_same (held v.count v.rows) v.rows w.rows r label ∙ ap (λ (n : ℕ). seen_at w.rows (first_of n w.rows label)) c

pub reached_in : {v w : Roll} {label : List ℕ} {height : ℕ} {tail : List ℕ} → string_of v ≡ string_of w → Reaches v label height tail → Reaches w label height tail
reached_in {v} {w} {label} e r =
    record { top = r.top; last = r.last; shows = sym (look_same v w e label) ∙ r.shows; up = r.up; agrees = r.agrees }
