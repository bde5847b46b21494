-- A company's rows as a program lends them are those of the same table's bytes, taken apart. Assumes nothing.
use mathlib.Core.Path.{◌≡◌, refl, ap, ap₂, ◌∙◌}
use mathlib.Core.Bool.{Bool, true, false, cond}
use mathlib.Core.List.{List, ◌∷◌, ◌++◌, map, flatten, append_assoc}
use Prim.Native.Nat.{ℕ, zero, suc, ◌≤◌}
use native.Mathlib.Omega.{arith}
use lib.ListN.{length, take}
use lib.Seq.{take_at, drop_at}
use Rattle.octets.specs.Numbers.{bytes_of}
use Rattle.octets.specs.Strings.{pieces}
use Rattle.rows.specs.Sizes.{label_bytes, height_bytes, row_bytes}
use Rattle.rows.proofs.Tables.{fit_length, fit_count}
use Rattle.rules.specs.Record.{sound}
use Rattle.rules.specs.Companies.{belongs}
use Rattle.rules.proofs.Firsts.{sound_rows}
use Rattle.table.specs.declared.Row.{Row}
use Rattle.table.specs.Flat.{row_string, flattened, row_cut}
use Rattle.table.proofs.RowTrips.{Typed, AllTyped, nil, cons, string_length, cut_string, flattened-length}
use Rattle.companies.specs.Runs.{those, rows_in}
use Rattle.companies.specs.Runs as runs
use Rattle.exported.specs.Calls.{Box, flat}
use Rattle.exported.specs.Isolation.{rows_of}

-- the pieces of rows' bytes are their strings
pieces_are : {rows : List Row} (n : ℕ) → AllTyped rows → n ≤ length rows → pieces row_bytes n (flattened rows) ≡ map row_string (take n rows)
unfolding pieces flattened flatten
pieces_are zero ts h = refl
pieces_are (suc n) nil h = absurd (omega arith)
pieces_are (suc n) (cons {r} {rs = rows} t ts) h =
    ap₂ (λ (x : List ℕ) (s : List ℕ). x ∷ pieces row_bytes n s)
    (take_at (row_string r) (flattened rows) row_bytes (string_length r t)) (drop_at (row_string r) (flattened rows) row_bytes (string_length r t))
    ∙ ap (λ (l : List (List ℕ)). row_string r ∷ l) (pieces_are n ts (omega arith))

string_label : (r : Row) → Typed r → take label_bytes (row_string r) ≡ r.label
unfolding row_string
string_label r t =
    ap (take label_bytes) (append_assoc r.label r.tail (bytes_of height_bytes r.height))
    ∙ take_at r.label (r.tail ++ bytes_of height_bytes r.height) label_bytes t.label

module _ (first : Bool) where
  abbrev its_bytes : List ℕ → Bool
  its_bytes row = belongs (take label_bytes row) first

  abbrev its : Row → Bool
  its r = belongs r.label first

  one : (b : Bool) (r : Row) (l : List (List ℕ)) (m : List Row) → Typed r → map row_cut l ≡ m → map row_cut (cond b (row_string r ∷ l) l) ≡ cond b (r ∷ m) m
  one true r l m t e = ap₂ (λ (x : Row) (s : List Row). x ∷ s) (cut_string r t) e
  one false r l m t e = e

  those_cut : {rows : List Row} (n : ℕ) → AllTyped rows → map row_cut (those its_bytes (map row_string (take n rows))) ≡ those its (take n rows)
  unfolding those
  those_cut zero ts = refl
  those_cut (suc n) nil = refl
  those_cut (suc n) (cons {r} {rs = rows} t ts) =
      let later : List (List ℕ) = those its_bytes (map row_string (take n rows)) in
      ap (λ (l : List ℕ). map row_cut (cond (belongs l first) (row_string r ∷ later) later)) (string_label r t)
      ∙ one (its r) r later (those its (take n rows)) t (those_cut n ts)

  pub rows_shown : (b : Box) → AllTyped b.rows → sound b.head (flattened b.rows) ≡ true → map row_cut (rows_in first (flat b)) ≡ rows_of first b
  unfolding rows_of runs.rows_of
  rows_shown b ts sounds =
      let fit = sound_rows b.head (flattened b.rows) sounds in
      let few = fit_count b.head.count (flattened b.rows) fit in
      let long = fit_length b.head.count (flattened b.rows) fit in
      ap (λ (l : List (List ℕ)). map row_cut (those its_bytes l)) (pieces_are b.head.count ts (omega (arith, few, long, flattened-length ts)))
      ∙ those_cut b.head.count ts
