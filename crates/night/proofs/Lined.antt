-- Laws of the report's lines: where a label's line stands, and what lines count in all. Assumes nothing.
use mathlib.Core.Path.{◌≡◌, refl}
use mathlib.Core.Bool.{Bool, true, false, cond}
use mathlib.Core.List.{List, [], ◌∷◌, ◌++◌}
use Prim.Native.Nat.{ℕ, zero, suc, ◌+◌, ◌≤◌, ◌<◌, max}
use native.Mathlib.Nat.{not-suc-le-zero, le_of_suc-le-suc}
use native.Mathlib.Numerals.{add-one}
use native.Mathlib.Omega.{arith}
use lib.ListN.{length, get_or, drop, set}
use lib.Seq.{drop-cons}
use lib.Dec.{eqb}
use Rattle.octets.specs.Strings.{same}
use Rattle.desk.specs.declared.Finding.{Finding}
use Rattle.night.specs.declared.Line.{Line}
use Rattle.night.specs.Lines.{new_line, no_line, place, line_after, counted_in}

module _ (label : List ℕ) (ls : List Line) (i : ℕ) (h : i < length ls) where
  next : drop i ls ≡ get_or ls i no_line ∷ drop (i + 1) ls
  next = rw (add-one i) (drop-cons ls i no_line h)

  pub place_here : same (get_or ls i no_line).label label ≡ true → place label (drop i ls) ≡ 0
  unfolding place
  place_here e = rw (next, e)

  pub place_further : same (get_or ls i no_line).label label ≡ false → place label (drop i ls) ≡ suc (place label (drop (i + 1) ls))
  unfolding place
  place_further e = rw (next, e)

pub place_end : (label : List ℕ) → place label [] ≡ 0
unfolding place
place_end label = refl

pub place_within : (label : List ℕ) (ls : List Line) → place label ls ≤ length ls
unfolding place
place_within label [] = omega arith
place_within label (l ∷ ls) = go (place_within label ls) (same l.label label)
  where
    go : place label ls ≤ length ls → (t : Bool) → cond t 0 (suc (place label ls)) ≤ suc (length ls)
    go e true = omega arith
    go e false = omega arith

-- what a line counts
abbrev pub both : Line → ℕ
both l = l.accepted + l.refused

pub counted_at : (ls : List Line) (i : ℕ) → i < length ls → both (get_or ls i no_line) ≤ counted_in ls
unfolding counted_in
counted_at [] i h = absurd (not-suc-le-zero h)
counted_at (l ∷ ls) zero h = omega arith
counted_at (l ∷ ls) (suc i) h = omega (arith, counted_at ls i (le_of_suc-le-suc h))

pub counted_set : (ls : List Line) (i : ℕ) (l : Line) → i < length ls → counted_in (set ls i l) + both (get_or ls i no_line) ≡ counted_in ls + both l
unfolding counted_in
counted_set [] i l h = absurd (not-suc-le-zero h)
counted_set (x ∷ ls) zero l h = omega arith
counted_set (x ∷ ls) (suc i) l h = omega (arith, counted_set ls i l (le_of_suc-le-suc h))

pub counted_more : (ls : List Line) (l : Line) → counted_in (ls ++ (l ∷ [])) ≡ counted_in ls + both l
unfolding counted_in
counted_more [] l = omega arith
counted_more (x ∷ ls) l = omega (arith, counted_more ls l)

pub line_after_one : (l : Line) (f : Finding) → both (line_after l f) ≡ both l + 1
unfolding line_after
line_after_one l f = go (eqb f.number 0)
  where
    go :
        (t : Bool)
        → both (cond t (record { label = l.label; accepted = l.accepted + 1; refused = l.refused; top = max l.top f.height }) (record { label = l.label; accepted = l.accepted; refused = l.refused + 1; top = l.top }))
        ≡ both l + 1
    go true = omega arith
    go false = omega arith

pub new_line_none : (label : List ℕ) → both (new_line label) ≡ 0
unfolding new_line
new_line_none label = refl
