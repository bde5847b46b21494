-- Laws of a row's growth: all digests of a string, and a height and so many more. Assumes nothing.
use mathlib.Core.Path.{◌≡◌, refl, sym, ap, ap₂, ◌∙◌}
use mathlib.Core.Bool.{Bool, true, false}
use mathlib.Core.List.{List}
use Prim.Native.Nat.{ℕ, zero, suc, ◌+◌, ◌-◌, ◌*◌, ◌≤◌}
use native.Mathlib.Numerals.{add-one}
use native.Mathlib.Omega.{arith}
use borrow.Author.Tests.{eqb-true, eqb-false, eq-eqb, ne_eqb}
use lib.ListN.{take, drop}
use Rattle.std.proofs.lemmas.List.{drop-drop}
use lib.Dec.{eqb}
use Rattle.std.proofs.Common.{Option, Some, None}
use Rattle.std.specs.List.{fold}
use Rattle.std.specs.Option.{SomeIff, option_eq}
use Rattle.std.specs.Simd.{first_chunks}
use Rattle.rows.specs.Digests.{appended}
use Rattle.statement.specs.Kinds.{digest_bytes}
use Rattle.rules.specs.Derivation.{grown}

pub grown_more :
    (tail s : List ℕ) (i : ℕ) → grown tail s (i + 1) ≡ appended (grown tail s i) (take digest_bytes (drop (digest_bytes * i) s))
unfolding grown
grown_more tail s i = rw (add-one i)

-- the first digest may be appended first
grown_behind :
    (tail s : List ℕ) (n : ℕ) → grown tail s (suc n) ≡ grown (appended tail (take digest_bytes s)) (drop digest_bytes s) n
unfolding grown
grown_behind tail s zero = refl
grown_behind tail s (suc n) =
    let place : digest_bytes * suc n ≡ digest_bytes + digest_bytes * n = omega arith in
    let rest : drop (digest_bytes * suc n) s ≡ drop (digest_bytes * n) (drop digest_bytes s) =
    ap (λ (k : ℕ). drop k s) place ∙ sym (drop-drop (digest_bytes * n) digest_bytes s) in
    ap₂ (λ (t d : List ℕ). appended t (take digest_bytes d)) (grown_behind tail s n) rest

pub folded : (tail s : List ℕ) (n : ℕ) → fold appended tail (first_chunks digest_bytes n s) ≡ grown tail s n
unfolding grown
folded tail s zero = refl
folded tail s (suc n) = folded (appended tail (take digest_bytes s)) (drop digest_bytes s) n ∙ sym (grown_behind tail s n)

-- a difference that there is tells what the sum tells
pub difference : (before n after : ℕ) (d : Option ℕ) → SomeIff d (before ≤ after) (after - before) → option_eq eqb d (Some n) ≡ eqb (before + n) after
difference before n after None h = sym (ne_eqb (before + n) after (λ e. h (omega arith)))
difference before n after (Some d) h = ap (λ (k : ℕ). eqb k n) h.1 ∙ go (eqb (before + n) after) refl
  where
    go : (t : Bool) → eqb (before + n) after ≡ t → eqb (after - before) n ≡ t
    go true e = let s : before + n ≡ after = eqb-true (before + n) after e in eq-eqb (after - before) n (omega arith)
    go false e = let s : (before + n ≡ after → ⊥) = eqb-false (before + n) after e in ne_eqb (after - before) n (λ d. s (omega (arith, h.0)))
