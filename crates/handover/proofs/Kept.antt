-- Laws of the rows that old entries keep: a roll that is not derived, and flags that are set one by one. Assumes nothing.
use mathlib.Core.Path.{◌≡◌, refl, ap, ap₂, ◌∙◌}
use mathlib.Core.Bool.{Bool, false, ◌&&◌, ◌||◌, and-true}
use mathlib.Core.List.{List, [], ◌∷◌}
use Prim.Native.Nat.{ℕ, zero, suc, ◌+◌, ◌<◌, ◌≤◌}
use native.Mathlib.Decide.{dec_lt}
use native.Mathlib.Nat.{not-suc-le-zero}
use native.Mathlib.Omega.{arith}
use Rattle.std.specs.List.{list_all}
use Rattle.std.proofs.lemmas.List.Folds.{list_all-append}
use Rattle.std.proofs.Math.Seq.{take-suc}
use lib.ListN.{length, get_or, take, set, length-set}
use lib.Seq.{get_or-set_same, get_or-set_other}
use Rattle.rows.specs.Table.{each}
use Rattle.roll.specs.Roll.{Roll}
use Rattle.rules.specs.Bundle.{old_count}
use Rattle.rules.specs.Derivation.{roll_derived, derived}
use Rattle.handover.specs.Asked.{flag}

pub not_derived : (ours : Roll) (s : List ℕ) → each (roll_derived ours s) (old_count s) ≡ false → derived ours s ≡ false
unfolding derived
not_derived ours s e = rw e

-- as many of the first flags as are looked at
pub flags_all : (flags : List Bool) (n : ℕ) → n ≤ length flags → list_all (λ k. k) (take n flags) ≡ each (flag flags) n
unfolding each
flags_all flags zero h = refl
flags_all flags (suc n) h =
    ap (list_all (λ k. k)) (take-suc flags n false (omega arith))
    ∙ list_all-append (λ k. k) (take n flags) (get_or flags n false ∷ [])
    ∙ ap₂ ◌&&◌ (flags_all flags n (omega arith)) (and-true (get_or flags n false))

-- flags that are noted by a test up to r, and behind it as they were
pub record NotedTo (test : ℕ → Bool) (before after : List Bool) (r : ℕ) : Type 0 where
  pub long : length after ≡ length before
  pub noted : (q : ℕ) → q < r → flag after q ≡ (flag before q || test q)
  pub left : (q : ℕ) → r ≤ q → flag after q ≡ flag before q

pub noted_none : (test : ℕ → Bool) (flags : List Bool) → NotedTo test flags flags 0
noted_none test flags = record { long = refl; noted = λ q h. absurd (not-suc-le-zero h); left = λ q h. refl }

-- the next one is set
pub noted_next :
    {test : ℕ → Bool} {before after : List Bool} {r : ℕ} (v : Bool) → NotedTo test before after r → r < length before → v ≡ (flag after r || test r)
    → NotedTo test before (set after r v) (r + 1)
noted_next {test} {before} {after} {r} v n h e =
    record {
      long = length-set after r v ∙ n.long;
      noted = λ q l. go q (dec_lt q r) l;
      left = λ q l. get_or-set_other after r q v false (λ z. omega arith) ∙ n.left q (omega arith);
    }
  where
    go : (q : ℕ) → Dec (q < r) → q < r + 1 → flag (set after r v) q ≡ (flag before q || test q)
    go q (yes l) k = get_or-set_other after r q v false (λ z. omega arith) ∙ n.noted q l
    go q (no l) k =
        let z : q ≡ r = omega arith in
        rw z (get_or-set_same after r v false (omega (arith, n.long)) ∙ e ∙ ap (λ (b : Bool). b || test r) (n.left r (omega arith)))
