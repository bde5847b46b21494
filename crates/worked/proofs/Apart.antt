-- The strings hashed in the worked history are told apart by their digests, and none gives zeros. Assumes nothing.
use mathlib.Core.Path.{◌≡◌, refl, sym, ap, subst, ◌∙◌}
use mathlib.Core.Bool.{cond}
use mathlib.Core.List.{List}
use Prim.Native.Nat.{ℕ, ◌<◌}
use lib.ListN.{get_or}
use lib.Dec.{eqb, lit<}
use native.Mathlib.Omega.{arith}
use Rattle.hash.specs.Sha256.{sha256}
use Rattle.rack.specs.Racks.{rack_string}
use Rattle.safety.specs.Calls.{Keeper}
use Rattle.safety.specs.Hashed.{ToldApart}
use Rattle.worked.proofs.Strings.{rack_A, rack_B, digest_A, digest_B, young_digest, grown_digest}
use Rattle.worked.proofs.Digests.{hash_A, hash_B, hash_young, hash_grown}
use Rattle.worked.proofs.Rolls.{young, grown}
use Rattle.worked.proofs.Goings.{Beat, events, Good, told_so}

-- each by the first byte of its digest
unfoldable pub back : List ℕ → List ℕ
back d =
    cond (eqb (get_or d 0 0) 0x08) (rack_string rack_A)
    (cond (eqb (get_or d 0 0) 0xf5) (rack_string rack_B)
    (cond (eqb (get_or d 0 0) 0x71) young.string grown.string))

pub record Told (s : List ℕ) : Type 0 where
  pub back_is : back (sha256 s) ≡ s
  pub first_is : 0 < get_or (sha256 s) 0 0

told : (s d : List ℕ) → sha256 s ≡ d → back d ≡ s → 0 < get_or d 0 0 → Told s
told s d h b p = record { back_is = ap back h ∙ b; first_is = subst (λ (x : List ℕ). 0 < get_or x 0 0) (sym h) p }

pub told_A : Told (rack_string rack_A)
unfolding back digest_A
told_A = told (rack_string rack_A) digest_A hash_A refl (lit< tt)

pub told_B : Told (rack_string rack_B)
unfolding back digest_B
told_B = told (rack_string rack_B) digest_B hash_B refl (lit< tt)

pub told_young : Told young.string
unfolding back young_digest
told_young = told young.string young_digest hash_young refl (lit< tt)

pub told_grown : Told grown.string
unfolding back grown_digest
told_grown = told grown.string grown_digest hash_grown refl (lit< tt)

pub told_apart : {keepers : List (List ℕ)} {start : List ℕ → Keeper} {l : List Beat} → Good keepers start Told l → ToldApart start (events l)
told_apart g =
    record {
      apart = λ s t p q e. sym (told_so g p).back_is ∙ ap back e ∙ (told_so g q).back_is;
      not_zeros = λ s p e. let z = subst (λ (x : List ℕ). 0 < get_or x 0 0) e (told_so g p).first_is in omega (arith, z);
    }
