-- Laws of what an Option tells of the test that made it, and of the lists by their numbers. Assumes nothing.
use mathlib.Core.Path.{◌≡◌, refl, ap}
use mathlib.Core.Bool.{Bool, true, false, cond}
use mathlib.Core.List.{List}
use Prim.Native.Nat.{ℕ}
use borrow.Author.Tests.{ne_eqb, eqb-true, eqb-false}
use lib.Dec.{eqb}
use Rattle.std.specs.Prelude.{Some, None, Ok, Err}
use Rattle.std.specs.Bool.{then_some}
use Rattle.refusals.specs.{list_broken}
use Rattle.refusals.specs.Refused.{refusal_number}
use Rattle.refusals.specs.declared.Refusal.{Refusal}
use Rattle.refusals.specs.declared.Refusal.TheVariants.{ListBroken}
use Rattle.rules.specs.Check.{old_list, new_list, entries_of}
use Rattle.bundle.specs.declared.lists.EntryList.{EntryList}
use Rattle.bundle.specs.declared.lists.EntryList.TheVariants.{Old, New}
use Rattle.bundle.specs.Lists.{list_number, list_numbered}

pub then_none : (b : Bool) (v : ℕ) → None ≡ then_some b v → b ≡ false
then_none true v e = cc
then_none false v e = refl

pub then_is : (b : Bool) (v x : ℕ) → Some x ≡ then_some b v → (b ≡ true) × (x ≡ v)
then_is true v x e = (refl, cc)
then_is false v x e = (cc, cc)

pub numbered_is : (n : ℕ) (l : EntryList) → Ok l ≡ list_numbered n → n ≡ list_number l
numbered_is n l e = go (eqb n old_list) (eqb n new_list) refl refl e
  where
    go : (a b : Bool) → eqb n old_list ≡ a → eqb n new_list ≡ b → Ok l ≡ cond a (Ok Old) (cond b (Ok New) (Err ListBroken)) → n ≡ list_number l
    go true b p q f = let z : l ≡ Old = cc in rw z (eqb-true n old_list p)
    go false true p q f = let z : l ≡ New = cc in rw z (eqb-true n new_list q)
    go false false p q f = cc

pub numbered_none : (n : ℕ) (r : Refusal) → Err r ≡ list_numbered n → (n ≡ old_list → ⊥) × (n ≡ new_list → ⊥)
numbered_none n r e = go (eqb n old_list) (eqb n new_list) refl refl e
  where
    go :
        (a b : Bool) → eqb n old_list ≡ a → eqb n new_list ≡ b → Err r ≡ cond a (Ok Old) (cond b (Ok New) (Err ListBroken))
        → (n ≡ old_list → ⊥) × (n ≡ new_list → ⊥)
    go true b p q f = (cc, cc)
    go false true p q f = (cc, cc)
    go false false p q f = (eqb-false n old_list p, eqb-false n new_list q)

pub numbered_broken : (n : ℕ) (r : Refusal) → Err r ≡ list_numbered n → refusal_number r ≡ list_broken
numbered_broken n r e = go (eqb n old_list) (eqb n new_list) e
  where
    go : (a b : Bool) → Err r ≡ cond a (Ok Old) (cond b (Ok New) (Err ListBroken)) → refusal_number r ≡ list_broken
    go true b f = cc
    go false true f = cc
    go false false f = let z : r ≡ ListBroken = cc in ap refusal_number z

-- no list, no entries
pub numbered_empty : (s : List ℕ) (n : ℕ) (r : Refusal) → Err r ≡ list_numbered n → entries_of s n ≡ 0
unfolding entries_of
numbered_empty s n r e = let p = numbered_none n r e in rw (ne_eqb n old_list p.0, ne_eqb n new_list p.1)
