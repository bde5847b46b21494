-- The call's contract allows one outcome: two that it allows for the same arguments have the same result, and leave the same in both areas; and a refusal
-- leaves both as they were lent. Assumes nothing.
use mathlib.Core.Path.{◌≡◌, refl, sym, ◌∙◌}
use mathlib.Core.Bool.{Bool, true, false, cond}
use mathlib.Core.List.{List}
use Prim.Native.Nat.{ℕ}
use lib.ListN.{length}
use lib.Dec.{eqb}
use Rattle.refusals.specs.{accepted}
use Rattle.refusals.specs.Order.{first}
use Rattle.octets.specs.Strings.{put}
use Rattle.rack.proofs.Outcomes.{One}
use Rattle.maker.specs.Lists.{bundle_made}
use Rattle.maker.specs.Making.{Composed, blocks_made, making_tests, composing}
use Rattle.composing.proofs.call.mahqurith_make_bundle.Kinds as make-bundle
use Rattle.composing.proofs.call.mahqurith_make_bundle.Reads as make-bundle-contract

pub make_bundle_one :
    One 6 make-bundle.ps make-bundle.r Composed make-bundle-contract.Post
    (λ κs r e. record { number = r.number; roll = r.roll; bundle = r.bundle; roll_area = e.1.1.1.1.0.now; bundle_area = e.1.1.1.1.1.0.now })
make_bundle_one κs a r r' e e' p q = p ∙ sym q

-- a refusal leaves both areas
pub refusal_leaves :
    (previous own e store roll bundle : List ℕ) → ((composing previous own e store roll bundle).number ≡ accepted → ⊥)
    → ((composing previous own e store roll bundle).roll_area ≡ roll) × ((composing previous own e store roll bundle).bundle_area ≡ bundle)
unfolding composing
refusal_leaves previous own e store roll bundle n =
    go (eqb (first (making_tests previous own e store roll bundle)) accepted) (first (making_tests previous own e store roll bundle)) (length (blocks_made e))
    (length (bundle_made e store)) (put roll 0 (blocks_made e)) (put bundle 0 (bundle_made e store)) n
  where
    go :
        (b : Bool) (m k l : ℕ) (x y : List ℕ)
        → ((cond {A = Composed} b (record { number = accepted; roll = k; bundle = l; roll_area = x; bundle_area = y })
        (record { number = m; roll = 0; bundle = 0; roll_area = roll; bundle_area = bundle })).number
        ≡ accepted
        → ⊥)
        → ((cond {A = Composed} b (record { number = accepted; roll = k; bundle = l; roll_area = x; bundle_area = y })
        (record { number = m; roll = 0; bundle = 0; roll_area = roll; bundle_area = bundle })).roll_area
        ≡ roll)
        × ((cond {A = Composed} b (record { number = accepted; roll = k; bundle = l; roll_area = x; bundle_area = y })
        (record { number = m; roll = 0; bundle = 0; roll_area = roll; bundle_area = bundle })).bundle_area
        ≡ bundle)
    go true m k l x y n = absurd (n refl)
    go false m k l x y n = (refl, refl)
