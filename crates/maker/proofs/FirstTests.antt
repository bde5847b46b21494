-- The maker's number is that of the first of its tests that holds. Assumes nothing.
use mathlib.Core.Path.{◌≡◌, refl, sym}
use mathlib.Core.Bool.{Bool, true, false, cond}
use mathlib.Core.List.{List}
use Prim.Native.Nat.{ℕ}
use borrow.Author.Tests.{eqb-true}
use lib.ListN.{length}
use lib.Dec.{eqb}
use Rattle.refusals.specs.{accepted}
use Rattle.refusals.specs.Order.{first}
use Rattle.octets.specs.Strings.{put}
use Rattle.maker.specs.Lists.{bundle_made}
use Rattle.maker.specs.Making.{Composed, blocks_made, making_tests, composing}

pub composing_says :
    (previous own e store roll bundle : List ℕ)
    → (composing previous own e store roll bundle).number ≡ first (making_tests previous own e store roll bundle)
unfolding composing
composing_says previous own e store roll bundle =
    let n = first (making_tests previous own e store roll bundle) in
    go n (eqb n accepted) refl
  where
    go : (n : ℕ) (b : Bool) → eqb n accepted ≡ b
        → (cond {A = Composed} b
        (record {
          number = accepted;
          roll = length (blocks_made e);
          bundle = length (bundle_made e store);
          roll_area = put roll 0 (blocks_made e);
          bundle_area = put bundle 0 (bundle_made e store);
        })
        (record { number = n; roll = 0; bundle = 0; roll_area = roll; bundle_area = bundle })).number
        ≡ n
    go n true p = sym (eqb-true n accepted p)
    go n false p = refl
