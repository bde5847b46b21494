-- A night that is counted piece by piece.
use Rattle.std.specs.declared.io.Error.{Error}
use Rattle.std.proofs.Common.{Result, Ok, Err, ◌≡◌, ℕ, ◌+◌, ◌*◌, ◌≤◌, List, [], ◌++◌, arith, length, length-append, sym, ap, refl, ◌∙◌, Option, Some, None}
use Rattle.std.proofs.KnownBytes.{Consumes-nil, Consumes-trans}
use Rattle.night.specs.declared.Night.{Night}
use Rattle.night.specs.Pass.{blocks, passed}
use Rattle.night.proofs.Keeping.{passed-blocks}
use Rattle.night.proofs.Passes.{passed_pieces}
use Rattle.morning.specs.declared.Stands.{Stands}
use Rattle.morning.specs.declared.Stands.TheVariants.{More, All}
use Rattle.morning.specs.Reading.{piece_bytes, GoesOn}

-- a piece has at most 128 blocks
pub few_blocks : (s : List ℕ) → length s ≤ piece_bytes → blocks s ≤ 128
unfolding blocks
few_blocks s h = omega arith

whole_blocks : (s : List ℕ) (k : ℕ) → length s ≡ piece_bytes * k → blocks s ≡ 128 * k
unfolding blocks
whole_blocks s k h = omega arith

joined_blocks : (r s : List ℕ) (k : ℕ) → length r ≡ piece_bytes * k → blocks (r ++ s) ≡ 128 * k + blocks s
unfolding blocks
joined_blocks r s k h = omega (arith, length-append r s)

-- whole pieces, and what stands behind them
passed_joined : (n : Night) (r s : List ℕ) (k : ℕ) → length r ≡ piece_bytes * k
    → passed (passed n r (blocks r)) s (blocks s) ≡ passed n (r ++ s) (blocks (r ++ s))
passed_joined n r s k h =
    ap (λ i. passed (passed n r i) s (blocks s)) (whole_blocks r k h)
    ∙ sym (passed_pieces r s (128 * k) (omega arith) n (blocks s))
    ∙ ap (passed n (r ++ s)) (sym (joined_blocks r s k h))

-- nothing is read yet
pub goes_on_none : (a : Option (List ℕ)) (n : Night) → GoesOn 0 a a n n (Ok More)
unfolding blocks passed
goes_on_none a n = ([], Consumes-nil a, refl, refl)

-- one piece more
pub goes_on : (k : ℕ) (a b c : Option (List ℕ)) (n m p : Night) (s : Result Stands Error) → GoesOn k a b n m (Ok More) → GoesOn 1 b c m p s → GoesOn (k + 1) a c n p s
goes_on k a b c n m p (Ok More) x y = (
  x.0 ++ y.0,
  Consumes-trans a b c x.0 y.0 x.1 y.1,
  omega (arith, length-append x.0 y.0, x.2, y.2),
  y.3 ∙ ap (λ q. passed q y.0 (blocks y.0)) x.3 ∙ passed_joined n x.0 y.0 k x.2,
)
goes_on k None b c n m p (Ok All) x y = tt
goes_on k (Some f) None c n m p (Ok All) x y = absurd x.1
goes_on k (Some f) (Some g) c n m p (Ok All) x y =
    y ∙ ap (λ q. passed q g (blocks g)) x.3 ∙ passed_joined n x.0 g k x.2 ∙ ap (λ file. passed n file (blocks file)) (sym x.1)
goes_on k a b c n m p (Err e) x y = tt

-- the same where the next piece is known by what its reading answered
pub goes_on_by : (k : ℕ) (a b c : Option (List ℕ)) (n m p : Night) (s : Result Stands Error) (t u : Stands)
    → GoesOn k a b n m (Ok More) → GoesOn 1 b c m p s → s ≡ Ok t → t ≡ u → GoesOn (k + 1) a c n p (Ok u)
goes_on_by k a b c n m p s t u x y e f = goes_on k a b c n m p (Ok u) x (rw f at (rw e at y))

-- the blocks that are counted
pub more_blocks : (n m : Night) (s : List ℕ) → m ≡ passed n s (blocks s) → m.totals.blocks ≡ n.totals.blocks + blocks s
more_blocks n m s e = ap (λ (q : Night). q.totals.blocks) e ∙ passed-blocks n s (blocks s)
