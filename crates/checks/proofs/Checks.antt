-- Laws of a block's check: its length, and the block that it closes. Assumes nothing.
use mathlib.Core.Path.{◌≡◌, sym, ◌∙◌}
use mathlib.Core.List.{List}
use Prim.Native.Nat.{ℕ, ◌+◌}
use native.Mathlib.Omega.{arith}
use lib.ListN.{length, take, drop, length-append, length-take}
use lib.Seq.{take_all, take_at, drop_at}
use Rattle.octets.specs.Strings.{put}
use Rattle.octets.proofs.Puts.{take_put, put-length}
use Rattle.hash.proofs.Promised.{sha256-length}
use Rattle.checks.specs.Check.{block_bytes, check_bytes, checked_bytes, check, checked}

pub check-length : (s : List ℕ) → length (check s) ≡ check_bytes
check-length s = simp (length-take, sha256-length)

pub checked-length : (s : List ℕ) → length s ≡ checked_bytes → length (checked s) ≡ block_bytes
unfolding checked
checked-length s e = omega (arith, length-append s (check s), check-length s)

module _ (s : List ℕ) (n : ℕ) (e : length s ≡ n) where
  pub checked_front : take n (checked s) ≡ s
  unfolding checked
  checked_front = take_at s (check s) n e

  pub checked_back : drop n (checked s) ≡ check s
  unfolding checked
  checked_back = drop_at s (check s) n e

-- the check of a buffer's first bytes, put behind them up to its end
pub check-put : (d : List ℕ) → length d ≡ block_bytes → put d checked_bytes (check (take checked_bytes d)) ≡ checked (take checked_bytes d)
unfolding checked
check-put d h =
    let x : List ℕ = check (take checked_bytes d) in
    let l : length x ≡ check_bytes = check-length (take checked_bytes d) in
    sym (take_all (checked_bytes + length x) (put d checked_bytes x) (omega (arith, put-length d checked_bytes x (omega arith))))
    ∙ take_put d checked_bytes x (omega arith)
