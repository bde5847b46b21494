-- The digests that the store's read answers, one behind the other: how long they are, which stands where, and that a tail grows by these alone. Assumes
-- nothing.
use mathlib.Core.Path.{◌≡◌, refl, sym, ap, ap₂, ◌∙◌}
use mathlib.Core.Bool.{Bool, true, false, cond}
use mathlib.Core.List.{List, [], ◌++◌}
use Prim.Native.Nat.{ℕ, zero, suc, ◌+◌, ◌*◌, ◌≤◌, ◌<◌}
use native.Mathlib.Decide.{dec_lt}
use native.Mathlib.Nat.{not-suc-le-zero}
use native.Mathlib.Omega.{arith}
use lib.ListN.{length, take, drop, length-take, length-drop, length-append, length-replicate}
use lib.Seq.{length-take-le, take_all, take-append-le, drop-append-le, drop_at}
use lib.Dec.{eqb}
use Rattle.refusals.specs.{accepted}
use Rattle.refusals.specs.Order.{first}
use Rattle.octets.specs.Strings.{put}
use Rattle.octets.proofs.Puts.{put-length}
use Rattle.rows.specs.Digests.{appended}
use Rattle.checks.specs.Check.{block_bytes, block_at}
use Rattle.cabinet.specs.Block.{digest_place, digest_in}
use Rattle.store.specs.Area.{blocks}
use Rattle.store.specs.Read.{Copied, first_answer, read_tests, reading}
use Rattle.statement.specs.Kinds.{digest_bytes}
use Rattle.rules.specs.Derivation.{grown}
use Rattle.maker.specs.Lists.{room, entry_digest, listed}

room_long : length room ≡ block_bytes
unfolding room
room_long = length-replicate {A = ℕ} block_bytes 0

block_short : (store : List ℕ) (i : ℕ) → length (block_at store i) ≤ block_bytes
unfolding block_at
block_short store i = omega (arith, length-take block_bytes (drop (block_bytes * i) store))

module _ (store label : List ℕ) where
  output_long : (height : ℕ) → length (reading store label height room).output ≡ block_bytes
  unfolding reading
  output_long height =
      let n = first (read_tests store label height room) in
      go (eqb n accepted) (first_answer store label height (blocks store)) n
    where
      go :
          (b : Bool) (i n : ℕ)
          → length (cond {A = Copied} b (record { number = 0; written = block_bytes; height = 0; output = put room 0 (block_at store i) })
          (record { number = n; written = 0; height = 0; output = room })).output
          ≡ block_bytes
      go true i n = put-length room 0 (block_at store i) (omega (arith, block_short store i, room_long)) ∙ room_long
      go false i n = room_long

  pub entry_long : (height : ℕ) → length (entry_digest store label height) ≡ digest_bytes
  unfolding entry_digest digest_in
  entry_long height =
      length-take-le digest_bytes (drop digest_place (reading store label height room).output)
      (omega (arith, output_long height, length-drop digest_place (reading store label height room).output))

  pub listed_long : (height n : ℕ) → length (listed store label height n) ≡ digest_bytes * n
  unfolding listed
  listed_long height zero = refl
  listed_long height (suc n) =
      omega (arith, length-append (listed store label height n) (entry_digest store label (height + suc n)), listed_long height n, entry_long (height + suc n))

  -- digest d is the one at its own height
  pub listed_at :
      (height n d : ℕ) → d < n → take digest_bytes (drop (digest_bytes * d) (listed store label height n)) ≡ entry_digest store label (height + suc d)
  unfolding listed
  listed_at height zero d h = absurd (not-suc-le-zero h)
  listed_at height (suc n) d h = go (λ l. listed_at height n d l) (dec_lt d n)
    where
      long : length (listed store label height n) ≡ digest_bytes * n
      long = listed_long height n

      go :
          (d < n → take digest_bytes (drop (digest_bytes * d) (listed store label height n)) ≡ entry_digest store label (height + suc d)) → Dec (d < n)
          → take digest_bytes (drop (digest_bytes * d) (listed store label height n ++ entry_digest store label (height + suc n)))
          ≡ entry_digest store label (height + suc d)
      go earlier (yes l) =
          ap (take digest_bytes)
          (drop-append-le (digest_bytes * d) (listed store label height n) (entry_digest store label (height + suc n)) (omega (arith, long)))
          ∙ take-append-le digest_bytes (drop (digest_bytes * d) (listed store label height n)) (entry_digest store label (height + suc n))
          (omega (arith, long, length-drop (digest_bytes * d) (listed store label height n)))
          ∙ earlier l
      go earlier (no l) =
          let e : d ≡ n = omega arith in
          rw e
          (ap (take digest_bytes) (drop_at (listed store label height n) (entry_digest store label (height + suc n)) (digest_bytes * n) long)
          ∙ take_all digest_bytes (entry_digest store label (height + suc n)) (omega (arith, entry_long (height + suc n))))

-- a tail grows by the digests that a string has
pub grown_alike :
    (tail a b : List ℕ) (n : ℕ) → ((d : ℕ) → d < n → take digest_bytes (drop (digest_bytes * d) a) ≡ take digest_bytes (drop (digest_bytes * d) b))
    → grown tail a n ≡ grown tail b n
unfolding grown
grown_alike tail a b zero e = refl
grown_alike tail a b (suc n) e = ap₂ appended (grown_alike tail a b n (λ d h. e d (omega arith))) (e n (omega arith))
