-- Laws of what the store's read answers for a label and a height: the first block that answers, and its digest. Assumes nothing.
use mathlib.Core.Path.{◌≡◌, refl, sym, ap, ap₂, ◌∙◌}
use mathlib.Core.Bool.{Bool, true, false, ◌&&◌}
use mathlib.Core.List.{List}
use Prim.Native.Nat.{ℕ, suc, ◌+◌, ◌-◌, ◌*◌, ◌<◌, ◌≤◌}
use native.Mathlib.Numerals.{add-one}
use native.Mathlib.Omega.{arith}
use lib.ListN.{length, take, drop, length-replicate, length-drop}
use lib.Seq.{length-take-le}
use lib.Dec.{eqb}
use Rattle.refusals.specs.{accepted}
use Rattle.octets.specs.Strings.{same}
use Rattle.octets.proofs.Puts.{put_all}
use Rattle.octets.proofs.RoundTrips.{and_left, and_right}
use Rattle.rows.specs.Digests.{appended}
use Rattle.rows.specs.Table.{each}
use Rattle.rows.proofs.Tables.{each_fails}
use Rattle.checks.specs.Check.{block_bytes}
use Rattle.cabinet.specs.Block.{label_in, height_in, digest_in, sound}
use Rattle.store.specs.Area.{blocks, area_right, block_at, holds_damaged}
use Rattle.store.specs.Read.{Copied, answers, first_answer, reading}
use Rattle.store.proofs.Places.{first_within, first_holds}
use Rattle.store.proofs.Puts.{whole_blocks}
use Rattle.store.proofs.Tests.{read_damaged, read_none, read_done}
use Rattle.statement.specs.Kinds.{digest_bytes}
use Rattle.rules.specs.Derivation.{grown}
use Rattle.rules.proofs.RowsParts.{part_cut, part_part}
use Rattle.derivation.proofs.Growths.{grown_more}
use Rattle.maker.specs.declared.Highest.{Highest}
use Rattle.maker.specs.Lists.{room, answered, entry_digest, listed}
use Rattle.maker.proofs.Orders.{never}
use Rattle.maker.proofs.Listings.{listed_at, grown_alike}
use Rattle.listing.specs.Leading.{leads_on, has_both}

room_long : length room ≡ block_bytes
unfolding room
room_long = length-replicate {A = ℕ} block_bytes 0

module _ (store label : List ℕ) (height : ℕ) (right : area_right store ≡ true) where
  abbrev place : ℕ
  place = first_answer store label height (blocks store)

  pub place_within : place ≤ blocks store
  unfolding first_answer
  place_within = first_within (λ (i : ℕ). answers label height (block_at store i)) (blocks store)

  pub unanswered : place ≡ blocks store → answered store label height ≡ false
  unfolding answered
  unanswered f = go (holds_damaged store) refl
    where
      go : (b : Bool) → holds_damaged store ≡ b → eqb (reading store label height room).number accepted ≡ false
      go true d = ap (λ (r : Copied). eqb r.number accepted) (sym (read_damaged store label height room (omega (arith, room_long)) right f d))
      go false d = ap (λ (r : Copied). eqb r.number accepted) (sym (read_none store label height room (omega (arith, room_long)) right f d))

  module _ (n : place ≡ blocks store → ⊥) where
    pub place_lies : block_bytes * place + block_bytes ≤ length store
    place_lies = omega (arith, place_within, whole_blocks store, n)

    pub is_answered : answered store label height ≡ true
    unfolding answered
    is_answered = ap (λ (r : Copied). eqb r.number accepted) (sym (read_done store label height room (omega (arith, room_long)) right n))

    block_long : length (block_at store place) ≡ length room
    unfolding block_at
    block_long =
        length-take-le block_bytes (drop (block_bytes * place) store) (omega (arith, place_lies, length-drop (block_bytes * place) store)) ∙ sym room_long

    pub digest_there : entry_digest store label height ≡ digest_in (block_at store place)
    unfolding entry_digest
    digest_there =
        ap (λ (r : Copied). digest_in r.output) (sym (read_done store label height room (omega (arith, room_long)) right n))
        ∙ ap digest_in (put_all room (block_at store place) block_long)

  -- a block that answers has the label and the height
  pub place_has : (place ≡ blocks store → ⊥) → has_both store label height place ≡ true
  unfolding first_answer answers has_both
  place_has n =
      let b = block_at store place in
      let h = eqb (height_in b) height in
      let l = same (label_in b) label in
      let e : (h && (l && sound b)) ≡ true = first_holds (λ (i : ℕ). answers label height (block_at store i)) (blocks store) (omega (arith, place_within, n)) in
      rw (and_left h (l && sound b) e) (and_left l (sound b) (and_right h (l && sound b) e))

  -- where it is answered, a block answers
  pub answering : answered store label height ≡ true → place ≡ blocks store → ⊥
  answering a f = never (answered store label height) a (unanswered f)

-- what stands within a block
pub part_there :
    (store : List ℕ) (i at n from : ℕ) → at + n ≤ block_bytes → from ≡ block_bytes * i + at → take n (drop from store) ≡ take n (drop at (block_at store i))
unfolding block_at
part_there store i at n from h p =
    ap (λ (k : ℕ). take n (drop k store)) p
    ∙ sym (part_cut (drop (block_bytes * i) store) block_bytes at n h ∙ part_part store (block_bytes * i) at n)

pub digest_part :
    (store : List ℕ) (i from : ℕ) → from ≡ block_bytes * i + 24
    → take digest_bytes (drop from store) ≡ digest_in (block_at store i)
unfolding digest_in
digest_part store i from p = part_there store i 24 digest_bytes from (omega arith) p

-- a tail grows by what is listed more
module _ (store label tail : List ℕ) (height : ℕ) where
  pub grown-listed :
      (n : ℕ) → grown tail (listed store label height (n + 1)) (n + 1)
      ≡ appended (grown tail (listed store label height n) n) (entry_digest store label (height + (n + 1)))
  grown-listed n =
      grown_more tail (listed store label height (n + 1)) n
      ∙ ap₂ appended
      (grown_alike tail (listed store label height (n + 1)) (listed store label height n) n
      (λ d h. listed_at store label height (n + 1) d (omega arith) ∙ sym (listed_at store label height n d h)))
      (listed_at store label height (n + 1) n (omega arith) ∙ ap (λ (k : ℕ). entry_digest store label (height + k)) (sym (add-one n)))

-- the tests in turn
module _ (store label : List ℕ) (row top : Highest) where
  pub leads_fails : (d : ℕ) → d < top.height - row.height → answered store label (row.height + (d + 1)) ≡ false → leads_on store label row top ≡ false
  unfolding leads_on
  leads_fails d h k =
      rw (each_fails (λ (d : ℕ). answered store label (row.height + suc d)) (top.height - row.height) d h (rw (add-one d) at k))

  pub leads_all :
      each (λ (d : ℕ). answered store label (row.height + suc d)) (top.height - row.height) ≡ true
      → leads_on store label row top
      ≡ same (grown row.tail (listed store label row.height (top.height - row.height)) (top.height - row.height)) top.tail
  unfolding leads_on
  leads_all e = rw e
