-- What is appended reads back: after an accepted append and any further calls of the store, the read of that label and height gives that block. Assumes nothing.
use mathlib.Core.Path.{◌≡◌, refl, sym, ap, ◌∙◌}
use mathlib.Core.Bool.{Bool, true, false, not, ◌&&◌}
use mathlib.Core.List.{List, [], ◌∷◌, ◌++◌}
use Prim.Native.Nat.{ℕ, zero, suc, ◌+◌, ◌-◌, ◌*◌, ◌≤◌, ◌<◌}
use native.Mathlib.Decide.{dec_lt}
use native.Mathlib.Omega.{arith}
use borrow.Author.Tests.{eqb-true, eqb-false, eq-eqb, ne_eqb, ltb-false, not-false}
use lib.ListN.{length, take, drop, replicate, length-take, length-drop}
use lib.Dec.{eqb, ltb}
use Rattle.refusals.specs.{accepted}
use Rattle.refusals.specs.Order.{first}
use Rattle.refusals.proofs.Orders.{passes, none_refuses}
use Rattle.octets.specs.Numbers.{number_of}
use Rattle.octets.specs.Strings.{all_zero, same, put}
use Rattle.octets.proofs.Parts.{take-replicate, drop-replicate}
use Rattle.octets.proofs.RoundTrips.{and_left, and_right, same_is, same_refl}
use Rattle.octets.proofs.Zeros.{zero_is, zeros_are}
use Rattle.hash.specs.Sha256.{sha256}
use Rattle.hash.proofs.Promised.{sha256-length}
use Rattle.rows.specs.Sizes.{label_bytes, top_height}
use Rattle.rows.specs.Digests.{appended}
use Rattle.checks.specs.Check.{block_bytes}
use Rattle.cabinet.specs.Block.{most_text, label_in, height_in, digest_in, tail_in, text_in, sound, unused, damaged}
use Rattle.store.specs.Area.{blocks, area_right, block_at, first_place, first_unused, first_damaged, holds_damaged, newest}
use Rattle.store.specs.Append.{ready_tests, order_tests, room_tests, append_tests, block_appended, appending}
use Rattle.store.specs.Read.{answers, first_answer, read_tests, reading}
use Rattle.store.specs.Kept.{Call, append, read, after, later}
use Rattle.store.proofs.Places.{first_within, first_holds, first_none, first_only, newest_greatest, newest_below}
use Rattle.cabinet.proofs.Blocks.{label_made, height_made, digest_made, tail_made, text_made, block_length, sound_made, sound_label, sound_height}
use Rattle.store.proofs.Tests.{ready_numbered, order_numbered, read_done}
use Rattle.store.proofs.Puts.{whole_blocks, put-blocks, put_right, put_here, put_elsewhere}

-- where all is zero, so is each part, and its number
zero_part : (s : List ℕ) (n m : ℕ) → all_zero s ≡ true → n + m ≤ length s → take m (drop n s) ≡ replicate m 0
zero_part s n m z h =
    let u : length s ≡ n + (length s - n) = omega arith in
    let d : drop n s ≡ replicate (length s - n) 0 =
    ap (drop n) (zero_is s z ∙ ap (λ (k : ℕ). replicate k 0) u) ∙ drop-replicate n (length s - n) 0 in
    ap (take m) d ∙ take-replicate m (length s - n) 0 (omega arith)

zero_number : (n : ℕ) → number_of (replicate n 0) ≡ 0
unfolding number_of
zero_number zero = refl
zero_number (suc n) = rw (zero_number n) (omega arith)

-- what an accepted append has found
pub record Taken (area label : List ℕ) (expected : ℕ) (text : List ℕ) : Type 0 where
  pub short : length text ≤ most_text
  pub right : area_right area ≡ true
  pub whole : holds_damaged area ≡ false
  pub named : all_zero label ≡ false
  pub next : expected ≡ (newest area label (blocks area)).height + 1
  pub below : (newest area label (blocks area)).height ≡ top_height → ⊥
  pub room : first_unused area (blocks area) < blocks area
  pub leaves : (appending area label expected text).area ≡ put area (block_bytes * first_unused area (blocks area)) (block_appended area label expected text)

unlike : {b : Bool} → b ≡ true → b ≡ false → ⊥
unlike t f = let z : ◌≡◌ {A = Bool} true false = sym t ∙ f in let w : ◌≡◌ {A = ℕ} 0 1 = cc in omega arith

or_false : (b : Bool) → (b ≡ true → ⊥) → b ≡ false
or_false true h = absurd (h refl)
or_false false h = refl

omega_lt : (a b : ℕ) → a ≤ b → (a ≡ b → ⊥) → a < b
omega_lt a b h n = omega arith

unused_within : (area : List ℕ) → (first_unused area (blocks area) ≡ blocks area → ⊥) → first_unused area (blocks area) < blocks area
unfolding first_unused
unused_within area h =
    let w = first_within (λ (i : ℕ). unused (block_at area i)) (blocks area) in
    omega_lt (first_place (λ (i : ℕ). unused (block_at area i)) (blocks area)) (blocks area) w h

module _ (area label : List ℕ) (expected : ℕ) (text : List ℕ) where
  unpassed : (k : ℕ) → first (append_tests area label expected text) ≡ k → (appending area label expected text).number ≡ k
  unfolding appending
  unpassed zero e = rw e
  unpassed (suc k) e = rw (e, ne_eqb (suc k) accepted (λ u. omega arith))

  all_pass : (appending area label expected text).number ≡ accepted → first (append_tests area label expected text) ≡ accepted
  all_pass h = sym (unpassed (first (append_tests area label expected text)) refl) ∙ h

  pub leaves_block :
      first (append_tests area label expected text) ≡ accepted
      → (appending area label expected text).area ≡ put area (block_bytes * first_unused area (blocks area)) (block_appended area label expected text)
  unfolding appending
  leaves_block e = rw e

  -- a refusal changes nothing
  pub append_refused : ((appending area label expected text).number ≡ accepted → ⊥) → (appending area label expected text).area ≡ area
  unfolding appending
  append_refused n = rw (ne_eqb (first (append_tests area label expected text)) accepted (λ e. n (unpassed accepted e)))

  pub taken : (appending area label expected text).number ≡ accepted → Taken area label expected text
  unfolding append_tests ready_tests order_tests room_tests
  taken h =
      let e = all_pass h in
      let n = (newest area label (blocks area)).height in
      let s = none_refuses (ready_tests area label text) (order_tests expected n ++ room_tests area) (ready_numbered area label expected text) e in
      let o = none_refuses (order_tests expected n) (room_tests area) (order_numbered area label expected text) s.1 in
      let p = passes (ltb most_text (length text)) 33 _ (λ u. omega arith) s.0 in
      let q = passes (not (area_right area)) 2 _ (λ u. omega arith) p.1 in
      let r = passes (holds_damaged area) 2 _ (λ u. omega arith) q.1 in
      let z = passes (all_zero label) 14 _ (λ u. omega arith) r.1 in
      let x = passes (not (eqb expected (n + 1))) 11 _ (λ u. omega arith) o.0 in
      let y = passes (eqb n top_height) 12 _ (λ u. omega arith) x.1 in
      let f = passes (eqb (first_unused area (blocks area)) (blocks area)) 34 _ (λ u. omega arith) o.1 in
      record {
        short = ltb-false most_text (length text) p.0;
        right = not-false (area_right area) q.0;
        whole = r.0;
        named = z.0;
        next = eqb-true expected (n + 1) (not-false (eqb expected (n + 1)) x.0);
        below = eqb-false n top_height y.0;
        room = unused_within area (eqb-false (first_unused area (blocks area)) (blocks area) f.0);
        leaves = leaves_block e;
      }

read_number :
    (area label : List ℕ) (height : ℕ) (output : List ℕ) (k : ℕ) → first (read_tests area label height output) ≡ k → (reading area label height output).number ≡ k
unfolding reading
read_number area label height output zero e = rw e
read_number area label height output (suc k) e = rw (e, ne_eqb (suc k) accepted (λ u. omega arith))

read_leaves :
    (area label : List ℕ) (height : ℕ) (output : List ℕ) (k : ℕ) → first (read_tests area label height output) ≡ k → (k ≡ accepted → ⊥)
    → (reading area label height output).output ≡ output
unfolding reading
read_leaves area label height output k e n = rw (e, ne_eqb k accepted n)

-- nor does a refused read
pub read_refused :
    (area label : List ℕ) (height : ℕ) (output : List ℕ) → ((reading area label height output).number ≡ accepted → ⊥)
    → (reading area label height output).output ≡ output
read_refused area label height output n = go (first (read_tests area label height output)) refl
  where
    go : (k : ℕ) → first (read_tests area label height output) ≡ k → (reading area label height output).output ≡ output
    go zero e = absurd (n (read_number area label height output zero e))
    go (suc k) e = read_leaves area label height output (suc k) e (λ u. omega arith)

at_length : (area : List ℕ) (i : ℕ) → i < blocks area → length (block_at area i) ≡ block_bytes
unfolding block_at
at_length area i l = let w = whole_blocks area in simp (length-take, length-drop) (omega arith)

-- no block that is not damaged is above the top
undamaged_low : (b : List ℕ) → length b ≡ block_bytes → damaged b ≡ false → height_in b ≤ top_height
unfolding damaged unused height_in
undamaged_low b l h = go (all_zero b) refl (sound b) refl h
  where
    go : (z : Bool) → all_zero b ≡ z → (s : Bool) → sound b ≡ s → (not z && not s) ≡ false → number_of (take 8 (drop 16 b)) ≤ top_height
    go true z s e d = let o : number_of (take 8 (drop 16 b)) ≡ 0 = ap number_of (zero_part b 16 8 z (omega arith)) ∙ zero_number 8 in omega arith
    go false z true e d = sound_height b e
    go false z false e d = absurd (unlike refl d)

-- an unused block is no sound one
unused_unsound : (b : List ℕ) → length b ≡ block_bytes → unused b ≡ true → sound b ≡ true → ⊥
unfolding unused label_in
unused_unsound b l z s =
    let front : take 16 b ≡ replicate 16 0 = zero_part b 0 16 z (omega arith) in
    unlike (ap all_zero front ∙ zeros_are 16) (sound_label b s)

module _ (area label : List ℕ) (expected : ℕ) (text : List ℕ) (fixed : length label ≡ label_bytes) (t : Taken area label expected text) where
  present_low : (newest area label (blocks area)).height ≤ top_height
  unfolding holds_damaged first_damaged
  present_low =
      let w = first_within (λ (i : ℕ). damaged (block_at area i)) (blocks area) in
      let d = ltb-false (first_damaged area (blocks area)) (blocks area) t.whole in
      newest_below area label top_height (blocks area)
      (λ i l. undamaged_low (block_at area i) (at_length area i l) (first_none (λ (i : ℕ). damaged (block_at area i)) (blocks area) i (omega arith) l))

  tail_after : List ℕ
  tail_after = appended (newest area label (blocks area)).tail (sha256 text)

  tail_length : length tail_after ≡ 32
  unfolding tail_after appended
  tail_length = sha256-length _

  low : 1 ≤ expected
  low = omega (arith, t.next)

  high : expected ≤ top_height
  high = let p = present_low in let b = t.below in let n = t.next in omega arith

  -- the block says what the append was given, and its tail is 01's append of the entry's digest to the tail before
  pub says_label : label_in (block_appended area label expected text) ≡ label
  unfolding block_appended tail_after
  says_label = label_made label expected (sha256 text) tail_after text fixed (sha256-length text) tail_length

  pub says_height : height_in (block_appended area label expected text) ≡ expected
  unfolding block_appended tail_after
  says_height = height_made label expected (sha256 text) tail_after text fixed (sha256-length text) tail_length (let h = high in omega arith)

  pub says_digest : digest_in (block_appended area label expected text) ≡ sha256 text
  unfolding block_appended tail_after
  says_digest = digest_made label expected (sha256 text) tail_after text fixed (sha256-length text) tail_length

  pub says_tail : tail_in (block_appended area label expected text) ≡ appended (newest area label (blocks area)).tail (sha256 text)
  unfolding block_appended tail_after
  says_tail = tail_made label expected (sha256 text) tail_after text fixed (sha256-length text) tail_length

  pub says_text : text_in (block_appended area label expected text) ≡ text
  unfolding block_appended tail_after
  says_text = text_made label expected (sha256 text) tail_after text fixed (sha256-length text) tail_length t.short

  long : length (block_appended area label expected text) ≡ block_bytes
  unfolding block_appended tail_after
  long = block_length label expected (sha256 text) tail_after text fixed (sha256-length text) tail_length t.short

  good : sound (block_appended area label expected text) ≡ true
  unfolding block_appended tail_after
  good = sound_made label expected (sha256 text) tail_after text fixed (sha256-length text) tail_length t.short t.named low high refl

-- a block that answers has the label and the height, and is sound
module _ (label : List ℕ) (height : ℕ) (b : List ℕ) (h : answers label height b ≡ true) where
  answers-height : height_in b ≡ height
  unfolding answers
  answers-height = eqb-true (height_in b) height (and_left (eqb (height_in b) height) _ h)

  answers-label : label_in b ≡ label
  unfolding answers
  answers-label = same_is (label_in b) label (and_left (same (label_in b) label) _ (and_right (eqb (height_in b) height) _ h))

  answers-sound : sound b ≡ true
  unfolding answers
  answers-sound = and_right (same (label_in b) label) _ (and_right (eqb (height_in b) height) _ h)

answers_so : (label : List ℕ) (height : ℕ) (b : List ℕ) → height_in b ≡ height → label_in b ≡ label → sound b ≡ true → answers label height b ≡ true
unfolding answers
answers_so label height b h l s = rw (h, l, s, eq-eqb height height refl, same_refl label)

-- a block of the area answers for a label and a height, and no other does
pub record Held (area label : List ℕ) (height : ℕ) (b : List ℕ) : Type 0 where
  pub place : ℕ
  pub right : area_right area ≡ true
  pub within : place < blocks area
  pub there : block_at area place ≡ b
  pub answer : answers label height b ≡ true
  pub alone : (j : ℕ) → j < blocks area → (j ≡ place → ⊥) → answers label height (block_at area j) ≡ false

held_reads :
    (area label : List ℕ) (height : ℕ) (b output : List ℕ) → Held area label height b → block_bytes ≤ length output
    → reading area label height output ≡ record { number = accepted; written = block_bytes; height = 0; output = put output 0 b }
unfolding first_answer
held_reads area label height b output k h =
    let at : first_answer area label height (blocks area) ≡ k.place =
    first_only (λ (i : ℕ). answers label height (block_at area i)) (blocks area) k.place k.within (rw k.there k.answer) k.alone in
    sym (read_done area label height output h k.right (λ e. let w = k.within in omega arith))
    ∙ ap (λ (s : List ℕ). record { number = accepted; written = block_bytes; height = 0; output = put output 0 s }) (ap (block_at area) at ∙ k.there)

is_unused : (area : List ℕ) → first_unused area (blocks area) < blocks area → unused (block_at area (first_unused area (blocks area))) ≡ true
unfolding first_unused
is_unused area h = first_holds (λ (i : ℕ). unused (block_at area i)) (blocks area) h

module _ (area label : List ℕ) (expected : ℕ) (text : List ℕ) (fixed : length label ≡ label_bytes) (t : Taken area label expected text) where
  p : ℕ
  p = first_unused area (blocks area)

  new : List ℕ
  new = block_appended area label expected text

  stored : List ℕ
  stored = put area (block_bytes * p) new

  module _ (l : length new ≡ block_bytes) where
    -- the new block answers alone
    new-held : Held stored label expected new
    unfolding p new stored
    new-held =
        record {
          place = p;
          right = put_right area p new l t.room ∙ t.right;
          within = rw (put-blocks area p new l t.room) t.room;
          there = put_here area p new l t.room;
          answer = answers_so label expected new (says_height area label expected text fixed t) (says_label area label expected text fixed t) (good area label expected text fixed t);
          alone = λ j m n. rw (put_elsewhere area p new l t.room j n) (other j (rw (put-blocks area p new l t.room) at m));
        }
      where
        other : (j : ℕ) → j < blocks area → answers label expected (block_at area j) ≡ false
        other j m =
            or_false (answers label expected (block_at area j))
            (λ a.
            let h = answers-height label expected (block_at area j) a in
            let g = newest_greatest area label (blocks area) j m (answers-label label expected (block_at area j) a) in
            let n = t.next in
            omega arith)

    -- and a block that answered alone still does
    still_held : (name : List ℕ) (height : ℕ) (b : List ℕ) → Held area name height b → Held stored name height b
    unfolding p new stored
    still_held name height b k =
        record {
          place = k.place;
          right = put_right area p new l t.room ∙ k.right;
          within = rw (put-blocks area p new l t.room) k.within;
          there = put_elsewhere area p new l t.room k.place apart ∙ k.there;
          answer = k.answer;
          alone = λ j m n. either j (rw (put-blocks area p new l t.room) at m) n (dec_lt j p) (dec_lt p j);
        }
      where
        apart : k.place ≡ p → ⊥
        apart e =
            let s : sound (block_at area p) ≡ true = rw (sym e, k.there) (answers-sound name height b k.answer) in
            unused_unsound (block_at area p) (at_length area p t.room) (is_unused area t.room) s

        fresh : answers name height new ≡ false
        fresh =
            or_false (answers name height new)
            (λ a.
            let h = sym (says_height area label expected text fixed t) ∙ answers-height name height new a in
            let e : label ≡ name = sym (says_label area label expected text fixed t) ∙ answers-label name height new a in
            let here : label_in (block_at area k.place) ≡ label = ap label_in k.there ∙ answers-label name height b k.answer ∙ sym e in
            let deep : height_in (block_at area k.place) ≡ height = ap height_in k.there ∙ answers-height name height b k.answer in
            let g = newest_greatest area label (blocks area) k.place k.within here in
            let n = t.next in
            omega arith)

        either : (j : ℕ) → j < blocks area → (j ≡ k.place → ⊥) → Dec (j < p) → Dec (p < j) → answers name height (block_at (put area (block_bytes * p) new) j) ≡ false
        either j m n (yes a) d = rw (put_elsewhere area p new l t.room j (λ e. omega arith)) (k.alone j m n)
        either j m n (no a) (yes d) = rw (put_elsewhere area p new l t.room j (λ e. omega arith)) (k.alone j m n)
        either j m n (no a) (no d) = let e : j ≡ p = omega arith in rw (e, put_here area p new l t.room) fresh

-- an append, accepted or refused, leaves a block that answered alone as it was
after_append :
    (area label : List ℕ) (expected : ℕ) (text : List ℕ) → length label ≡ label_bytes → (name : List ℕ) (height : ℕ) (b : List ℕ)
    → Held area name height b → Held (appending area label expected text).area name height b
unfolding p new stored
after_append area label expected text fixed name height b k = go (eqb (appending area label expected text).number accepted) refl
  where
    go : (c : Bool) → eqb (appending area label expected text).number accepted ≡ c → Held (appending area label expected text).area name height b
    go true e =
        let t = taken area label expected text (eqb-true (appending area label expected text).number accepted e) in
        rw t.leaves (still_held area label expected text fixed t (long area label expected text fixed t) name height b k)
    go false e = rw (append_refused area label expected text (eqb-false (appending area label expected text).number accepted e)) k

after_call : (c : Call) (area name : List ℕ) (height : ℕ) (b : List ℕ) → Held area name height b → Held (after c area) name height b
unfolding after
after_call (append label fixed expected text) area name height b k = after_append area label expected text fixed name height b k
after_call (read label h) area name height b k = k

after_calls : (cs : List Call) (area name : List ℕ) (height : ℕ) (b : List ℕ) → Held area name height b → Held (later cs area) name height b
unfolding later
after_calls [] area name height b k = k
after_calls (c ∷ cs) area name height b k = after_calls cs (after c area) name height b (after_call c area name height b k)

-- "What is appended reads back until someone else writes the area."
pub reads_back :
    (area label : List ℕ) (expected : ℕ) (text : List ℕ) → length label ≡ label_bytes → (appending area label expected text).number ≡ accepted
    → (calls : List Call) (output : List ℕ) → block_bytes ≤ length output
    → reading (later calls (appending area label expected text).area) label expected output
    ≡ record { number = accepted; written = block_bytes; height = 0; output = put output 0 (block_appended area label expected text) }
unfolding p new stored
reads_back area label expected text fixed h calls output room =
    let t = taken area label expected text h in
    let k : Held (appending area label expected text).area label expected (block_appended area label expected text) =
    rw t.leaves (new-held area label expected text fixed t (long area label expected text fixed t)) in
    held_reads (later calls (appending area label expected text).area) label expected (block_appended area label expected text) output
    (after_calls calls (appending area label expected text).area label expected (block_appended area label expected text) k) room
