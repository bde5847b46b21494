-- The table that a rule leaves: the one that it was lent, or one of 63 rows where it was lent one; and bytes where it was lent bytes. Assumes nothing.
use mathlib.Core.Path.{◌≡◌, refl, sym, ap, subst, ◌∙◌}
use mathlib.Core.Bool.{Bool, true, false, not, cond, ◌&&◌}
use mathlib.Core.List.{List, [], ◌∷◌, ◌++◌}
use Prim.Native.Nat.{ℕ, zero, suc, ◌≤◌}
use native.Mathlib.Omega.{arith}
use borrow.Author.Tests.{eqb-true, eqb-false, not-false}
use lib.ListN.{length, length-replicate}
use lib.Dec.{eqb}
use Rattle.refusals.specs.{accepted, record_not_sound}
use Rattle.refusals.proofs.Orders.{passes}
use Rattle.octets.specs.Layouts.{holds}
use Rattle.octets.proofs.Exact.{Octets}
use Rattle.octets.proofs.Bytes.{octets_zeros}
use Rattle.hash.proofs.Promised.{sha256-length, sha256_octets}
use Rattle.rows.specs.Sizes.{tail_bytes, table_bytes}
use Rattle.rows.specs.Digests.{append_mark, appended}
use Rattle.rows.proofs.Tables.{fit_length}
use Rattle.roll.specs.Roll.{roll_layout}
use Rattle.roll.proofs.Cuts.{cut_octets, cut_long}
use Rattle.rules.specs.declared.Head.{Head}
use Rattle.rules.specs.Record.{finalised}
use Rattle.rules.specs.Outcomes.{Lent, Outcome, given, again, unless}
use Rattle.rules.specs.Rows.{present_tail}
use Rattle.rules.specs.Derivation.{grown}
use Rattle.rules.specs.Wake.{waking}
use Rattle.rules.specs.Initialise.{absent, initialise_refusal, entered, initialising}
use Rattle.rules.specs.New.{new_refusal, making}
use Rattle.rules.specs.Append.{append_refusal, next_tail, next_height, moved_on, appending}
use Rattle.rules.specs.AppendMany.{entries, append_many_refusal, last_tail, last_height, moved_by_all, appending_many}
use Rattle.rules.specs.Read.{reading, appending_and_reading}
use Rattle.rules.specs.Finalise.{leaving, finalising}
use Rattle.rules.specs.Activate.{activating}
use Rattle.rules.specs.Check.{checking}
use Rattle.rules.proofs.Firsts.{sound_rows}
use Rattle.rules.proofs.Refused.{Ends, stopped, went, ends, refused_leaves}
use Rattle.rules.proofs.Initialised.{initialisable}
use Rattle.rules.proofs.Noted.{row_of, makeable, appendable, recordable}
use Rattle.rules.proofs.TablesChanged.{widened-length, widened_octets, moved_length, moved_octets}

-- a table as 63 rows have it
pub record Whole (t : List ℕ) : Type 0 where
  pub long : length t ≡ table_bytes
  pub bytes : Octets t

-- what becomes of a table: it stays, or it was as long as 63 rows and so is what is left of it, which is bytes where it was
pub data Leaves (t u : List ℕ) : Type 0 where
  stays : u ≡ t → Leaves t u
  changes : length t ≡ table_bytes → length u ≡ table_bytes → (Octets t → Octets u) → Leaves t u

-- where a rule is lent a table of 63 rows' bytes, it leaves one
pub leaves_whole : {t u : List ℕ} → Leaves t u → Whole t → Whole u
leaves_whole (stays e) w = subst Whole (sym e) w
leaves_whole (changes l m o) w = record { long = m; bytes = o w.bytes }

present : (a b : Bool) → a ≡ false → (not a && not b) ≡ false → b ≡ true
present true b e f = let z : ◌≡◌ {A = Bool} true false = e in cc
present false b e f = not-false b f

-- a tail after entries is a digest
pub record Digest (t : List ℕ) : Type 0 where
  pub long : length t ≡ tail_bytes
  pub bytes : Octets t

pub grown_digest : (tail list : List ℕ) (n : ℕ) → 1 ≤ n → Digest (grown tail list n)
unfolding grown appended
grown_digest tail list zero h = absurd (omega arith)
grown_digest tail list (suc n) h = record { long = sha256-length _; bytes = sha256_octets _ }

module _ (k : Lent) where
  -- what a rule does with the table that it is lent
  abbrev pub Left : Outcome → Type 0
  Left o = Leaves k.table o.left.table

  unless-left : (n height : ℕ) (effect : Outcome) → (n ≡ accepted → Left effect) → Left (unless n height k effect)
  unless-left n height effect f = go (ends n height k effect)
    where
      go : Ends n height k effect (unless n height k effect) → Left (unless n height k effect)
      go (stopped some e) = stays (ap (λ (o : Outcome). o.left.table) e ∙ ap (λ (l : Lent). l.table) (refused_leaves n height k))
      go (went none e) = subst Left (sym e) (f none)

  given_left : (bytes : List ℕ) (head : Head) (table area : List ℕ) → Leaves k.table table → Left (given bytes head table area)
  unfolding given
  given_left bytes head table area l = l

  -- an effect that leaves the table
  idle_left : (n height : ℕ) (bytes : List ℕ) (head : Head) (area : List ℕ) → Left (unless n height k (given bytes head k.table area))
  idle_left n height bytes head area = unless-left n height _ (λ none. given_left bytes head k.table area (stays refl))

  again_left : (bytes : List ℕ) → Left (again bytes k)
  unfolding again
  again_left bytes = stays refl

  either_left : (b : Bool) (o q : Outcome) → (b ≡ true → Left o) → (b ≡ false → Left q) → Left (cond b o q)
  either_left true o q s t = s refl
  either_left false o q s t = t refl

  -- an accepted append's table
  moved_left : (size : ℕ) (label entry : List ℕ) (expected : ℕ) → append_refusal size k label expected ≡ accepted → Leaves k.table (moved_on k label entry)
  unfolding moved_on appended
  moved_left size label entry expected none =
      let i : ℕ = row_of k label in
      let tail : List ℕ = next_tail k label entry in
      let has = (appendable size k label expected none).has in
      let digested : List ℕ = append_mark ∷ present_tail k label ++ entry in
      changes has.long (moved_length k.table i tail (next_height k label) (sha256-length digested) has.within ∙ has.long)
      (λ o. moved_octets k.table i tail (next_height k label) o (sha256_octets digested))

  moved_by_all_left :
      (size : ℕ) (label list : List ℕ) (expected : ℕ) → append_many_refusal size k label list expected ≡ accepted → Leaves k.table (moved_by_all k label list)
  unfolding moved_by_all
  moved_by_all_left size label list expected none =
      let i : ℕ = row_of k label in
      let r = recordable size k label list expected none in
      let d = grown_digest (present_tail k label) list (entries list) r.some in
      changes r.has.long (moved_length k.table i (last_tail k label list) (last_height k label list) d.long r.has.within ∙ r.has.long)
      (λ o. moved_octets k.table i (last_tail k label list) (last_height k label list) o d.bytes)

  pub waking_left : (key : List ℕ) → Left (waking k key)
  unfolding waking
  waking_left key =
      unless-left _ 0 _
      (λ none.
      let p = passes (not (eqb (length k.table) table_bytes)) record_not_sound [] (eqb-false 2 0 refl) none in
      let l : length k.table ≡ table_bytes = eqb-true (length k.table) table_bytes (not-false (eqb (length k.table) table_bytes) p.0) in
      given_left _ _ _ _ (changes l (length-replicate (length k.table) 0 ∙ l) (λ o. octets_zeros (length k.table))))

  pub initialising_left : (identity roll previous own : List ℕ) → Octets roll → Left (initialising k identity roll previous own)
  unfolding initialising entered
  initialising_left identity roll previous own o =
      unless-left (initialise_refusal k roll previous own) 0 _
      (λ none.
      let has = initialisable k roll previous own none in
      let l : length k.table ≡ table_bytes = fit_length k.head.count k.table (sound_rows k.head k.table has.sounds) in
      either_left (absent roll) _ _ (λ e. given_left _ _ _ _ (stays refl))
      (λ e. given_left _ _ _ _ (changes l (cut_long roll (present (absent roll) (holds roll_layout roll) e has.rolls)) (λ u. cut_octets roll o))))

  pub making_left : (label : List ℕ) → Octets label → Left (making k label)
  unfolding making
  making_left label p =
      unless-left (new_refusal k label) 0 _
      (λ none.
      let l : length k.table ≡ table_bytes = fit_length k.head.count k.table (makeable k label none).fit in
      given_left _ _ _ _ (changes l (widened-length k.table _ label ∙ l) (λ o. widened_octets k.table _ label o p)))

  pub appending_left : (label entry : List ℕ) (expected : ℕ) → Left (appending k label entry expected)
  unfolding appending
  appending_left label entry expected = unless-left _ _ _ (λ none. given_left _ _ _ _ (moved_left _ label entry expected none))

  pub appending_many_left : (label list : List ℕ) (expected : ℕ) → Left (appending_many k label list expected)
  unfolding appending_many
  appending_many_left label list expected = unless-left _ _ _ (λ none. given_left _ _ _ _ (moved_by_all_left _ label list expected none))

  pub reading_left : (label nonce : List ℕ) → Left (reading k label nonce)
  unfolding reading
  reading_left label nonce = idle_left _ 0 _ _ _

  pub appending_and_reading_left : (label entry : List ℕ) (expected : ℕ) (nonce : List ℕ) → Left (appending_and_reading k label entry expected nonce)
  unfolding appending_and_reading
  appending_and_reading_left label entry expected nonce = unless-left _ _ _ (λ none. given_left _ _ _ _ (moved_left _ label entry expected none))

  pub finalising_left : (next : List ℕ) → Left (finalising k next)
  unfolding finalising leaving
  finalising_left next =
      unless-left _ 0 _
      (λ none. either_left (eqb k.head.status finalised) _ _ (λ e. again_left _) (λ e. idle_left _ 0 _ _ _))

  pub activating_left : (previous own s : List ℕ) → Left (activating k previous own s)
  unfolding activating
  activating_left previous own s = idle_left _ 0 _ _ _

  pub checking_left : (previous own s : List ℕ) (list i : ℕ) → Left (checking k previous own s list i)
  unfolding checking
  checking_left previous own s list i = idle_left _ 0 _ _ _
