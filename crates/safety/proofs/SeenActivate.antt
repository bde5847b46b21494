-- Activate takes over: from a majority of the previous rack, whose rolls are reached, and with a majority of its own. Assumes nothing.
use mathlib.Core.Path.{◌≡◌, refl, ap, subst}
use mathlib.Core.Bool.{true, ◌&&◌}
use mathlib.Core.List.{List, [], ◌∷◌, map}
use Prim.Native.Nat.{ℕ, ◌<◌}
use native.Mathlib.Omega.{arith}
use Rattle.refusals.specs.{signature_not_valid, initialise_not_valid}
use Rattle.octets.specs.Layouts.{holds}
use Rattle.octets.proofs.RoundTrips.{and_left, and_right, holds_fits}
use Rattle.marks.specs.{attested, valid}
use Rattle.marks.specs.Entries.{pair_position, pair_marks}
use Rattle.marks.proofs.Listed.{in_rack, next_higher}
use Rattle.marks.proofs.Refused.{none_refused, unrefused}
use Rattle.rack.specs.Racks.{rack_string}
use Rattle.rows.specs.Table.{each, rows_fit}
use Rattle.roll.specs.Roll.{roll_layout}
use Rattle.statement.specs.declared.Statement.{Statement}
use Rattle.statement.specs.Cut.{cut_statement}
use Rattle.rules.specs.Outcomes.{Lent, given}
use Rattle.rules.specs.Bundle.{old_count, old_position, old_marks, old_roll, new_count, new_entries, added, digests, list_of}
use Rattle.rules.specs.Initialise.{initialise_statement}
use Rattle.rules.specs.Finalise.{finalise_statement}
use Rattle.rules.specs.Derivation.{roll_of, no_more, row_derived, roll_derived, had_elsewhere, kept_by_some, derived}
use Rattle.rules.specs.Activate.{rack_size, own_roll, acting, activating}
use Rattle.rules.specs.Check.{old_statement}
use Rattle.rules.proofs.Activated.{Bundled, Handing, both_tests}
use Rattle.safety.specs.Calls.{Keeper, Call, Activate, lent, outcome_of, left_by, accepts, statements_in}
use Rattle.safety.specs.Histories.{◌∈◌, at_front, behind, listed}
use Rattle.safety.specs.Chip.{Claim, key_at, old_claim, new_claim, claims_by}
use Rattle.safety.specs.Hashed.{old_string, hashed_by}
use Rattle.safety.proofs.Members.{in_listed, in_left, in_right}
use Rattle.safety.proofs.Views.{roll_in, string_of, View, activates, Grows, Handed, enter_of, leave_of, roll_name}
use Rattle.safety.proofs.Tales.{says}
use Rattle.safety.proofs.Ended.{unless_refused, Gives, gives, seen_by}
use Rattle.safety.proofs.Sizes.{Whole, roll_digest_long, enter_back, leave_back}
use Rattle.rows.proofs.Tables.{each_of}
use Rattle.safety.proofs.Derives.{derived_grows}

-- each old roll grows into ours
roll_grows :
    (k : Lent) (s : List ℕ) (i : ℕ) → i < old_count s → rows_fit k.head.count k.table ≡ true → each (λ i. holds roll_layout (old_roll s i)) (old_count s) ≡ true
    → derived (own_roll k) s ≡ true → Grows (roll_of s i) (own_roll k)
unfolding derived roll_derived roll_layout
roll_grows k s i h fit rolls d =
    let ours = own_roll k in
    let all = each (roll_derived ours s) (old_count s) in
    let had = each (had_elsewhere ours s) (old_count s) in
    let e = each_of (roll_derived ours s) (old_count s) i h (and_left all had (and_left (all && had) (each (kept_by_some ours s) ours.count) d)) in
    let a = no_more ours (roll_of s i) in
    let b = each (λ r. row_derived ours (roll_of s i) r (digests s (list_of ours.count i r)) (added s (list_of ours.count i r))) ours.count in
    derived_grows ours (roll_of s i) fit (holds_fits roll_layout (old_roll s i) (each_of (λ i. holds roll_layout (old_roll s i)) (old_count s) i h rolls))
    (λ r. digests s (list_of ours.count i r)) (λ r. added s (list_of ours.count i r))
    (and_left a b e) (and_right a b e)

module _ (Hashes : List ℕ → Type 0) (Said : List ℕ → Statement → Type 0) (key : List ℕ) (k : Keeper) (previous own s : List ℕ) where
  abbrev this : Call
  this = Activate previous own s

  abbrev Looks : Type 0
  Looks = View Hashes Said k (left_by key k this) (says key k this)

  module _ (whole : Whole k.head) (hashes : accepts key k this ≡ true → (t : List ℕ) → t ∈ hashed_by k this → Hashes t)
      (vows : accepts key k this ≡ true → (c : Claim) → c ∈ claims_by k this → attested c.marks ≡ true → valid c.marks ≡ true
      → Said c.key (cut_statement c.statement)) where
    olds :
        accepts key k this ≡ true → (i : ℕ) → i < old_count s → attested (old_marks s i) ≡ true → valid (old_marks s i) ≡ true
        → Said (key_at previous (old_position s i)) (cut_statement (old_statement k.head s i))
    unfolding claims_by old_claim
    olds e i h =
        vows e (old_claim k previous s i)
        (in_left _ (in_listed (old_claim k previous s) (old_count s) i h))

    news :
        accepts key k this ≡ true → (i : ℕ) → i < new_count s → attested (pair_marks (new_entries s) i) ≡ true → valid (pair_marks (new_entries s) i) ≡ true
        → Said (key_at own (pair_position (new_entries s) i)) (cut_statement (initialise_statement k.head k.table))
    unfolding claims_by new_claim
    news e i h =
        vows e (new_claim k own s i)
        (in_right (listed (old_count s) (old_claim k previous s)) (in_listed (new_claim k own s) (new_count s) i h))

    old_cut : (i : ℕ) → cut_statement (old_statement k.head s i) ≡ leave_of k.head.identity k.head.previous k.head.own (roll_name (roll_of s i))
    unfolding finalise_statement old_statement
    old_cut i =
        (leave_back k.head.identity k.head.own k.head.previous (roll_name (roll_of s i))
        whole.identity whole.own whole.previous (roll_digest_long (roll_of s i).count (roll_of s i).rows)).cut

    new_cut : cut_statement (initialise_statement k.head k.table) ≡ enter_of k.head.identity k.head.previous k.head.own (roll_name (roll_in k))
    unfolding initialise_statement
    new_cut =
        (enter_back k.head.identity k.head.previous k.head.own (roll_name (roll_in k))
        whole.identity whole.previous whole.own (roll_digest_long k.head.count k.table)).cut

    module _ (g : Gives key k this [] (acting k.head) k.table []) (b : Bundled (lent k []) previous own s) (w : Handing (lent k []) previous own s) where
      hashed_here : (t : List ℕ) → t ∈ (rack_string previous ∷ rack_string own ∷ listed (old_count s) (old_string s)) → Hashes t
      unfolding hashed_by
      hashed_here t m = hashes g.accepts_it t m

      old_hashed : (i : ℕ) → i < old_count s → Hashes (string_of (roll_of s i))
      unfolding old_string
      old_hashed i h = hashed_here (old_string s i) (behind (behind (in_listed (old_string s) (old_count s) i h)))

      handed_by : (i : ℕ) → i < old_count s → Handed Hashes Said k (key_at previous (old_position s i))
      handed_by i h =
          let m = unrefused signature_not_valid (omega arith) (old_marks s i) (none_refused signature_not_valid (omega arith) (old_marks s) (old_count s) i h w.olds_marked) in
          record {
            roll = roll_of s i;
            hashed = old_hashed i h;
            said = subst (Said (key_at previous (old_position s i))) (old_cut i) (olds g.accepts_it i h m.0 m.1);
            grew = roll_grows (lent k []) s i h b.fit b.rolls w.derives;
          }

      entered_by :
          (i : ℕ) → i < new_count s
          → Said (key_at own (pair_position (new_entries s) i)) (enter_of k.head.identity k.head.previous k.head.own (roll_name (roll_in k)))
      entered_by i h =
          let m = unrefused initialise_not_valid (omega arith) (pair_marks (new_entries s) i)
          (none_refused initialise_not_valid (omega arith) (pair_marks (new_entries s)) (new_count s) i h w.news_marked) in
          subst (Said (key_at own (pair_position (new_entries s) i))) new_cut (news g.accepts_it i h m.0 m.1)

      said_nothing : says key k this ≡ []
      unfolding statements_in
      said_nothing = ap (map cut_statement) g.signs

      activating_so : Looks
      activating_so =
          seen_by g.leaves said_nothing
          (activates (record {
            was = b.was;
            is = refl;
            stays = record { identity = refl; own = refl; previous = refl };
            roll_stays = refl;
            says = refl;
            old = previous;
            old_is = b.old_is;
            old_hashed = hashed_here (rack_string previous) at_front;
            own = own;
            own_is = b.own_is;
            own_hashed = hashed_here (rack_string own) (behind at_front);
            handed = record {
              count = old_count s;
              position = old_position s;
              enough = w.olds_enough;
              below = in_rack (rack_size previous) (old_position s) (old_marks s) (old_count s) b.olds;
              rising = next_higher (rack_size previous) (old_position s) (old_marks s) (old_count s) b.olds;
              each_one = handed_by;
            };
            entered = record {
              count = new_count s;
              position = pair_position (new_entries s);
              enough = w.news_enough;
              below = in_rack (rack_size own) (pair_position (new_entries s)) (pair_marks (new_entries s)) (new_count s) b.news;
              rising = next_higher (rack_size own) (pair_position (new_entries s)) (pair_marks (new_entries s)) (new_count s) b.news;
              each_one = entered_by;
            };
          }))

    pub seen_activate : Looks
    unfolding outcome_of activating
    seen_activate =
        unless_refused key k this Hashes Said _ 0 [] (given [] (acting k.head) k.table []) refl
        (λ e o.
        let t = both_tests (lent k []) previous own s e in
        activating_so (gives key k this [] (acting k.head) k.table [] o) t.0 t.1)
