-- What the functions behind Activate and Bytes to check are asked for, and what they may count on.
use Rattle.std.specs.Prelude.{◌≡◌, Bool, true, false, not, cond, ◌&&◌, ◌||◌, List, [], ◌∷◌, ◌++◌, ℕ, ◌*◌, ◌<◌, ◌≤◌, length, get_or, eqb, ltb}
use Rattle.std.specs.Prelude.{Option}
use Rattle.std.specs.Bool.{then_some}
use Rattle.refusals.specs.{rack_broken, digest_differs, list_broken}
use Rattle.refusals.specs.Order.{Test, ◌⇒◌, first}
use Rattle.octets.specs.Layouts.{holds}
use Rattle.rack.specs.Racks.{rack_layout}
use Rattle.rows.specs.Sizes.{most_rows}
use Rattle.rows.specs.Table.{each, rows_fit}
use Rattle.rows.specs.Digests.{roll_digest}
use Rattle.roll.specs.Roll.{Roll}
use Rattle.statement.specs.declared.Kind.TheVariants.{Finalise, Initialise}
use Rattle.statement.specs.declared.Statement.{Statement}
use Rattle.statement.specs.Kinds.{handover_size}
use Rattle.statement.specs.Cut.{handover_of}
use Rattle.rules.specs.declared.Head.{Head}
use Rattle.rules.specs.Outcomes.{Lent}
use Rattle.rules.specs.Rows.{is_absent}
use Rattle.rules.specs.Bundle.{longest_bundle, old_count, list_at, list_of, added, digests, bundle_fits}
use Rattle.rules.specs.Derivation.{row_in, row_derived, roll_of, roll_derived}
use Rattle.rules.specs.Activate.{rack_size, racks_differ, bundle_tests, handover_tests}
use Rattle.rules.specs.Check.{old_list, entries_of}
pub use Rattle.entries.specs.Asked.{roll_held}

-- "6 (previous, then own), 21"
unfoldable pub rack_tests : Head → List ℕ → List ℕ → List Test
rack_tests h previous own =
    (not (holds rack_layout previous) ⇒ rack_broken)
    ∷ (not (holds rack_layout own) ⇒ rack_broken)
    ∷ (racks_differ h previous own ⇒ digest_differs)
    ∷ []

-- "then 22 if that list has no such entry"
abbrev pub entry_test : List ℕ → ℕ → ℕ → List Test
entry_test s list i = (not (ltb i (entries_of s list)) ⇒ list_broken) ∷ []

-- the refusals of both calls
abbrev pub activate_refusal : Lent → List ℕ → List ℕ → List ℕ → ℕ
activate_refusal k previous own s = first (bundle_tests 0 k previous own s ++ handover_tests k previous own s)

abbrev pub check_refusal : Lent → List ℕ → List ℕ → List ℕ → ℕ → ℕ → ℕ
check_refusal k previous own s list i = first (bundle_tests handover_size k previous own s ++ entry_test s list i)

-- the parts of a string lie within it, for a roll of so many rows
pub record Laid (rows : ℕ) (s : List ℕ) : Type 0 where
  pub few : rows ≤ most_rows
  pub ends : list_at s (rows * old_count s) ≤ length s
  pub short : length s ≤ longest_bundle

-- what both calls have seen where nothing that both ask refuses
pub record Shown (head : Head) (table previous own s : List ℕ) : Type 0 where
  pub rows : rows_fit head.count table ≡ true
  pub before : holds rack_layout previous ≡ true
  pub mine : holds rack_layout own ≡ true
  pub fits : bundle_fits (rack_size previous) (rack_size own) head.count s ≡ true
  pub rolls : each (roll_held s) (old_count s) ≡ true

-- row r of ours is derived from an old roll by what old entry i lists
abbrev pub led : Roll → Roll → List ℕ → ℕ → ℕ → Bool
led ours old s i r = row_derived ours old r (digests s (list_of ours.count i r)) (added s (list_of ours.count i r))

-- where the lists of old entry i end, where ours is derived from its roll
unfoldable pub led_to : Roll → List ℕ → ℕ → Option ℕ
led_to ours s i = then_some (roll_derived ours s i) (list_at s (list_of ours.count i ours.count))

-- an old roll has row r of ours, and old entry i lists no digests for it
abbrev pub keeps : Roll → Roll → List ℕ → ℕ → ℕ → Bool
keeps ours old s i r = not (is_absent (row_in old ours r)) && eqb (added s (list_of ours.count i r)) 0

-- the flag of row r
abbrev pub flag : List Bool → ℕ → Bool
flag flags r = get_or flags r false

-- where each flag of ours said which rows were kept so far, it says so with old entry i as well
abbrev pub Noted : Roll → Roll → List ℕ → ℕ → List Bool → List Bool → Type 0
Noted ours old s i before after = (r : ℕ) → r < ours.count → flag after r ≡ (flag before r || keeps ours old s i r)

-- the digest of the roll of old entry i
abbrev pub old_digest : List ℕ → ℕ → List ℕ
old_digest s i = roll_digest (roll_of s i).count (roll_of s i).rows

-- the statement that the marks of entry i of a list speak of
abbrev pub spoken : Head → List ℕ → List ℕ → ℕ → ℕ → Statement
spoken h table s list i =
    cond (eqb list old_list)
    (handover_of Finalise h.identity h.previous h.own (old_digest s i))
    (handover_of Initialise h.identity h.own h.previous (roll_digest h.count table))
