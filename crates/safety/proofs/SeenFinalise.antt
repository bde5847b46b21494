-- Finalise is a closing, or a repeat that says nothing. Assumes nothing.
use mathlib.Core.Path.{◌≡◌, refl, ap, ◌∙◌}
use mathlib.Core.Bool.{Bool, true, false, cond}
use mathlib.Core.List.{List, [], ◌∷◌, map}
use Prim.Native.Nat.{ℕ}
use lib.Dec.{eqb}
use Rattle.refusals.specs.{accepted}
use Rattle.refusals.specs.Order.{first}
use Rattle.rack.specs.Racks.{rack_digest}
use Rattle.rows.specs.Digests.{roll_digest}
use Rattle.statement.specs.declared.Statement.{Statement}
use Rattle.statement.specs.Kinds.{handover_size}
use Rattle.statement.specs.Contents.{statement_written}
use Rattle.statement.specs.Cut.{cut_statement}
use Rattle.rules.specs.declared.Head.{Head}
use Rattle.rules.specs.Record.{finalised}
use Rattle.rules.specs.Outcomes.{given, again, lending}
use Rattle.rules.specs.Finalise.{finalise_size, finalise_statement, last_words, handed_over, finalise_refusal, leaving, finalising}
use Rattle.rules.proofs.Finalised.{was_active}
use Rattle.safety.specs.Calls.{Keeper, Call, Finalise, lent, outcome_of, left_by, accepts, statements_in}
use Rattle.safety.specs.Histories.{◌∈◌, at_front}
use Rattle.safety.specs.Hashed.{hashed_by}
use Rattle.safety.proofs.Views.{roll_in, string_of, View, closes, idles, leave_of}
use Rattle.safety.proofs.Tales.{says}
use Rattle.safety.proofs.Ended.{unless_refused, again_idles, Gives, gives, seen_by, first_in}
use Rattle.safety.proofs.Sizes.{Whole, rack_digest_long, roll_digest_long, Back, leave_back}

module _ (Hashes : List ℕ → Type 0) (Said : List ℕ → Statement → Type 0) (key : List ℕ) (k : Keeper) (next area : List ℕ) where
  abbrev this : Call
  this = Finalise next area

  abbrev new_head : Head
  new_head = handed_over k.head next

  abbrev word : Statement
  word = leave_of k.head.identity k.head.own (rack_digest next) (roll_digest k.head.count k.table)

  abbrev Looks : Type 0
  Looks = View Hashes Said k (left_by key k this) (says key k this)

  module _ (whole : Whole k.head) (hashes : accepts key k this ≡ true → (s : List ℕ) → s ∈ hashed_by k this → Hashes s) where
    word_back : Back word
    word_back =
        leave_back k.head.identity (rack_digest next) k.head.own (roll_digest k.head.count k.table)
        whole.identity (rack_digest_long next) whole.own (roll_digest_long k.head.count k.table)

    said_so : (g : Gives key k this (last_words new_head k.table) new_head k.table area) → says key k this ≡ word ∷ []
    unfolding statements_in finalise_statement last_words
    said_so g =
        ap (map cut_statement) g.signs
        ∙ ap (λ (s : List ℕ). cut_statement s ∷ []) (first_in area (statement_written word) handover_size word_back.long _)
        ∙ ap (λ (v : Statement). v ∷ []) word_back.cut

    roll_in_hash : (g : Gives key k this (last_words new_head k.table) new_head k.table area) → Hashes (string_of (roll_in k))
    unfolding hashed_by
    roll_in_hash g = hashes g.accepts_it (string_of (roll_in k)) at_front

    closing : finalise_refusal (lent k area) next ≡ accepted → outcome_of key k this ≡ given (last_words new_head k.table) new_head k.table area → Looks
    closing e o =
        let g = gives key k this (last_words new_head k.table) new_head k.table area o in
        seen_by g.leaves (said_so g)
        (closes (record {
          was = was_active (lent k area) next e;
          is = refl;
          stays = record { identity = refl; own = refl; previous = refl };
          roll_stays = refl;
          roll_hashed = roll_in_hash g;
          says = refl;
        }))

    pub seen_finalise : Looks
    unfolding outcome_of finalising leaving
    seen_finalise = unless_refused key k this Hashes Said (first (lending finalise_size (lent k area))) 0 area _ refl (λ e o. go (eqb k.head.status finalised) o)
      where
        go : (b : Bool) → outcome_of key k this ≡ cond b (again (last_words k.head k.table) (lent k area)) (leaving (lent k area) next) → Looks
        go true o = idles (again_idles key k this (last_words k.head k.table) area o)
        go false o = unless_refused key k this Hashes Said (finalise_refusal (lent k area) next) 0 area _ o closing
