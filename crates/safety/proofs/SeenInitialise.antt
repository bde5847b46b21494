-- Initialise founds a rack or prepares a keeper. Assumes nothing.
use mathlib.Core.Path.{◌≡◌, refl, ap, ◌∙◌}
use mathlib.Core.Bool.{Bool, true, false, cond}
use mathlib.Core.List.{List, [], ◌∷◌, map}
use lib.ListN.{length}
use Prim.Native.Nat.{ℕ}
use Rattle.refusals.specs.Order.{first}
use Rattle.rows.specs.Digests.{roll_digest}
use Rattle.roll.specs.Roll.{roll_layout}
use Rattle.statement.specs.declared.Statement.{Statement}
use Rattle.statement.specs.Kinds.{digest_bytes, handover_size}
use Rattle.statement.specs.Cut.{cut_statement}
use Rattle.rules.specs.declared.Head.{Head}
use Rattle.rules.specs.Record.{blank}
use Rattle.rules.specs.Initialise.{absent, initialise_refusal, initialise_statement, founded, preparing, entered, initialising}
use Rattle.rules.proofs.Initialised.{initialisable}
use Rattle.safety.specs.Calls.{Keeper, Call, Initialise, lent, outcome_of, left_by, statements_in}
use Rattle.safety.proofs.Views.{View, founds, prepares, enter_of}
use Rattle.safety.proofs.Tales.{says}
use Rattle.safety.proofs.Ended.{unless_refused, Gives, gives, seen_by, alone_in}
use Rattle.safety.proofs.Sizes.{Whole, rack_digest_long, roll_digest_long, Back, enter_back}

-- the heads that it makes
module _ (h : Head) (own : List ℕ) where
  pub founded_whole : Whole (founded h own)
  founded_whole = record { identity = rack_digest_long own; own = rack_digest_long own; previous = refl }

  pub preparing_whole : (identity : List ℕ) (count : ℕ) (previous : List ℕ) → length identity ≡ digest_bytes → Whole (preparing h identity count previous own)
  preparing_whole identity count previous sized = record { identity = sized; own = rack_digest_long own; previous = rack_digest_long previous }

module _ (Hashes : List ℕ → Type 0) (Said : List ℕ → Statement → Type 0) (key : List ℕ) (k : Keeper) (identity roll previous own area : List ℕ) where
  abbrev this : Call
  this = Initialise identity roll previous own area

  abbrev Looks : Type 0
  Looks = View Hashes Said k (left_by key k this) (says key k this)

  entering : (h : Head) (table : List ℕ) → outcome_of key k this ≡ entered (lent k area) h table → Gives key k this (initialise_statement h table) h table area
  unfolding entered
  entering h table o = gives key k this (initialise_statement h table) h table area o

  said_so :
      (h : Head) (table : List ℕ) → Whole h → Gives key k this (initialise_statement h table) h table area
      → says key k this ≡ enter_of h.identity h.previous h.own (roll_digest h.count table) ∷ []
  unfolding statements_in initialise_statement
  said_so h table whole g =
      let b : Back (enter_of h.identity h.previous h.own (roll_digest h.count table)) =
      enter_back h.identity h.previous h.own (roll_digest h.count table) whole.identity whole.previous whole.own (roll_digest_long h.count table) in
      ap (map cut_statement) g.signs
      ∙ ap (λ (s : List ℕ). cut_statement s ∷ []) (alone_in area (initialise_statement h table) handover_size b.long)
      ∙ ap (λ (v : Statement). v ∷ []) b.cut

  founding : k.head.status ≡ blank → outcome_of key k this ≡ entered (lent k area) (founded k.head own) k.table → Looks
  founding was o =
      let g = entering (founded k.head own) k.table o in
      seen_by g.leaves (said_so (founded k.head own) k.table (founded_whole k.head own) g)
      (founds (record { was = was; is = refl; founds = refl; first = refl; says = refl }))

  module _ (sized : length identity ≡ digest_bytes) where
    abbrev new_head : Head
    new_head = preparing k.head identity (roll_layout.cut roll).count previous own

    abbrev new_table : List ℕ
    new_table = (roll_layout.cut roll).rows

    prepared_so : k.head.status ≡ blank → outcome_of key k this ≡ entered (lent k area) new_head new_table → Looks
    prepared_so was o =
        let g = entering new_head new_table o in
        seen_by g.leaves (said_so new_head new_table (preparing_whole k.head own identity (roll_layout.cut roll).count previous sized) g)
        (prepares (record { was = was; is = refl; says = refl }))

    pub seen_initialise : Looks
    unfolding outcome_of initialising
    seen_initialise =
        unless_refused key k this Hashes Said (initialise_refusal (lent k area) roll previous own) 0 area _ refl
        (λ e o. let i = initialisable (lent k area) roll previous own e in go (absent roll) i.was o)
      where
        go :
            (b : Bool) → k.head.status ≡ blank
            → outcome_of key k this ≡ cond b (entered (lent k area) (founded k.head own) k.table) (entered (lent k area) new_head new_table) → Looks
        go true was o = founding was o
        go false was o = prepared_so was o
