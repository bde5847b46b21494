-- M-108: a run shows a company what the run of its own calls alone would show it, so two runs with the same calls of a company show it the same. Assumes
-- nothing.
use mathlib.Core.Path.{◌≡◌, refl, sym, ap, ap₂, subst, ◌∙◌}
use mathlib.Core.Bool.{Bool, true, false}
use mathlib.Core.List.{List, [], ◌∷◌}
use Prim.Native.Nat.{ℕ}
use borrow.Author.Tests.{eqb-true}
use lib.ListN.{length}
use lib.Dec.{eqb}
use Rattle.octets.proofs.RoundTrips.{and_left, and_right}
use Rattle.rows.specs.Sizes.{label_bytes}
use Rattle.rules.specs.declared.Answer.{Answer}
use Rattle.rules.specs.Companies.{belongs}
use Rattle.safety.specs.Calls.{Keeper, outcome_of, left_by}
use Rattle.companies.specs.Calls.{Act, New, Append, AppendMany, Read, AppendAndRead, Asking, as_call, Reply, told, left}
use Rattle.companies.specs.Runs.{replies, after, those, calls_of, replies_to, rows_in, labelled}
use Rattle.companies.specs.Isolation.{Isolated}
use Rattle.companies.proofs.Those.{those_with, those_without}
use Rattle.companies.proofs.Alike.{Standing, Alike, alike_itself}
use Rattle.companies.proofs.Told.{ToldAlike}
use Rattle.companies.proofs.OwnAppends.{appending-alike, appending_many-alike, reading-alike, appending_and_reading-alike}
use Rattle.companies.proofs.OwnNew.{making-alike}
use Rattle.companies.proofs.OtherCalls.{stays_alike}

-- each of a company's calls
told_alike :
    (first : Bool) (k l : Keeper) → Alike first k l → (label area : List ℕ) → belongs label first ≡ true → length label ≡ label_bytes → (act : Act)
    → ToldAlike first (outcome_of [] k (as_call act label area)) (outcome_of [] l (as_call act label area))
unfolding as_call outcome_of
told_alike first k l alike label area ours sized New = making-alike first k l alike area label ours sized
told_alike first k l alike label area ours sized (Append entry expected) = appending-alike first k l alike area label ours entry expected
told_alike first k l alike label area ours sized (AppendMany list expected) = appending_many-alike first k l alike area label ours list expected
told_alike first k l alike label area ours sized (Read nonce) = reading-alike first k l alike area label ours nonce
told_alike first k l alike label area ours sized (AppendAndRead entry expected nonce) =
    appending_and_reading-alike first k l alike area label ours entry expected nonce

-- what a company sees of a run, in another run
record Shows (first : Bool) (k l : Keeper) (run other-run : List Asking) : Type 0 where
  stands : Standing (after told left k run)
  answers : replies_to first (replies told left k run) ≡ replies_to first (replies told left l other-run)
  rows : rows_in first (after told left k run) ≡ rows_in first (after told left l other-run)

module _ (first : Bool) where
  -- its own call, in both runs
  shows_own :
      (k l : Keeper) (a : Asking) (run other-run : List Asking) → belongs a.label first ≡ true → told k a ≡ told l a
      → Shows first (left k a) (left l a) run other-run → Shows first k l (a ∷ run) (a ∷ other-run)
  unfolding replies after replies_to told
  shows_own k l a run other-run own e s =
      record {
        stands = s.stands;
        answers =
            those_with (λ r. belongs r.label first) (told k a) (replies told left (left k a) run) own
            ∙ ap₂ (λ (r : Reply) (rs : List Reply). r ∷ rs) e s.answers
            ∙ sym (those_with (λ r. belongs r.label first) (told l a) (replies told left (left l a) other-run) own);
        rows = s.rows;
      }

  -- the other's, in one
  shows_other :
      (k l : Keeper) (a : Asking) (run other-run : List Asking) → belongs a.label first ≡ false
      → Shows first (left k a) l run other-run → Shows first k l (a ∷ run) other-run
  unfolding replies after replies_to told
  shows_other k l a run other-run other s =
      record {
        stands = s.stands;
        answers = those_without (λ r. belongs r.label first) (told k a) (replies told left (left k a) run) other ∙ s.answers;
        rows = s.rows;
      }

  module _ (k l : Keeper) (a : Asking) (alike : Alike first k l) (sized : length a.label ≡ label_bytes) where
    own-told : belongs a.label first ≡ true → (told k a ≡ told l a) × Alike first (left k a) (left l a)
    unfolding told left left_by
    own-told own =
        let t = told_alike first k l alike a.label a.area own sized a.act in (
          ap₂ (λ (x : Answer) (s : List ℕ). record { label = a.label; answer = x; area = s }) t.answers t.areas,
          t.alike,
        )

    other-left : belongs a.label first ≡ false → Alike first (left k a) l
    unfolding left left_by
    other-left other = stays_alike first k l alike a.label a.area other sized a.act

  -- a run, and that of the company's calls alone
  alone : (run : List Asking) (k l : Keeper) → Alike first k l → labelled run ≡ true → Shows first k l run (calls_of first run)
  unfolding replies after those calls_of replies_to labelled
  alone [] k l alike sizes = record { stands = alike.here; answers = refl; rows = alike.rows }
  alone (a ∷ run) k l alike sizes =
      go (belongs a.label first) refl (λ m n s. alone run m n s (and_right (eqb (length a.label) label_bytes) (labelled run) sizes))
    where
      sized : length a.label ≡ label_bytes
      sized = eqb-true (length a.label) label_bytes (and_left (eqb (length a.label) label_bytes) (labelled run) sizes)

      go : (b : Bool) → belongs a.label first ≡ b → ((m n : Keeper) → Alike first m n → Shows first m n run (calls_of first run))
          → Shows first k l (a ∷ run) (calls_of first (a ∷ run))
      go true own later =
          let t = own-told k l a alike sized own in
          subst (λ (r : List Asking). Shows first k l (a ∷ run) r) (sym (those_with (λ x. belongs x.label first) a run own))
          (shows_own k l a run (calls_of first run) own t.0 (later (left k a) (left l a) t.1))
      go false other later =
          subst (λ (r : List Asking). Shows first k l (a ∷ run) r) (sym (those_without (λ x. belongs x.label first) a run other))
          (shows_other k l a run (calls_of first run) other (later (left k a) l (other-left k l a alike sized other)))

-- after any such run the keeper is active, and its record sound
pub stands_after : (k : Keeper) (run : List Asking) → Standing k → labelled run ≡ true → Standing (after told left k run)
stands_after k run standing sizes = (alone true run k k (alike_itself true k standing) sizes).stands

pub isolated : Isolated
isolated first k run other-run sounds acts sizes other-sizes same =
    let itself = alike_itself first k (record { acts = acts; sounds = sounds }) in
    let a = alone first run k k itself sizes in
    let b = alone first other-run k k itself other-sizes in (
      a.answers ∙ ap (λ (l : List Asking). replies_to first (replies told left k l)) same ∙ sym b.answers,
      a.rows ∙ ap (λ (l : List Asking). rows_in first (after told left k l)) same ∙ sym b.rows,
    )
