-- M-108 of the exported calls: what they tell and leave is what the rules do with the bytes of the rows, so that their runs are isolated as those of the rules
-- are. Assumes nothing beyond the premises that it names.
use mathlib.Core.Path.{◌≡◌, refl, sym, ap, ap₂, subst, ◌∙◌}
use mathlib.Core.Bool.{Bool, true}
use mathlib.Core.List.{List, [], ◌∷◌, map}
use Prim.Native.Nat.{ℕ}
use Rattle.octets.proofs.RoundTrips.{and_left, and_right}
use Rattle.rules.specs.declared.Answer.{Answer}
use Rattle.table.specs.Flat.{row_cut}
use Rattle.table.proofs.RowTrips.{AllTyped}
use Rattle.safety.specs.Calls.{Keeper}
use Rattle.companies.specs.Calls.{Asking, Reply, call_of}
use Rattle.companies.specs.Calls as rules
use Rattle.companies.specs.Runs.{replies, after, replies_to, rows_in, labelled}
use Rattle.companies.proofs.Alike.{Standing}
use Rattle.companies.proofs.Theorem as proved
use Rattle.exported.specs.Types.{hands_bytes}
use Rattle.exported.specs.Calls.{Box, flat}
use Rattle.exported.specs.Isolation.{told, left, rows_of, handed, Isolated}
use Rattle.exported.proofs.RowsGiven.{rows_typed}
use Rattle.exported.proofs.CallsFlat.{same_answer, same_area, left-flat}
use Rattle.exported.proofs.RowsShown.{rows_shown}

-- one call
told-flat : (b : Box) (a : Asking) → told b a ≡ rules.told (flat b) a
unfolding told rules.told
told-flat b a =
    ap₂ (λ (x : Answer) (s : List ℕ). record { label = a.label; answer = x; area = s }) (same_answer [] b (call_of a)) (same_area [] b (call_of a))

left_same :
    (b : Box) (a : Asking) → AllTyped b.rows → hands_bytes (call_of a) ≡ true → (flat (left b a) ≡ rules.left (flat b) a) × AllTyped (left b a).rows
unfolding left rules.left
left_same b a = left-flat [] b (call_of a)

-- a run
record RunsFlat (b : Box) (run : List Asking) : Type 0 where
  tells : replies told left b run ≡ replies rules.told rules.left (flat b) run
  leaves : flat (after told left b run) ≡ after rules.told rules.left (flat b) run
  typed : AllTyped (after told left b run).rows

runs_flat : (run : List Asking) (b : Box) → AllTyped b.rows → handed run ≡ true → RunsFlat b run
unfolding replies after handed
runs_flat [] b ts e = record { tells = refl; leaves = refl; typed = ts }
runs_flat (a ∷ run) b ts e =
    let l = left_same b a ts (and_left (hands_bytes (call_of a)) (handed run) e) in
    let r = runs_flat run (left b a) l.1 (and_right (hands_bytes (call_of a)) (handed run) e) in
    record {
      tells =
          ap₂ (λ (x : Reply) (rs : List Reply). x ∷ rs) (told-flat b a)
          (r.tells ∙ ap (λ (k : Keeper). replies rules.told rules.left k run) l.0);
      leaves = r.leaves ∙ ap (λ (k : Keeper). after rules.told rules.left k run) l.0;
      typed = r.typed;
    }

-- the company's rows at the end of a run
rows_then :
    (first : Bool) (b : Box) (run : List Asking) → AllTyped b.rows → handed run ≡ true → labelled run ≡ true → Standing (flat b)
    → rows_of first (after told left b run) ≡ map row_cut (rows_in first (after rules.told rules.left (flat b) run))
rows_then first b run ts bytes sizes standing =
    let r = runs_flat run b ts bytes in
    let s : Standing (flat (after told left b run)) = subst Standing (sym r.leaves) (proved.stands_after (flat b) run standing sizes) in
    sym (rows_shown first (after told left b run) r.typed s.sounds) ∙ ap (λ (k : Keeper). map row_cut (rows_in first k)) r.leaves

pub isolated : Isolated
isolated first b run other-run rows bytes other-bytes sizes other-sizes sounds acts same =
    let ts = rows_typed b.rows rows in
    let standing : Standing (flat b) = record { acts = acts; sounds = sounds } in
    let i = proved.isolated first (flat b) run other-run sounds acts sizes other-sizes same in (
      ap (replies_to first) (runs_flat run b ts bytes).tells ∙ i.0 ∙ sym (ap (replies_to first) (runs_flat other-run b ts other-bytes).tells),
      rows_then first b run ts bytes sizes standing ∙ ap (map row_cut) i.1 ∙ sym (rows_then first b other-run ts other-bytes other-sizes standing),
    )
