-- An accepted verdict is vouched for, and shows what its statement says. Assumes nothing.
use mathlib.Core.Path.{◌≡◌, refl, sym, ap, ◌∙◌}
use mathlib.Core.Bool.{Bool, true, false, cond, ◌&&◌}
use mathlib.Core.List.{List}
use Prim.Native.Nat.{ℕ, ◌*◌, ◌≤◌, ◌<◌}
use native.Mathlib.Omega.{arith}
use borrow.Author.Tests.{eqb-true, eqb-false}
use lib.ListN.{length}
use lib.Dec.{eqb, leb}
use Rattle.refusals.specs.{accepted, signature_not_valid}
use Rattle.octets.proofs.RoundTrips.{and_right}
use Rattle.marks.specs.{attested, valid}
use Rattle.marks.specs.Entries.{entries_fit, pair_position, pair_marks}
use Rattle.marks.proofs.Listed.{in_rack, next_higher}
use Rattle.marks.proofs.Refused.{none_refused, unrefused}
use Rattle.rack.specs.Racks.{rack_cut, rack_string}
use Rattle.statement.specs.declared.Kind.{Kind}
use Rattle.statement.specs.declared.Kind.TheVariants.{Blank, New, Append, Read, Finalise, Initialise}
use Rattle.statement.specs.declared.Statement.{Statement}
use Rattle.statement.specs.Kinds.{kind_number}
use Rattle.statement.specs.Cut.{cut_statement}
use Rattle.desk.specs.declared.Finding.{Finding}
use Rattle.desk.specs.Verdict.{Question, signer_count, signers_fit, height_in, verdict_refusal, nothing_shown, shown, judging}
use Rattle.desk.proofs.Vouches.{vouched, asked}
use Rattle.safety.specs.Histories.{Event, ◌∈◌, listed}
use Rattle.safety.specs.Chip.{Claim, key_at, signer_claim}
use Rattle.safety.specs.Demand.{Accepted}
use Rattle.safety.proofs.Members.{in_listed}
use Rattle.safety.proofs.Views.{Receipt, of_new, of_append, of_read, Vouched}
use Rattle.safety.proofs.Tales.{VerdictOn}

module _ (q : Question) (s signers : List ℕ) where
  -- an accepted verdict is one that nothing refuses, and it shows the statement's tail and height
  pub accepted_so : (judging q s signers).number ≡ accepted → (verdict_refusal q s signers ≡ accepted) × (judging q s signers ≡ shown s)
  unfolding judging nothing_shown
  accepted_so e = go (eqb (verdict_refusal q s signers) accepted) refl e
    where
      go : (b : Bool) → eqb (verdict_refusal q s signers) accepted ≡ b → (cond b (shown s) (nothing_shown (verdict_refusal q s signers))).number ≡ accepted
          → (verdict_refusal q s signers ≡ accepted) × (cond b (shown s) (nothing_shown (verdict_refusal q s signers)) ≡ shown s)
      go true t e = (eqb-true (verdict_refusal q s signers) accepted t, refl)
      go false t e = absurd (eqb-false (verdict_refusal q s signers) accepted t e)

  -- the signers are a list that fits the rack
  signers_listed :
      signers_fit (rack_cut q.rack).count signers ≡ true
      → entries_fit (rack_cut q.rack).count (pair_position signers) (pair_marks signers) (signer_count signers) ≡ true
  unfolding signers_fit
  signers_listed e =
      let n = (rack_cut q.rack).count in
      let c = signer_count signers in
      and_right (eqb (2 * c) (length signers) && leb c n) (entries_fit n (pair_position signers) (pair_marks signers) c) e

  kind_so : (k : Kind) → 1 ≤ kind_number k → kind_number k ≤ 3 → Receipt k
  kind_so Blank l h = absurd (omega arith)
  kind_so New l h = of_new
  kind_so (Append x) l h = of_append
  kind_so (Read x y z) l h = of_read
  kind_so Finalise l h = absurd (omega arith)
  kind_so Initialise l h = absurd (omega arith)

  module _ (Hashes : List ℕ → Type 0) (Said : List ℕ → Statement → Type 0)
      (hashes : Hashes (rack_string q.rack))
      (vows : (c : Claim) → c ∈ listed (signer_count signers) (signer_claim q s signers) → attested c.marks ≡ true → valid c.marks ≡ true
      → Said c.key (cut_statement c.statement)) where
    signed :
        (i : ℕ) → i < signer_count signers → attested (pair_marks signers i) ≡ true → valid (pair_marks signers i) ≡ true
        → Said (key_at q.rack (pair_position signers i)) (cut_statement s)
    unfolding signer_claim
    signed i h = vows (signer_claim q s signers i) (in_listed (signer_claim q s signers) (signer_count signers) i h)

    pub seen_verdict : (judging q s signers).number ≡ accepted → Vouched Hashes Said (cut_statement s)
    seen_verdict e =
        let j = vouched q s signers (accepted_so e).0 in
        let a = asked q s j.answers in
        let fits = signers_listed j.signers_hold in
        let n = (rack_cut q.rack).count in
        let c = signer_count signers in
        record {
          receipt = kind_so (cut_statement s).kind (omega (arith, a.low, a.kind)) (omega (arith, a.high, a.kind));
          rack = q.rack;
          rack_is = a.own;
          rack_hashed = hashes;
          vouches = record {
            count = c;
            position = pair_position signers;
            enough = j.enough;
            below = in_rack n (pair_position signers) (pair_marks signers) c fits;
            rising = next_higher n (pair_position signers) (pair_marks signers) c fits;
            each_one = λ i h.
                let m = unrefused signature_not_valid (omega arith) (pair_marks signers i) (none_refused signature_not_valid (omega arith) (pair_marks signers) c i h j.marked) in
                signed i h m.0 m.1;
          };
        }

-- an accepted verdict of a history, by its statement taken apart
pub record Shows (h : List Event) (identity label : List ℕ) (height : ℕ) (tail : List ℕ) : Type 0 where
  pub word : Statement
  pub verdict : VerdictOn h word
  pub identity_is : word.identity ≡ identity
  pub label_is : word.label ≡ label
  pub height_is : height_in word.kind ≡ height
  pub tail_is : word.tail ≡ tail

pub accepted_verdict : (h : List Event) (identity label : List ℕ) (height : ℕ) (tail : List ℕ) → Accepted h identity label height tail → Shows h identity label height tail
unfolding shown
accepted_verdict h identity label height tail a =
    let q = a.question in
    let s = a.statement in
    let x = accepted_so q s a.signers a.accepts in
    let j = asked q s (vouched q s a.signers x.0).answers in
    record {
      word = cut_statement s;
      verdict = record { question = q; statement = s; signers = a.signers; judged_in = a.judged; accepts = a.accepts; cut = refl };
      identity_is = j.identity ∙ a.identity_is;
      label_is = j.label ∙ a.label_is;
      height_is = sym (ap (λ (f : Finding). f.height) x.1) ∙ a.height_is;
      tail_is = sym (ap (λ (f : Finding). f.tail) x.1) ∙ a.tail_is;
    }
