-- Laws of a verdict that nothing refuses: what each test then says. Assumes nothing.
use mathlib.Core.Path.{◌≡◌, refl}
use mathlib.Core.Bool.{Bool, true, false, not, ◌&&◌}
use mathlib.Core.List.{List}
use Prim.Native.Nat.{ℕ, ◌≤◌}
use borrow.Author.Tests.{eqb-true, leb-true, ltb-false, eqb-false, not-false}
use lib.Dec.{eqb, leb, ltb}
use Rattle.refusals.specs.{accepted, rack_broken, list_broken, statement_not_asked, nonce_differs, too_few, signature_not_valid}
use Rattle.refusals.specs.Order.{first}
use Rattle.refusals.proofs.Orders.{passes}
use Rattle.octets.specs.Strings.{same}
use Rattle.octets.specs.Layouts.{holds}
use Rattle.octets.proofs.RoundTrips.{and_left, and_right, same_is}
use Rattle.marks.specs.Entries.{marks_tests, pair_marks}
use Rattle.rack.specs.Racks.{rack_layout, rack_cut, rack_digest, majority}
use Rattle.statement.specs.Kinds.{kind_number}
use Rattle.statement.specs.Cut.{cut_statement}
use Rattle.statement.specs.Layout.{statement_layout}
use Rattle.desk.specs.Verdict.{Question, signer_count, signers_fit, is_asked_for, has_other_nonce, verdict_refusal}

pub record Vouched (q : Question) (s signers : List ℕ) : Type 0 where
  pub rack_holds : holds rack_layout q.rack ≡ true
  pub signers_hold : signers_fit (rack_cut q.rack).count signers ≡ true
  pub answers : is_asked_for q s ≡ true
  pub fresh : has_other_nonce q s ≡ false
  pub enough : majority (rack_cut q.rack).count ≤ signer_count signers
  pub marked : first (marks_tests signature_not_valid (pair_marks signers) (signer_count signers)) ≡ accepted

module _ (q : Question) (s signers : List ℕ) where
  pub vouched : verdict_refusal q s signers ≡ accepted → Vouched q s signers
  unfolding verdict_refusal
  vouched e =
      let a = passes (not (holds rack_layout q.rack)) rack_broken _ (eqb-false 6 0 refl) e in
      let b = passes (not (signers_fit (rack_cut q.rack).count signers)) list_broken _ (eqb-false 22 0 refl) a.1 in
      let c = passes (not (is_asked_for q s)) statement_not_asked _ (eqb-false 23 0 refl) b.1 in
      let d = passes (has_other_nonce q s) nonce_differs _ (eqb-false 24 0 refl) c.1 in
      let f = passes (ltb (signer_count signers) (majority (rack_cut q.rack).count)) too_few _ (eqb-false 16 0 refl) d.1 in
      record {
        rack_holds = not-false _ a.0;
        signers_hold = not-false _ b.0;
        answers = not-false _ c.0;
        fresh = d.0;
        enough = ltb-false _ _ f.0;
        marked = f.1;
      }

-- what the statement is that was asked for
pub record Asked (q : Question) (s : List ℕ) : Type 0 where
  pub low : 1 ≤ q.asked
  pub high : q.asked ≤ 3
  pub statement_holds : holds statement_layout s ≡ true
  pub kind : kind_number (cut_statement s).kind ≡ q.asked
  pub identity : (cut_statement s).identity ≡ q.identity
  pub own : (cut_statement s).own ≡ rack_digest q.rack
  pub label : (cut_statement s).label ≡ q.label

pub asked : (q : Question) (s : List ℕ) → is_asked_for q s ≡ true → Asked q s
unfolding is_asked_for
asked q s e =
    let whose : Bool = same (cut_statement s).identity q.identity in
    let which_rack : Bool = same (cut_statement s).own (rack_digest q.rack) in
    let which_ledger : Bool = same (cut_statement s).label q.label in
    let ranged : Bool = leb 1 q.asked && leb q.asked 3 in
    let laid : Bool = ranged && holds statement_layout s in
    let named : Bool = laid && eqb (kind_number (cut_statement s).kind) q.asked in
    let d = and_left (named && whose && which_rack) which_ledger e in
    let c = and_left (named && whose) which_rack d in
    let b = and_left named whose c in
    let a = and_left laid (eqb (kind_number (cut_statement s).kind) q.asked) b in
    let r = and_left ranged (holds statement_layout s) a in
    record {
      low = leb-true _ _ (and_left (leb 1 q.asked) (leb q.asked 3) r);
      high = leb-true _ _ (and_right (leb 1 q.asked) (leb q.asked 3) r);
      statement_holds = and_right ranged (holds statement_layout s) a;
      kind = eqb-true _ _ (and_right laid (eqb (kind_number (cut_statement s).kind) q.asked) b);
      identity = same_is _ _ (and_right named whose c);
      own = same_is _ _ (and_right (named && whose) which_rack d);
      label = same_is _ _ (and_right (named && whose && which_rack) which_ledger e);
    }
