use mathlib.Core.Path.{◌≡◌, ap, ap₂, ◌∙◌}
use mathlib.Core.List.{List}
use Prim.Native.Nat.{ℕ, ◌+◌, ◌/◌}
use native.Mathlib.Omega.{arith}
use lib.ListN.{length}
use Rattle.octets.specs.Strings.{put}
use Rattle.rows.specs.Row.{tail_of, height_of}
use Rattle.statement.specs.declared.Kind.TheVariants.{Append}
use Rattle.statement.specs.declared.Statement.{Statement}
use Rattle.statement.specs.Contents.{statement_written, statement_fits}
use Rattle.statement.proofs.Types.{arrays}
use Rattle.rules.specs.Outcomes.{Lent}
use Rattle.rules.specs.Table.{moved}
use Rattle.rules.specs.Rows.{receipt_of}
use Rattle.rules.specs.Derivation.{grown}
use Rattle.rules.specs.AppendMany.{last_tail, last_height, moved_by_all, last_statement}
use Rattle.ledgers.proofs.Given.{made_length}
use Rattle.recording.proofs.Entries.{last_fits}
use Rattle.recording.proofs.recording.enter_all.Goals as goal
use Rattle.recording.proofs.recording.enter_all.Goals.{After-grown-tail, After-height_at, After-receipt, Start}

abbrev asked : Start → Lent
asked s = let a = s.args in record { head = a.head; table = a.table.now; area = a.area.now }

-- the row's new tail and height
tails :
    (c : After-grown-tail) →
    let s = (goal.at.After-grown-tail c).Start in
    c.grown-tail.result ≡ last_tail (asked s) s.args.label s.args.list.now
tails c =
    let s = c in
    let list : List ℕ = s.args.list.now in
    c.grown-tail.ensures
    ∙ ap (λ (t : List ℕ). grown t list (length list / 32)) (c.tail_at.ensures ∙ ap (tail_of s.args.table.now) s.requires.1)

heights :
    (c : After-height_at) →
    let s = (goal.at.After-height_at c).Start in
    c.height_at.result + length s.args.list.now / 32 ≡ last_height (asked s) s.args.label s.args.list.now
heights c =
    let s = c in
    ap (λ (h : ℕ). h + length s.args.list.now / 32) (c.height_at.ensures ∙ ap (height_of s.args.table.now) s.requires.1)

given_receipt :
    (c : After-receipt) →
    let s = (goal.at.After-receipt c).Start in
    let list = s.args.list.now in
    c.receipt.result ≡ receipt_of s.args.head (Append (last_height (asked s) s.args.label list)) s.args.label (last_tail (asked s) s.args.label list)
given_receipt c =
    let high = (goal.at.After-receipt c).After-height_at in
    let s = c in
    c.receipt.ensures
    ∙ ap₂ (λ (x : ℕ) (t : List ℕ). receipt_of s.args.head (Append x) s.args.label t) (heights high) (tails (goal.at.After-receipt c).After-grown-tail)

pub give-requires : goal.give-requires
give-requires c =
    let s = c in
    let e = given_receipt (goal.at.give-requires c).After-receipt in
    (ap statement_fits e ∙ last_fits s.args.head _ _ _ (omega (arith, s.requires.0.some)) (s.requires.0.last _), rw e s.requires.0.room)

pub returns : goal.returns
unfolding last_statement moved_by_all
returns c =
    let given = (goal.at.returns c).After-receipt in
    let moves = c in
    let high = (goal.at.returns c).After-height_at in
    let s = c in
    let e = given_receipt given in
    record {
      moves =
          moves.move_row.ensures
          ∙ (λ i. moved s.args.table.now (s.requires.1 i) (tails (goal.at.returns c).After-grown-tail i) (heights high i));
      writes = c.give.ensures ∙ ap (λ (v : Statement). put s.args.area.now 0 (statement_written v)) e;
      long =
          made_length given.receipt.result _ e (arrays given.receipt.result _ given.receipt.type_inv)
          (last_fits s.args.head _ _ _ (omega (arith, s.requires.0.some)) (s.requires.0.last _));
    }
