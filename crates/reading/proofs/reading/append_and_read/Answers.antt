use mathlib.Core.Path.{◌≡◌, sym, ap, ◌∙◌}
use mathlib.Core.List.{List, ◌++◌}
use Prim.Native.Nat.{ℕ, ◌+◌, ◌-◌}
use native.Mathlib.Omega.{arith}
use borrow.Rule.Slice.PartMut.{put_mid}
use lib.ListN.{length, take, drop, length-append, length-take, length-drop}
use Rattle.std.specs.Prelude.{Ok}
use Rattle.octets.specs.Strings.{put}
use Rattle.octets.proofs.Puts.{put-length, put-put}
use Rattle.octets.proofs.Rests.{rest_put}
use Rattle.statement.specs.declared.Statement.{Statement}
use Rattle.statement.specs.Kinds.{receipt_size, reading_size}
use Rattle.statement.specs.Contents.{statement_written}
use Rattle.rules.specs.Outcomes.{Lent, outcome, told_place}
use Rattle.rules.specs.Rows.{receipt_of}
use Rattle.rules.specs.Append.{append_refusal, next_tail, next_height, append_statement}
use Rattle.rules.specs.Read.{read_kind, appending_and_reading}
use Rattle.rules.proofs.Tolds.{done_place}
use Rattle.appending.specs.Known.{Appendable}
use Rattle.appending.proofs.Answers.{told_number, hands_on}
use Rattle.appending.proofs.Entries.{fewer, appendable}
use Rattle.reading.proofs.reading.append_and_read.Goals as goal
use Rattle.reading.proofs.reading.append_and_read.Goals.{In_ok-place}

abbrev asked : In_ok-place → Lent
asked c = let a = c.args in record { head = a.head; table = a.table.now; area = a.area.now }

-- what is known once nothing refuses
passed : (c : In_ok-place) → append_refusal (receipt_size + reading_size) (asked c) c.args.label c.args.expected ≡ 0
passed c = told_number _ _ _ _ c.in_ok-place.place c.in_ok-place.ensures.told

can : (c : In_ok-place) → Appendable (receipt_size + reading_size) (asked c) c.args.label
can c = appendable _ _ _ _ (passed c)

pub returns-in_err-place-clause-outcome : goal.returns-in_err-place-clause-outcome
unfolding appending_and_reading
returns-in_err-place-clause-outcome c =
    let a = c.args in
    let k : Lent = record { head = a.head; table = a.table.now; area = a.area.now } in
    hands_on (receipt_size + reading_size) k a.label a.expected (receipt_size + reading_size) _ _ _ c.from_residual.ensures.1 c.in_err-place.ensures.told

pub enter-row-requires : goal.enter-row-requires
enter-row-requires c = (fewer receipt_size (omega arith) (can (goal.at.enter-row-requires c).In_ok-place), c.in_ok-place.ensures.place)

pub slice_bounds-show-count : goal.slice_bounds-show-count
slice_bounds-show-count c = omega (arith, (can (goal.at.slice_bounds-show-count c).In_ok-place).there.room)

pub slice_bounds-show-start : goal.slice_bounds-show-start
slice_bounds-show-start c = omega (arith, (can (goal.at.slice_bounds-show-start c).In_ok-place).there.room)

pub show-requires : goal.show-requires
show-requires c =
    let a = c.args in
    let e = c.enter-row.ensures in
    let m = can (goal.at.show-requires c).In_ok-place in
    let same : length c.enter-row.new.area ≡ length a.area.now = ap length e.writes ∙ put-length a.area.now 0 _ (omega (arith, e.long, m.there.room)) in
    (rw (e.tails, e.heights) (m.next _), simp (length-take, length-drop) (omega (arith, same, m.there.room)))

pub returns-clause-outcome : goal.returns-clause-outcome
unfolding appending_and_reading
returns-clause-outcome c =
    let found = (goal.at.returns-clause-outcome c).In_ok-place in
    let a = c.args in
    let k = asked found in
    let e = c.enter-row.ensures in
    let v : receipt_of a.head (read_kind c.enter-row.result.height a.nonce) a.label c.enter-row.result.tail
    ≡ receipt_of a.head (read_kind (next_height k a.label) a.nonce) a.label (next_tail k a.label a.entry) = rw (e.tails, e.heights) in
    let first : List ℕ = append_statement k a.label a.entry in
    let second : List ℕ = statement_written (receipt_of a.head (read_kind (next_height k a.label) a.nonce) a.label (next_tail k a.label a.entry)) in
    let long : length second ≡ reading_size = sym (ap (λ (x : Statement). length (statement_written x)) v) ∙ c.show.ensures.long in
    let both : length (first ++ second) ≡ receipt_size + reading_size = length-append first second ∙ omega (arith, e.long, long) in
    let area : List ℕ = c.enter-row.new.area in
    let place : ℕ = c.in_ok-place.place in
    let after : List ℕ = put_mid receipt_size (length area - receipt_size) area c.show.new.area in
    ap (λ (n : ℕ). outcome (told_place a.head n (Ok place)) c.enter-row.new.table after) (sym both)
    ∙ done_place k place _ _ _ _ _ _ (passed found) e.moves
    (ap (λ (x : List ℕ). put_mid receipt_size (length area - receipt_size) area x)
    (c.show.ensures.area ∙ ap (λ (x : Statement). put (take (length area - receipt_size) (drop receipt_size area)) 0 (statement_written x)) v)
    ∙ rest_put area receipt_size second
    ∙ ap (λ (x : List ℕ). put x receipt_size second) e.writes
    ∙ put-put a.area.now 0 first second receipt_size (omega (arith, e.long)) (omega (arith, e.long, long, (can found).there.room)))
