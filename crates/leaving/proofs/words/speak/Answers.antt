use mathlib.Core.Path.{◌≡◌, sym, ap, ◌∙◌}
use mathlib.Core.Bool.{true}
use mathlib.Core.List.{List}
use Prim.Native.Nat.{ℕ, ◌+◌, ◌-◌}
use native.Mathlib.Omega.{arith}
use borrow.Rule.Slice.PartMut.{put_mid}
use lib.ListN.{length, length-append, length-take, length-drop}
use Rattle.octets.specs.Strings.{put}
use Rattle.octets.proofs.Puts.{put-length, put-put}
use Rattle.octets.proofs.Rests.{rest_put}
use Rattle.rows.proofs.Tables.{fit_count, fit_length}
use Rattle.roll.specs.Blocks.{blocks, first_blocks}
use Rattle.roll.specs.Roll.{roll_layout}
use Rattle.roll.proofs.Rolls.{written_length as blocks-length}
use Rattle.statement.specs.declared.Statement.{Statement}
use Rattle.statement.specs.Kinds.{handover_size, size}
use Rattle.statement.specs.Contents.{statement_written, statement_fits}
use Rattle.statement.proofs.Records.{fits_kind, written_length}
use Rattle.statement.proofs.Types.{arrays}
use Rattle.rules.specs.Finalise.{finalise_statement, last_words}
use Rattle.leaving.proofs.Said.{said, said_fits, roll_room}
use Rattle.leaving.proofs.words.speak.Goals as goal
use Rattle.leaving.proofs.words.speak.Goals.{After-give, After-last_statement}

pub give-requires : goal.give-requires
give-requires c =
    let e = c.last_statement.ensures in
    (ap statement_fits e ∙ said_fits c.args.head c.args.table.now, rw e (omega (arith, c.requires.1)))

-- the statement's bytes, and the area with them
long : (c : After-last_statement) → length (statement_written (said c.args.head c.args.table.now)) ≡ handover_size
long c =
    let v = c.last_statement in
    let fits : statement_fits v.result ≡ true = ap statement_fits v.ensures ∙ said_fits c.args.head c.args.table.now in
    ap (λ (x : Statement). length (statement_written x)) (sym v.ensures)
    ∙ written_length v.result (arrays v.result _ v.type_inv) (fits_kind v.result fits)
    ∙ ap (λ (x : Statement). size x.kind) v.ensures

stated : (c : After-give) → c.give.new.area ≡ put c.args.area.now 0 (statement_written (said c.args.head c.args.table.now))
stated c = c.give.ensures ∙ ap (λ (y : Statement). put c.args.area.now 0 (statement_written y)) c.last_statement.ensures

pub put_roll-requires : goal.put_roll-requires
put_roll-requires c =
    let h = c.args.head in
    let t : List ℕ = c.args.table.now in
    let says : length (statement_written (said h t)) ≡ handover_size = long (goal.at.put_roll-requires c).After-last_statement in
    let wide : length c.give.new.area ≡ length c.args.area.now =
    ap length (stated (goal.at.put_roll-requires c).After-give) ∙ put-length c.args.area.now 0 (statement_written (said h t)) (omega (arith, c.requires.1)) in (
      fit_count h.count t c.requires.0,
      fit_length h.count t c.requires.0,
      simp (length-take, length-drop) (omega (arith, wide, c.requires.1, roll_room h.count t c.requires.0)),
    )

pub roll_bytes-requires : goal.roll_bytes-requires
roll_bytes-requires c = fit_count c.args.head.count c.args.table.now c.requires.0

pub overflow_add-result : goal.overflow_add-result
overflow_add-result c = omega (arith, c.roll_bytes.ensures, roll_room c.args.head.count c.args.table.now c.requires.0)

pub returns : goal.returns
unfolding roll_layout finalise_statement last_words
returns c =
    let h = c.args.head in
    let t : List ℕ = c.args.table.now in
    let area : List ℕ = c.args.area.now in
    let s : List ℕ = statement_written (said h t) in
    let w : List ℕ = first_blocks h.count t (blocks h.count) in
    let behind = blocks-length h.count t c.requires.0 in
    let says : length s ≡ handover_size = long (goal.at.returns c).After-last_statement in
    let x : List ℕ = c.give.new.area in
    let room = roll_room h.count t c.requires.0 in (
      ap (put_mid handover_size (length x - handover_size) x) c.put_roll.ensures ∙ rest_put x handover_size w
          ∙ ap (λ (y : List ℕ). put y handover_size w) (stated (goal.at.returns c).After-give)
          ∙ put-put area 0 s w handover_size (omega arith) (omega (arith, c.requires.1, behind)),
      ap (λ (n : ℕ). handover_size + n) c.roll_bytes.ensures ∙ omega (arith, behind, length-append s w),
    )
