use mathlib.Core.Path.{◌≡◌, ap, ap₂, ◌∙◌}
use mathlib.Core.Bool.{Bool}
use native.Mathlib.Omega.{arith}
use borrow.Author.Tests.{lt-ltb, le-ltb}
use lib.Dec.{ltb}
use Rattle.std.specs.Bool.{then_some}
use Rattle.octets.specs.Strings.{same}
use Rattle.octets.proofs.Compared.{same_pointwise}
use Rattle.rows.specs.Row.{label_of}
use Rattle.roll.specs.Roll.{roll_layout}
use Rattle.roll.proofs.Spreads.{has_place}
use Rattle.derivation.specs.Walk.{is_next}
use Rattle.derivation.proofs.old.old_row.Goals as goal
use Rattle.derivation.proofs.old.old_row.Goals.{After-then_some, then-q-count_in, else-q-count_in}

pub label_in-requires : goal.label_in-requires
unfolding roll_layout
label_in-requires c =
    (c.requires.0, has_place c.args.roll.now c.requires.0 c.args.q (omega (arith, c.if-q-count_in.true, c.count_in.ensures)))

tested : (c : After-then_some) → c.if-q-count_in.there ≡ is_next (roll_layout.cut c.args.roll.now) c.args.q (label_of c.args.ours.now c.args.r)
unfolding is_next
tested c =
    let old = roll_layout.cut c.args.roll.now in
    elim c.if-q-count_in.branch [
      | then-q-count_in w ↦
          rw (lt-ltb c.args.q old.count (omega (arith, w.if-q-count_in.true, c.count_in.ensures)))
          (w.there-is ∙ w.eq-there.ensures ∙ same_pointwise _ _ ∙ ap₂ same w.label_in.ensures w.label_at.ensures)
      | else-q-count_in w ↦
          let past = le-ltb c.args.q old.count (omega (arith, w.if-q-count_in.false, c.count_in.ensures)) in
          rw past (w.there-is ∙ ap (ltb c.args.q) c.count_in.ensures ∙ past)
    ]

pub returns : goal.returns
returns c = c.then_some.ensures ∙ ap (λ (t : Bool). then_some t c.args.q) (tested c)
