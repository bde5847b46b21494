use mathlib.Core.Path.{◌≡◌, ap, ◌∙◌}
use mathlib.Core.Bool.{not}
use mathlib.Core.List.{List}
use Prim.Native.Nat.{◌-◌}
use native.Mathlib.Omega.{arith}
use borrow.Author.Rules.{rules}
use borrow.Author.Tests.{eq-eqb, lt-ltb}
use lib.ListN.{length, drop, length-drop}
use lib.Seq.{take_all}
use Rattle.octets.specs.Strings.{same}
use Rattle.octets.proofs.Compared.{same_lengths}
use Rattle.statement.specs.Kinds.{nonce_place}
use Rattle.desk.specs.Verdict.{has_other_nonce}
use Rattle.desk.proofs.asking.has_other_nonce.Goals as goal

pub returns-then-s-lt-NONCE_PLACE : goal.returns-then-s-lt-NONCE_PLACE
unfolding has_other_nonce
returns-then-s-lt-NONCE_PLACE c rack =
    let s = c.args.s.now in
    let sixteen : length c.args.question.nonce ≡ 16 = search rules in
    let other : (length (drop nonce_place s) ≡ length c.args.question.nonce → ⊥) = λ e. omega (arith, length-drop nonce_place s) in
    rw (eq-eqb _ _ c.if-question-ne-READ.false, lt-ltb _ _ c.if-s-lt-NONCE_PLACE.true, same_lengths (drop nonce_place s) c.args.question.nonce other)

pub returns-else-s-lt-NONCE_PLACE : goal.returns-else-s-lt-NONCE_PLACE
unfolding has_other_nonce
returns-else-s-lt-NONCE_PLACE c rack =
    let a = c.args in
    let d = drop nonce_place a.s.now in
    rw (eq-eqb _ _ c.if-question-ne-READ.false)
    (ap not (c.is_same.ensures
    ∙ ap (λ (l : List _). same l a.question.nonce) (take_all (length a.s.now - nonce_place) d (omega (arith, length-drop nonce_place a.s.now)))))
