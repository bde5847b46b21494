use mathlib.Core.Path.{◌≡◌, sym, ap, ◌∙◌}
use mathlib.Core.List.{List}
use Prim.Native.Nat.{ℕ}
use native.Mathlib.Omega.{arith}
use Rattle.octets.specs.Strings.{put}
use Rattle.store.specs.Area.{blocks, block_at, holds_damaged}
use Rattle.store.specs.Read.{answers, first_answer}
use Rattle.store.proofs.Places.{among_some, among_none, first_within}
use Rattle.store.proofs.Tests.{read_short, read_unsound, read_damaged, read_none, read_done}
use Rattle.store.proofs.reading.read.Goals as goal
use Rattle.store.proofs.reading.read.Goals.{In_default}

pub returns-then-output-lt-BLOCK : goal.returns-then-output-lt-BLOCK
returns-then-output-lt-BLOCK c =
    let a = c.args in
    read_short a.area.now a.asked.label a.asked.height a.output.now c.if-output-lt-BLOCK.true

pub returns-then-not-is_area : goal.returns-then-not-is_area
returns-then-not-is_area c =
    let a = c.args in
    read_unsound a.area.now a.asked.label a.asked.height a.output.now c.if-output-lt-BLOCK.false (sym c.is_area.ensures ∙ c.if-not-is_area.true)

-- no block answers
none :
    (c : In_default)
    → (let a = c.args in
    first_answer a.area.now a.asked.label a.asked.height (blocks a.area.now) ≡ blocks a.area.now)
unfolding blocks first_answer
none c =
    let a = c.args in
    let n = among_none _ _ (sym c.first_answer.ensures ∙ c.in_default.is) in
    omega (arith, n, first_within (λ (i : ℕ). answers a.asked.label a.asked.height (block_at a.area.now i)) (blocks a.area.now))

pub returns-then-has_damaged : goal.returns-then-has_damaged
unfolding blocks holds_damaged
returns-then-has_damaged c =
    let a = c.args in
    read_damaged a.area.now a.asked.label a.asked.height a.output.now c.if-output-lt-BLOCK.false (sym c.is_area.ensures ∙ c.if-not-is_area.false)
    (none (goal.at.returns-then-has_damaged c).In_default) (sym c.has_damaged.ensures ∙ c.if-has_damaged.true)

pub returns-in_default : goal.returns-in_default
unfolding blocks holds_damaged
returns-in_default c =
    let a = c.args in
    read_none a.area.now a.asked.label a.asked.height a.output.now c.if-output-lt-BLOCK.false (sym c.is_area.ensures ∙ c.if-not-is_area.false)
    (none (goal.at.returns-in_default c).In_default) (sym c.has_damaged.ensures ∙ c.if-has_damaged.false)

pub returns : goal.returns
unfolding blocks
returns c =
    let a = c.args in
    let there = among_some _ _ _ (sym c.first_answer.ensures ∙ c.in-Some.is) in
    ap (λ (l : List ℕ). record { number = 0; written = 512; height = 0; output = l })
    (c.copy_at.ensures ∙ ap (put a.output.now 0) (c.block_at.ensures ∙ ap (block_at a.area.now) (sym there.0)))
    ∙ read_done a.area.now a.asked.label a.asked.height a.output.now c.if-output-lt-BLOCK.false (sym c.is_area.ensures ∙ c.if-not-is_area.false)
    (λ g. omega (arith, there.1, g))
