use mathlib.Core.Path.{◌≡◌, refl, sym, ap, ap₂, ◌∙◌}
use mathlib.Core.List.{List}
use Prim.Native.Nat.{ℕ, ◌*◌, ◌≤◌}
use native.Mathlib.Omega.{arith}
use lib.ListN.{length}
use Rattle.octets.specs.Strings.{put}
use Rattle.checks.specs.Check.{block_bytes}
use Rattle.cabinet.specs.Block.{most_text, unused, block_of}
use Rattle.refusals.specs.{accepted}
use Rattle.refusals.specs.Order.{first}
use Rattle.refusals.proofs.Answered.{number_refuses}
use Rattle.rows.specs.Digests.{appended}
use Rattle.store.specs.declared.Newest.{Newest}
use Rattle.store.specs.Area.{blocks, block_at, first_unused, newest}
use Rattle.store.specs.Append.{order_tests, block_appended}
use Rattle.store.proofs.Places.{among_some, among_none, first_within}
use Rattle.store.proofs.Tests.{ready_text, append_unready, append_unordered, append_full, append_done, handed}
use Rattle.store.proofs.appending.append.Goals as goal
use Rattle.store.proofs.appending.append.Goals.{In_ok-check_ready, In_ok-check_order}

pub returns-in_err-check_ready : goal.returns-in_err-check_ready
returns-in_err-check_ready c =
    let a = c.args in
    let r = c.in_err-check_ready.field-0.0 in
    let told = c.in_err-check_ready.ensures in
    handed _ r a.area.now c.from_residual.ensures.1
    ∙ rw told.height (append_unready a.area.now a.asked.label a.asked.height a.text.now _ told.answer (number_refuses r))

-- the text is no longer than a block takes
short : (c : In_ok-check_ready) → length c.args.text.now ≤ most_text
short c =
    let a = c.args in
    ready_text a.area.now a.asked.label a.asked.height a.text.now accepted c.in_ok-check_ready.ensures.answer refl

-- the label's newest block is one of the area's
pub returns-in_err-check_order : goal.returns-in_err-check_order
unfolding blocks
returns-in_err-check_order c =
    let a = c.args in
    let r = c.in_err-check_order.field-0.0 in
    let told = c.in_err-check_order.ensures in
    handed _ r a.area.now c.from_residual-in_err-check_order.ensures.1
    ∙ rw (told.height, c.newest-found.ensures)
    (append_unordered a.area.now a.asked.label a.asked.height a.text.now accepted c.in_ok-check_ready.ensures.answer refl _
    (told.answer ∙ ap (λ (m : Newest). first (order_tests a.asked.height m.height)) c.newest-found.ensures) (number_refuses r))

-- the heights are in order
ordered :
    (c : In_ok-check_order)
    → accepted ≡ first (order_tests c.args.asked.height (newest c.args.area.now c.args.asked.label (blocks c.args.area.now)).height)
unfolding blocks
ordered c =
    c.in_ok-check_order.ensures.answer ∙ ap (λ (m : Newest). first (order_tests c.args.asked.height m.height)) c.newest-found.ensures

pub returns-in_default : goal.returns-in_default
unfolding blocks first_unused
returns-in_default c =
    let a = c.args in
    let none = among_none _ _ (sym c.first_unused.ensures ∙ c.in_default.is) in
    append_full a.area.now a.asked.label a.asked.height a.text.now accepted c.in_ok-check_ready.ensures.answer refl accepted
    (ordered (goal.at.returns-in_default c).In_ok-check_order) refl
    (omega (arith, none, first_within (λ (i : ℕ). unused (block_at a.area.now i)) (blocks a.area.now)))

pub digest-digest-requires : goal.digest-digest-requires
digest-digest-requires c = omega (arith, short (goal.at.digest-digest-requires c).In_ok-check_ready)

pub made_block-block-requires : goal.made_block-block-requires
made_block-block-requires c = short (goal.at.made_block-block-requires c).In_ok-check_ready

pub returns : goal.returns
unfolding blocks block_appended
returns c =
    let a = c.args in
    let there = among_some _ _ _ (sym c.first_unused.ensures ∙ c.in-Some.is) in
    let digest = c.digest-digest.ensures in
    let block = c.made_block-block.ensures
    ∙ ap₂ (λ (x t : List ℕ). block_of a.asked.label a.asked.height x t a.text.now) digest
    (c.appended-tail.ensures ∙ ap₂ (λ (m : Newest) (x : List ℕ). appended m.tail x) c.newest-found.ensures digest) in
    ap (λ (l : List ℕ). record { number = 0; written = 0; height = 0; area = l })
    (c.copy_at.ensures ∙ ap₂ (λ (i : ℕ) (l : List ℕ). put a.area.now (block_bytes * i) l) (sym there.0) block)
    ∙ append_done a.area.now a.asked.label a.asked.height a.text.now accepted c.in_ok-check_ready.ensures.answer refl accepted
    (ordered (goal.at.returns c).In_ok-check_order) refl (λ g. omega (arith, there.1, g))
