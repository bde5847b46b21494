use mathlib.Core.Path.{◌≡◌, sym, ap, ◌∙◌}
use Prim.Native.Nat.{ℕ}
use native.Mathlib.Omega.{arith}
use borrow.Author.Rules.{rules}
use borrow.Author.Tests.{lt-ltb}
use Rattle.cabinet.specs.Block.{digest_in}
use Rattle.store.specs.Area.{blocks, block_at}
use Rattle.store.proofs.Places.{among_some}
use Rattle.store.specs.Read.{first_answer}
use Rattle.listing.proofs.Answered.{answering, place_within, place_lies, place_has, digest_there}
use Rattle.listing.proofs.answers.digest_for.Goals as goal
use Rattle.listing.proofs.answers.digest_for.Goals.{Start}

-- the block that answers
there : (s : Start) → first_answer s.args.store.now s.args.label s.args.height (blocks s.args.store.now) ≡ blocks s.args.store.now
    → ⊥
there s = answering s.args.store.now s.args.label s.args.height s.requires.0 s.requires.1

pub returns-in-Some : goal.returns-in-Some
unfolding blocks
returns-in-Some c =
    let s = (goal.at.returns-in-Some c).Start in
    let a = s.args in
    let n = there s in
    let within = place_within a.store.now a.label a.height s.requires.0 in
    let only = rw c.in-Some.is at c.only_block.ensures in
    let same = only.1 _ (omega (arith, within, n)) (place_has a.store.now a.label a.height s.requires.0 n) in
    c.digest_at.ensures ∙ ap (λ (i : ℕ). digest_in (block_at a.store.now i)) (sym same)
    ∙ sym (digest_there a.store.now a.label a.height s.requires.0 n)

pub unwrap-requires : goal.unwrap-requires
unfolding blocks
unwrap-requires c =
    let s = (goal.at.unwrap-requires c).Start in
    let a = s.args in
    let within = place_within a.store.now a.label a.height s.requires.0 in
    let n = there s in
    let place = first_answer a.store.now a.label a.height (blocks a.store.now) in
    rw (c.first_answer.ensures, lt-ltb place (blocks a.store.now) (omega (arith, within, n))) (search rules)

pub digest_at-requires-2 : goal.digest_at-requires-2
unfolding blocks
digest_at-requires-2 c =
    let s = (goal.at.digest_at-requires-2 c).Start in
    let at = among_some _ _ _ (sym c.first_answer.ensures ∙ c.unwrap.ensures) in
    omega (arith, at.0, place_lies s.args.store.now s.args.label s.args.height s.requires.0 (there s))

pub returns : goal.returns
unfolding blocks
returns c =
    let s = (goal.at.returns c).Start in
    let a = s.args in
    let at = among_some _ _ _ (sym c.first_answer.ensures ∙ c.unwrap.ensures) in
    c.digest_at-2.ensures ∙ ap (λ (i : ℕ). digest_in (block_at a.store.now i)) (sym at.0)
    ∙ sym (digest_there a.store.now a.label a.height s.requires.0 (there s))
