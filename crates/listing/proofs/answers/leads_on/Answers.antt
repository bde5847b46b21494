use mathlib.Core.Path.{◌≡◌, refl, sym, ap, ap₂, ◌∙◌}
use mathlib.Core.List.{List}
use Prim.Native.Nat.{ℕ, suc, ◌+◌, ◌-◌}
use native.Mathlib.Numerals.{add-one}
use native.Mathlib.Omega.{arith}
use Rattle.octets.specs.Strings.{same}
use Rattle.rows.specs.Digests.{appended}
use Rattle.rows.specs.Table.{each}
use Rattle.rows.proofs.Tables.{each_next}
use Rattle.cabinet.specs.Block.{digest_in}
use Rattle.store.specs.Area.{blocks, block_at}
use Rattle.store.specs.Read.{first_answer}
use Rattle.store.proofs.Places.{among_some, among_none}
use Rattle.rules.specs.Derivation.{grown}
use Rattle.maker.specs.Lists.{answered, listed, entry_digest}
use Rattle.listing.proofs.Answered.{unanswered, is_answered, place_within, digest_there, grown-listed, leads_fails, leads_all}
use Rattle.listing.proofs.answers.leads_on.Goals as goal

pub loop-d-init : goal.loop-d-init
unfolding each grown
loop-d-init c = (refl, refl)

pub returns-in_default : goal.returns-in_default
unfolding blocks
returns-in_default c =
    let a = c.args in
    let l = c.loop-d in
    let none = among_none _ _ (sym c.first_answer.ensures ∙ c.in_default.is) in
    let within = place_within a.store.now a.label (a.row.height + (l.d + 1)) c.requires.0 in
    sym (leads_fails a.store.now a.label a.row a.top l.d (omega arith)
    (unanswered a.store.now a.label (a.row.height + (l.d + 1)) c.requires.0
    (omega (arith, none, within))))

pub loop-d-preserved : goal.loop-d-preserved
unfolding blocks
loop-d-preserved c =
    let a = c.args in
    let l = c.loop-d in
    let s = a.store.now in
    let h : ℕ = a.row.height in
    let some = among_some _ _ _ (sym c.first_answer.ensures ∙ c.in-Some.is) in
    let there : (first_answer s a.label (h + (l.d + 1)) (blocks s) ≡ blocks s → ⊥) = λ f. omega (arith, some.1, f) in
    let digest : c.digest_at.result ≡ entry_digest s a.label (h + (l.d + 1)) =
    c.digest_at.ensures ∙ ap (λ (i : ℕ). digest_in (block_at s i)) (sym some.0)
    ∙ sym (digest_there s a.label (h + (l.d + 1)) c.requires.0 there) in (
      each_next (λ (k : ℕ). answered s a.label (h + suc k)) l.d l.invariant.0
          (ap (λ (k : ℕ). answered s a.label (h + k)) (sym (add-one l.d))
          ∙ is_answered s a.label (h + (l.d + 1)) c.requires.0 there),
      c.appended-tail.ensures ∙ ap₂ appended l.invariant.1 digest ∙ sym (grown-listed s a.label a.row.tail h l.d),
    )

pub returns : goal.returns
returns c =
    let a = c.args in
    let l = c.loop-d in
    let s = a.store.now in
    let n : ℕ = a.top.height - a.row.height in
    let e : l.d ≡ n = omega arith in
    c.is_same.ensures
    ∙ ap (λ (t : List ℕ). same t a.top.tail) (l.invariant.1 ∙ ap (λ (d : ℕ). grown a.row.tail (listed s a.label a.row.height d) d) e)
    ∙ sym (leads_all s a.label a.row a.top (rw e at l.invariant.0))
