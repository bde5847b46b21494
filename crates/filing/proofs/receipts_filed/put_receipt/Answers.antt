use mathlib.Core.Path.{◌≡◌, sym, ap₂, ◌∙◌}
use mathlib.Core.Bool.{Bool, true}
use mathlib.Core.List.{List}
use Prim.Native.Nat.{ℕ}
use borrow.Author.Tests.{leb-false}
use lib.ListN.{length}
use Rattle.checks.specs.Check.{block_bytes}
use Rattle.filing.specs.Filed.{filed, receipt_body, receipt_fits, receipt_filed}
use Rattle.filing.proofs.Filing.{filed-broken, filed_short}
use Rattle.filing.proofs.receipts_filed.put_receipt.Goals as goal

pub returns-then-not-is_fitting : goal.returns-then-not-is_fitting
unfolding receipt_filed
returns-then-not-is_fitting c =
    let a = c.args in
    filed-broken (receipt_fits a.s.now a.signers.now) 23 (receipt_body a.question a.s.now a.signers.now) a.area.now
    (sym c.is_fitting.ensures ∙ c.if-not-is_fitting.true)

pub returns-then-not-has_room : goal.returns-then-not-has_room
unfolding receipt_filed
returns-then-not-has_room c =
    let a = c.args in
    filed_short (receipt_fits a.s.now a.signers.now) 23 (receipt_body a.question a.s.now a.signers.now) a.area.now
    (sym c.is_fitting.ensures ∙ c.if-not-is_fitting.false) (leb-false block_bytes (length a.area.now) (sym c.has_room.ensures ∙ c.if-not-has_room.true))

pub returns : goal.returns
unfolding receipt_filed
returns c =
    let h : receipt_fits c.args.s.now c.args.signers.now ≡ true = sym c.is_fitting.ensures ∙ c.if-not-is_fitting.false in
    c.write_block.ensures 23 ∙ ap₂ (λ (f : Bool) (b : List ℕ). filed f 23 b c.args.area.now) (sym h) c.receipt_body.ensures
