use Rattle.octets.specs.Strings.{put}
use native.Mathlib.Omega.{arith}
use mathlib.Core.List.{List, ◌∷◌}
use mathlib.Core.Path.{ap, ◌∙◌}
use Rattle.filing.proofs.Filing.{fits_statement, fits_signers}
use lib.ListN.{length}
use Rattle.filing.specs.Filed.{receipt_body}
use Prim.Native.Nat.{ℕ, ◌/◌}
use Rattle.filing.proofs.receipts_filed.receipt_body.Goals as goal

pub overflow_cast-s : goal.overflow_cast-s
overflow_cast-s c =
    omega (
      arith,
      fits_statement c.args.s.now c.args.signers.now
          c.requires,
    )

pub put_counted-requires : goal.put_counted-requires
put_counted-requires c =
    omega (
      arith,
      fits_statement c.args.s.now c.args.signers.now
          c.requires,
      c.copy_at-4.auto.dst,
    )

pub overflow_cast-signers : goal.overflow_cast-signers
overflow_cast-signers c =
    omega (
      arith,
      fits_signers c.args.s.now c.args.signers.now
          c.requires,
    )

pub put_counted-requires-2 : goal.put_counted-requires-2
put_counted-requires-2 c =
    omega (
      arith,
      fits_signers c.args.s.now c.args.signers.now
          c.requires,
      c.put_counted.auto.body,
    )

pub returns : goal.returns
unfolding receipt_body
returns c =
    let a = c.args in
    let s = a.s.now in
    let signers = a.signers.now in
    c.put_counted-2.ensures
    ∙ ap (λ (x : List ℕ). put x 204 (length signers / 2 ∷ signers)) (c.put_counted.ensures
    ∙ ap (λ (x : List ℕ). put x 66 (length s ∷ s)) (c.copy_at-4.ensures
    ∙ ap (λ (x : List ℕ). put x 34 a.question.identity) (c.copy_at-3.ensures
    ∙ ap (λ (x : List ℕ). put x 18 a.question.nonce) (c.copy_at-2.ensures
    ∙ ap (λ (x : List ℕ). put x 2 a.question.label) c.copy_at.ensures))))
