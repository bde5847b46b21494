-- The contract of the printing allows one outcome: two that it allows for the same arguments have the same length, and leave the same area. Assumes nothing.
use mathlib.Core.Path.{sym, ap₂, ◌∙◌}
use mathlib.Core.List.{List}
use Prim.Native.Nat.{ℕ}
use Rattle.octets.specs.Layouts.{Written}
use Rattle.rack.proofs.Outcomes.{One}
use Rattle.report.proofs.printing.print.Kinds as print
use Rattle.report.proofs.printing.print.Reads as print-contract

pub print_one : One 2 print.ps print.r Written print-contract.Post (λ κs r e. record { answer = 0; count = r; area = e.1.0.now })
print_one κs a r r' e e' p q =
    ap₂ (λ (n : ℕ) (x : List ℕ). record { answer = 0; count = n; area = x }) (p.0.next ∙ sym q.0.next) (p.0.left ∙ sym q.0.left)
