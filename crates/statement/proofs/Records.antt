-- Statements as records: equal by their fields, their kinds, and how many bytes they take. Assumes nothing.
use mathlib.Core.Path.{◌≡◌}
use mathlib.Core.Bool.{Bool, true, false}
use mathlib.Core.List.{List, ◌∷◌, ◌++◌}
use Prim.Native.Nat.{ℕ, ◌<◌}
use native.Mathlib.Omega.{arith}
use lib.ListN.{length, length-append}
use lib.Dec.{lit<}
use Rattle.octets.proofs.Numbers.{bytes_length}
use Rattle.statement.specs.declared.Kind.{Kind}
use Rattle.statement.specs.declared.Kind.TheVariants.{Blank, New, Append, Read, Finalise, Initialise}
use Rattle.statement.specs.declared.Statement.{Statement}
use Rattle.statement.specs.Kinds.{kind_number, size, number_bytes}
use Rattle.statement.specs.Contents.{receipt, body, statement_written, fits_as, statement_fits}
use Rattle.statement.specs.Shape.{Arrays}

made : Kind → List ℕ → List ℕ → List ℕ → List ℕ → List ℕ → List ℕ → Statement
made k i o l t x r = record { kind = k; identity = i; own = o; label = l; tail = t; other = x; roll = r }

-- statements with the same fields are the same
pub same_fields :
    (u v : Statement) → u.kind ≡ v.kind → u.identity ≡ v.identity → u.own ≡ v.own → u.label ≡ v.label → u.tail ≡ v.tail
    → u.other ≡ v.other → u.roll ≡ v.roll → u ≡ v
unfolding made
same_fields u v k i o l t x r = go k i o l t x r
  where
    go :
        {a b : Kind} {c d e f g h m n p q y z : List ℕ} → a ≡ b → c ≡ d → e ≡ f → g ≡ h → m ≡ n → p ≡ q → y ≡ z
        → made a c e g m p y ≡ made b d f h n q z
    go k i o l t x r = cc

-- a statement that fits is not blank
pub fits_kind : (v : Statement) → statement_fits v ≡ true → 0 < kind_number v.kind
unfolding statement_fits fits_as
fits_kind v e = go v.kind e
  where
    go : (k : Kind) → fits_as v k ≡ true → 0 < kind_number k
    go Blank f = let z : ◌≡◌ {A = Bool} false true = f in let y : ◌≡◌ {A = ℕ} 0 1 = cc in absurd (omega arith)
    go New f = lit< tt
    go (Append height) f = lit< tt
    go (Read height nonce-high nonce-low) f = lit< tt
    go Finalise f = lit< tt
    go Initialise f = lit< tt

-- a statement takes as many bytes as its kind has
pub written_length : (v : Statement) → Arrays v → 0 < kind_number v.kind → length (statement_written v) ≡ size v.kind
unfolding statement_written receipt body
written_length v a p = go v.kind p
  where
    go : (k : Kind) → 0 < kind_number k → length (kind_number k ∷ v.identity ++ body v k) ≡ size k
    go Blank q = absurd (omega arith)
    go New q = simp length-append (omega (arith, a.identity, a.own, a.label, a.tail, bytes_length number_bytes 0))
    go (Append x) q = simp length-append (omega (arith, a.identity, a.own, a.label, a.tail, bytes_length number_bytes x))
    go (Read x y z) q =
        simp length-append (omega (arith, a.identity, a.own, a.label, a.tail, bytes_length number_bytes x, bytes_length number_bytes y, bytes_length number_bytes z))
    go Finalise q = simp length-append (omega (arith, a.identity, a.own, a.other, a.roll))
    go Initialise q = simp length-append (omega (arith, a.identity, a.own, a.other, a.roll))
