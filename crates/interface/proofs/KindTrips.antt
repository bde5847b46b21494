-- A flat statement and a parsed one, one from the other and back without loss. Assumes nothing.
use mathlib.Core.Path.{◌≡◌, refl, sym, ap, ap₂, subst, ◌∙◌}
use mathlib.Core.Bool.{Bool, true, false, cond, ◌&&◌}
use mathlib.Core.List.{List, ◌++◌}
use Prim.Native.Nat.{ℕ, ◌^◌, ◌<◌}
use native.Mathlib.Omega.{arith}
use borrow.Author.Tests.{eqb-true, eq-eqb}
use lib.ListN.{length, take, drop, length-drop}
use lib.Seq.{take_at, drop_at, take_all, length-take-le}
use lib.Dec.{eqb}
use Rattle.octets.specs.Numbers.{number_of, bytes_of}
use Rattle.octets.specs.Strings.{same}
use Rattle.octets.proofs.Numbers.{bytes_length}
use Rattle.octets.proofs.Exact.{Octets, octets_take, octets_drop, number_bytes, number_below}
use Rattle.octets.proofs.RoundTrips.{and_left, and_right, same_is, same_refl}
use Rattle.statement.specs.declared.Kind.{Kind}
use Rattle.statement.specs.declared.Kind.TheVariants.{Blank, New, Append, Read, Finalise, Initialise}
use Rattle.statement.specs.declared.Statement.{Statement}
use Rattle.statement.specs.Kinds.{kind_number}
use Rattle.statement.specs.Shape.{Arrays, Numbers, Shaped}
use Rattle.desk.specs.Verdict.{height_in}
use Rattle.interface.specs.declared.Plain.{Plain}
use Rattle.interface.specs.Contents.{nonce_bytes, nonce_in, plain_of, kind_named, kind_of, statement_of}

-- a flat statement as its type has it
pub record Typed (p : Plain) : Type 0 where
  pub arrays : Arrays (statement_of p)
  pub nonce : length p.nonce ≡ nonce_bytes
  pub octets : Octets p.nonce
  pub height : p.height < 2 ^ 64

-- the halves of a nonce are read out of it again
halves : (height high low : ℕ) → high < 2 ^ 64 → low < 2 ^ 64 → kind_named 3 height (nonce_in (Read height high low)) ≡ Read height high low
unfolding kind_named
halves height high low p q =
    let a : List ℕ = bytes_of 8 high in
    let b : List ℕ = bytes_of 8 low in
    let n : length a ≡ 8 = bytes_length 8 high in
    let m : length b ≡ 8 = bytes_length 8 low in
    let x : number_of (take 8 (a ++ b)) ≡ high = ap number_of (take_at a b 8 n) ∙ number_bytes 8 high p in
    let y : number_of (take 8 (drop 8 (a ++ b))) ≡ low = ap (λ (l : List ℕ). number_of (take 8 l)) (drop_at a b 8 n) ∙ ap number_of (take_all 8 b (omega arith)) ∙ number_bytes 8 low q in
    ap₂ (Read height) x y

named_again : (k : Kind) → Numbers k → kind_named (kind_number k) (height_in k) (nonce_in k) ≡ k
unfolding kind_named
named_again Blank n = refl
named_again New n = refl
named_again (Append height) n = refl
named_again (Read height high low) n = halves height high low n.1 n.2
named_again Finalise n = refl
named_again Initialise n = refl

-- a kind is found again by its number, height and nonce
kind_again : (k : Kind) → Numbers k → kind_of (kind_number k) (height_in k) (nonce_in k) ≡ k
unfolding kind_of
kind_again k n = rw (named_again k n, eq-eqb (height_in k) (height_in k) refl, same_refl (nonce_in k))

pub statement_again : (v : Statement) → Numbers v.kind → statement_of (plain_of v) ≡ v
unfolding plain_of statement_of
statement_again v n = rw (kind_again v.kind n)

either : (P : Kind → Type 0) {x y : Kind} (t : Bool) → (t ≡ true → P x) → P y → P (cond t x y)
either P true f g = f refl
either P false f g = g

module _ (number height : ℕ) (nonce : List ℕ) where
  -- what holds of each kind that a number may name holds of the one that it names
  by_number :
      (P : Kind → Type 0) → (number ≡ 1 → P New) → (number ≡ 2 → P (Append height))
      → (number ≡ 3 → P (Read height (number_of (take 8 nonce)) (number_of (take 8 (drop 8 nonce))))) → (number ≡ 4 → P Finalise) → (number ≡ 5 → P Initialise) → P Blank
      → P (kind_named number height nonce)
  unfolding kind_named
  by_number P a b c d e f =
      either P (eqb number 1) (λ h. a (eqb-true number 1 h))
      (either P (eqb number 2) (λ h. b (eqb-true number 2 h))
      (either P (eqb number 3) (λ h. c (eqb-true number 3 h))
      (either P (eqb number 4) (λ h. d (eqb-true number 4 h))
      (either P (eqb number 5) (λ h. e (eqb-true number 5 h))
      f))))

  named_number : 0 < kind_number (kind_named number height nonce) → kind_number (kind_named number height nonce) ≡ number
  named_number =
      by_number (λ (k : Kind). 0 < kind_number k → kind_number k ≡ number) (λ e h. sym e) (λ e h. sym e) (λ e h. sym e) (λ e h. sym e) (λ e h. sym e) (λ h. absurd (omega arith))

  half_fits : (n : ℕ) → length (take 8 (drop n nonce)) ≡ 8 → Octets nonce → number_of (take 8 (drop n nonce)) < 2 ^ 64
  half_fits n l o = subst (λ (m : ℕ). number_of (take 8 (drop n nonce)) < 256 ^ m) l (number_below (take 8 (drop n nonce)) (octets_take 8 (drop n nonce) (octets_drop n nonce o)))

  named_numbers : height < 2 ^ 64 → length nonce ≡ nonce_bytes → Octets nonce → Numbers (kind_named number height nonce)
  named_numbers h l o =
      by_number Numbers (λ e. tt) (λ e. h)
      (λ e. (h, half_fits 0 (length-take-le 8 nonce (omega arith)) o, half_fits 8 (length-take-le 8 (drop 8 nonce) (omega (arith, length-drop 8 nonce))) o))
      (λ e. tt) (λ e. tt) tt

  -- a kind that is not blank has the number, the height and the nonce that it is found by
  pub record Found (k : Kind) : Type 0 where
    pub its_number : kind_number k ≡ number
    pub its_height : height_in k ≡ height
    pub its_nonce : nonce_in k ≡ nonce

  pub found : 0 < kind_number (kind_of number height nonce) → Found (kind_of number height nonce)
  unfolding kind_of
  found =
      let n : Kind = kind_named number height nonce in
      let p : Bool = eqb (height_in n) height in
      let q : Bool = same (nonce_in n) nonce in
      either (λ (k : Kind). 0 < kind_number k → Found k) (p && q)
      (λ e h. record { its_number = named_number h; its_height = eqb-true (height_in n) height (and_left p q e); its_nonce = same_is (nonce_in n) nonce (and_right p q e) })
      (λ h. absurd (omega arith))

  pub found_numbers : height < 2 ^ 64 → length nonce ≡ nonce_bytes → Octets nonce → Numbers (kind_of number height nonce)
  unfolding kind_of
  found_numbers h l o =
      let n : Kind = kind_named number height nonce in
      either Numbers (eqb (height_in n) height && same (nonce_in n) nonce) (λ e. named_numbers h l o) tt

pub plain_again : (p : Plain) → 0 < kind_number (statement_of p).kind → plain_of (statement_of p) ≡ p
unfolding plain_of statement_of
plain_again p h =
    let f : Found p.kind p.height p.nonce (kind_of p.kind p.height p.nonce) = found p.kind p.height p.nonce h in
    rw (f.its_number, f.its_height, f.its_nonce)

pub typed_shaped : (p : Plain) → Typed p → Shaped (statement_of p)
unfolding statement_of
typed_shaped p t = record { arrays = t.arrays; numbers = found_numbers p.kind p.height p.nonce t.height t.nonce t.octets }
