-- A statement put into an area part by part. Assumes nothing.
use mathlib.Core.Path.{◌≡◌, refl, sym, ap, ◌∙◌, subst}
use mathlib.Core.List.{List, [], ◌∷◌, ◌++◌}
use Prim.Native.Nat.{ℕ, ◌+◌, ◌≤◌}
use native.Mathlib.Omega.{arith}
use lib.ListN.{length, set, length-append}
use Rattle.octets.specs.Numbers.{bytes_of}
use Rattle.octets.specs.Strings.{put}
use Rattle.octets.proofs.Numbers.{bytes_length}
use Rattle.octets.proofs.Puts.{put-put}
use Rattle.statement.specs.declared.Kind.{Kind}
use Rattle.statement.specs.declared.Kind.TheVariants.{Read}
use Rattle.statement.specs.declared.Statement.{Statement}
use Rattle.statement.specs.Kinds.{receipt_size, reading_size, digest_bytes, number_bytes, identity_place, first_place, height_place, nonce_place, nonce_half}
use Rattle.statement.specs.Contents.{receipt, body}
use Rattle.statement.specs.Shape.{Arrays}
use Rattle.statement.proofs.Fields.{set-put}

module _ (v : Statement) (a : Arrays v) where
  -- what follows the identity ends where its kind does
  pub receipt_end : (x : ℕ) → first_place + length (receipt v x) ≡ receipt_size
  unfolding receipt
  receipt_end x = simp length-append (omega (arith, a.own, a.label, a.tail, bytes_length number_bytes x))

  pub read_end : (x y z : ℕ) → first_place + length (body v (Read x y z)) ≡ reading_size
  unfolding body
  read_end x y z = simp length-append (omega (arith, receipt_end x, bytes_length number_bytes y, bytes_length number_bytes z))

  -- three fields, then the height
  pub receipt_puts :
      (d : List ℕ) (x : ℕ) → first_place + length (receipt v x) ≤ length d
      → put (put d first_place (v.own ++ v.label ++ v.tail)) height_place (bytes_of number_bytes x) ≡ put d first_place (receipt v x)
  unfolding receipt
  receipt_puts d x h =
      let l : first_place + length (v.own ++ v.label ++ v.tail) ≡ height_place = simp length-append (omega (arith, a.own, a.label, a.tail)) in
      put-put d first_place (v.own ++ v.label ++ v.tail) (bytes_of number_bytes x) height_place (sym l) (omega (arith, receipt_end x, bytes_length number_bytes x))

  -- a receipt, then the nonce
  pub read_puts :
      (d : List ℕ) (x y z : ℕ) → first_place + length (body v (Read x y z)) ≤ length d
      → put (put (put d first_place (receipt v x)) nonce_place (bytes_of number_bytes y)) nonce_half (bytes_of number_bytes z)
      ≡ put d first_place (body v (Read x y z))
  unfolding body
  read_puts d x y z h =
      let l : first_place + length (receipt v x ++ bytes_of number_bytes y) ≡ nonce_half = simp length-append (omega (arith, receipt_end x, bytes_length number_bytes y)) in
      let m : reading_size ≤ length d = omega (arith, read_end x y z) in
      ap (λ (s : List ℕ). put s nonce_half (bytes_of number_bytes z))
      (put-put d first_place (receipt v x) (bytes_of number_bytes y) nonce_place (sym (receipt_end x)) (omega (arith, receipt_end x, bytes_length number_bytes y)))
      ∙ put-put d first_place (receipt v x ++ bytes_of number_bytes y) (bytes_of number_bytes z) nonce_half (sym l) (omega (arith, bytes_length number_bytes z))

-- the first byte, the identity, and what follows them
pub statement_puts :
    (d : List ℕ) (k : ℕ) (i b : List ℕ) → length i ≡ digest_bytes → length (k ∷ i ++ b) ≤ length d
    → put (put (set d 0 k) identity_place i) first_place b ≡ put d 0 (k ∷ i ++ b)
statement_puts d k i b l h =
    let m : first_place + length b ≤ length d = omega (arith, length-append (k ∷ i) b) in
    ap (λ (s : List ℕ). put (put s identity_place i) first_place b) (set-put d 0 k (omega arith))
    ∙ ap (λ (s : List ℕ). put s first_place b) (put-put d 0 (k ∷ []) i identity_place refl (omega arith))
    ∙ put-put d 0 (k ∷ i) b first_place (omega arith) (omega arith)

-- what follows the identity, where the kind is known
module _ (v : Statement) (d : List ℕ) (k : Kind) (e : v.kind ≡ k) where
  pub body_fits : first_place + length (body v v.kind) ≤ length d → first_place + length (body v k) ≤ length d
  body_fits h = subst (λ (j : Kind). first_place + length (body v j) ≤ length d) e h

  pub body-put : {r : List ℕ} → r ≡ put d first_place (body v k) → r ≡ put d first_place (body v v.kind)
  body-put h = h ∙ ap (λ (j : Kind). put d first_place (body v j)) (sym e)
