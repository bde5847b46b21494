-- The strings that statements are written as, and the fields in them. Assumes nothing.
use mathlib.Core.Path.{◌≡◌, refl, sym, ap, ◌∙◌}
use mathlib.Core.List.{List, [], ◌∷◌, ◌++◌, append_assoc, append-nil}
use Prim.Native.Nat.{ℕ, ◌+◌, ◌<◌, ◌^◌}
use native.Mathlib.Omega.{arith}
use lib.ListN.{length, get_or, drop, length-append}
use Rattle.octets.specs.Numbers.{number_of, bytes_of}
use Rattle.octets.proofs.Numbers.{bytes_length}
use Rattle.octets.proofs.Exact.{number_bytes as exact}
use Rattle.statement.specs.declared.Kind.{Kind}
use Rattle.statement.specs.declared.Statement.{Statement}
use Rattle.statement.specs.Kinds.{handover_size, digest_bytes, label_bytes, number_bytes, identity_place, first_place, second_place, third_place, label_place, tail_place, height_place, digest_at, number_at}
use Rattle.statement.specs.Cut.{no_digest, no_label, receipt_at, handover_at}
use Rattle.statement.specs.Shape.{Arrays}
use Rattle.statement.proofs.Fields.{here, behind}
use Rattle.statement.proofs.Records.{same_fields}

module _ (v : Statement) (a : Arrays v) (n : ℕ) where
  module _ (z : List ℕ) where
    -- the string of a new, append or read statement, and where its fields stand
    pub receipt_word : List ℕ
    receipt_word = n ∷ (v.identity ++ (v.own ++ (v.label ++ (v.tail ++ z))))

    own_on : drop first_place receipt_word ≡ v.own ++ (v.label ++ (v.tail ++ z))
    unfolding receipt_word
    own_on = behind receipt_word v.identity (v.own ++ (v.label ++ (v.tail ++ z))) identity_place digest_bytes refl a.identity

    label_on : drop label_place receipt_word ≡ v.label ++ (v.tail ++ z)
    label_on = behind receipt_word v.own (v.label ++ (v.tail ++ z)) first_place digest_bytes own_on a.own

    tail_on : drop tail_place receipt_word ≡ v.tail ++ z
    tail_on = behind receipt_word v.label (v.tail ++ z) label_place label_bytes label_on a.label

    pub height_on : drop height_place receipt_word ≡ z
    height_on = behind receipt_word v.tail z tail_place digest_bytes tail_on a.tail

    pub receipt_flat : n ∷ v.identity ++ (v.own ++ v.label ++ v.tail ++ z) ≡ receipt_word
    unfolding receipt_word
    receipt_flat = simp append_assoc

    pub receipt_first : get_or receipt_word 0 0 ≡ n
    unfolding receipt_word
    receipt_first = refl

    pub receipt_length : length receipt_word ≡ height_place + length z
    unfolding receipt_word
    receipt_length = simp length-append (omega (arith, a.identity, a.own, a.label, a.tail))

    receipt_identity : digest_at identity_place receipt_word ≡ v.identity
    unfolding receipt_word
    receipt_identity = here receipt_word v.identity (v.own ++ (v.label ++ (v.tail ++ z))) identity_place digest_bytes refl a.identity

    pub receipt_cut : (k : Kind) → v.kind ≡ k → v.other ≡ no_digest → v.roll ≡ no_digest → receipt_at k receipt_word ≡ v
    unfolding receipt_at
    receipt_cut k e x r =
        same_fields (receipt_at k receipt_word) v (sym e)
        receipt_identity
        (here receipt_word v.own (v.label ++ (v.tail ++ z)) first_place digest_bytes own_on a.own)
        (here receipt_word v.label (v.tail ++ z) label_place label_bytes label_on a.label)
        (here receipt_word v.tail z tail_place digest_bytes tail_on a.tail)
        (sym x) (sym r)

  module _ (p q : List ℕ) (lp : length p ≡ digest_bytes) (lq : length q ≡ digest_bytes) where
    -- the string of a finalise or initialise statement, and where its fields stand
    pub handover_word : List ℕ
    handover_word = n ∷ (v.identity ++ (p ++ (q ++ v.roll)))

    pub handover_flat : n ∷ v.identity ++ (p ++ q ++ v.roll) ≡ handover_word
    unfolding handover_word
    handover_flat = simp append_assoc

    pub handover_begins : get_or handover_word 0 0 ≡ n
    unfolding handover_word
    handover_begins = refl

    pub handover_length : length handover_word ≡ handover_size
    unfolding handover_word
    handover_length = simp length-append (omega (arith, a.identity, a.roll))

    first_on : drop first_place handover_word ≡ p ++ (q ++ v.roll)
    unfolding handover_word
    first_on = behind handover_word v.identity (p ++ (q ++ v.roll)) identity_place digest_bytes refl a.identity

    second_on : drop second_place handover_word ≡ q ++ v.roll
    second_on = behind handover_word p (q ++ v.roll) first_place digest_bytes first_on lp

    third_on : drop third_place handover_word ≡ v.roll ++ []
    third_on = behind handover_word q v.roll second_place digest_bytes second_on lq ∙ sym (append-nil v.roll)

    handover_identity : digest_at identity_place handover_word ≡ v.identity
    unfolding handover_word
    handover_identity = here handover_word v.identity (p ++ (q ++ v.roll)) identity_place digest_bytes refl a.identity

    pub handover_first : digest_at first_place handover_word ≡ p
    handover_first = here handover_word p (q ++ v.roll) first_place digest_bytes first_on lp

    pub handover_second : digest_at second_place handover_word ≡ q
    handover_second = here handover_word q v.roll second_place digest_bytes second_on lq

    handover_third : digest_at third_place handover_word ≡ v.roll
    handover_third = here handover_word v.roll [] third_place digest_bytes third_on a.roll

    pub handover_cut :
        (k : Kind) (x y : ℕ) → v.kind ≡ k → digest_at x handover_word ≡ v.own → digest_at y handover_word ≡ v.other → v.label ≡ no_label
        → v.tail ≡ no_digest → handover_at k x y handover_word ≡ v
    unfolding handover_at
    handover_cut k x y e o t l z =
        same_fields (handover_at k x y handover_word) v (sym e) handover_identity o (sym l) (sym z) t handover_third

-- a number's field, with more behind it and at the end
pub number_in : (w z : List ℕ) (i x : ℕ) → drop i w ≡ bytes_of number_bytes x ++ z → x < 2 ^ 64 → number_at i w ≡ x
number_in w z i x e h = ap number_of (here w (bytes_of number_bytes x) z i number_bytes e (bytes_length number_bytes x)) ∙ exact number_bytes x h

pub last_in : (w : List ℕ) (i x : ℕ) → drop i w ≡ bytes_of number_bytes x → x < 2 ^ 64 → number_at i w ≡ x
last_in w i x e h = number_in w [] i x (e ∙ sym (append-nil (bytes_of number_bytes x))) h
