-- A made block: what stands in each of its parts, and that it is sound. Assumes nothing.
use mathlib.Core.Path.{◌≡◌, refl, sym, ap, ap₂, ◌∙◌}
use mathlib.Core.Bool.{true, false, not, ◌&&◌}
use mathlib.Core.List.{List, ◌++◌, append_assoc}
use Prim.Native.Nat.{ℕ, ◌+◌, ◌-◌, ◌≤◌, ◌<◌}
use native.Mathlib.Nat.{zero-add}
use native.Mathlib.Omega.{arith}
use borrow.Author.Tests.{le-leb, leb-true, not-true}
use lib.ListN.{length, take, drop, replicate, length-append, length-replicate}
use lib.Seq.{take_at, drop_at, drop-drop, take-append-add}
use lib.Dec.{leb}
use Rattle.octets.specs.Numbers.{number_of, bytes_of}
use Rattle.octets.specs.Strings.{all_zero, same, put}
use Rattle.octets.proofs.Exact.{number_bytes}
use Rattle.octets.proofs.Numbers.{bytes_length}
use Rattle.octets.proofs.Parts.{take-replicate, drop-replicate}
use Rattle.octets.proofs.Puts.{put-put, put-length}
use Rattle.octets.proofs.RoundTrips.{and_left, and_right, same_refl}
use Rattle.octets.proofs.Zeros.{zeros_are}
use Rattle.hash.specs.Sha256.{sha256}
use Rattle.rows.specs.Sizes.{top_height}
use Rattle.checks.specs.Check.{block_bytes, checked_bytes, check, checked, check_right}
use Rattle.checks.proofs.Checks.{checked-length, checked_front, checked_back, check-put}
use Rattle.cabinet.specs.Block.{most_text, label_in, height_in, digest_in, tail_in, length_in, text_in, rest_in, layout_right, digest_right, sound, block_of}

module _ (label : List ℕ) (height : ℕ) (digest tail text : List ℕ) where
  body : List ℕ
  body = label ++ bytes_of 8 height ++ digest ++ tail ++ bytes_of 2 (length text) ++ text ++ replicate (418 - length text) 0

  block : List ℕ
  block = block_of label height digest tail text

  -- what is behind the text, the text length, the tail, the digest, the height
  rest₅ : List ℕ
  rest₅ = replicate (418 - length text) 0 ++ check body

  rest₄ : List ℕ
  rest₄ = text ++ rest₅

  rest₃ : List ℕ
  rest₃ = bytes_of 2 (length text) ++ rest₄

  rest₂ : List ℕ
  rest₂ = tail ++ rest₃

  rest₁ : List ℕ
  rest₁ = digest ++ rest₂

  parted : block ≡ label ++ (bytes_of 8 height ++ rest₁)
  unfolding block_of checked body block rest₁ rest₂ rest₃ rest₄ rest₅
  parted = simp append_assoc

  module _ (l : length label ≡ 16) (d : length digest ≡ 32) (t : length tail ≡ 32) where
    at_16 : drop 16 block ≡ bytes_of 8 height ++ rest₁
    at_16 = ap (drop 16) parted ∙ drop_at label (bytes_of 8 height ++ rest₁) 16 l

    at_24 : drop 24 block ≡ rest₁
    at_24 = sym (drop-drop 8 16 block) ∙ ap (drop 8) at_16 ∙ drop_at (bytes_of 8 height) rest₁ 8 (bytes_length 8 height)

    at_56 : drop 56 block ≡ rest₂
    unfolding rest₁
    at_56 = sym (drop-drop 32 24 block) ∙ ap (drop 32) at_24 ∙ drop_at digest rest₂ 32 d

    at_88 : drop 88 block ≡ rest₃
    unfolding rest₂
    at_88 = sym (drop-drop 32 56 block) ∙ ap (drop 32) at_56 ∙ drop_at tail rest₃ 32 t

    at_90 : drop 90 block ≡ rest₄
    unfolding rest₃
    at_90 = sym (drop-drop 2 88 block) ∙ ap (drop 2) at_88 ∙ drop_at (bytes_of 2 (length text)) rest₄ 2 (bytes_length 2 (length text))

    pub label_made : label_in (block_of label height digest tail text) ≡ label
    unfolding label_in block
    label_made = ap (take 16) parted ∙ take_at label (bytes_of 8 height ++ rest₁) 16 l

    pub height_made : height < 18446744073709551616 → height_in (block_of label height digest tail text) ≡ height
    unfolding height_in block
    height_made h =
        ap (λ (s : List ℕ). number_of (take 8 s)) at_16 ∙ ap number_of (take_at (bytes_of 8 height) rest₁ 8 (bytes_length 8 height)) ∙ number_bytes 8 height h

    pub digest_made : digest_in (block_of label height digest tail text) ≡ digest
    unfolding digest_in block rest₁
    digest_made = ap (take 32) at_24 ∙ take_at digest rest₂ 32 d

    pub tail_made : tail_in (block_of label height digest tail text) ≡ tail
    unfolding tail_in block rest₂
    tail_made = ap (take 32) at_56 ∙ take_at tail rest₃ 32 t

    module _ (m : length text ≤ most_text) where
      pub length_made : length_in (block_of label height digest tail text) ≡ length text
      unfolding length_in block rest₃
      length_made =
          ap (λ (s : List ℕ). number_of (take 2 s)) at_88 ∙ ap number_of (take_at (bytes_of 2 (length text)) rest₄ 2 (bytes_length 2 (length text)))
          ∙ number_bytes 2 (length text) (omega arith)

      pub text_made : text_in (block_of label height digest tail text) ≡ text
      unfolding text_in block rest₄
      text_made = ap₂ (λ (n : ℕ) (s : List ℕ). take n s) length_made at_90 ∙ take_at text rest₅ (length text) refl

      zeros_made : rest_in (block_of label height digest tail text) ≡ replicate (418 - length text) 0
      unfolding rest_in block rest₄ rest₅
      zeros_made =
          ap (λ (n : ℕ). take (418 - n) (drop (90 + n) block)) length_made
          ∙ ap (take (418 - length text))
          (sym (drop-drop (length text) 90 block) ∙ ap (drop (length text)) at_90 ∙ drop_at text rest₅ (length text) refl)
          ∙ take_at (replicate (418 - length text) 0) (check body) (418 - length text) (length-replicate (418 - length text) 0)

      body-length : length body ≡ checked_bytes
      unfolding body
      body-length = simp (length-append, length-replicate, bytes_length) (omega arith)

      pub block_length : length (block_of label height digest tail text) ≡ block_bytes
      unfolding block_of body
      block_length = checked-length body body-length

      check_made : check_right (block_of label height digest tail text) ≡ true
      unfolding check_right block_of body
      check_made =
          ap₂ (λ (x y : List ℕ). same (check x) y) (checked_front body checked_bytes body-length) (checked_back body checked_bytes body-length)
          ∙ same_refl (check body)

      layout_made : all_zero label ≡ false → 1 ≤ height → height ≤ top_height → layout_right (block_of label height digest tail text) ≡ true
      unfolding layout_right
      layout_made z low high =
          rw (
            label_made,
            z,
            height_made (omega arith),
            le-leb 1 height low,
            le-leb height top_height high,
            length_made,
            le-leb (length text) most_text m,
            zeros_made,
          )
          (zeros_are (418 - length text))

      pub sound_made :
          all_zero label ≡ false → 1 ≤ height → height ≤ top_height → digest ≡ sha256 text
          → sound (block_of label height digest tail text) ≡ true
      unfolding sound digest_right
      sound_made z low high e = rw (layout_made z low high, check_made, text_made, digest_made, e) (same_refl (sha256 text))

pub laid_length : (b : List ℕ) → layout_right b ≡ true → length_in b ≤ most_text
unfolding layout_right
laid_length b h =
    leb-true (length_in b) most_text
    (and_left (leb (length_in b) most_text) _
    (and_right (leb (height_in b) top_height) _ (and_right (leb 1 (height_in b)) _ (and_right (not (all_zero (label_in b))) _ h))))

-- what a sound block has
module _ (b : List ℕ) (h : sound b ≡ true) where
  laid : layout_right b ≡ true
  unfolding sound
  laid = and_left (layout_right b) (check_right b && digest_right b) h

  pub sound_label : all_zero (label_in b) ≡ false
  unfolding layout_right
  sound_label = not-true (all_zero (label_in b)) (and_left (not (all_zero (label_in b))) _ laid)

  pub sound_height : height_in b ≤ top_height
  unfolding layout_right
  sound_height =
      leb-true (height_in b) top_height
      (and_left (leb (height_in b) top_height) _ (and_right (leb 1 (height_in b)) _ (and_right (not (all_zero (label_in b))) _ laid)))

  pub sound_length : length_in b ≤ most_text
  sound_length = laid_length b laid

-- the parts put one behind the other into a buffer
pub parts_put :
    (d label number digest tail size text : List ℕ) → length label ≡ 16 → length number ≡ 8 → length digest ≡ 32 → length tail ≡ 32 → length size ≡ 2
    → 90 + length text ≤ length d
    → put (put (put (put (put (put d 0 label) 16 number) 24 digest) 56 tail) 88 size) 90 text
    ≡ put d 0 (label ++ number ++ digest ++ tail ++ size ++ text)
parts_put d a b c e f g la lb lc le lf lg =
    let p = length-append a b in
    let q = length-append (a ++ b) c in
    let r = length-append (a ++ b ++ c) e in
    let s = length-append (a ++ b ++ c ++ e) f in
    ap (λ (x : List ℕ). put (put (put (put x 24 c) 56 e) 88 f) 90 g) (put-put d 0 a b 16 (omega arith) (omega arith))
    ∙ ap (λ (x : List ℕ). put (put (put x 56 e) 88 f) 90 g) (put-put d 0 (a ++ b) c 24 (omega arith) (omega arith))
    ∙ ap (λ (x : List ℕ). put (put x 88 f) 90 g) (put-put d 0 (a ++ b ++ c) e 56 (omega arith) (omega arith))
    ∙ ap (λ (x : List ℕ). put x 90 g) (put-put d 0 (a ++ b ++ c ++ e) f 88 (omega arith) (omega arith))
    ∙ put-put d 0 (a ++ b ++ c ++ e ++ f) g 90 (omega arith) (omega arith)

-- the front of a buffer of zeros after a string was put there
pub front_zeros : (n m : ℕ) (s : List ℕ) → length s ≤ m → m ≤ n → take m (put (replicate n 0) 0 s) ≡ s ++ replicate (m - length s) 0
unfolding put
front_zeros n m s h k =
    let u : n ≡ length s + (n - length s) = omega arith in
    let v : m ≡ length s + (m - length s) = omega arith in
    let rest : drop {A = ℕ} (0 + length s) (replicate n 0) ≡ replicate (n - length s) 0 =
    ap (λ (j : ℕ). drop {A = ℕ} j (replicate n 0)) (zero-add (length s)) ∙ ap (λ (j : ℕ). drop {A = ℕ} (length s) (replicate j 0)) u
    ∙ drop-replicate (length s) (n - length s) 0 in
    ap (λ (r : List ℕ). take m (s ++ r)) rest ∙ ap (λ (j : ℕ). take j (s ++ replicate (n - length s) 0)) v
    ∙ take-append-add s (replicate (n - length s) 0) (m - length s)
    ∙ ap (λ (r : List ℕ). s ++ r) (take-replicate (m - length s) (n - length s) 0 (omega arith))

-- the parts put into a buffer of zeros, and the check behind them
pub block_built :
    (n : ℕ) (label : List ℕ) (height : ℕ) (digest tail text d : List ℕ) → n ≡ block_bytes → length label ≡ 16 → length digest ≡ 32 → length tail ≡ 32
    → length text ≤ most_text
    → d
    ≡ put (put (put (put (put (put (replicate n 0) 0 label) 16 (bytes_of 8 height)) 24 digest) 56 tail) 88 (bytes_of 2 (length text))) 90 text
    → put d checked_bytes (check (take checked_bytes d)) ≡ block_of label height digest tail text
unfolding block_of
block_built n label height digest tail text d w l g t m e =
    let size : List ℕ = bytes_of 2 (length text) in
    let s : List ℕ = label ++ bytes_of 8 height ++ digest ++ tail ++ size ++ text in
    let lb = bytes_length 8 height in
    let ls = bytes_length 2 (length text) in
    let long : length s ≡ 90 + length text = simp (length-append, bytes_length) (omega arith) in
    let room : length (replicate {A = ℕ} n 0) ≡ n = length-replicate n 0 in
    let whole : d ≡ put (replicate n 0) 0 s =
    e ∙ parts_put (replicate n 0) label (bytes_of 8 height) digest tail size text l lb g t ls (omega arith) in
    let count : length d ≡ block_bytes = ap length whole ∙ put-length (replicate n 0) 0 s (omega arith) ∙ room ∙ w in
    let left : checked_bytes - length s ≡ most_text - length text = omega arith in
    check-put d count
    ∙ ap (λ (x : List ℕ). checked (take checked_bytes x)) whole
    ∙ ap checked (front_zeros n checked_bytes s (omega arith) (omega arith) ∙ ap (λ (k : ℕ). s ++ replicate k 0) left)
