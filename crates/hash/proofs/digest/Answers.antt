use Rattle.std.proofs.Common.{◌≡◌, ℕ, ◌+◌, ◌-◌, ◌*◌, ◌/◌, ◌%◌, List, length, take, drop, sym, refl, ap, ap₂, ◌∙◌, le_refl, arith, length-drop, length-take, take_all, take-take}
use Rattle.hash.specs.Family.{word_bytes, length_bytes}
use Rattle.hash.specs.Digest.{absorbed, joined}
use Rattle.hash.specs.Sha256.{initial_value, sha_256}
use Rattle.hash.proofs.Padded.{ended}
use Rattle.hash.proofs.Digests.{digest_by}
use Rattle.hash.proofs.digest.Goals as goal

pub returns : goal.returns
unfolding ended word_bytes length_bytes initial_value sha_256
returns c =
    let m : List ℕ = c.args.message.now in
    let q : ℕ = length m / 64 in
    let e = c.ending-last in
    let k = c.ending_chunks-chunks in
    let l : List ℕ = e.result in
    let rest : length (drop (64 * q) m) ≡ length m % 64 = simp length-drop (omega arith) in
    let all : take (length m - 64 * q) (drop (64 * q) m) ≡ drop (64 * q) m = take_all (length m - 64 * q) (drop (64 * q) m) (omega (arith, rest)) in
    let given : take (64 * k.result) l ≡ ended sha_256 (drop (64 * q) m) (length m) =
    ap (λ (i : ℕ). take (64 * i) l) (k.ensures ∙ ap (λ (i : ℕ). (i + 72) / 64) (sym (ap length all ∙ rest)))
    ∙ e.ensures ∙ ap (λ (z : List ℕ). ended sha_256 z (length m)) all in
    let t : List ℕ = take (64 * k.result) l in
    let chunks : length t / 64 ≡ k.result = omega (arith, length-take (64 * k.result) l) in
    c.joined_words.ensures
    ∙ ap (λ (h : List ℕ). joined 4 h 8) (c.absorb.ensures ∙ ap₂ (λ (h : List ℕ) (i : ℕ). absorbed sha_256 h t i) c.absorb-h.ensures chunks)
    ∙ digest_by m t q k.result refl k.ensures (take-take (64 * k.result) (64 * k.result) l (le_refl (64 * k.result)) ∙ given)
