use Rattle.std.proofs.Common.{◌≡◌, ℕ, ◌+◌, ◌*◌, ◌/◌, List, length, ap, arith, length-set}
use Rattle.hash.specs.Family.{word_bytes, length_bytes}
use Rattle.hash.specs.Sha256.{sha_256}
use Rattle.hash.proofs.Padded.{ended, ended_stored}
use Rattle.hash.proofs.ending.ending.Goals as goal

pub put_word-requires : goal.put_word-requires
put_word-requires c = simp length-set (omega (arith, c.copy_at.auto.dst, c.ending_chunks.ensures))

pub returns : goal.returns
unfolding ended word_bytes length_bytes sha_256
returns c =
    let a = c.args in
    let l : List ℕ = a.left.now in
    let e : 64 * c.ending_chunks.result ≡ 64 * ((length l + 72) / 64) = ap (λ (k : ℕ). 64 * k) c.ending_chunks.ensures in
    cc (ended_stored l a.total (64 * c.ending_chunks.result) c.requires.0 c.requires.1 e)
