-- The digests of the worked history, each computed once by the checker. Assumes nothing.
use mathlib.Core.Path.{◌≡◌, refl}
use mathlib.Core.List.{List, ◌∷◌}
use Prim.Native.Nat.{ℕ}
use Rattle.octets.specs.Numbers.{number_of, bytes_of}
use Rattle.hash.specs.Words.{complement, plus, shl, shr, rotr}
use Rattle.hash.specs.Functions.{Ch, Maj, upper_sigma, lower_sigma}
use Rattle.hash.specs.Family.{word_bytes, chunk_bytes, length_bytes}
use Rattle.hash.specs.Padding.{gap, padded, words, chunk}
use Rattle.hash.specs.Schedule.{next_word, grown, schedule}
use Rattle.hash.specs.Rounds.{initial, T₁, T₂, shifted, round, rounds, summed, compressed}
use Rattle.hash.specs.Digest.{absorbed, joined, digest}
use Rattle.hash.specs.Sha256.{constants, initial_value, sha_256, sha256}
use Rattle.rack.specs.Racks.{rack_digest}
use Rattle.rows.specs.Digests.{appended}
use Rattle.statement.specs.Cut.{no_digest}
use Rattle.worked.proofs.Strings.{rack_A, rack_B, entry, new_tail, young_row, grown_row, digest_A, digest_B, young_digest, grown_digest}

-- opens, with its own name, all that a digest is worked out by
unfoldable shown : List ℕ → List ℕ
unfolding number_of bytes_of complement plus shl shr rotr Ch Maj upper_sigma lower_sigma word_bytes chunk_bytes length_bytes
    gap padded words chunk next_word grown schedule initial T₁ T₂ shifted round rounds summed compressed absorbed joined digest
    constants initial_value sha_256 sha256
shown m = sha256 m

pub hash_A : sha256 (3 ∷ rack_A) ≡ digest_A
unfolding shown rack_A digest_A
hash_A = refl

pub hash_B : sha256 (3 ∷ rack_B) ≡ digest_B
unfolding shown rack_B digest_B
hash_B = refl

pub hash_young : sha256 (2 ∷ 1 ∷ young_row) ≡ young_digest
unfolding shown young_row young_digest
hash_young = refl

pub hash_grown : sha256 (2 ∷ 1 ∷ grown_row) ≡ grown_digest
unfolding shown grown_row new_tail grown_digest
hash_grown = refl

-- the tail after the entry
pub tail_grows : appended no_digest entry ≡ new_tail
unfolding shown appended new_tail
tail_grows = refl

-- the racks' digests
pub digest_of_A : rack_digest rack_A ≡ digest_A
unfolding rack_digest
digest_of_A = hash_A

pub digest_of_B : rack_digest rack_B ≡ digest_B
unfolding rack_digest
digest_of_B = hash_B
