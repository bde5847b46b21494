-- What callers take from the promise: which inputs are hashed and which refused, that it leaves no choice, and that a digest is 32 bytes. Assumes nothing.
use Rattle.std.proofs.Common.{◌≡◌, ℕ, zero, suc, ◌/◌, ◌<◌, ◌≤◌, List, length, get_or, sym, ◌∙◌, arith, lit<, length-take, le-leb}
use borrow.Author.Tests.{lt-leb}
use Rattle.refusals.specs.{accepted, input_too_long}
use Rattle.octets.specs.Numbers.{bytes_of}
use Rattle.octets.proofs.Exact.{Octets, octets_take}
use Rattle.octets.proofs.Bytes.{octets_append, octets_number}
use Rattle.hash.specs.Family.{Family, word_bytes, chunk_bytes}
use Rattle.hash.specs.Padding.{padded}
use Rattle.hash.specs.Digest.{absorbed, joined, digest}
use Rattle.hash.specs.Sha256.{sha_256, sha256}
use Rattle.hash.specs.Promise.{longest, Outcome, hashing}
use Rattle.hash.proofs.Stored.{joined_length}

-- two outcomes that the contract allows for one message and one area are equal
pub one_outcome : (m area : List ℕ) (x y : Outcome) → x ≡ hashing m area → y ≡ hashing m area → x ≡ y
one_outcome m area x y p q = p ∙ sym q

pub hashed : (m area : List ℕ) → length m ≤ longest → hashing m area ≡ record { answer = accepted; area = sha256 m }
unfolding hashing
hashed m area h = rw (le-leb (length m) longest h)

pub refused : (m area : List ℕ) → longest < length m → hashing m area ≡ record { answer = input_too_long; area = area }
unfolding hashing
refused m area h = rw (lt-leb (length m) longest h)

pub sha256-length : (m : List ℕ) → length (sha256 m) ≡ 32
unfolding word_bytes digest sha_256 sha256
sha256-length m = simp (length-take, joined_length) (omega arith)

joined_octets : (k : ℕ) (H : List ℕ) (n : ℕ) → Octets (joined k H n)
unfolding joined
joined_octets k H zero = λ i. lit< tt
joined_octets k H (suc n) = octets_append (joined k H n) (bytes_of k (get_or H n 0)) (joined_octets k H n) (octets_number k (get_or H n 0))

digest_octets : (F : Family) (m : List ℕ) → Octets (digest F m)
unfolding digest
digest_octets F m =
    let H : List ℕ = absorbed F F.H (padded F m) (length (padded F m) / chunk_bytes F) in
    octets_take F.size (joined (word_bytes F) H 8) (joined_octets (word_bytes F) H 8)

pub sha256_octets : (m : List ℕ) → Octets (sha256 m)
unfolding sha256
sha256_octets m = digest_octets sha_256 m
