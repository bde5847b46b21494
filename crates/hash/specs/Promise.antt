-- The whole outcome of the library's call. 01, "The hash": "The rules are those of FIPS 180-4, for inputs of 0 to 65,536 bytes; a longer one is refused
-- with 25."
use Rattle.std.specs.Prelude.{ℕ, Bool, true, false, List, length, nat_le}
use Rattle.refusals.specs.{accepted, input_too_long}
use Rattle.hash.specs.Sha256.{sha256}

-- the bytes of the longest input
abbrev pub longest : ℕ
longest = 65536

-- an answer, and the digest area as the call leaves it
pub record Outcome : Type 0 where
  pub answer : ℕ
  pub area : List ℕ

abbrev pub either : Bool → Outcome → Outcome → Outcome
either true p q = p
either false p q = q

-- "A refusal returns its number and changes nothing lent."
unfoldable pub hashing : List ℕ → List ℕ → Outcome
hashing message area =
    either (nat_le (length message) longest) (record { answer = accepted; area = sha256 message }) (record { answer = input_too_long; area = area })
