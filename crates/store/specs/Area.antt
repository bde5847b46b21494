-- The area of the store. 02, M-104: "It lies in a lent area of up to 128 blocks of 512 bytes".
use Rattle.std.specs.Bool.{then_some}
use Rattle.std.specs.Prelude.{Bool, Option, cond, ◌&&◌, List, ℕ, zero, suc, ◌/◌, ◌%◌, length, replicate, eqb, leb, ltb}
use Rattle.octets.specs.Strings.{same}
use Rattle.rows.specs.Sizes.{tail_bytes}
use Rattle.checks.specs.Check.{block_bytes}
unfoldable pub use Rattle.checks.specs.Check.{block_at}
use Rattle.cabinet.specs.Block.{label_in, height_in, tail_in, unused, damaged}
use Rattle.store.specs.declared.Newest.{Newest}

abbrev pub most_blocks : ℕ
most_blocks = 128

-- the blocks of an area
unfoldable pub blocks : List ℕ → ℕ
blocks area = length area / block_bytes

-- "whole blocks up to 128"
unfoldable pub area_right : List ℕ → Bool
area_right area = eqb (length area % block_bytes) 0 && leb (blocks area) most_blocks

-- the first number below n of which a test holds; n where it holds of none
unfoldable pub first_place : (ℕ → Bool) → ℕ → ℕ
first_place test zero = 0
first_place test (suc n) = cond (ltb (first_place test n) n) (first_place test n) (cond (test n) n (suc n))

-- a place among n, where it is one
abbrev pub among : ℕ → ℕ → Option ℕ
among n i = then_some (ltb i n) i

-- "the first unused block"
unfoldable pub first_unused : List ℕ → ℕ → ℕ
first_unused area n = first_place (λ i. unused (block_at area i)) n

unfoldable pub first_damaged : List ℕ → ℕ → ℕ
first_damaged area n = first_place (λ i. damaged (block_at area i)) n

-- "holds a damaged one"
unfoldable pub holds_damaged : List ℕ → Bool
holds_damaged area = ltb (first_damaged area (blocks area)) (blocks area)

-- "the label's first block of greatest height": its height and its tail
unfoldable pub newer : List ℕ → Newest → List ℕ → Newest
newer label found b =
    cond (ltb found.height (height_in b) && same (label_in b) label) (record { height = height_in b; tail = tail_in b }) found

-- among the first n blocks; height 0 and the zero tail "for a label it hasn't got"
unfoldable pub newest : List ℕ → List ℕ → ℕ → Newest
newest area label zero = record { height = 0; tail = replicate tail_bytes 0 }
newest area label (suc n) = newer label (newest area label n) (block_at area n)
