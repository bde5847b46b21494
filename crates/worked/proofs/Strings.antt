-- The strings of the worked history: keys, two racks of three, a ledger's label and an entry, the ledger's row, table and roll before and after that
-- entry, and the digests of all these. Assumes nothing.
use mathlib.Core.List.{List, [], ◌∷◌, ◌++◌}
use Prim.Native.Nat.{ℕ}
use lib.ListN.{get_or, replicate}
use Rattle.hash.specs.Sha256.{sha256}

abbrev pub key : ℕ → List ℕ
key n = replicate 32 n

unfoldable pub rack_A : List ℕ
rack_A = 3 ∷ key 1 ++ key 2 ++ key 3

unfoldable pub rack_B : List ℕ
rack_B = 3 ∷ key 4 ++ key 5 ++ key 6

abbrev pub ledger : List ℕ
ledger = replicate 16 1

abbrev pub entry : List ℕ
entry = replicate 32 9

abbrev pub nonce : List ℕ
nonce = replicate 16 7

-- the digests of the racks
unfoldable pub digest_A : List ℕ
digest_A =
    0x08 ∷ 0x84 ∷ 0xcd ∷ 0x4c ∷ 0xad ∷ 0x94 ∷ 0x25 ∷ 0xa7 ∷ 0x07 ∷ 0xff ∷ 0x5d ∷ 0xcd ∷ 0xa6 ∷ 0xcb ∷ 0x8d ∷ 0x5d
    ∷ 0x4d ∷ 0x87 ∷ 0xd4 ∷ 0xd1 ∷ 0xd2 ∷ 0x6d ∷ 0x84 ∷ 0x1b ∷ 0x74 ∷ 0xfc ∷ 0x91 ∷ 0x4e ∷ 0x22 ∷ 0xb6 ∷ 0xd7 ∷ 0xa2 ∷ []

unfoldable pub digest_B : List ℕ
digest_B =
    0xf5 ∷ 0x8f ∷ 0x24 ∷ 0xd8 ∷ 0x3e ∷ 0xda ∷ 0x98 ∷ 0x2d ∷ 0x4f ∷ 0x50 ∷ 0xa3 ∷ 0x0d ∷ 0x17 ∷ 0xb9 ∷ 0xa6 ∷ 0xa2
    ∷ 0x95 ∷ 0x5b ∷ 0x93 ∷ 0x03 ∷ 0x2b ∷ 0x88 ∷ 0x6b ∷ 0x63 ∷ 0x9a ∷ 0x81 ∷ 0x1e ∷ 0x2c ∷ 0x11 ∷ 0x01 ∷ 0x9f ∷ 0x0c ∷ []

-- the ledger's tail after the entry
unfoldable pub new_tail : List ℕ
new_tail =
    0xf5 ∷ 0xd7 ∷ 0x6a ∷ 0x8f ∷ 0x37 ∷ 0x05 ∷ 0x3a ∷ 0x65 ∷ 0xe8 ∷ 0xca ∷ 0x11 ∷ 0x1d ∷ 0x6a ∷ 0x92 ∷ 0x92 ∷ 0xbd
    ∷ 0xfa ∷ 0x95 ∷ 0x20 ∷ 0x29 ∷ 0xa6 ∷ 0x49 ∷ 0xc5 ∷ 0xd0 ∷ 0x7b ∷ 0x12 ∷ 0x68 ∷ 0x32 ∷ 0x35 ∷ 0x53 ∷ 0x57 ∷ 0x42 ∷ []

-- its row at height 0 and at height 1
unfoldable pub young_row : List ℕ
young_row = ledger ++ replicate 40 0

unfoldable pub grown_row : List ℕ
grown_row = ledger ++ new_tail ++ (0 ∷ 0 ∷ 0 ∷ 0 ∷ 0 ∷ 0 ∷ 0 ∷ 1 ∷ [])

-- the digests of the rolls with that row
unfoldable pub young_digest : List ℕ
young_digest =
    0x71 ∷ 0x34 ∷ 0xd9 ∷ 0x1e ∷ 0xc8 ∷ 0x78 ∷ 0x04 ∷ 0x36 ∷ 0xa7 ∷ 0x0d ∷ 0x03 ∷ 0x2d ∷ 0xb0 ∷ 0x38 ∷ 0xe6 ∷ 0xc7
    ∷ 0x09 ∷ 0xe1 ∷ 0xf9 ∷ 0xd0 ∷ 0x49 ∷ 0x40 ∷ 0x7c ∷ 0xe3 ∷ 0x2c ∷ 0x92 ∷ 0xec ∷ 0x36 ∷ 0x78 ∷ 0xb7 ∷ 0x94 ∷ 0x76 ∷ []

unfoldable pub grown_digest : List ℕ
grown_digest =
    0x90 ∷ 0xfa ∷ 0xb8 ∷ 0x0d ∷ 0x6f ∷ 0xe3 ∷ 0xcc ∷ 0x56 ∷ 0xda ∷ 0x20 ∷ 0x73 ∷ 0x70 ∷ 0x49 ∷ 0x71 ∷ 0xb0 ∷ 0x9b
    ∷ 0x49 ∷ 0xff ∷ 0x23 ∷ 0x94 ∷ 0x2f ∷ 0x89 ∷ 0x24 ∷ 0xbe ∷ 0xda ∷ 0x5a ∷ 0xb4 ∷ 0xbc ∷ 0x38 ∷ 0x6d ∷ 0xae ∷ 0x0c ∷ []

-- the tables: without a row, and with that row
unfoldable pub empty_table : List ℕ
empty_table = replicate 3528 0

unfoldable pub young_table : List ℕ
young_table = young_row ++ replicate 3472 0

unfoldable pub grown_table : List ℕ
grown_table = grown_row ++ replicate 3472 0

-- the one block that a roll with a row travels in, up to its check
unfoldable pub unchecked : List ℕ → List ℕ
unchecked row = 0 ∷ 1 ∷ 1 ∷ 0 ∷ row ++ replicate 448 0

-- the bytes of the check: no law here asks what they are
unfoldable pub young_check : ℕ → ℕ
young_check i = get_or (sha256 (unchecked young_row)) i 0

unfoldable pub grown_check : ℕ → ℕ
grown_check i = get_or (sha256 (unchecked grown_row)) i 0

abbrev pub four : (ℕ → ℕ) → List ℕ
four byte = byte 0 ∷ byte 1 ∷ byte 2 ∷ byte 3 ∷ []

unfoldable pub young_block : List ℕ
young_block = unchecked young_row ++ four young_check

unfoldable pub grown_block : List ℕ
grown_block = unchecked grown_row ++ four grown_check
