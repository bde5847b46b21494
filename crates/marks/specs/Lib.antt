-- The marks byte. 01, "Parts of the product": "The chip's findings arrive as a marks byte: bit 0 set means that the key is attested, bit 1 that its signature
-- on the statement named below is valid; other bits must be zero, otherwise 22."
use Rattle.std.specs.Prelude.{ℕ, ◌/◌, ◌%◌, Bool, eqb}
pub mod Entries

-- bit 0
abbrev pub attested : ℕ → Bool
attested m = eqb (m % 2) 1

-- bit 1
abbrev pub valid : ℕ → Bool
valid m = eqb (m / 2 % 2) 1

-- "other bits must be zero"
abbrev pub marks_fit : ℕ → Bool
marks_fit m = eqb (m / 4) 0
