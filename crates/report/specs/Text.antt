-- Numbers and labels as text.
use Rattle.std.specs.Prelude.{◌≡◌, cond, List, [], ◌∷◌, ◌++◌, ℕ, zero, suc, ◌+◌, ◌/◌, ◌%◌, length, ltb}
use Rattle.io.specs.Digits.{hex_digit_ascii}
use Rattle.octets.specs.Strings.{put}

-- "in lower-case hex"
unfoldable pub hex_of : List ℕ → List ℕ
hex_of [] = []
hex_of (b ∷ bs) = hex_digit_ascii (b / 16) ∷ hex_digit_ascii (b % 16) ∷ hex_of bs

-- a number of at most k digits in decimal, none of them a leading zero
unfoldable pub decimal : ℕ → ℕ → List ℕ
decimal zero n = []
decimal (suc k) n = cond (ltb n 10) (hex_digit_ascii n ∷ []) (decimal k (n / 10) ++ (hex_digit_ascii (n % 10) ∷ []))

-- a counter has 64 bits, and so at most 20 digits
abbrev pub most_digits : ℕ
most_digits = 20

unfoldable pub decimal_of : ℕ → List ℕ
decimal_of n = decimal most_digits n

-- a text was put at a place, and r is the place behind it
pub record Placed (r at : ℕ) (before after text : List ℕ) : Type 0 where
  pub next : r ≡ at + length text
  pub left : after ≡ put before at text
