-- Hexadecimal digits, and the bytes that they spell.
use Rattle.std.specs.Prelude.{ℕ, ◌+◌, ◌-◌, ◌*◌, ◌<◌, ◌≡◌, cond, List, leb, ltb, length, get_or}

-- what no digit has as its value
abbrev pub foreign : ℕ
foreign = 16

-- the value of `0` to `9` and of `a` to `f`, and 16 for any other character
abbrev pub digitValue : ℕ → ℕ
digitValue c =
    cond (ltb c 48) foreign
    (cond (leb c 57) (c - 48)
    (cond (ltb c 97) foreign
    (cond (leb c 102) (c - 87) foreign)))

-- byte k is what the digits at 2 * k and after it spell
pub record SpelledAt (digits bytes : List ℕ) (k : ℕ) : Type 0 where
  pub high : digitValue (get_or digits (2 * k) 0) < 16
  pub low : digitValue (get_or digits (2 * k + 1) 0) < 16
  pub byte : get_or bytes k 0 ≡ 16 * digitValue (get_or digits (2 * k) 0) + digitValue (get_or digits (2 * k + 1) 0)

-- the digits spell the bytes, two a byte, and nothing more
pub record Spelled (digits bytes : List ℕ) : Type 0 where
  pub two : length digits ≡ 2 * length bytes
  pub each : (k : ℕ) → k < length bytes → SpelledAt digits bytes k
