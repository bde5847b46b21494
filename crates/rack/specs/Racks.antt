-- The rack. 01, "Layouts": "Rack: one byte n, 1 to 15, then n keys of 32 bytes, strictly rising in byte order, nothing after. A rack is taken apart into up to
-- fifteen keys of 32 bytes. Rack digest = SHA-256 of 0x03 then the rack. Majority = n div 2, plus 1."
use Rattle.std.specs.Prelude.{ℕ, ◌+◌, ◌*◌, ◌/◌, Bool, false, ◌&&◌, ◌||◌, get_or, take, drop, replicate, eqb, leb}
use mathlib.Core.List.{List, [], ◌∷◌, ◌++◌, flatten}
use Rattle.octets.specs.Strings.{all_zero, same, pieces, rising}
use Rattle.octets.specs.Layouts.{Layout}
use Rattle.hash.specs.Sha256.{sha256}

-- "1 to 15"
abbrev pub most : ℕ
most = 15

-- "keys of 32 bytes"
abbrev pub key_bytes : ℕ
key_bytes = 32

-- "one byte n, .. then n keys of 32 bytes"
abbrev pub rack_bytes : ℕ → ℕ
rack_bytes n = 1 + key_bytes * n

-- "taken apart into up to fifteen keys": how many, and the fifteen places, of which the first so many are keys
pub record Rack : Type 0 where
  pub count : ℕ
  pub keys : List (List ℕ)

-- "one byte n, .. then n keys .., nothing after"
unfoldable pub rack_written : Rack → List ℕ
rack_written r = r.count ∷ flatten (take r.count r.keys)

-- where the string ends early there are zeros
unfoldable pub rack_cut : List ℕ → Rack
rack_cut s = record { count = get_or s 0 0; keys = pieces key_bytes most (drop 1 s ++ replicate (key_bytes * most) 0) }

-- "1 to 15", "strictly rising in byte order"; a place that is not used is zero
unfoldable pub rack_fits : Rack → Bool
rack_fits r =
    leb 1 r.count && leb r.count most
    && rising (take r.count r.keys)
    && all_zero (flatten (drop r.count r.keys))

abbrev pub rack_layout : Layout Rack
rack_layout = record { written = rack_written; cut = rack_cut; fits = rack_fits }

-- the key is one of these
unfoldable pub is_among : List ℕ → List (List ℕ) → Bool
is_among key [] = false
is_among key (k ∷ keys) = same k key || is_among key keys

-- "0x03"
abbrev pub rack_mark : ℕ
rack_mark = 0x03

-- "0x03 then the rack"
abbrev pub rack_string : List ℕ → List ℕ
rack_string s = rack_mark ∷ s

-- "SHA-256 of" it
unfoldable pub rack_digest : List ℕ → List ℕ
rack_digest s = sha256 (rack_string s)

-- 02, M-107: "a rack of two"
unfoldable pub is_of_two : List ℕ → Bool
is_of_two s = eqb (rack_cut s).count 2

-- "n div 2, plus 1"
abbrev pub majority : ℕ → ℕ
majority n = n / 2 + 1
