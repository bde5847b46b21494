-- "What is appended reads back until someone else writes the area": calls of the store, one after the other, on one area.
use Rattle.std.specs.Prelude.{◌≡◌, List, [], ◌∷◌, ℕ, length}
use Rattle.rows.specs.Sizes.{label_bytes}
use Rattle.store.specs.Append.{appending}

-- a call of the store, with labels at their fixed size
pub data Call : Type 0 where
  append : (label : List ℕ) → length label ≡ label_bytes → ℕ → List ℕ → Call
  read : List ℕ → ℕ → Call

-- the area after a call
unfoldable pub after : Call → List ℕ → List ℕ
after (append label fixed expected text) area = (appending area label expected text).area
after (read label height) area = area

-- the area after some calls
unfoldable pub later : List Call → List ℕ → List ℕ
later [] area = area
later (c ∷ cs) area = later cs (after c area)
