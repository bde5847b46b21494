-- The pass over a file's blocks in turn. 02, M-103: "2 is a receipt .., judged under the nearest undamaged rack before it, and refused if there is none"; "From
-- the 64th label on, receipts are counted only as `over`. Blocks, the file's length over 512 rounded up, is the sum of racks, accepted, refused, over and
-- damaged."
use Rattle.std.specs.Prelude.{◌≡◌, true, cond, List, ℕ, zero, suc, ◌+◌, ◌/◌, ◌≤◌, length, get_or, take, drop, set, replicate, eqb, ltb}
use Rattle.octets.specs.Layouts.{holds}
use Rattle.rack.specs.Racks.{most, rack_bytes, rack_layout, rack_digest}
use Rattle.statement.specs.Cut.{no_digest, no_label}
use Rattle.checks.specs.Check.{block_bytes, block_at}
use Rattle.desk.specs.declared.Finding.{Finding}
use Rattle.receipts.specs.Block.{rack_type, receipt_type, rack_place, key_count, rack_in, label_in, sort}
use Rattle.receipts.specs.Judged.{finding}
use Rattle.night.specs.declared.Line.{Line}
use Rattle.night.specs.declared.Totals.{Totals}
use Rattle.night.specs.declared.Nearest.{Nearest}
use Rattle.night.specs.declared.Night.{Night}
use Rattle.night.specs.Lines.{most_labels, new_line, no_line, place, line_after, counted_in}

-- "the nearest undamaged rack before"; empty where there is none
abbrev pub nearest_rack : Nearest → List ℕ
nearest_rack r = take r.size r.rack

-- the rack of a rack's block, with its digest; its place has room for the longest rack
unfoldable pub rack_read : List ℕ → Nearest
rack_read b = record { rack = take (rack_bytes most) (drop rack_place b); size = rack_bytes (key_count b); digest = rack_digest (rack_in b) }

-- one block more, of which so many racks, over and damaged
abbrev pub counted : Totals → ℕ → ℕ → ℕ → Totals
counted t racks over damaged =
    record { blocks = t.blocks + 1; racks = t.racks + racks; over = t.over + over; damaged = t.damaged + damaged }

-- a rack
unfoldable pub with_rack : Night → List ℕ → Night
with_rack n b = record { totals = counted n.totals 1 0 0; known = n.known; lines = n.lines; nearest = rack_read b }

-- a receipt that is only `over`
unfoldable pub with_over : Night → Night
with_over n = record { totals = counted n.totals 0 1 0; known = n.known; lines = n.lines; nearest = n.nearest }

-- a damaged block
unfoldable pub with_damaged : Night → Night
with_damaged n = record { totals = counted n.totals 0 0 1; known = n.known; lines = n.lines; nearest = n.nearest }

-- the line at place i, which is the last of the first so many
abbrev pub with_line : Night → ℕ → ℕ → Line → Night
with_line n i known l = record { totals = counted n.totals 0 0 0; known = known; lines = set n.lines i l; nearest = n.nearest }

-- a receipt of a label whose line stands at i, or comes to stand there
unfoldable pub with_label : Night → List ℕ → ℕ → Night
with_label n b i =
    let f : Finding = finding (nearest_rack n.nearest) b in
    cond (ltb i n.known)
    (with_line n i n.known (line_after (get_or n.lines i no_line) f))
    (with_line n i (n.known + 1) (line_after (new_line (label_in b)) f))

-- "From the 64th label on, receipts are counted only as `over`."
unfoldable pub with_receipt : Night → List ℕ → Night
with_receipt n b =
    let i : ℕ = place (label_in b) (take n.known n.lines) in
    cond (ltb i most_labels) (with_label n b i) (with_over n)

-- a night after one block more
unfoldable pub step : Night → List ℕ → Night
step n b = cond (eqb (sort b) rack_type) (with_rack n b) (cond (eqb (sort b) receipt_type) (with_receipt n b) (with_damaged n))

-- a night before its first block
unfoldable pub start : Night
start =
    record {
      totals = record { blocks = 0; racks = 0; over = 0; damaged = 0 };
      known = 0;
      lines = replicate most_labels (new_line no_label);
      nearest = record { rack = replicate (rack_bytes most) 0; size = 0; digest = no_digest };
    }

-- "the file's length over 512 rounded up"
unfoldable pub blocks : List ℕ → ℕ
blocks s = (length s + 511) / block_bytes

-- a night after the first blocks of a string; the last block may be short
unfoldable pub passed : Night → List ℕ → ℕ → Night
passed n s zero = n
passed n s (suc i) = step (passed n s i) (block_at s i)

-- what a night is as its blocks are counted: at most 63 lines; the rack's digest is at hand; and "Blocks .. is the sum of racks, accepted, refused, over and
-- damaged."
pub record Kept (n : Night) : Type 0 where
  pub few : n.known ≤ most_labels
  pub places : length n.lines ≡ most_labels
  pub room : n.nearest.size ≤ rack_bytes most
  pub digested : holds rack_layout (nearest_rack n.nearest) ≡ true → n.nearest.digest ≡ rack_digest (nearest_rack n.nearest)
  pub sum : n.totals.blocks ≡ n.totals.racks + counted_in (take n.known n.lines) + n.totals.over + n.totals.damaged
