-- A rack's and a receipt's block, written. 02, M-103: "512-byte blocks, each ending in 01's 4-byte check, unused bytes zero"; refused as 01 has it of its layouts:
-- "writing one refuses with that number for contents no reading gives, then with 1 for an area too short".
use Rattle.std.specs.Prelude.{Bool, cond, ◌&&◌, List, [], ◌∷◌, ℕ, ◌*◌, ◌/◌, length, replicate, eqb, leb, ltb}
use Rattle.refusals.specs.{accepted, area_too_short, rack_broken, statement_not_asked}
use Rattle.octets.specs.Strings.{put}
use Rattle.octets.specs.Layouts.{Written, unwritten, holds}
use Rattle.rack.specs.Racks.{most, rack_layout}
use Rattle.statement.specs.Kinds.{reading_size}
use Rattle.checks.specs.Check.{block_bytes, checked_bytes, checked}
use Rattle.receipts.specs.Block.{rack_type, receipt_type, label_place, nonce_place, identity_place, length_place, count_place}
use Rattle.desk.specs.declared.Question.{Question}

-- the type, then the rack; zeros behind it
unfoldable pub rack_body : List ℕ → List ℕ
rack_body rack = put (replicate checked_bytes 0) 0 (rack_type ∷ rack)

-- each field in its place, zeros elsewhere
unfoldable pub receipt_body : Question → List ℕ → List ℕ → List ℕ
receipt_body q s signers =
    let a : List ℕ = put (replicate checked_bytes 0) 0 (receipt_type ∷ q.kind ∷ []) in
    let b : List ℕ = put a label_place q.label in
    let c : List ℕ = put b nonce_place q.nonce in
    let d : List ℕ = put c identity_place q.identity in
    let e : List ℕ = put d length_place (length s ∷ s) in
    put e count_place (length signers / 2 ∷ signers)

-- a statement has at most 137 bytes, signers are at most 15 whole pairs
unfoldable pub receipt_fits : List ℕ → List ℕ → Bool
receipt_fits s signers = leb (length s) reading_size && (eqb (2 * (length signers / 2)) (length signers) && leb (length signers / 2) most)

-- a block at the front of an area; refused where it does not fit its layout, then where the area is too short
unfoldable pub filed : Bool → ℕ → List ℕ → List ℕ → Written
filed fits broken body area =
    cond fits
    (cond (ltb (length area) block_bytes)
    (unwritten area_too_short area)
    (record { answer = accepted; count = block_bytes; area = put area 0 (checked body) }))
    (unwritten broken area)

-- a string that is no rack is 6
unfoldable pub rack_filed : List ℕ → List ℕ → Written
rack_filed rack area = filed (holds rack_layout rack) rack_broken (rack_body rack) area

-- a statement or signers for which there is no place are 23
unfoldable pub receipt_filed : Question → List ℕ → List ℕ → List ℕ → Written
receipt_filed q s signers area = filed (receipt_fits s signers) statement_not_asked (receipt_body q s signers) area
