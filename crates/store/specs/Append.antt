-- The append. 02, M-104: "It appends a text at an expected height, one above the label's first block of greatest height (height 1 for a label it hasn't got),
-- into the first unused block."; "the tail follows 01".
use Rattle.std.specs.Prelude.{not, cond, List, [], ◌∷◌, ◌++◌, ℕ, ◌+◌, ◌*◌, length, eqb, ltb}
use Rattle.refusals.specs.{accepted, record_not_sound, out_of_order, height_at_top, label_zero, text_too_long, store_full}
use Rattle.refusals.specs.Order.{Test, ◌⇒◌, first}
use Rattle.octets.specs.Strings.{all_zero, put}
use Rattle.hash.specs.Sha256.{sha256}
use Rattle.rows.specs.Sizes.{top_height}
use Rattle.rows.specs.Digests.{appended}
use Rattle.checks.specs.Check.{block_bytes}
use Rattle.cabinet.specs.Block.{most_text, block_of}
use Rattle.store.specs.Area.{blocks, area_right, first_unused, holds_damaged, newest}

-- an answer, with 11 the label's greatest height, and the area as the call leaves it
pub record Appended : Type 0 where
  pub number : ℕ
  pub written : ℕ
  pub height : ℕ
  pub area : List ℕ

-- "33 for text over 418 bytes, 2 for an area that isn't whole blocks up to 128 or holds a damaged one, 14, .."
unfoldable pub ready_tests : List ℕ → List ℕ → List ℕ → List Test
ready_tests area label text =
    (ltb most_text (length text) ⇒ text_too_long)
    ∷ (not (area_right area) ⇒ record_not_sound)
    ∷ (holds_damaged area ⇒ record_not_sound)
    ∷ (all_zero label ⇒ label_zero)
    ∷ []

-- ".. 11, 12, .."
unfoldable pub order_tests : ℕ → ℕ → List Test
order_tests expected height = (not (eqb expected (height + 1)) ⇒ out_of_order) ∷ (eqb height top_height ⇒ height_at_top) ∷ []

-- ".. 34 exactly when every block is used"
unfoldable pub room_tests : List ℕ → List Test
room_tests area = (eqb (first_unused area (blocks area)) (blocks area) ⇒ store_full) ∷ []

unfoldable pub append_tests : List ℕ → List ℕ → ℕ → List ℕ → List Test
append_tests area label expected text =
    ready_tests area label text ++ (order_tests expected (newest area label (blocks area)).height ++ room_tests area)

-- the block that an append writes; its tail is 01's append of the entry's digest to the tail before
unfoldable pub block_appended : List ℕ → List ℕ → ℕ → List ℕ → List ℕ
block_appended area label expected text =
    block_of label expected (sha256 text) (appended (newest area label (blocks area)).tail (sha256 text)) text

-- with 11 the present height, otherwise 0
unfoldable pub shown : ℕ → ℕ → ℕ
shown number height = cond (eqb number out_of_order) height 0

unfoldable pub appending : List ℕ → List ℕ → ℕ → List ℕ → Appended
appending area label expected text =
    cond (eqb (first (append_tests area label expected text)) accepted)
    (record {
      number = accepted;
      written = 0;
      height = 0;
      area = put area (block_bytes * first_unused area (blocks area)) (block_appended area label expected text);
    })
    (record {
      number = first (append_tests area label expected text);
      written = 0;
      height = shown (first (append_tests area label expected text)) (newest area label (blocks area)).height;
      area = area;
    })
