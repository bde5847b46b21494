-- Laws of reading and writing a roll: which case each test decides. Assumes nothing.
use mathlib.Core.Path.{◌≡◌, refl, sym, ap, ◌∙◌}
use mathlib.Core.Bool.{Bool, true, false, ◌&&◌}
use mathlib.Core.List.{List}
use Prim.Native.Nat.{ℕ, ◌*◌, ◌≤◌, ◌<◌}
use native.Mathlib.Omega.{arith}
use borrow.Author.Tests.{lt-ltb, le-ltb}
use lib.ListN.{length}
use Rattle.refusals.specs.{accepted, area_too_short, roll_broken}
use Rattle.octets.specs.Strings.{put, same}
use Rattle.octets.specs.Layouts.{holds, read, unwritten, writing}
use Rattle.octets.proofs.Compared.{same_lengths}
use Rattle.octets.proofs.RoundTrips.{holds_fits, holds-written}
use Rattle.rows.specs.Table.{rows_fit}
use Rattle.rows.proofs.Tables.{and_false, fit_length, fit_count, fit_rest}
use Rattle.rows.specs.Sizes.{table_bytes, most_rows, row_bytes}
use Rattle.roll.specs.Blocks.{blocks, first_blocks, gathered, block_bytes, places_bytes}
use Rattle.roll.specs.Roll.{Roll, said_count, filled, roll_layout, outcome, reading_roll, writing_roll}
use Rattle.roll.proofs.Strings.{filled_front}
use Rattle.roll.proofs.Blocks.{blocks_hold, blocks_within, first_length, blocks_say}
use Rattle.roll.proofs.Cuts.{gathered_blocks}

module _ (count : ℕ) (rows : List ℕ) where
  pub written_length : rows_fit count rows ≡ true → length (first_blocks count rows (blocks count)) ≡ block_bytes * blocks count
  written_length fit =
      first_length count rows (blocks count) (omega (arith, fit_length count rows fit, blocks_within count (fit_count count rows fit)))

  module _ (area : List ℕ) where
    pub writing-broken : rows_fit count rows ≡ false → writing_roll count rows area ≡ record { answer = roll_broken; count = 0; area = area }
    unfolding writing_roll writing roll_layout unwritten
    writing-broken f = rw f

    pub writing_short :
        rows_fit count rows ≡ true → length area < block_bytes * blocks count
        → writing_roll count rows area ≡ record { answer = area_too_short; count = 0; area = area }
    unfolding writing_roll writing roll_layout unwritten
    writing_short f h = rw (f, written_length f, lt-ltb (length area) (block_bytes * blocks count) h)

    pub writing_done :
        rows_fit count rows ≡ true → block_bytes * blocks count ≤ length area
        → writing_roll count rows area
        ≡ record { answer = accepted; count = block_bytes * blocks count; area = put area 0 (first_blocks count rows (blocks count)) }
    unfolding writing_roll writing roll_layout
    writing_done f h = rw (f, written_length f, le-ltb (length area) (block_bytes * blocks count) h)

-- the table that a string is cut into
abbrev pub cut_table : List ℕ → List ℕ
cut_table s = filled table_bytes (gathered s (blocks (said_count s)))

module _ (s : List ℕ) where
  pub holds_is :
      holds roll_layout s
      ≡ (rows_fit (said_count s) (cut_table s) && same (first_blocks (said_count s) (cut_table s) (blocks (said_count s))) s)
  unfolding holds roll_layout
  holds_is = refl

  pub no_fit : rows_fit (said_count s) (cut_table s) ≡ false → holds roll_layout s ≡ false
  no_fit f = holds_is ∙ ap (λ (t : Bool). t && same (first_blocks (said_count s) (cut_table s) (blocks (said_count s))) s) f

  -- a string of another length than its count asks is no roll
  pub no_length : (block_bytes * blocks (said_count s) ≡ length s → ⊥) → holds roll_layout s ≡ false
  no_length n = go (rows_fit (said_count s) (cut_table s)) refl
    where
      go : (t : Bool) → rows_fit (said_count s) (cut_table s) ≡ t → holds roll_layout s ≡ false
      go false f = no_fit f
      go true f =
          let l = written_length (said_count s) (cut_table s) f in
          holds_is ∙ and_false (rows_fit (said_count s) (cut_table s))
          (same_lengths (first_blocks (said_count s) (cut_table s) (blocks (said_count s))) s (λ e. n (sym l ∙ e)))

  pub no_count : most_rows < said_count s → holds roll_layout s ≡ false
  no_count h = go (rows_fit (said_count s) (cut_table s)) refl
    where
      go : (t : Bool) → rows_fit (said_count s) (cut_table s) ≡ t → holds roll_layout s ≡ false
      go false f = no_fit f
      go true f = let few = fit_count (said_count s) (cut_table s) f in absurd (omega arith)

  module _ (fit : rows_fit (said_count s) (cut_table s) ≡ true) where
    -- where the rows fit, the blocks decide
    pub blocks_decide : holds roll_layout s ≡ same (first_blocks (said_count s) (cut_table s) (blocks (said_count s))) s
    blocks_decide = holds_is ∙ ap (λ (t : Bool). t && same (first_blocks (said_count s) (cut_table s) (blocks (said_count s))) s) fit

  -- a roll has as many blocks as its count asks, and no more rows than a table
  module _ (h : holds roll_layout s ≡ true) where
    pub holds_long : block_bytes * blocks (said_count s) ≡ length s
    unfolding roll_layout
    holds_long = sym (written_length (said_count s) (cut_table s) (holds_fits roll_layout s h)) ∙ ap length (holds-written roll_layout s h)

    pub holds_few : said_count s ≤ most_rows
    unfolding roll_layout
    holds_few = fit_count (said_count s) (cut_table s) (holds_fits roll_layout s h)

  module _ (area : List ℕ) where
    pub reading_broken : holds roll_layout s ≡ false → reading_roll s area ≡ record { answer = roll_broken; count = 0; rows = area }
    unfolding reading_roll read outcome
    reading_broken h = rw h

    pub reading_done : holds roll_layout s ≡ true → reading_roll s area ≡ record { answer = accepted; count = said_count s; rows = cut_table s }
    unfolding reading_roll read outcome roll_layout
    reading_done h = rw h

-- contents that fit are cut out of what they are written as
pub cut_written : (v : Roll) → roll_layout.fits v ≡ true → roll_layout.cut (roll_layout.written v) ≡ v
unfolding roll_layout
cut_written v fit =
    let n = blocks v.count in
    let w = first_blocks v.count v.rows n in
    let l = fit_length v.count v.rows fit in
    let most = blocks_within v.count (fit_count v.count v.rows fit) in
    let hold = blocks_hold v.count in
    let said : said_count w ≡ v.count = blocks_say v.count v.rows n hold.0 (omega arith) in
    let rows : filled table_bytes (gathered w n) ≡ v.rows =
    ap (filled table_bytes) (gathered_blocks v.count v.rows n (omega arith))
    ∙ filled_front v.rows (row_bytes * v.count) (places_bytes * n) table_bytes (omega arith) (omega arith) l (fit_rest v.count v.rows fit) in
    ap (λ (k : ℕ). record { count = k; rows = filled table_bytes (gathered w (blocks k)) }) said
    ∙ ap (λ (t : List ℕ). record { count = v.count; rows = t }) rows
