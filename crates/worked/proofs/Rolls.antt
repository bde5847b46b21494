-- What the rules ask of the ledger's roll before and after the entry, and of a table without rows. Assumes nothing.
use mathlib.Core.Path.{◌≡◌, refl, sym, ap, ◌∙◌}
use mathlib.Core.Bool.{true, ◌&&◌}
use mathlib.Core.List.{List, ◌∷◌, ◌++◌}
use Prim.Native.Nat.{ℕ}
use lib.ListN.{length, get_or, take}
use native.Mathlib.Omega.{arith}
use Rattle.octets.specs.Numbers.{number_of, bytes_of}
use Rattle.octets.specs.Strings.{put, all_zero, same, before}
use Rattle.octets.specs.Layouts.{holds}
use Rattle.octets.proofs.Parts.{four_read}
use Rattle.octets.proofs.RoundTrips.{same_refl}
use Rattle.hash.specs.Sha256.{sha256}
use Rattle.hash.proofs.Promised.{sha256-length}
use Rattle.std.specs.Prelude.{Ok, Err}
use Rattle.rows.specs.Row.{label_of, tail_of, height_of, row_holds, row_fits}
use Rattle.rows.specs.Table.{each, rises, stands, rows_fit}
use Rattle.rows.specs.Search.{held, first_of, find}
use Rattle.rows.specs.Digests.{roll_string, roll_digest}
use Rattle.roll.specs.Blocks.{blocks, head, places_of, checked, block, first_blocks}
use Rattle.roll.specs.Roll.{Roll, roll_layout}
use Rattle.roll.proofs.Rolls.{cut_written}
use Rattle.statement.specs.Cut.{no_digest}
use Rattle.rules.specs.Table.{widened, moved}
use Rattle.worked.proofs.Strings.{ledger, new_tail, young_row, grown_row, young_digest, grown_digest, empty_table, young_table, grown_table}
use Rattle.worked.proofs.Strings.{unchecked, young_check, grown_check, four, young_block, grown_block}
use Rattle.worked.proofs.Digests.{hash_young, hash_grown}

-- a roll with the ledger alone: its row's tail and height, the table, the block it travels in, the string that is hashed and the digest
pub record Page : Type 0 where
  pub tail : List ℕ
  pub height : ℕ
  pub table : List ℕ
  pub block : List ℕ
  pub string : List ℕ
  pub digest : List ℕ

abbrev pub young : Page
young = record { tail = no_digest; height = 0; table = young_table; block = young_block; string = 2 ∷ 1 ∷ young_row; digest = young_digest }

abbrev pub grown : Page
grown = record { tail = new_tail; height = 1; table = grown_table; block = grown_block; string = 2 ∷ 1 ∷ grown_row; digest = grown_digest }

abbrev pub roll_on : Page → Roll
roll_on p = record { count = 1; rows = p.table }

-- it is all that
pub record Kept (p : Page) : Type 0 where
  pub fits : rows_fit 1 p.table ≡ true
  pub found : find 1 p.table ledger ≡ Ok 0
  pub label_is : label_of p.table 0 ≡ ledger
  pub tail_is : tail_of p.table 0 ≡ p.tail
  pub height_is : height_of p.table 0 ≡ p.height
  pub string_is : roll_string 1 p.table ≡ p.string
  pub digest_is : sha256 p.string ≡ p.digest
  pub written_is : roll_layout.written (roll_on p) ≡ p.block

-- opens, with its own name, the tables and all that a table is taken apart by
unfoldable tables : ℕ
unfolding new_tail young_row grown_row empty_table young_table grown_table unchecked number_of bytes_of put all_zero same before
    label_of tail_of height_of row_holds row_fits each rises stands rows_fit held first_of find roll_string
    blocks head places_of checked block first_blocks roll_layout widened moved
tables = 0

-- the first four bytes of a string that has so many
first_four : (s : List ℕ) → length s ≡ 32 → take 4 s ≡ four (λ i. get_or s i 0)
first_four s e = four_read s 0 (omega arith)

young-written : roll_layout.written (roll_on young) ≡ young_block
unfolding tables young_block young_check
young-written = λ i. unchecked young_row ++ first_four (sha256 (unchecked young_row)) (sha256-length (unchecked young_row)) i

grown-written : roll_layout.written (roll_on grown) ≡ grown_block
unfolding tables grown_block grown_check
grown-written = λ i. unchecked grown_row ++ first_four (sha256 (unchecked grown_row)) (sha256-length (unchecked grown_row)) i

pub young_kept : Kept young
unfolding tables
young_kept =
    record {
      fits = refl;
      found = refl;
      label_is = refl;
      tail_is = refl;
      height_is = refl;
      string_is = refl;
      digest_is = hash_young;
      written_is = young-written;
    }

pub grown_kept : Kept grown
unfolding tables
grown_kept =
    record {
      fits = refl;
      found = refl;
      label_is = refl;
      tail_is = refl;
      height_is = refl;
      string_is = refl;
      digest_is = hash_grown;
      written_is = grown-written;
    }

-- the table without rows, the row that New adds, and the row that Append moves on
pub empty_fits : rows_fit 0 empty_table ≡ true
unfolding tables
empty_fits = refl

pub none_found : find 0 empty_table ledger ≡ Err 0
unfolding tables
none_found = refl

pub row_added : widened empty_table 0 ledger ≡ young_table
unfolding tables
row_added = refl

pub row_moved : moved young_table 0 new_tail 1 ≡ grown_table
unfolding tables
row_moved = refl

-- the block reads back
module _ {p : Page} (k : Kept p) where
  pub block-cut : roll_layout.cut p.block ≡ roll_on p
  unfolding roll_layout
  block-cut = ap roll_layout.cut (sym k.written_is) ∙ cut_written (roll_on p) k.fits

  pub block-holds : holds roll_layout p.block ≡ true
  unfolding holds roll_layout
  block-holds =
      (λ i. roll_layout.fits (block-cut i) && same (roll_layout.written (block-cut i)) p.block)
      ∙ (λ i. k.fits i && same (k.written_is i) p.block)
      ∙ same_refl p.block

  pub roll_digest_is : roll_digest 1 p.table ≡ p.digest
  unfolding roll_digest
  roll_digest_is = ap sha256 k.string_is ∙ k.digest_is
