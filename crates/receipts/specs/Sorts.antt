-- The number of what a block is: its type, or 0 for a damaged one.
use Rattle.std.specs.Prelude.{ℕ}
use Rattle.receipts.specs.Block.{rack_type, receipt_type, damaged}
use Rattle.receipts.specs.declared.Sort.{Sort}
use Rattle.receipts.specs.declared.Sort.TheVariants.{Damaged, Rack, Receipt}

abbrev pub sort_number : Sort → ℕ
sort_number Damaged = damaged
sort_number Rack = rack_type
sort_number Receipt = receipt_type
