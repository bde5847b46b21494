use mathlib.Core.Path.{◌∙◌}
use lib.ListN.{length-replicate}
use Rattle.rows.specs.Sizes.{most_rows}
use Rattle.table.specs.Flat.{rows_of}
use Rattle.table.proofs.RowsPut.{put_each, rows_length}
use Rattle.table.proofs.flattening.rows_of.Goals as goal

pub returns : goal.returns
returns c =
    let new = rows_of most_rows c.args.bytes.now in
    c.rows_out.ensures ∙ put_each _ new (length-replicate most_rows c.blank_row-rows.result) (rows_length most_rows c.args.bytes.now)
