use Rattle.std.proofs.Common.{subst}
use Rattle.std.specs.Prelude.{OnOk}
use Rattle.std.specs.Io.KnownBytes.{Appends}
use Rattle.morning.proofs.Shown.{front_placed}
use Rattle.morning.proofs.write_out.Goals as goal

pub returns : goal.returns
returns g c =
    let old = g.W.Write.contents c.args.out.now in
    let new = g.W.Write.contents c.write_all.new.self in
    subst (λ text. OnOk c.write_all.result (Appends old new text)) (front_placed _ _ _ _ c.print-n.ensures.placed) c.write_all.ensures.bytes
