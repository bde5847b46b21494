use Rattle.std.proofs.Common.{◌≡◌, refl, subst, IfSome}
use Rattle.night.specs.Pass.{start, blocks, passed}
use Rattle.night.proofs.Keeping.{kept_start}
use Rattle.morning.proofs.Shown.{written}
use Rattle.morning.proofs.mahqurith_report.Goals as goal

pub read_all-requires : goal.read_all-requires
unfolding start
read_all-requires g c = rw c.start-night.ensures (kept_start, refl)

pub returns-in-Ok : goal.returns-in-Ok
returns-in-Ok g c =
    let night = c.read_all.new.night in
    let file = g.R.Read.remaining c.args.input.now in
    let all = subst (λ n. IfSome file (λ s. night ≡ passed n s (blocks s))) c.start-night.ensures c.in-Ok.ensures.all in
    written _ _ _ night c.write_out.result c.map_err.result all c.write_out.ensures c.map_err.ensures.cases
