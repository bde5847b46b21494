use Rattle.std.proofs.Common.{rules, ◌≤◌, length}
use Rattle.octets.proofs.Puts.{take_put}
use Rattle.report.proofs.page.Page.put.Goals as goal

pub returns : goal.returns
returns c =
    let room : c.self.inside.at ≤ length c.self.inside.area = search rules in
    rw (← c.self.view_is, c.copy_at.ensures) (take_put c.self.inside.area c.self.inside.at c.args.text.now room)
