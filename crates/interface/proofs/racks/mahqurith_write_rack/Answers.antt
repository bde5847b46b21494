use mathlib.Core.Path.{ap, ◌∙◌}
use mathlib.Core.List.{List}
use Prim.Native.Nat.{ℕ}
use Rattle.refusals.specs.{rack_broken}
use Rattle.refusals.specs.declared.Written.{Written as Answered}
use Rattle.octets.specs.Layouts.{writing}
use Rattle.rack.specs.Racks.{rack_layout}
use Rattle.interface.specs.Calls.{writing_rack}
use Rattle.interface.proofs.racks.mahqurith_write_rack.Goals as goal

pub returns : goal.returns
unfolding writing_rack
returns c =
    let a = c.args in
    ap (λ (w : Answered). record { answer = w.number; count = w.written; area = c.write_rack.new.area }) c.from.ensures
    ∙ c.write_rack.ensures
    ∙ ap (λ (keys : List (List ℕ)). writing rack_layout rack_broken (record { count = a.rack.count; keys = keys }) a.area.now) c.keys_of.ensures
