use mathlib.Core.Path.{ap, ◌∙◌}
use Prim.Native.Nat.{ℕ}
use lib.ListN.{take}
use Rattle.refusals.proofs.Answered.{number_refuses}
use Rattle.rack.specs.Racks.{is_among}
use Rattle.rack.specs.Promise.{Taken}
use Rattle.rack.proofs.RackTrips.{reading_good}
use Rattle.rules.specs.Initialise.{is_in_rack}
use Rattle.entering.proofs.asked.is_in_rack.Goals as goal
use Rattle.entering.proofs.asked.is_in_rack.Goals.{After-from}

pub returns-in-Ok : goal.returns-in-Ok
unfolding is_in_rack
returns-in-Ok c =
    let a = c.args in
    c.is_member.ensures
    ∙ ap (λ (n : ℕ). is_among a.key (take n c.read_rack.new.keys)) c.from.ensures
    ∙ ap (λ (t : Taken). is_among a.key (take t.count t.keys)) (c.in-Ok.ensures ∙ reading_good a.rack.now c.requires _)

pub returns-in-Err : goal.returns-in-Err
returns-in-Err c =
    absurd (number_refuses _ (ap (λ (t : Taken). t.answer) (c.in-Err.ensures ∙ reading_good c.args.rack.now c.requires _)))
