use Rattle.std.proofs.Common.{ℕ}
use Rattle.hash.specs.Sha256.{sha_256}
use Rattle.hash.specs.Turns.{Stage, turn}
use Rattle.hash.proofs.Steps.{first_step, step_then}
use Rattle.hash.proofs.turn.sixteen_turns.Goals as goal

pub returns : goal.returns
returns c =
    let f : Stage → ℕ → Stage = turn sha_256 in
    let p1 = first_step f _ _ _ c.one_turn-s1.ensures in
    let p2 = step_then f _ _ _ _ 1 p1 c.one_turn-s2.ensures in
    let p3 = step_then f _ _ _ _ 2 p2 c.one_turn-s3.ensures in
    let p4 = step_then f _ _ _ _ 3 p3 c.one_turn-s4.ensures in
    let p5 = step_then f _ _ _ _ 4 p4 c.one_turn-s5.ensures in
    let p6 = step_then f _ _ _ _ 5 p5 c.one_turn-s6.ensures in
    let p7 = step_then f _ _ _ _ 6 p6 c.one_turn-s7.ensures in
    let p8 = step_then f _ _ _ _ 7 p7 c.one_turn-s8.ensures in
    let p9 = step_then f _ _ _ _ 8 p8 c.one_turn-s9.ensures in
    let p10 = step_then f _ _ _ _ 9 p9 c.one_turn-s10.ensures in
    let p11 = step_then f _ _ _ _ 10 p10 c.one_turn-s11.ensures in
    let p12 = step_then f _ _ _ _ 11 p11 c.one_turn-s12.ensures in
    let p13 = step_then f _ _ _ _ 12 p12 c.one_turn-s13.ensures in
    let p14 = step_then f _ _ _ _ 13 p13 c.one_turn-s14.ensures in
    let p15 = step_then f _ _ _ _ 14 p14 c.one_turn-s15.ensures in
    step_then f _ _ _ _ 15 p15 c.one_turn.ensures
