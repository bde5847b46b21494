-- What marks that pass vouch for: the keeper had said the statement, taken apart. Assumes nothing.
use mathlib.Core.Path.{◌≡◌}
use mathlib.Core.Bool.{true}
use mathlib.Core.List.{List}
use Prim.Native.Nat.{ℕ}
use Rattle.marks.specs.{attested, valid}
use Rattle.statement.specs.Cut.{cut_statement}
use Rattle.safety.specs.Calls.{Keeper}
use Rattle.safety.specs.Histories.{Event, Returned, now_returned, before_returned}
use Rattle.safety.specs.Chip.{Claim, Honest}
use Rattle.safety.proofs.Members.{in_map}
use Rattle.safety.proofs.Tales.{Said, now_said, before_said}

pub returned_said : {start : List ℕ → Keeper} {key s : List ℕ} {h : List Event} → Returned start key s h → Said start key (cut_statement s) h
returned_said (now_returned m) = now_said (in_map cut_statement m)
returned_said (before_returned r) = before_said (returned_said r)

pub vowed :
    {keepers : List (List ℕ)} {start : List ℕ → Keeper} {h : List Event} {c : Claim}
    → Honest keepers start h c → attested c.marks ≡ true → valid c.marks ≡ true → Said start c.key (cut_statement c.statement) h
vowed honest a v = returned_said (honest.validates v (honest.attests a))
