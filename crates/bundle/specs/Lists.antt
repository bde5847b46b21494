-- The two lists of a bundle's entries by the numbers that a call gives. 01, "Bytes to check": "old or new list"; "22 if that list has no such entry".
use Rattle.std.specs.Prelude.{cond, ℕ, eqb, Result, Ok, Err}
use Rattle.refusals.specs.declared.Refusal.{Refusal}
use Rattle.refusals.specs.declared.Refusal.TheVariants.{ListBroken}
use Rattle.rules.specs.Check.{old_list, new_list}
use Rattle.bundle.specs.declared.lists.EntryList.{EntryList}
use Rattle.bundle.specs.declared.lists.EntryList.TheVariants.{Old, New}

-- the number of a list
abbrev pub list_number : EntryList → ℕ
list_number Old = old_list
list_number New = new_list

-- the list of a number; there is no third list
abbrev pub list_numbered : ℕ → Result EntryList Refusal
list_numbered n = cond (eqb n old_list) (Ok Old) (cond (eqb n new_list) (Ok New) (Err ListBroken))
