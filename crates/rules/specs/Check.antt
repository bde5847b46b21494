-- 01, "Bytes to check (previous rack, own rack, bundle, old or new list, entry number from 0; 129): 1, 2, 5, 6 (previous, then own), 21, 22, 15, then 22
-- if that list has no such entry. Gives the finalise or initialise statement that the entry's marks speak of; head and table stay." And "Handover bundle":
-- "Marks of an old entry speak of the finalise statement with this identity, previous rack, own rack and that roll; of a new one, of the initialise
-- statement with this keeper's own identity, racks and roll."
use Rattle.std.specs.Prelude.{not, cond, List, [], ◌∷◌, ◌++◌, ℕ, eqb, ltb}
use Rattle.refusals.specs.{list_broken}
use Rattle.refusals.specs.Order.{◌⇒◌, first}
use Rattle.rows.specs.Digests.{roll_digest}
use Rattle.statement.specs.Kinds.{handover_size}
use Rattle.rules.specs.declared.Head.{Head}
use Rattle.rules.specs.Outcomes.{Lent, Outcome, given, unless}
use Rattle.rules.specs.Initialise.{initialise_statement}
use Rattle.rules.specs.Finalise.{finalise_statement}
use Rattle.rules.specs.Bundle.{old_count, new_count}
use Rattle.rules.specs.Derivation.{roll_of}
use Rattle.rules.specs.Activate.{bundle_tests}

-- the lists by their numbers
abbrev pub old_list : ℕ
old_list = 0

abbrev pub new_list : ℕ
new_list = 1

-- how many entries a list has; there is no third list
unfoldable pub entries_of : List ℕ → ℕ → ℕ
entries_of s list = cond (eqb list old_list) (old_count s) (cond (eqb list new_list) (new_count s) 0)

-- what the marks of old entry i speak of
unfoldable pub old_statement : Head → List ℕ → ℕ → List ℕ
old_statement h s i =
    finalise_statement h.identity h.previous h.own (roll_digest (roll_of s i).count (roll_of s i).rows)

-- what the marks of entry i of a list speak of
unfoldable pub spoken_of : Lent → List ℕ → ℕ → ℕ → List ℕ
spoken_of k s list i = cond (eqb list old_list) (old_statement k.head s i) (initialise_statement k.head k.table)

unfoldable pub checking : Lent → List ℕ → List ℕ → List ℕ → ℕ → ℕ → Outcome
checking k previous own s list i =
    unless
    (first
    (bundle_tests handover_size k previous own s
    ++ (not (ltb i (entries_of s list)) ⇒ list_broken)
    ∷ []))
    0 k
    (given (spoken_of k s list i) k.head k.table k.area)
