-- The worked history. Three keepers found rack A and make a ledger; two of them append an entry, and a verdict is given on their receipt at height 1. Then
-- the first, which has the entry, and the third, which lags, finalise; two keepers of rack B take over the roll, activate and read, and a verdict is given
-- on their reading. Assumes nothing.
use mathlib.Core.List.{List, [], ◌∷◌, ◌++◌}
use Prim.Native.Nat.{ℕ}
use lib.ListN.{replicate}
use Rattle.statement.specs.Cut.{no_digest}
use Rattle.rules.specs.declared.Head.{Head}
use Rattle.desk.specs.Verdict.{Question}
use Rattle.safety.specs.Calls.{Keeper, Call, Wake, Initialise, New, Append, Read, Finalise, Activate}
use Rattle.safety.specs.Histories.{Event}
use Rattle.worked.proofs.Strings.{key, rack_A, rack_B, ledger, entry, nonce, new_tail, digest_A, digest_B, empty_table, young_block, grown_block}
use Rattle.worked.proofs.Rolls.{Page, young, grown}
use Rattle.worked.proofs.Goings.{Beat, turn, verdict, events}

-- the sixth key is in rack B, and its keeper never answers
abbrev pub keepers : List (List ℕ)
keepers = key 1 ∷ key 2 ∷ key 3 ∷ key 4 ∷ key 5 ∷ key 6 ∷ []

-- a head by its parts
abbrev pub head_of : (status count : ℕ) (who identity own previous next : List ℕ) → Head
head_of status count who identity own previous next =
    record { status = status; count = count; key = who; identity = identity; own = own; previous = previous; next = next }

-- the records before any call: no sound ones
unfoldable pub start_table : List ℕ
start_table = replicate 3528 5

abbrev pub start : List ℕ → Keeper
start who = record { head = head_of 9 200 no_digest no_digest no_digest no_digest no_digest; table = start_table }

-- a keeper after Wake
abbrev pub woken : List ℕ → Keeper
woken who = record { head = head_of 0 0 who no_digest no_digest no_digest no_digest; table = empty_table }

-- one of rack A: founded, with the ledger, finalised
abbrev pub founded : List ℕ → Keeper
founded who = record { head = head_of 2 0 who digest_A digest_A no_digest no_digest; table = empty_table }

abbrev pub keeping : List ℕ → Page → Keeper
keeping who p = record { head = head_of 2 1 who digest_A digest_A no_digest no_digest; table = p.table }

abbrev pub finalised : List ℕ → Page → Keeper
finalised who p = record { head = head_of 3 1 who digest_A digest_A no_digest digest_B; table = p.table }

-- one of rack B: prepared, active
abbrev pub prepared : List ℕ → Keeper
prepared who = record { head = head_of 1 1 who digest_A digest_B digest_A no_digest; table = grown.table }

abbrev pub active : List ℕ → Keeper
active who = record { head = head_of 2 1 who digest_A digest_B digest_A no_digest; table = grown.table }

-- the statements that marks speak of: a receipt and a reading at height 1, and the words of those that leave and those that enter
abbrev one : List ℕ
one = 0 ∷ 0 ∷ 0 ∷ 0 ∷ 0 ∷ 0 ∷ 0 ∷ 1 ∷ []

unfoldable pub receipt : List ℕ
receipt = 2 ∷ digest_A ++ digest_A ++ ledger ++ new_tail ++ one

unfoldable pub parting : Page → List ℕ
parting p = 4 ∷ digest_A ++ digest_A ++ digest_B ++ p.digest

unfoldable pub entering : List ℕ
entering = 5 ∷ digest_A ++ digest_A ++ digest_B ++ grown.digest

unfoldable pub reading : List ℕ
reading = 3 ∷ digest_A ++ digest_B ++ ledger ++ new_tail ++ one ++ nonce

-- the calls
abbrev pub founds : Call
founds = Initialise no_digest [] [] rack_A (replicate 129 0)

abbrev pub makes : Call
makes = New ledger (replicate 121 0)

abbrev pub appends : Call
appends = Append ledger entry 1 (replicate 121 0)

abbrev pub leaves : Call
leaves = Finalise rack_B (replicate 3713 0)

abbrev pub enters : Call
enters = Initialise digest_A grown_block rack_A rack_B (replicate 129 0)

-- old entries of the first and the third keeper with their blocks, new ones of the fourth and the fifth; the first adds no entry digest, the third adds the one
unfoldable pub bundle : List ℕ
bundle = 2 ∷ (0 ∷ 3 ∷ 1 ∷ grown_block) ++ (2 ∷ 3 ∷ 1 ∷ young_block) ++ (2 ∷ 0 ∷ 3 ∷ 1 ∷ 3 ∷ []) ++ (0 ∷ 0 ∷ []) ++ (0 ∷ 1 ∷ entry)

abbrev pub activates : Call
activates = Activate rack_A rack_B bundle

abbrev pub reads : Call
reads = Read ledger nonce (replicate 137 0)

-- the verdicts; signers at positions 0 and 1, with both marks
abbrev pub signers : List ℕ
signers = 0 ∷ 3 ∷ 1 ∷ 3 ∷ []

abbrev pub asks_A : Question
asks_A = record { identity = digest_A; rack = rack_A; asked = 2; label = ledger; nonce = nonce }

abbrev pub asks_B : Question
asks_B = record { identity = digest_A; rack = rack_B; asked = 3; label = ledger; nonce = nonce }

-- newest first, as it grows: rack A
abbrev pub woken_A : List Beat
woken_A = turn (key 3) Wake (woken (key 3)) ∷ turn (key 2) Wake (woken (key 2)) ∷ turn (key 1) Wake (woken (key 1)) ∷ []

abbrev pub founded_A : List Beat
founded_A =
    turn (key 3) founds (founded (key 3)) ∷ turn (key 2) founds (founded (key 2)) ∷ turn (key 1) founds (founded (key 1)) ∷ woken_A

abbrev pub made_A : List Beat
made_A =
    turn (key 3) makes (keeping (key 3) young) ∷ turn (key 2) makes (keeping (key 2) young) ∷ turn (key 1) makes (keeping (key 1) young)
    ∷ founded_A

-- the third keeper does not get the entry
abbrev pub grown_A : List Beat
grown_A = turn (key 2) appends (keeping (key 2) grown) ∷ turn (key 1) appends (keeping (key 1) grown) ∷ made_A

abbrev pub judged_A : List Beat
judged_A = verdict asks_A receipt signers ∷ grown_A

-- the second keeper does not answer
abbrev pub left_A : List Beat
left_A = turn (key 3) leaves (finalised (key 3) young) ∷ turn (key 1) leaves (finalised (key 1) grown) ∷ judged_A

-- and rack B
abbrev pub woken_B : List Beat
woken_B = turn (key 5) Wake (woken (key 5)) ∷ turn (key 4) Wake (woken (key 4)) ∷ left_A

abbrev pub entered_B : List Beat
entered_B = turn (key 5) enters (prepared (key 5)) ∷ turn (key 4) enters (prepared (key 4)) ∷ woken_B

abbrev pub active_B : List Beat
active_B = turn (key 5) activates (active (key 5)) ∷ turn (key 4) activates (active (key 4)) ∷ entered_B

abbrev pub read_B : List Beat
read_B = turn (key 5) reads (active (key 5)) ∷ turn (key 4) reads (active (key 4)) ∷ active_B

abbrev pub told : List Beat
told = verdict asks_B reading signers ∷ read_B

abbrev pub history : List Event
history = events told
