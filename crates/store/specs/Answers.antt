-- What an answer shows of a result, and of what is lent.
use Rattle.std.specs.Prelude.{List, ℕ, Result, Ok, Err}
use Rattle.std.specs.Result.{result_unwrap_or}
use Rattle.refusals.specs.declared.Refusal.{Refusal}
use Rattle.refusals.specs.Refused.{refusal_height, answer_of}
use Rattle.store.specs.Append.{Appended}
use Rattle.store.specs.Read.{Copied}

-- the height of a refusal; 0 where none is shown
abbrev pub height_of : {A : Type 0} → Result A Refusal → ℕ
height_of (Ok v) = 0
height_of (Err r) = refusal_height r

-- an append writes no output
abbrev pub appended_told : {A : Type 0} → Result A Refusal → List ℕ → Appended
appended_told result area = record { number = answer_of result; written = 0; height = height_of result; area = area }

-- a read gives how many bytes it wrote
abbrev pub copied_told : Result ℕ Refusal → List ℕ → Copied
copied_told result output = record { number = answer_of result; written = result_unwrap_or result 0; height = height_of result; output = output }
