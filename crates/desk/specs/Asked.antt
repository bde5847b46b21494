-- The desk's question, and what it finds. 01, "Verdict (retained identity, rack, asked kind 1 to 3, label, nonce, statement, signers)".
use Rattle.std.specs.Prelude.{List, ℕ, Result, Ok, Err}
use Rattle.refusals.specs.{accepted}
use Rattle.refusals.specs.Refused.{refusal_number}
use Rattle.refusals.specs.declared.Refusal.{Refusal}
use Rattle.statement.specs.declared.Statement.{Statement}
use Rattle.desk.specs.Verdict as desk
use Rattle.desk.specs.Verdict.{height_in, nothing_shown}
use Rattle.desk.specs.declared.Finding.{Finding}
use Rattle.desk.specs.declared.Question.{Question}

-- what is asked of a rack
abbrev pub asked_with : Question → List ℕ → desk.Question
asked_with q rack = record { identity = q.identity; rack = rack; asked = q.kind; label = q.label; nonce = q.nonce }

-- the finding that a statement vouched for is, or a refusal
abbrev pub finding_of : Result Statement Refusal → Finding
finding_of (Ok v) = record { number = accepted; tail = v.tail; height = height_in v.kind }
finding_of (Err r) = nothing_shown (refusal_number r)
