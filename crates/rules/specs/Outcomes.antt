-- What a call is lent, what it leaves and what it answers. 01, "Calls, with the order of their refusals".
use Rattle.std.specs.Prelude.{true, false, not, cond, List, [], ◌∷◌, ◌++◌, ℕ, length, eqb, ltb, Result, Ok, Err}
use Rattle.refusals.specs.{accepted, area_too_short, record_not_sound, out_of_order}
use Rattle.refusals.specs.Order.{Test, ◌⇒◌}
use Rattle.refusals.specs.declared.Refusal.{Refusal}
use Rattle.refusals.specs.Refused.{refusal_number, refusal_height}
use Rattle.octets.specs.Strings.{put}
use Rattle.rules.specs.declared.Head.{Head}
use Rattle.rules.specs.declared.Answer.{Answer}
use Rattle.rules.specs.declared.Done.{Done}
use Rattle.rules.specs.Told.{Told}
use Rattle.rules.specs.Record.{sound}

-- the record and the output area
pub record Lent : Type 0 where
  pub head : Head
  pub table : List ℕ
  pub area : List ℕ

pub record Outcome : Type 0 where
  pub answer : Answer
  pub left : Lent

-- the outcome that a call's result and what it left behind make up
abbrev pub outcome : Told → List ℕ → List ℕ → Outcome
outcome r table area = record { answer = r.answer; left = record { head = r.head; table = table; area = area } }

-- "A refusal returns its number (11 also the height) .. Result fields not named for an answer are zero."
abbrev pub refusing : ℕ → ℕ → Answer
refusing n height = record { number = n; written = 0; height = cond (eqb n out_of_order) height 0; repeat = false }

-- "On acceptance a call returns 0 and the number of bytes written"
abbrev pub accepting : ℕ → Answer
accepting written = record { number = accepted; written = written; height = 0; repeat = false }

-- ".. marked as a repeat"
abbrev pub repeating : ℕ → Answer
repeating written = record { number = accepted; written = written; height = 0; repeat = true }

-- the answer that a call's result is
abbrev pub answer_told : Result Done Refusal → Answer
answer_told (Ok d) = record { number = accepted; written = d.written; height = 0; repeat = d.repeat }
answer_told (Err r) = refusing (refusal_number r) (refusal_height r)

-- the head that it leaves: after a refusal the one that was lent
abbrev pub head_told : Head → Result Done Refusal → Head
head_told head (Ok d) = d.head
head_told head (Err r) = head

-- what a call tells by its result
abbrev pub told : Head → Result Done Refusal → Told
told head result = record { answer = answer_told result; head = head_told head result }

-- the answer of a call that writes so many bytes and gives the place of a row
abbrev pub answer_placed : ℕ → Result ℕ Refusal → Answer
answer_placed written (Ok i) = accepting written
answer_placed written (Err r) = refusing (refusal_number r) (refusal_height r)

-- what it tells by its result: the head stays
abbrev pub told_place : Head → ℕ → Result ℕ Refusal → Told
told_place head written result = record { answer = answer_placed written result; head = head }

-- a refusal ".. changes nothing lent"
unfoldable pub refused : ℕ → ℕ → Lent → Outcome
refused n height k = record { answer = refusing n height; left = k }

-- the bytes written "are the first of the output area, and the rest of it stays"
unfoldable pub given : List ℕ → Head → List ℕ → List ℕ → Outcome
given bytes head table area =
    record { answer = accepting (length bytes); left = record { head = head; table = table; area = put area 0 bytes } }

-- the same bytes again, the record as it was
unfoldable pub again : List ℕ → Lent → Outcome
again bytes k =
    record { answer = repeating (length bytes); left = record { head = k.head; table = k.table; area = put k.area 0 bytes } }

-- the effect where no test holds
unfoldable pub unless : ℕ → ℕ → Lent → Outcome → Outcome
unless n height k effect = cond (eqb n accepted) effect (refused n height k)

-- "1, 2": an area of so many bytes is too short, the record is not sound
unfoldable pub lending : ℕ → Lent → List Test
lending size k =
    (ltb (length k.area) size ⇒ area_too_short)
    ∷ (not (sound k.head k.table) ⇒ record_not_sound)
    ∷ []

-- "1, 2", then the number of a keeper that has another status than this
unfoldable pub readiness : ℕ → ℕ → ℕ → Lent → List Test
readiness size status number k = lending size k ++ (not (eqb k.head.status status) ⇒ number) ∷ []
