-- What the maker makes, or why not, as C is answered.
use Rattle.std.specs.Prelude.{Result, Ok, Err}
use Rattle.refusals.specs.Refused.{refusal_number}
use Rattle.refusals.specs.declared.Refusal.{Refusal}
use Rattle.maker.specs.declared.Made.{Made}

-- what is made; a refusal has its number, and no bytes are written
abbrev pub made_of : Result Made Refusal → Made
made_of (Ok made) = made
made_of (Err r) = record { number = refusal_number r; roll = 0; bundle = 0 }
