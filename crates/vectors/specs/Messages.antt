-- What the contracts on files of messages cite.
use Rattle.std.specs.Prelude.{ℕ, ◌+◌, ◌-◌, ◌*◌, ◌≤◌}
use Rattle.vectors.specs.declared.messages.Messages.{Messages}

-- the last message has at most this many bytes
abbrev pub Within : Messages → ℕ → Type 0
Within m most = m.first + m.step * (m.count - 1) ≤ most
