-- What the maker writes is accepted. 02, M-106: "What it writes is accepted there, with the new roll as the keeper's.", by "Activate at a prepared keeper with
-- these racks".
use Rattle.std.specs.Prelude.{◌≡◌, true, List, ℕ}
use Rattle.refusals.specs.{accepted}
use Rattle.octets.specs.Layouts.{holds}
use Rattle.rack.specs.Racks.{rack_digest}
use Rattle.roll.specs.Roll.{roll_layout}
use Rattle.rules.specs.Outcomes.{Lent}
use Rattle.rules.specs.Record.{sound, prepared}
use Rattle.rules.specs.Activate.{own_roll, activating}
use Rattle.maker.specs.Rolls.{roll_made}
use Rattle.maker.specs.Lists.{bundle_made}
use Rattle.maker.specs.Making.{blocks_made, composing}

-- "a prepared keeper with these racks", with a sound record
pub record Prepared (k : Lent) (previous : List ℕ) (own : List ℕ) : Type 0 where
  pub stands : sound k.head k.table ≡ true
  pub waits : k.head.status ≡ prepared
  pub before : rack_digest previous ≡ k.head.previous
  pub ours : rack_digest own ≡ k.head.own

-- the roll is one that Initialise takes and reads as the new roll, and with it the bundle is accepted
pub record Taken (previous : List ℕ) (own : List ℕ) (e : List ℕ) (store : List ℕ) : Type 0 where
  pub roll : holds roll_layout (blocks_made e) ≡ true
  pub read : roll_layout.cut (blocks_made e) ≡ roll_made e
  pub bundle : (k : Lent) → Prepared k previous own → own_roll k ≡ roll_made e → (activating k previous own (bundle_made e store)).answer.number ≡ accepted

abbrev pub WhatItWritesIsAccepted : Type 0
WhatItWritesIsAccepted =
    (previous : List ℕ) → (own : List ℕ) → (e : List ℕ) → (store : List ℕ) → (roll : List ℕ) → (bundle : List ℕ)
    → (composing previous own e store roll bundle).number ≡ accepted → Taken previous own e store
