-- The maker refuses only what cannot be. 02, M-106: "It refuses exactly when no bundle within 01's limits and made of all those entries and such digests is
-- accepted by Activate at a prepared keeper with these racks, and otherwise only by 1 or 2."
use Rattle.std.specs.Prelude.{◌≡◌, true, List, ℕ, suc, ◌+◌, ◌*◌, ◌<◌, take, drop}
use Rattle.refusals.specs.{accepted, area_too_short, record_not_sound}
use Rattle.rows.specs.Row.{label_of}
use Rattle.roll.specs.Roll.{Roll}
use Rattle.statement.specs.Kinds.{digest_bytes}
use Rattle.rules.specs.Outcomes.{Lent}
use Rattle.rules.specs.Bundle.{old_count, list_at, list_of, added, digests}
use Rattle.rules.specs.Activate.{own_roll, activating}
use Rattle.maker.specs.Rolls.{old_height}
use Rattle.maker.specs.Lists.{answered, entry_digest}
use Rattle.maker.specs.Making.{composing}

-- digest d of old entry i for row r of a roll, at its own height above the old row, is what the store's read answers there. That it lies no higher than the
-- highest is not asked: Activate sees to it.
pub record Answered (e : List ℕ) (store : List ℕ) (ours : Roll) (s : List ℕ) (i : ℕ) (r : ℕ) (d : ℕ) : Type 0 where
  pub there : answered store (label_of ours.rows r) (old_height e (label_of ours.rows r) i + suc d) ≡ true
  pub this :
      take digest_bytes (drop (digest_bytes * d) (digests s (list_of ours.count i r)))
      ≡ entry_digest store (label_of ours.rows r) (old_height e (label_of ours.rows r) i + suc d)

-- "made of all those entries and such digests": the part before the lists is exactly the entries, and the lists hold only what the store's read answers
pub record Such (e : List ℕ) (store : List ℕ) (ours : Roll) (s : List ℕ) : Type 0 where
  pub front : take (list_at s 0) s ≡ e
  pub lists :
      (i : ℕ) → (r : ℕ) → (d : ℕ) → i < old_count e → r < ours.count → d < added s (list_of ours.count i r) → Answered e store ours s i r d

-- whatever the keeper's roll; a bundle over 65,536 bytes is none of those that Activate accepts
abbrev pub ItRefusesOnlyWhatCannotBe : Type 0
ItRefusesOnlyWhatCannotBe =
    (previous : List ℕ) → (own : List ℕ) → (e : List ℕ) → (store : List ℕ) → (roll : List ℕ) → (bundle : List ℕ)
    → ((composing previous own e store roll bundle).number ≡ accepted → ⊥)
    → ((composing previous own e store roll bundle).number ≡ area_too_short → ⊥)
    → ((composing previous own e store roll bundle).number ≡ record_not_sound → ⊥)
    → (k : Lent) → (s : List ℕ) → Such e store (own_roll k) s → (activating k previous own s).answer.number ≡ accepted → ⊥
