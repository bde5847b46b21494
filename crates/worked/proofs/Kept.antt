-- The worked history is good: each call is accepted where it stands, keepers are woken first and once, marks are honest and strings told apart.
-- Assumes nothing.
use mathlib.Core.Path.{◌≡◌, refl, sym, ap, subst}
use mathlib.Core.Bool.{true, false}
use mathlib.Core.List.{List, ◌∷◌}
use Prim.Native.Nat.{ℕ}
use Rattle.octets.specs.Strings.{same}
use Rattle.rules.specs.Initialise.{is_in_rack}
use Rattle.desk.specs.declared.Finding.{Finding}
use Rattle.safety.specs.Calls.{Wake, is_wake, sized}
use Rattle.safety.specs.Histories.{called, at_front, behind}
use Rattle.safety.specs.Chip.{Honest, claims_by}
use Rattle.safety.specs.Hashed.{hashed_by}
use Rattle.worked.proofs.Strings.{key, rack_A, rack_B, digest_A}
use Rattle.worked.proofs.Racks.{known_A, known_B}
use Rattle.worked.proofs.Rolls.{Page, young, grown, Kept, young_kept, grown_kept}
use Rattle.worked.proofs.Goings.{Beat, turn, events, now, All, none, and, Good, begun, went, judged, Signed, here, before, honest}
use Rattle.worked.proofs.Story.{keepers, start, woken, founded, keeping, finalised, prepared, active, receipt, parting, entering, reading}
use Rattle.worked.proofs.Story.{founds, makes, appends, leaves, enters, activates, reads, asks_A, asks_B}
use Rattle.worked.proofs.Story.{woken_A, founded_A, made_A, grown_A, judged_A, left_A, woken_B, entered_B, active_B, read_B, told}
use Rattle.worked.proofs.Steps.{wakes, founds_so, makes_so, appends_so, leaves_so, enters_so, reads_so}
use Rattle.worked.proofs.Steps.{signs_receipt, signs_young, signs_grown, signs_entering, signs_reading}
use Rattle.worked.proofs.Bundled.{activates_so, claimed, hashed_there}
use Rattle.worked.proofs.Verdicts.{judged_A as finds-A, judged_B as finds-B, claimed_by_two}
use Rattle.worked.proofs.Apart.{Told, told_A, told_B, told_young, told_grown}

abbrev Fair : List Beat → Type 0
Fair l = Good keepers start Told l

-- one more call, at a keeper that the history has left so
module _ {l : List Beat} (who : List ℕ) (r : Fair l) where
  wake : now start l who ≡ start who → called who (events l) ≡ false → Fair (turn who Wake (woken who) ∷ l)
  unfolding is_wake sized claims_by hashed_by
  wake n c = went (wakes who) n c refl none none r

  found : now start l who ≡ woken who → called who (events l) ≡ true → is_in_rack who rack_A ≡ true → Fair (turn who founds (founded who) ∷ l)
  unfolding is_wake sized claims_by hashed_by
  found n c e = went (founds_so who e) n c refl none none r

  make : now start l who ≡ founded who → called who (events l) ≡ true → Fair (turn who makes (keeping who young) ∷ l)
  unfolding is_wake sized claims_by hashed_by
  make n c = went (makes_so who) n c refl none none r

  append : now start l who ≡ keeping who young → called who (events l) ≡ true → Fair (turn who appends (keeping who grown) ∷ l)
  unfolding is_wake sized claims_by hashed_by
  append n c = went (appends_so who) n c refl none none r

  leave : {p : Page} → Kept p → Told p.string → now start l who ≡ keeping who p → called who (events l) ≡ true
      → Fair (turn who leaves (finalised who p) ∷ l)
  unfolding is_wake sized claims_by hashed_by
  leave k t n c = went (leaves_so who k) n c refl none (and (subst Told (sym k.string_is) t) none) r

  enter : now start l who ≡ woken who → called who (events l) ≡ true → is_in_rack who rack_B ≡ true → Fair (turn who enters (prepared who) ∷ l)
  unfolding is_wake sized claims_by hashed_by digest_A
  enter n c e = went (enters_so who e) n c refl none none r

  read : now start l who ≡ active who → called who (events l) ≡ true → Fair (turn who reads (active who) ∷ l)
  unfolding is_wake sized claims_by hashed_by
  read n c = went (reads_so who) n c refl none none r

  -- with the words of the third and the first keeper, and of the fifth and the fourth
  activate : now start l who ≡ prepared who → called who (events l) ≡ true
      → Signed start (key 3) (parting young) l → Signed start (key 1) (parting grown) l → Signed start (key 5) entering l → Signed start (key 4) entering l
      → Fair (turn who activates (active who) ∷ l)
  unfolding is_wake sized
  activate n c three one five four =
      went (activates_so who) n c refl
      (subst (All (Honest keepers start (events l))) (sym (claimed who))
      (and (honest (behind (behind at_front)) r three)
      (and (honest at_front r one)
      (and (honest (behind (behind (behind (behind at_front)))) r five)
      (and (honest (behind (behind (behind at_front))) r four) none)))))
      (subst (All Told) (sym (hashed_there who)) (and told_A (and told_B (and told_young (and told_grown none)))))
      r

-- rack A
woken_fair : Fair woken_A
unfolding called same
woken_fair = wake (key 3) (wake (key 2) (wake (key 1) begun refl refl) refl refl) refl refl

founded_fair : Fair founded_A
unfolding called same
founded_fair = found (key 3) (found (key 2) (found (key 1) woken_fair refl refl known_A.a_in) refl refl known_A.b_in) refl refl known_A.c_in

made_fair : Fair made_A
unfolding called same
made_fair = make (key 3) (make (key 2) (make (key 1) founded_fair refl refl) refl refl) refl refl

grown_fair : Fair grown_A
unfolding called same
grown_fair = append (key 2) (append (key 1) made_fair refl refl) refl refl

judged_fair : Fair judged_A
unfolding same
judged_fair =
    judged (ap (λ (f : Finding). f.number) finds-A)
    (subst (All (Honest keepers start (events grown_A))) (sym (claimed_by_two asks_A receipt known_A))
    (and (honest (behind at_front) grown_fair (here (signs_receipt (key 2))))
    (and (honest at_front grown_fair (before (here (signs_receipt (key 1))))) none)))
    told_A
    grown_fair

left_fair : Fair left_A
unfolding called same
left_fair = leave (key 3) (leave (key 1) judged_fair grown_kept told_grown refl refl) young_kept told_young refl refl

-- rack B
woken_B_fair : Fair woken_B
unfolding called same
woken_B_fair = wake (key 5) (wake (key 4) left_fair refl refl) refl refl

entered_fair : Fair entered_B
unfolding called same
entered_fair = enter (key 5) (enter (key 4) woken_B_fair refl refl known_B.a_in) refl refl known_B.b_in

-- what rack B's bundle speaks of, as it was returned
three : Signed start (key 3) (parting young) entered_B
unfolding same
three = before (before (before (before (here (signs_young (key 3))))))

one : Signed start (key 1) (parting grown) entered_B
unfolding same
one = before (before (before (before (before (here (signs_grown (key 1)))))))

five : Signed start (key 5) entering entered_B
unfolding same
five = here (signs_entering (key 5) known_B.b_in)

four : Signed start (key 4) entering entered_B
unfolding same
four = before (here (signs_entering (key 4) known_B.a_in))

active_fair : Fair active_B
unfolding called same
active_fair =
    activate (key 5) (activate (key 4) entered_fair refl refl three one five four) refl refl (before three) (before one) (before five) (before four)

read_fair : Fair read_B
unfolding called same
read_fair = read (key 5) (read (key 4) active_fair refl refl) refl refl

pub good : Good keepers start Told told
unfolding same
good =
    judged (ap (λ (f : Finding). f.number) finds-B)
    (subst (All (Honest keepers start (events read_B))) (sym (claimed_by_two asks_B reading known_B))
    (and (honest (behind (behind (behind (behind at_front)))) read_fair (here (signs_reading (key 5))))
    (and (honest (behind (behind (behind at_front))) read_fair (before (here (signs_reading (key 4))))) none)))
    told_B
    read_fair
