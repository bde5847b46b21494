-- A company's Append, Append and read, Append many and Read at two records that it cannot tell apart: one answer, one output area, and the records cannot be
-- told apart again. Assumes nothing.
use mathlib.Core.Path.{◌≡◌, refl, sym, ap, ap₂, ◌∙◌}
use mathlib.Core.Bool.{Bool, true, false, not, cond}
use mathlib.Core.List.{List, [], ◌∷◌, ◌++◌}
use Prim.Native.Nat.{ℕ, ◌+◌}
use native.Mathlib.Omega.{arith}
use lib.ListN.{length}
use lib.Dec.{eqb, ltb}
use Rattle.refusals.specs.{area_too_short, not_active, no_such_ledger, out_of_order, height_at_top}
use Rattle.refusals.specs.{list_of_wrong_length}
use Rattle.refusals.specs.Order.{Test, ◌⇒◌, first}
use Rattle.refusals.proofs.Orders.{refuses}
use Rattle.rows.specs.Sizes.{top_height}
use Rattle.rows.specs.Digests.{appended}
use Rattle.statement.specs.declared.Kind.TheVariants as kinds
use Rattle.statement.specs.Kinds.{receipt_size, reading_size}
use Rattle.statement.specs.Contents.{statement_written}
use Rattle.statement.specs.Cut.{no_digest}
use Rattle.rules.specs.Record.{active}
use Rattle.rules.specs.Outcomes.{Lent, given, readiness}
use Rattle.rules.specs.Rows.{is_absent, sought, present_tail, present_height, receipt_of}
use Rattle.rules.specs.Companies.{belongs}
use Rattle.rules.specs.Derivation.{grown}
use Rattle.rules.specs.Append.{append_refusal, next_tail, next_height, append_statement, moved_on, appending}
use Rattle.rules.specs.AppendMany.{entries, is_list, append_many_refusal, last_tail, last_height, last_statement, moved_by_all, appending_many}
use Rattle.rules.specs.Read.{read_kind, reading, appending_and_reading}
use Rattle.rules.proofs.Noted.{Rowed, Appendable, appendable, Recordable, recordable, readable}
use Rattle.rules.proofs.TablesLeft.{grown_digest}
use Rattle.safety.specs.Calls.{Keeper, lent}
use Rattle.safety.proofs.Sizes.{appended_long}
use Rattle.companies.specs.Calls.{Append}
use Rattle.companies.proofs.Alike.{Alike, same_absent, ready_or_short, Seen, gone, there}
use Rattle.companies.proofs.Told.{ToldAlike, Heights, same_heights, no_heights, not_there, unless_alike, given-alike, sight, moved-alike}

short_or_absent : (b : Bool) → eqb (cond b area_too_short no_such_ledger) out_of_order ≡ false
short_or_absent true = refl
short_or_absent false = refl

short_or_other : (b d : Bool) → eqb (cond b area_too_short (cond d list_of_wrong_length no_such_ledger)) out_of_order ≡ false
short_or_other true d = refl
short_or_other false true = refl
short_or_other false false = refl

module _ (c : Bool) (k l : Keeper) (alike : Alike c k l) (area label : List ℕ) (ours : belongs label c ≡ true) where
  abbrev K : Lent
  K = lent k area

  abbrev L : Lent
  L = lent l area

  seen_so : Seen K L label
  seen_so = sight c k l alike area label ours

  -- Append
  abbrev append_tests : Bool → ℕ → ℕ → List Test
  append_tests absent height expected =
      (absent ⇒ no_such_ledger) ∷ (not (eqb expected (height + 1)) ⇒ out_of_order) ∷ (eqb height top_height ⇒ height_at_top) ∷ []

  append_first : (expected : ℕ) → Seen K L label
      → first (append_tests (is_absent (sought K label)) (present_height K label) expected)
      ≡ first (append_tests (is_absent (sought L label)) (present_height L label) expected)
  append_first expected (gone p q) =
      refuses (is_absent (sought K label)) no_such_ledger _ p ∙ sym (refuses (is_absent (sought L label)) no_such_ledger _ q)
  append_first expected (there p q tails heights) =
      ap₂ (λ (a : Bool) (h : ℕ). first (append_tests a h expected)) (p ∙ sym q) heights

  append_numbers : (size expected : ℕ) → append_refusal size K label expected ≡ append_refusal size L label expected
  unfolding append_refusal
  append_numbers size expected =
      ready_or_short size k area (append_tests (is_absent (sought K label)) (present_height K label) expected) alike.here
      ∙ ap (λ (n : ℕ). cond (ltb (length area) size) area_too_short n) (append_first expected seen_so)
      ∙ sym (ready_or_short size l area (append_tests (is_absent (sought L label)) (present_height L label) expected) alike.there)

  append_heights : (size expected : ℕ) → Seen K L label → Heights (append_refusal size L label expected) (present_height K label) (present_height L label)
  unfolding append_refusal
  append_heights size expected (there p q tails heights) = same_heights heights
  append_heights size expected (gone p q) =
      no_heights
      (ap (λ (n : ℕ). eqb n out_of_order)
      (ready_or_short size l area (append_tests (is_absent (sought L label)) (present_height L label) expected) alike.there
      ∙ ap (λ (n : ℕ). cond (ltb (length area) size) area_too_short n) (refuses (is_absent (sought L label)) no_such_ledger _ q))
      ∙ short_or_absent (ltb (length area) size))

  append_said :
      (entry : List ℕ) → present_tail K label ≡ present_tail L label → present_height K label ≡ present_height L label
      → append_statement K label entry ≡ append_statement L label entry
  unfolding append_statement
  append_said entry tails heights =
      λ i. statement_written
      (record {
        kind = kinds.Append (heights i + 1);
        identity = alike.identity i;
        own = alike.own i;
        label = label;
        tail = appended (tails i) entry;
        other = no_digest;
        roll = no_digest;
      })

  append_left :
      (entry : List ℕ) → present_tail K label ≡ present_tail L label → present_height K label ≡ present_height L label
      → Appendable K label → Appendable L label
      → Alike c (record { head = k.head; table = moved_on K label entry }) (record { head = l.head; table = moved_on L label entry })
  unfolding moved_on
  append_left entry tails heights a b =
      moved-alike c k l alike area label ours (next_tail K label entry) (next_tail L label entry) (next_height K label) (next_height L label)
      (ap (λ (t : List ℕ). appended t entry) tails) (ap (λ (x : ℕ). x + 1) heights) (appended_long (present_tail K label) entry) (omega arith)
      (omega (arith, a.below_top)) a.has b.has

  pub appending-alike : (entry : List ℕ) (expected : ℕ) → ToldAlike c (appending K label entry expected) (appending L label entry expected)
  unfolding appending
  appending-alike entry expected =
      unless_alike c k l alike area (append_refusal receipt_size K label expected) (append_refusal receipt_size L label expected) _ _ _ _
      (append_numbers receipt_size expected) (append_heights receipt_size expected seen_so)
      (λ p q. effect (appendable receipt_size K label expected p) (appendable receipt_size L label expected q) seen_so)
    where
      effect : Appendable K label → Appendable L label → Seen K L label
          → ToldAlike c (given (append_statement K label entry) k.head (moved_on K label entry) area)
          (given (append_statement L label entry) l.head (moved_on L label entry) area)
      effect a b (gone p q) = not_there K label a.has p
      effect a b (there p q tails heights) =
          given-alike c k l alike area (append_statement K label entry) (append_statement L label entry) k.head l.head (moved_on K label entry)
          (moved_on L label entry)
          (append_said entry tails heights) (append_left entry tails heights a b)

  -- Append and read
  abbrev both_bytes : Keeper → List ℕ → ℕ → List ℕ → List ℕ
  both_bytes q entry expected nonce =
      append_statement (lent q area) label entry
      ++ statement_written (receipt_of q.head (read_kind (next_height (lent q area) label) nonce) label (next_tail (lent q area) label entry))

  pub appending_and_reading-alike :
      (entry : List ℕ) (expected : ℕ) (nonce : List ℕ)
      → ToldAlike c (appending_and_reading K label entry expected nonce) (appending_and_reading L label entry expected nonce)
  unfolding appending_and_reading
  appending_and_reading-alike entry expected nonce =
      unless_alike c k l alike area (append_refusal (receipt_size + reading_size) K label expected)
      (append_refusal (receipt_size + reading_size) L label expected) _ _ _ _
      (append_numbers (receipt_size + reading_size) expected) (append_heights (receipt_size + reading_size) expected seen_so)
      (λ p q. effect (appendable (receipt_size + reading_size) K label expected p) (appendable (receipt_size + reading_size) L label expected q) seen_so)
    where
      effect : Appendable K label → Appendable L label → Seen K L label
          → ToldAlike c (given (both_bytes k entry expected nonce) k.head (moved_on K label entry) area)
          (given (both_bytes l entry expected nonce) l.head (moved_on L label entry) area)
      effect a b (gone p q) = not_there K label a.has p
      effect a b (there p q tails heights) =
          given-alike c k l alike area (both_bytes k entry expected nonce) (both_bytes l entry expected nonce) k.head l.head (moved_on K label entry)
          (moved_on L label entry)
          (λ i. append_said entry tails heights i
          ++ statement_written
          (record {
            kind = read_kind (heights i + 1) nonce;
            identity = alike.identity i;
            own = alike.own i;
            label = label;
            tail = appended (tails i) entry;
            other = no_digest;
            roll = no_digest;
          }))
          (append_left entry tails heights a b)

  -- Append many
  abbrev many_tests : List ℕ → Bool → ℕ → ℕ → List Test
  many_tests list absent height expected =
      (not (is_list list) ⇒ list_of_wrong_length)
      ∷ (absent ⇒ no_such_ledger)
      ∷ (not (eqb expected (height + 1)) ⇒ out_of_order)
      ∷ (ltb top_height (height + entries list) ⇒ height_at_top)
      ∷ []

  many_absent : (list : List ℕ) (absent : Bool) (height expected : ℕ) → absent ≡ true
      → first (many_tests list absent height expected) ≡ cond (not (is_list list)) list_of_wrong_length no_such_ledger
  unfolding first
  many_absent list absent height expected e = rw e

  many_first : (list : List ℕ) (expected : ℕ) → Seen K L label
      → first (many_tests list (is_absent (sought K label)) (present_height K label) expected)
      ≡ first (many_tests list (is_absent (sought L label)) (present_height L label) expected)
  many_first list expected (gone p q) =
      many_absent list (is_absent (sought K label)) (present_height K label) expected p
      ∙ sym (many_absent list (is_absent (sought L label)) (present_height L label) expected q)
  many_first list expected (there p q tails heights) =
      ap₂ (λ (a : Bool) (h : ℕ). first (many_tests list a h expected)) (p ∙ sym q) heights

  many_numbers :
      (list : List ℕ) (expected : ℕ)
      → append_many_refusal receipt_size K label list expected ≡ append_many_refusal receipt_size L label list expected
  unfolding append_many_refusal
  many_numbers list expected =
      ready_or_short receipt_size k area (many_tests list (is_absent (sought K label)) (present_height K label) expected) alike.here
      ∙ ap (λ (n : ℕ). cond (ltb (length area) receipt_size) area_too_short n) (many_first list expected seen_so)
      ∙ sym (ready_or_short receipt_size l area (many_tests list (is_absent (sought L label)) (present_height L label) expected) alike.there)

  many_heights : (list : List ℕ) (expected : ℕ) → Seen K L label
      → Heights (append_many_refusal receipt_size L label list expected) (present_height K label) (present_height L label)
  unfolding append_many_refusal
  many_heights list expected (there p q tails heights) = same_heights heights
  many_heights list expected (gone p q) =
      no_heights
      (ap (λ (n : ℕ). eqb n out_of_order)
      (ready_or_short receipt_size l area (many_tests list (is_absent (sought L label)) (present_height L label) expected) alike.there
      ∙ ap (λ (n : ℕ). cond (ltb (length area) receipt_size) area_too_short n)
      (many_absent list (is_absent (sought L label)) (present_height L label) expected q))
      ∙ short_or_other (ltb (length area) receipt_size) (not (is_list list)))

  pub appending_many-alike : (list : List ℕ) (expected : ℕ) → ToldAlike c (appending_many K label list expected) (appending_many L label list expected)
  unfolding appending_many moved_by_all last_statement
  appending_many-alike list expected =
      unless_alike c k l alike area (append_many_refusal receipt_size K label list expected) (append_many_refusal receipt_size L label list expected) _ _ _ _
      (many_numbers list expected) (many_heights list expected seen_so)
      (λ p q. effect (recordable receipt_size K label list expected p) (recordable receipt_size L label list expected q) seen_so)
    where
      effect : Recordable K label list → Recordable L label list → Seen K L label
          → ToldAlike c (given (last_statement K label list) k.head (moved_by_all K label list) area)
          (given (last_statement L label list) l.head (moved_by_all L label list) area)
      effect a b (gone p q) = not_there K label a.has p
      effect a b (there p q tails heights) =
          given-alike c k l alike area (last_statement K label list) (last_statement L label list) k.head l.head (moved_by_all K label list)
          (moved_by_all L label list)
          (λ i. statement_written
          (record {
            kind = kinds.Append (heights i + entries list);
            identity = alike.identity i;
            own = alike.own i;
            label = label;
            tail = grown (tails i) list (entries list);
            other = no_digest;
            roll = no_digest;
          }))
          (moved-alike c k l alike area label ours (last_tail K label list) (last_tail L label list) (last_height K label list) (last_height L label list)
          (ap (λ (t : List ℕ). grown t list (entries list)) tails) (ap (λ (x : ℕ). x + entries list) heights)
          (grown_digest (present_tail K label) list (entries list) a.some).long (omega (arith, a.some)) a.below_top a.has b.has)

  -- Read
  abbrev read_bytes : Keeper → List ℕ → List ℕ
  read_bytes q nonce =
      statement_written
      (receipt_of q.head (read_kind (present_height (lent q area) label) nonce) label (present_tail (lent q area) label))

  read_number : Keeper → ℕ
  read_number q = first (readiness reading_size active not_active (lent q area) ++ (is_absent (sought (lent q area) label) ⇒ no_such_ledger) ∷ [])

  read_numbers : Seen K L label → read_number k ≡ read_number l
  unfolding read_number
  read_numbers s =
      ready_or_short reading_size k area ((is_absent (sought K label) ⇒ no_such_ledger) ∷ []) alike.here
      ∙ ap (λ (b : Bool). cond (ltb (length area) reading_size) area_too_short (first ((b ⇒ no_such_ledger) ∷ []))) (same_absent K L label s)
      ∙ sym (ready_or_short reading_size l area ((is_absent (sought L label) ⇒ no_such_ledger) ∷ []) alike.there)

  pub reading-alike : (nonce : List ℕ) → ToldAlike c (reading K label nonce) (reading L label nonce)
  unfolding reading read_number
  reading-alike nonce =
      unless_alike c k l alike area (read_number k) (read_number l) 0 0 (given (read_bytes k nonce) k.head k.table area)
      (given (read_bytes l nonce) l.head l.table area)
      (read_numbers seen_so) (same_heights refl) (λ p q. effect (readable K label p) seen_so)
    where
      effect : Rowed K label → Seen K L label
          → ToldAlike c (given (read_bytes k nonce) k.head k.table area) (given (read_bytes l nonce) l.head l.table area)
      effect has (gone p q) = not_there K label has p
      effect has (there p q tails heights) =
          given-alike c k l alike area (read_bytes k nonce) (read_bytes l nonce) k.head l.head k.table l.table
          (λ i. statement_written
          (record {
            kind = read_kind (heights i) nonce;
            identity = alike.identity i;
            own = alike.own i;
            label = label;
            tail = tails i;
            other = no_digest;
            roll = no_digest;
          }))
          alike
