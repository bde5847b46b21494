-- 02, M-100: "Record and statement are those after appending them one by one." The rule for many is Append's, entry by entry. Assumes nothing.
use mathlib.Core.Path.{◌≡◌, refl, sym, ap, ap₂, ◌∙◌}
use mathlib.Core.Bool.{Bool, true, false, not, cond}
use mathlib.Core.List.{List, [], ◌∷◌, ◌++◌}
use Prim.Native.Nat.{ℕ, zero, suc, ◌+◌, ◌-◌, ◌≤◌, ◌<◌}
use native.Mathlib.Omega.{arith}
use borrow.Author.Tests.{eq-eqb, ne_eqb, lt-ltb, le-ltb, eqb-true, eqb-false, ltb-true, ltb-false, not-false}
use lib.ListN.{length, length-append, length-drop}
use lib.Seq.{take_all}
use lib.Dec.{eqb, ltb}
use Rattle.refusals.specs.{accepted, list_of_wrong_length, no_such_ledger, out_of_order, height_at_top, not_active}
use Rattle.refusals.specs.Order.{Test, ◌⇒◌, first}
use Rattle.refusals.proofs.Orders.{numbered, passes, first_then, none_refuses, lacks, lacking}
use Rattle.octets.specs.Strings.{put}
use Rattle.octets.proofs.Numbers.{bytes_length}
use Rattle.hash.proofs.Promised.{sha256-length}
use Rattle.std.specs.Prelude.{Ok}
use Rattle.rows.specs.Sizes.{tail_bytes, top_height}
use Rattle.rows.specs.Row.{label_of, tail_of, height_of, row_holds}
use Rattle.rows.specs.Table.{rows_fit}
use Rattle.rows.specs.Digests.{appended}
use Rattle.rows.proofs.Searches.{found_is}
use Rattle.statement.specs.declared.Kind.TheVariants.{Append}
use Rattle.statement.specs.Kinds.{digest_bytes, receipt_size}
use Rattle.statement.specs.Contents.{receipt, body, statement_written}
use Rattle.rules.specs.Record.{active, sound}
use Rattle.rules.specs.Outcomes.{Lent, Outcome, accepting, refused, given, unless, lending, readiness}
use Rattle.rules.specs.Table.{moved}
use Rattle.rules.specs.Rows.{is_absent, row_number, sought, present_tail, present_height, receipt_of}
use Rattle.rules.specs.Derivation.{grown}
use Rattle.rules.specs.Append.{append_refusal, next_tail, next_height, append_statement, moved_on, appending}
use Rattle.rules.specs.AppendMany.{entries, is_list, append_many_refusal, moved_by_all, last_statement, appending_many}
use Rattle.rules.specs.OneByOne.{entry_at, after_entries, append_of, TooHigh, OneByOne}
use Rattle.rules.proofs.Firsts.{Ready, ready, sound_rows, sound_again}
use Rattle.rules.proofs.FoundRows.{row_below, row_labelled, row_next}
use Rattle.rules.proofs.Noted.{row_of, Rowed, rowed, listed_some}
use Rattle.rules.proofs.Prepared.{ready_by, comes_to, has_effect}
use Rattle.rules.proofs.Refused.{unless_says}
use Rattle.rules.proofs.RowsParts.{put_over}
use Rattle.rules.proofs.RowsMoved.{find_stays, tail-moved, height-moved, moved_fits, moved_over}

-- an append at a keeper that is ready and has the ledger, by its heights
module _ (k : Lent) (label : List ℕ) (r : Ready receipt_size active k) (there : is_absent (sought k label) ≡ false) (entry : List ℕ) (expected : ℕ)
    (next : expected ≡ present_height k label + 1) where
  at_heights : append_refusal receipt_size k label expected ≡ cond (eqb (present_height k label) top_height) height_at_top accepted
  unfolding append_refusal first
  at_heights =
      ready_by receipt_size k r.room r.sounds active not_active _ r.acts ∙ rw (there, eq-eqb expected (present_height k label + 1) next)

  goes : (present_height k label ≡ top_height → ⊥) → appending k label entry expected ≡ given (append_statement k label entry) k.head (moved_on k label entry) k.area
  unfolding appending
  goes below = has_effect _ (present_height k label) k _ (at_heights ∙ rw (ne_eqb (present_height k label) top_height below))

  stops_at_top : present_height k label ≡ top_height → appending k label entry expected ≡ refused height_at_top (present_height k label) k
  unfolding appending
  stops_at_top at = comes_to _ height_at_top (present_height k label) k _ (at_heights ∙ rw (eq-eqb (present_height k label) top_height at)) refl

-- what an append finds, but for the top
record Based (k : Lent) (label : List ℕ) (expected : ℕ) : Type 0 where
  ready : Ready receipt_size active k
  has : Rowed k label
  next : expected ≡ present_height k label + 1

module _ (k : Lent) (label list : List ℕ) (expected : ℕ) (b : Based k label expected) where
  -- the row, the statement and what is left after n entries
  abbrev tail_after : ℕ → List ℕ
  tail_after n = grown (present_tail k label) list n

  abbrev height_after : ℕ → ℕ
  height_after n = present_height k label + n

  abbrev statement_after : ℕ → List ℕ
  statement_after n = statement_written (receipt_of k.head (Append (height_after n)) label (tail_after n))

  abbrev table_after : ℕ → List ℕ
  table_after n = moved k.table (row_of k label) (tail_after n) (height_after n)

  abbrev left_after : ℕ → Lent
  left_after n = record { head = k.head; table = table_after n; area = put k.area 0 (statement_after n) }

  abbrev given_after : ℕ → Outcome
  given_after n = given (statement_after n) k.head (table_after n) k.area

  tail_sized : (n : ℕ) → length (tail_after (suc n)) ≡ tail_bytes
  unfolding grown appended
  tail_sized n = sha256-length _

  as_long : (n m : ℕ) → length (statement_after (suc n)) ≡ length (statement_after (suc m))
  unfolding receipt body statement_written
  as_long n m =
      let h = k.head in
      let t = tail_sized n in
      let u = tail_sized m in
      simp (length-append, bytes_length) (omega arith)

  -- the keeper after n + 1 entries below the top
  module _ (n : ℕ) (low : height_after (suc n) ≤ top_height) where
    fit : rows_fit k.head.count k.table ≡ true
    fit = sound_rows k.head k.table b.ready.sounds

    stands_there : row_holds (label_of k.table (row_of k label)) (tail_after (suc n)) (height_after (suc n)) ≡ true
    stands_there =
        let found = found_is k.head.count k.table label (row_of k label) fit b.has.found in
        let named = row_labelled label (present_tail k label) (present_height k label) b.has.holds in
        let e : height_after (suc n) ≡ present_height k label + n + 1 = omega arith in
        rw (found.1, e) (row_next label (tail_after (suc n)) (present_height k label + n) named (omega arith))

    sounds : sound k.head (table_after (suc n)) ≡ true
    sounds =
        sound_again k.head k.table (table_after (suc n)) b.ready.sounds
        (moved_fits k.table (row_of k label) (tail_after (suc n)) (height_after (suc n)) b.has.within (tail_sized n) (omega arith) stands_there
        k.head.count fit (found_is k.head.count k.table label (row_of k label) fit b.has.found).0)

    roomy : receipt_size ≤ length (put k.area 0 (statement_after (suc n)))
    unfolding put
    roomy = simp (length-append, length-drop) (omega (arith, b.ready.room))

    ready_after : Ready receipt_size active (left_after (suc n))
    ready_after = record { room = roomy; sounds = sounds; acts = b.ready.acts }

    found_after : sought (left_after (suc n)) label ≡ Ok (row_of k label)
    found_after = find_stays k.table (row_of k label) (tail_after (suc n)) (height_after (suc n)) b.has.within (tail_sized n) k.head.count label ∙ b.has.found

    tail_there : present_tail (left_after (suc n)) label ≡ tail_after (suc n)
    tail_there =
        ap (λ f. tail_of (table_after (suc n)) (row_number f)) found_after
        ∙ tail-moved k.table (row_of k label) (tail_after (suc n)) (height_after (suc n)) b.has.within (tail_sized n)

    height_there : present_height (left_after (suc n)) label ≡ height_after (suc n)
    height_there =
        ap (λ f. height_of (table_after (suc n)) (row_number f)) found_after
        ∙ height-moved k.table (row_of k label) (tail_after (suc n)) (height_after (suc n)) b.has.within (tail_sized n) (omega arith)

    next_there : expected + suc n ≡ present_height (left_after (suc n)) label + 1
    next_there = omega (arith, height_there, b.next)

  -- one entry more
  step : (n : ℕ) → height_after (suc (suc n)) ≤ top_height → appending (left_after (suc n)) label (entry_at list (suc n)) (expected + suc n) ≡ given_after (suc (suc n))
  unfolding given append_statement moved_on grown
  step n h =
      let low : height_after (suc n) ≤ top_height = omega arith in
      let k' : Lent = left_after (suc n) in
      let entry : List ℕ = entry_at list (suc n) in
      let tails : next_tail k' label entry ≡ tail_after (suc (suc n)) = ap (λ (t : List ℕ). appended t entry) (tail_there n low) in
      let heights : next_height k' label ≡ height_after (suc (suc n)) = omega (arith, height_there n low) in
      let said : append_statement k' label entry ≡ statement_after (suc (suc n)) =
      ap₂ (λ (t : List ℕ) (x : ℕ). statement_written (receipt_of k.head (Append x) label t)) tails heights in
      let moves : moved_on k' label entry ≡ table_after (suc (suc n)) =
      (λ i. moved k'.table (row_number (found_after n low i)) (tails i) (heights i))
      ∙ moved_over k.table (row_of k label) (tail_after (suc n)) (tail_after (suc (suc n))) (height_after (suc n)) (height_after (suc (suc n))) b.has.within (tail_sized n) (tail_sized (suc n)) in
      goes k' label (ready_after n low) (ap is_absent (found_after n low)) entry (expected + suc n) (next_there n low) (λ e. omega (arith, height_there n low))
      ∙ (λ i. given (said i) k.head (moves i) k'.area)
      ∙ ap (λ (a : List ℕ). record { answer = accepting (length (statement_after (suc (suc n)))); left = record { head = k.head; table = table_after (suc (suc n)); area = a } })
      (put_over k.area 0 (statement_after (suc n)) (omega arith) (statement_after (suc (suc n))) (as_long n (suc n)))

  first_step : height_after 1 ≤ top_height → append_of k label list expected 0 ≡ given_after 1
  unfolding after_entries append_statement moved_on grown
  first_step h =
      goes k label b.ready (ap is_absent b.has.found) (entry_at list 0) (expected + 0) (omega (arith, b.next)) (λ e. omega arith)

  -- the append of each entry below the top
  chain : (n : ℕ) → height_after (suc n) ≤ top_height → append_of k label list expected n ≡ given_after (suc n)
  unfolding given after_entries
  chain zero h = first_step h
  chain (suc n) h =
      ap (λ (o : Outcome). appending o.left label (entry_at list (suc n)) (expected + suc n)) (chain n (omega arith)) ∙ step n h

  chain-accepted : (n : ℕ) → height_after (suc n) ≤ top_height → (append_of k label list expected n).answer.number ≡ accepted
  unfolding given
  chain-accepted n h = ap (λ (o : Outcome). o.answer.number) (chain n h)

  -- the append of the entry that would pass it
  top_stops : (n : ℕ) → height_after n ≡ top_height → (append_of k label list expected n).answer.number ≡ height_at_top
  unfolding given refused after_entries
  top_stops zero h =
      ap (λ (o : Outcome). o.answer.number)
      (stops_at_top k label b.ready (ap is_absent b.has.found) (entry_at list 0) (expected + 0) (omega (arith, b.next)) (omega arith))
  top_stops (suc n) h =
      let low : height_after (suc n) ≤ top_height = omega arith in
      ap (λ (o : Outcome). (appending o.left label (entry_at list (suc n)) (expected + suc n)).answer.number) (chain n low)
      ∙ ap (λ (o : Outcome). o.answer.number)
      (stops_at_top (left_after (suc n)) label (ready_after n low) (ap is_absent (found_after n low)) (entry_at list (suc n)) (expected + suc n) (next_there n low)
      (height_there n low ∙ h))

  too_high : top_height < height_after (entries list) → TooHigh k label list expected
  too_high over =
      let low = row_below label (present_tail k label) (present_height k label) b.has.holds in
      record {
        which = top_height - present_height k label;
        listed = omega arith;
        before_it = λ i h. chain-accepted i (omega arith);
        refuses = top_stops (top_height - present_height k label) (omega arith);
      }

-- the tests of both calls after the first three; a is the number that those come to, z whether it is 0
module _ (a : ℕ) where
  abbrev many_number : Bool → Bool → Bool → Bool → Bool → ℕ
  many_number z list absent other over = cond z (cond (not list) list_of_wrong_length (cond absent no_such_ledger (cond other out_of_order (cond over height_at_top accepted)))) a

  abbrev one_number : Bool → Bool → Bool → Bool → ℕ
  one_number z absent other top = cond z (cond absent no_such_ledger (cond other out_of_order (cond top height_at_top accepted))) a

  refused-alike :
      (z list absent other over top : Bool) → (many_number z list absent other over ≡ accepted → ⊥) → (many_number z list absent other over ≡ list_of_wrong_length → ⊥)
      → (many_number z list absent other over ≡ height_at_top → ⊥) → many_number z list absent other over ≡ one_number z absent other top
  refused-alike false list absent other over top p q r = refl
  refused-alike true false absent other over top p q r = absurd (q refl)
  refused-alike true true true other over top p q r = refl
  refused-alike true true false true over top p q r = refl
  refused-alike true true false false true top p q r = absurd (r refl)
  refused-alike true true false false false top p q r = absurd (p refl)

  one_alike : (z absent other over top : Bool) → (z ≡ true → absent ≡ false → over ≡ top) → many_number z true absent other over ≡ one_number z absent other top
  one_alike false absent other over top e = refl
  one_alike true true other over top e = refl
  one_alike true false true over top e = refl
  one_alike true false false over top e = ap (λ (b : Bool). cond b height_at_top accepted) (e refl refl)

-- one more passes the top exactly at the top
at_the_top : (height : ℕ) → height ≤ top_height → ltb top_height (height + 1) ≡ eqb height top_height
at_the_top height h = go (eqb height top_height) refl
  where
    go : (b : Bool) → eqb height top_height ≡ b → ltb top_height (height + 1) ≡ b
    go true e = let p = eqb-true height top_height e in lt-ltb top_height (height + 1) (omega arith)
    go false e = let p = eqb-false height top_height e in le-ltb top_height (height + 1) (omega arith)

module _ (k : Lent) (label list : List ℕ) (expected : ℕ) where
  abbrev firsts : List Test
  firsts = readiness receipt_size active not_active k

  abbrev number : ℕ
  number = append_many_refusal receipt_size k label list expected

  abbrev absent : Bool
  absent = is_absent (sought k label)

  abbrev other : Bool
  other = not (eqb expected (present_height k label + 1))

  abbrev over : Bool
  over = ltb top_height (present_height k label + entries list)

  abbrev top : Bool
  top = eqb (present_height k label) top_height

  says : (appending_many k label list expected).answer.number ≡ number
  unfolding appending_many
  says = unless_says number (present_height k label) k _ _ _ _

  number_is : number ≡ many_number (first firsts) (eqb (first firsts) accepted) (is_list list) absent other over
  unfolding append_many_refusal readiness lending numbered first
  number_is =
      first_then firsts
      ((not (is_list list) ⇒ list_of_wrong_length) ∷ (absent ⇒ no_such_ledger) ∷ (other ⇒ out_of_order) ∷ (over ⇒ height_at_top) ∷ []) refl

  append_number_is : append_refusal receipt_size k label expected ≡ one_number (first firsts) (eqb (first firsts) accepted) absent other top
  unfolding append_refusal readiness lending numbered first
  append_number_is = first_then firsts ((absent ⇒ no_such_ledger) ∷ (other ⇒ out_of_order) ∷ (top ⇒ height_at_top) ∷ []) refl

  -- the tests before the top's
  abbrev earlier : List Test
  earlier = firsts ++ (not (is_list list) ⇒ list_of_wrong_length) ∷ (absent ⇒ no_such_ledger) ∷ (other ⇒ out_of_order) ∷ []

  abbrev last_test : List Test
  last_test = (over ⇒ height_at_top) ∷ []

  split : number ≡ cond (eqb (first earlier) accepted) (first last_test) (first earlier)
  unfolding append_many_refusal readiness lending numbered
  split = first_then earlier last_test refl

  not_the_top : eqb (first earlier) height_at_top ≡ false
  unfolding readiness lending lacks
  not_the_top = lacking height_at_top earlier refl

  based : first earlier ≡ accepted → Based k label expected × (is_list list ≡ true)
  based e =
      let r = ready receipt_size active not_active k _ (eqb-false 4 0 refl) e in
      let a = passes (not (is_list list)) list_of_wrong_length _ (eqb-false 32 0 refl) r.1 in
      let c = passes absent no_such_ledger _ (eqb-false 10 0 refl) a.1 in
      let d = passes other out_of_order _ (eqb-false 11 0 refl) c.1 in (
        record {
          ready = r.0;
          has = rowed receipt_size k label r.0 c.0;
          next = eqb-true expected (present_height k label + 1) (not-false (eqb expected (present_height k label + 1)) d.0);
        },
        not-false (is_list list) a.0,
      )

  -- accepted
  module _ (e : (appending_many k label list expected).answer.number ≡ accepted) where
    none : number ≡ accepted
    none = sym says ∙ e

    parts : (first earlier ≡ accepted) × (first last_test ≡ accepted)
    unfolding append_many_refusal readiness lending numbered
    parts = none_refuses earlier last_test refl none

    below : present_height k label + entries list ≤ top_height
    below = ltb-false top_height (present_height k label + entries list) (passes over height_at_top [] (eqb-false 12 0 refl) parts.1).0

    some : 1 ≤ entries list
    some = listed_some list (based parts.0).1

    last : appending_many k label list expected ≡ append_of k label list expected (entries list - 1)
    unfolding appending_many last_statement moved_by_all
    last =
        let n : suc (entries list - 1) ≡ entries list = omega (arith, some) in
        has_effect number (present_height k label) k _ none
        ∙ sym (ap (given_after k label list expected (based parts.0).0) n)
        ∙ sym (chain k label list expected (based parts.0).0 (entries list - 1) (omega (arith, below, some)))

    all : (i : ℕ) → i < entries list → (append_of k label list expected i).answer.number ≡ accepted
    all i h = chain-accepted k label list expected (based parts.0).0 i (omega (arith, below))

  -- refused with 12
  passed : number ≡ height_at_top → TooHigh k label list expected
  unfolding first
  passed e = go (eqb (first earlier) accepted) refl over refl
    where
      go : (z : Bool) → eqb (first earlier) accepted ≡ z → (o : Bool) → over ≡ o → TooHigh k label list expected
      go false p o q =
          absurd (eqb-false (first earlier) height_at_top not_the_top (sym (split ∙ ap (λ (z : Bool). cond z (first last_test) (first earlier)) p) ∙ e))
      go true p false q =
          let z : accepted ≡ height_at_top =
          sym (split ∙ ap (λ (z : Bool). cond z (first last_test) (first earlier)) p ∙ ap (λ (o : Bool). cond o height_at_top accepted) q) ∙ e in
          absurd (eqb-false 0 12 refl z)
      go true p true q =
          too_high k label list expected (based (eqb-true (first earlier) accepted p)).0 (ltb-true top_height (present_height k label + entries list) q)

  -- refused otherwise
  alike :
      (number ≡ accepted → ⊥) → (number ≡ list_of_wrong_length → ⊥) → (number ≡ height_at_top → ⊥)
      → appending_many k label list expected ≡ append_of k label list expected 0
  unfolding appending_many appending after_entries
  alike p q r =
      let m = number_is in
      let same : number ≡ append_refusal receipt_size k label expected =
      m ∙ refused-alike (first firsts) (eqb (first firsts) accepted) (is_list list) absent other over top (λ e. p (m ∙ e)) (λ e. q (m ∙ e)) (λ e. r (m ∙ e)) ∙ sym append_number_is in
      let zero_more : expected + 0 ≡ expected = omega arith in
      let no : eqb number accepted ≡ false = ne_eqb number accepted p in
      comes_to number number (present_height k label) k _ refl no
      ∙ sym (comes_to (append_refusal receipt_size k label (expected + 0)) number (present_height k label) k _
      (ap (append_refusal receipt_size k label) zero_more ∙ sym same) no)

  -- of one entry
  module _ (one : length list ≡ digest_bytes) where
    counted : entries list ≡ 1
    counted = omega arith

    is_one : is_list list ≡ true
    unfolding is_list
    is_one = rw one

    tops : eqb (first firsts) accepted ≡ true → absent ≡ false → over ≡ top
    unfolding readiness lending
    tops z there =
        let r = ready receipt_size active not_active k [] (eqb-false 4 0 refl) (eqb-true (first firsts) accepted z) in
        let has = rowed receipt_size k label r.0 there in
        rw counted (at_the_top (present_height k label) (row_below label (present_tail k label) (present_height k label) has.holds))

    numbers : number ≡ append_refusal receipt_size k label expected
    numbers =
        number_is ∙ ap (λ (l : Bool). many_number (first firsts) (eqb (first firsts) accepted) l absent other over) is_one
        ∙ one_alike (first firsts) (eqb (first firsts) accepted) absent other over top tops ∙ sym append_number_is

    tails : grown (present_tail k label) list (entries list) ≡ next_tail k label list
    unfolding grown
    tails = rw counted (ap (appended (present_tail k label)) (take_all digest_bytes list (omega arith)))

    heights : present_height k label + entries list ≡ next_height k label
    heights = ap (λ (n : ℕ). present_height k label + n) counted

    is_append : appending_many k label list expected ≡ appending k label list expected
    unfolding appending_many appending last_statement moved_by_all append_statement moved_on
    is_append =
        λ i.
        unless (numbers i) (present_height k label) k
        (given (statement_written (receipt_of k.head (Append (heights i)) label (tails i))) k.head (moved k.table (row_of k label) (tails i) (heights i)) k.area)

pub one_by_one : (k : Lent) (label list : List ℕ) (expected : ℕ) → OneByOne k label list expected
one_by_one k label list expected =
    let s = says k label list expected in
    record {
      each_accepted = all k label list expected;
      last_outcome = last k label list expected;
      top_passed = λ e. passed k label list expected (sym s ∙ e);
      first_refused = λ p q r. alike k label list expected (λ e. p (s ∙ e)) (λ e. q (s ∙ e)) (λ e. r (s ∙ e));
      one_entry = is_append k label list expected;
    }
