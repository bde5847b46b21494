-- Which case of the append and of the read each test decides. Assumes nothing.
use mathlib.Core.Path.{◌≡◌, refl, sym, ap, ◌∙◌}
use mathlib.Core.Bool.{Bool, true, false}
use mathlib.Core.List.{List, [], ◌∷◌, ◌++◌}
use Prim.Native.Nat.{ℕ, ◌*◌, ◌≤◌, ◌<◌}
use borrow.Author.Tests.{eq-eqb, ne_eqb, lt-ltb, le-ltb, ltb-false}
use lib.ListN.{length}
use native.Mathlib.Omega.{arith}
use lib.Dec.{eqb, ltb}
use Rattle.refusals.specs.{accepted, area_too_short, record_not_sound, no_such_ledger, out_of_order, store_full, block_damaged}
use Rattle.std.specs.Prelude.{Result, Err}
use Rattle.std.specs.Result.{IsErrAnd}
use Rattle.std.proofs.lemmas.Result.{err_from_is_err_and}
use Rattle.refusals.specs.declared.Refusal.{Refusal}
use Rattle.refusals.specs.Refused.{refusal_number, refusal_height, answer_of}
use Rattle.refusals.specs.Order.{Test, ◌⇒◌, first}
use Rattle.refusals.proofs.Orders.{numbered, passes, stops, goes_on}
use Rattle.octets.specs.Strings.{put}
use Rattle.checks.specs.Check.{block_bytes}
use Rattle.cabinet.specs.Block.{most_text}
use Rattle.store.specs.Area.{blocks, area_right, block_at, first_unused, holds_damaged, newest}
use Rattle.store.specs.Answers.{height_of}
use Rattle.store.specs.Append.{Appended, ready_tests, order_tests, room_tests, append_tests, block_appended, shown, appending}
use Rattle.store.specs.Read.{first_answer, read_tests, reading}

-- none of the first four tests answers with 11
not_eleven : (a b c d : Bool) → eqb (first ((a ⇒ 33) ∷ (b ⇒ 2) ∷ (c ⇒ 2) ∷ (d ⇒ 14) ∷ [])) out_of_order ≡ false
unfolding first
not_eleven true b c d = refl
not_eleven false true c d = refl
not_eleven false false true d = refl
not_eleven false false false true = refl
not_eleven false false false false = refl

module _ (area label : List ℕ) (expected : ℕ) (text : List ℕ) where
  abbrev pub tests : List Test
  tests = append_tests area label expected text

  abbrev pub present : ℕ
  present = (newest area label (blocks area)).height

  refused : (k : ℕ) → first tests ≡ k → (k ≡ 0 → ⊥) → appending area label expected text ≡ record { number = k; written = 0; height = shown k present; area = area }
  unfolding appending
  refused k e n = rw (e, ne_eqb k 0 n)

  pub ready_numbered : numbered (ready_tests area label text) ≡ true
  unfolding ready_tests numbered
  ready_numbered = refl

  pub order_numbered : numbered (order_tests expected present) ≡ true
  unfolding order_tests numbered
  order_numbered = refl

  eleven : eqb (first (ready_tests area label text)) out_of_order ≡ false
  unfolding ready_tests
  eleven = not_eleven _ _ _ _

  pub ready_text : (k : ℕ) → k ≡ first (ready_tests area label text) → k ≡ 0 → length text ≤ most_text
  unfolding ready_tests
  ready_text k e z = ltb-false most_text (length text) (passes (ltb most_text (length text)) 33 _ (λ u. omega arith) (sym e ∙ z)).0

  pub append_unready :
      (k : ℕ) → k ≡ first (ready_tests area label text) → (k ≡ 0 → ⊥)
      → record { number = k; written = 0; height = 0; area = area } ≡ appending area label expected text
  unfolding append_tests shown
  append_unready k e n =
      let no : eqb k out_of_order ≡ false = ap (λ (m : ℕ). eqb m out_of_order) e ∙ eleven in
      let f : first tests ≡ k = stops (ready_tests area label text) (order_tests expected present ++ room_tests area) k ready_numbered e n ∙ sym e in
      rw (refused k f n, no)

  module _ (k : ℕ) (e : k ≡ first (ready_tests area label text)) (z : k ≡ 0) where
    past : first tests ≡ first (order_tests expected present ++ room_tests area)
    unfolding append_tests
    past = goes_on (ready_tests area label text) (order_tests expected present ++ room_tests area) k ready_numbered e z

    pub append_unordered :
        (o : ℕ) → o ≡ first (order_tests expected (newest area label (blocks area)).height) → (o ≡ 0 → ⊥)
        → record { number = o; written = 0; height = shown o (newest area label (blocks area)).height; area = area } ≡ appending area label expected text
    append_unordered o f n =
        sym (refused o (past ∙ stops (order_tests expected present) (room_tests area) o order_numbered f n ∙ sym f) n)

    module _ (o : ℕ) (f : o ≡ first (order_tests expected (newest area label (blocks area)).height)) (y : o ≡ 0) where
      further : first tests ≡ first (room_tests area)
      further = past ∙ goes_on (order_tests expected present) (room_tests area) o order_numbered f y

      pub append_full :
          first_unused area (blocks area) ≡ blocks area
          → record { number = store_full; written = 0; height = 0; area = area } ≡ appending area label expected text
      unfolding shown room_tests first
      append_full g =
          sym (refused store_full (further ∙ rw (eq-eqb (first_unused area (blocks area)) (blocks area) g)) (λ e. omega arith))

      pub append_done :
          (first_unused area (blocks area) ≡ blocks area → ⊥)
          → record {
            number = accepted;
            written = 0;
            height = 0;
            area = put area (block_bytes * first_unused area (blocks area)) (block_appended area label expected text);
          }
          ≡ appending area label expected text
      unfolding shown room_tests first appending
      append_done g = let e : first tests ≡ 0 = further ∙ rw (ne_eqb (first_unused area (blocks area)) (blocks area) g) in rw e

-- what `?` hands on, as an answer
pub handed :
    {A : Type 0} (q : Result A Refusal) (r : Refusal) (area : List ℕ) → IsErrAnd q (λ y. y ≡ r)
    → ◌≡◌ {A = Appended}
    (record { number = answer_of q; written = 0; height = height_of q; area = area })
    (record { number = refusal_number r; written = 0; height = refusal_height r; area = area })
handed q r area h =
    let p = err_from_is_err_and q h in
    let e : q ≡ Err r = p.1 ∙ ap (λ (y : Refusal). Err y) p.2 in
    rw e

module _ (area label : List ℕ) (height : ℕ) (output : List ℕ) where
  pub read_short : length output < block_bytes → record { number = area_too_short; written = 0; height = 0; output = output } ≡ reading area label height output
  unfolding reading read_tests first
  read_short h = rw (lt-ltb (length output) block_bytes h)

  module _ (h : block_bytes ≤ length output) where
    pub read_unsound : area_right area ≡ false → record { number = record_not_sound; written = 0; height = 0; output = output } ≡ reading area label height output
    unfolding reading read_tests first
    read_unsound e = rw (le-ltb (length output) block_bytes h, e)

    module _ (e : area_right area ≡ true) where
      pub read_damaged :
          first_answer area label height (blocks area) ≡ blocks area → holds_damaged area ≡ true
          → record { number = block_damaged; written = 0; height = 0; output = output } ≡ reading area label height output
      unfolding reading read_tests first
      read_damaged f d = rw (le-ltb (length output) block_bytes h, e, eq-eqb (first_answer area label height (blocks area)) (blocks area) f, d)

      pub read_none :
          first_answer area label height (blocks area) ≡ blocks area → holds_damaged area ≡ false
          → record { number = no_such_ledger; written = 0; height = 0; output = output } ≡ reading area label height output
      unfolding reading read_tests first
      read_none f d = rw (le-ltb (length output) block_bytes h, e, eq-eqb (first_answer area label height (blocks area)) (blocks area) f, d)

      pub read_done :
          (first_answer area label height (blocks area) ≡ blocks area → ⊥)
          → record {
            number = accepted;
            written = block_bytes;
            height = 0;
            output = put output 0 (block_at area (first_answer area label height (blocks area)));
          }
          ≡ reading area label height output
      unfolding reading read_tests first
      read_done f = rw (le-ltb (length output) block_bytes h, e, ne_eqb (first_answer area label height (blocks area)) (blocks area) f)
