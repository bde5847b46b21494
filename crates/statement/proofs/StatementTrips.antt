-- The round trip of statements, both ways; and reading and writing leave no choice. Assumes nothing.
use mathlib.Core.Path.{◌≡◌, refl, sym, ap, ◌∙◌}
use mathlib.Core.Bool.{Bool, true, false, cond}
use mathlib.Core.Option.{some}
use mathlib.Core.List.{List}
use Prim.Native.Nat.{ℕ, ◌≤◌}
use native.Mathlib.Nat.{zero-add}
use native.Mathlib.Omega.{arith}
use borrow.Author.Tests.{le-ltb}
use lib.ListN.{length, take}
use lib.Dec.{ltb}
use Rattle.refusals.specs.{accepted, statement_not_asked}
use Rattle.octets.specs.Strings.{put}
use Rattle.octets.specs.Layouts.{holds, read, Written, unwritten, writing}
use Rattle.octets.proofs.Puts.{take_put}
use Rattle.octets.proofs.RoundTrips.{same_refl, written_reads, read_writes, holds_fits, holds-written}
use Rattle.statement.specs.declared.Statement.{Statement}
use Rattle.statement.specs.Kinds.{size}
use Rattle.statement.specs.Contents.{statement_written, statement_fits}
use Rattle.statement.specs.Cut.{cut_statement, blank_statement}
use Rattle.statement.specs.Layout.{Reading, statement_layout, reading}
use Rattle.statement.specs.Shape.{Arrays, Shaped}
use Rattle.statement.proofs.Cuts.{cut_written}
use Rattle.statement.proofs.Records.{fits_kind, written_length}

-- what is written reads back as the same contents
pub written_read : (v : Statement) → Shaped v → statement_fits v ≡ true → read statement_layout (statement_written v) ≡ some v
written_read v h f = written_reads statement_layout v f (cut_written v h f)

pub written_holds : (v : Statement) → Shaped v → statement_fits v ≡ true → holds statement_layout (statement_written v) ≡ true
unfolding holds
written_holds v h f = rw (cut_written v h f, f, same_refl (statement_written v))

pub written_reading : (v : Statement) → Shaped v → statement_fits v ≡ true → reading (statement_written v) ≡ record { answer = accepted; statement = v }
unfolding reading
written_reading v h f = let e : cut_statement (statement_written v) ≡ v = cut_written v h f in rw (written_holds v h f) (cc)

-- what reading accepts fits, and is written again as the same string
pub read_written : (s : List ℕ) (v : Statement) → read statement_layout s ≡ some v → (statement_written v ≡ s) × (statement_fits v ≡ true)
read_written = read_writes statement_layout

pub reading-holds : (s : List ℕ) → (reading s).answer ≡ accepted → holds statement_layout s ≡ true
unfolding reading
reading-holds s e = go (holds statement_layout s) refl e
  where
    go :
        (b : Bool) → holds statement_layout s ≡ b
        → (cond {A = Reading} b (record { answer = accepted; statement = cut_statement s }) (record { answer = statement_not_asked; statement = blank_statement })).answer ≡ accepted
        → holds statement_layout s ≡ true
    go true h e = h
    go false h e = absurd (omega arith)

pub reading_cut : (s : List ℕ) → holds statement_layout s ≡ true → reading s ≡ record { answer = accepted; statement = cut_statement s }
unfolding reading
reading_cut s h = rw h

pub reading_written :
    (s : List ℕ) → (reading s).answer ≡ accepted → (statement_written (reading s).statement ≡ s) × (statement_fits (reading s).statement ≡ true)
reading_written s e =
    let h : holds statement_layout s ≡ true = reading-holds s e in
    rw (reading_cut s h) (holds-written statement_layout s h, holds_fits statement_layout s h)

-- reading leaves no choice, and writing none
pub reading_determined : (s : List ℕ) (r q : Reading) → r ≡ reading s → q ≡ reading s → r ≡ q
reading_determined s r q e f = e ∙ sym f

pub writing_determined :
    (v : Statement) (area : List ℕ) (r q : Written) → r ≡ writing statement_layout statement_not_asked v area
    → q ≡ writing statement_layout statement_not_asked v area → r ≡ q
writing_determined v area r q e f = e ∙ sym f

-- a fitting statement is written where the area is as long as its kind asks
pub writing-accepted :
    (v : Statement) (area : List ℕ) → Arrays v → statement_fits v ≡ true → size v.kind ≤ length area
    → writing statement_layout statement_not_asked v area
    ≡ record { answer = accepted; count = size v.kind; area = put area 0 (statement_written v) }
unfolding writing unwritten
writing-accepted v area a f h =
    let l : length (statement_written v) ≡ size v.kind = written_length v a (fits_kind v f) in
    let t : ltb (length area) (length (statement_written v)) ≡ false = le-ltb (length area) (length (statement_written v)) (omega arith) in
    rw (f, t) (cc)

-- the bytes that writing reports read back as the statement
pub writing-reading :
    (v : Statement) (area : List ℕ) → Shaped v → statement_fits v ≡ true → length (statement_written v) ≤ length area
    → reading (take (writing statement_layout statement_not_asked v area).count (writing statement_layout statement_not_asked v area).area)
    ≡ record { answer = accepted; statement = v }
unfolding put writing unwritten
writing-reading v area h f l =
    let t : ltb (length area) (length (statement_written v)) ≡ false = le-ltb (length area) (length (statement_written v)) l in
    let e : take (length (statement_written v)) (put area 0 (statement_written v)) ≡ statement_written v =
    ap (λ (n : ℕ). take n (put area 0 (statement_written v))) (sym (zero-add (length (statement_written v)))) ∙ take_put area 0 (statement_written v) (omega arith) in
    rw (f, t) (ap reading e ∙ written_reading v h f)
