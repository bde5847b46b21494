use mathlib.Core.Path.{◌≡◌, sym, ◌∙◌}
use mathlib.Core.Bool.{Bool, true, false}
use Prim.Native.Nat.{ℕ, ◌+◌, ◌≤◌, ◌<◌}
use native.Mathlib.Decide.{dec_lt}
use native.Mathlib.Omega.{arith}
use Rattle.std.specs.Prelude.{Option, Some, None, is_some, MatchOption}
use Rattle.maker.proofs.Orders.{never}
use Rattle.listing.specs.Leading.{has_both}
use Rattle.listing.proofs.once.only_block.Goals as goal

-- what no number before one has, and none behind it, that one alone has
one_alone :
    (test : ℕ → Bool) (first n : ℕ) → ((j : ℕ) → 0 ≤ j → j < first → test j ≡ false) → ((j : ℕ) → first + 1 ≤ j → j < n → test j ≡ false)
    → (j : ℕ) → j < n → test j ≡ true → j ≡ first
one_alone test first n earlier later j h e = go (dec_lt j first) (dec_lt first j)
  where
    go : Dec (j < first) → Dec (first < j) → j ≡ first
    go (yes l) d = never (test j) e (earlier j (omega arith) l)
    go (no l) (yes k) = never (test j) e (later j (omega arith) h)
    go (no l) (no k) = omega arith

-- what is said where there is none
unfound : (absent : Type 0) (there : ℕ → Type 0) (o : Option ℕ) → is_some o ≡ false → MatchOption o absent there → absent
unfound absent there None e h = h
unfound absent there (Some i) e h = absurd (cc)

pub returns : goal.returns
returns c =
    let first = c.in_ok-first.ensures in
    let later = unfound _ _ c.next_block-2.result (sym c.is_some.ensures ∙ c.if-is_some.false) c.next_block-2.ensures in
    (first.1, one_alone (has_both c.args.store.now c.args.label.now c.args.height) c.in_ok-first.first c.args.n first.3 later)
