-- How two calls end alike, at records that a company cannot tell apart: both refused with one number, or with one effect. Assumes nothing.
use mathlib.Core.Path.{◌≡◌, refl, sym, ap, ap₂, subst, ◌∙◌}
use mathlib.Core.Bool.{Bool, true, false, not, cond}
use mathlib.Core.List.{List, map}
use Prim.Native.Nat.{ℕ, ◌≤◌}
use native.Mathlib.Omega.{arith}
use lib.ListN.{length}
use lib.Dec.{eqb}
use Rattle.refusals.specs.{accepted, out_of_order}
use Rattle.octets.specs.Strings.{put}
use Rattle.rows.specs.Sizes.{tail_bytes, top_height}
use Rattle.rules.specs.declared.Head.{Head}
use Rattle.rules.specs.Outcomes.{Lent, Outcome, refusing, accepting, refused, given, unless}
use Rattle.rules.specs.Table.{moved}
use Rattle.rules.specs.Rows.{is_absent, sought}
use Rattle.rules.specs.Companies.{belongs}
use Rattle.rules.proofs.Noted.{row_of, Rowed}
use Rattle.rules.proofs.Refused.{Ends, stopped, went, ends}
use Rattle.safety.specs.Calls.{Keeper, lent}
use Rattle.companies.proofs.CompanyMoved.{turned}
use Rattle.companies.proofs.Left as left
use Rattle.companies.proofs.Orders.{never}
use Rattle.companies.proofs.Alike.{Room, fixed, within, Alike, Seen, there, seen}

-- the record that an outcome leaves
abbrev pub kept : Outcome → Keeper
kept o = record { head = o.left.head; table = o.left.table }

pub record ToldAlike (c : Bool) (o p : Outcome) : Type 0 where
  pub answers : o.answer ≡ p.answer
  pub areas : o.left.area ≡ p.left.area
  pub alike : Alike c (kept o) (kept p)

-- the height that a refusal tells: the same, or none
pub data Heights (n h g : ℕ) : Type 0 where
  same_heights : h ≡ g → Heights n h g
  no_heights : eqb n out_of_order ≡ false → Heights n h g

same_refusing : (n m h g : ℕ) → n ≡ m → Heights m h g → refusing n h ≡ refusing m g
same_refusing n m h g e (same_heights f) = ap₂ refusing e f
same_refusing n m h g e (no_heights f) =
    let none : cond (eqb m out_of_order) h 0 ≡ cond (eqb m out_of_order) g 0 = rw f in
    ap (λ (x : ℕ). refusing x h) e ∙ ap (λ (x : ℕ). record { number = m; written = 0; height = x; repeat = false }) none

pub same_room : (o p o' p' : ℕ) → o' ≡ o → p' ≡ p → Room o p → Room o' p'
same_room o p o' p' e f (fixed g) = fixed (e ∙ g ∙ sym f)
same_room o p o' p' e f (within g h) = within (omega arith) (omega arith)

-- a label that is not there is not found
pub not_there : {P : Type 0} (k : Lent) (label : List ℕ) → Rowed k label → is_absent (sought k label) ≡ true → P
not_there k label has e = never (sym (ap is_absent has.found) ∙ e)

module _ (c : Bool) (k l : Keeper) (alike : Alike c k l) (area : List ℕ) where
  abbrev K : Lent
  K = lent k area

  abbrev L : Lent
  L = lent l area

  refused-alike : (n m h g : ℕ) → n ≡ m → Heights m h g → ToldAlike c (refused n h K) (refused m g L)
  unfolding refused
  refused-alike n m h g e f = record { answers = same_refusing n m h g e f; areas = refl; alike = alike }

  pub unless_alike :
      (n m h g : ℕ) (e f : Outcome) → n ≡ m → Heights m h g → (n ≡ accepted → m ≡ accepted → ToldAlike c e f)
      → ToldAlike c (unless n h K e) (unless m g L f)
  unless_alike n m h g e f q r effect = go (ends n h K e) (ends m g L f)
    where
      go : Ends n h K e (unless n h K e) → Ends m g L f (unless m g L f) → ToldAlike c (unless n h K e) (unless m g L f)
      go (stopped a p) (stopped b s) =
          subst (λ (o : Outcome). ToldAlike c o (unless m g L f)) (sym p)
          (subst (λ (o : Outcome). ToldAlike c (refused n h K) o) (sym s) (refused-alike n m h g q r))
      go (stopped a p) (went b s) = absurd (a (q ∙ b))
      go (went a p) (stopped b s) = absurd (b (sym q ∙ a))
      go (went a p) (went b s) =
          subst (λ (o : Outcome). ToldAlike c o (unless m g L f)) (sym p) (subst (λ (o : Outcome). ToldAlike c e o) (sym s) (effect a b))

  pub given-alike :
      (a b : List ℕ) (h g : Head) (t u : List ℕ) → a ≡ b → Alike c (record { head = h; table = t }) (record { head = g; table = u })
      → ToldAlike c (given a h t area) (given b g u area)
  unfolding given
  given-alike a b h g t u e same = record { answers = ap (λ (s : List ℕ). accepting (length s)) e; areas = ap (put area 0) e; alike = same }

  module _ (label : List ℕ) (ours : belongs label c ≡ true) where
    pub sight : Seen K L label
    sight = seen c k l alike label area ours

    -- the same row, moved on alike
    pub moved-alike :
        (t u : List ℕ) (x y : ℕ) → t ≡ u → x ≡ y → length t ≡ tail_bytes → 1 ≤ x → x ≤ top_height → Rowed K label → Rowed L label
        → Alike c (record { head = k.head; table = moved k.table (row_of K label) t x })
        (record { head = l.head; table = moved l.table (row_of L label) u y })
    moved-alike t u x y e f sized some low has has' =
        let sized' : length u ≡ tail_bytes = ap length (sym e) ∙ sized in
        let some' : 1 ≤ y = omega arith in
        let low' : y ≤ top_height = omega arith in
        record {
          here = record { acts = alike.here.acts; sounds = left.moved_sound K label t x alike.here.sounds has sized some low };
          there = record { acts = alike.there.acts; sounds = left.moved_sound L label u y alike.there.sounds has' sized' some' low' };
          identity = alike.identity;
          own = alike.own;
          rows =
              left.moved_ours K label t x alike.here.sounds has sized some low c ours ∙ (λ i. map (turned label (e i) (f i)) (alike.rows i))
              ∙ sym (left.moved_ours L label u y alike.there.sounds has' sized' some' low' c ours);
          room =
              same_room _ _ _ _ (left.moved_count K label t x alike.here.sounds has sized some low (not c))
              (left.moved_count L label u y alike.there.sounds has' sized' some' low' (not c)) alike.room;
        }
