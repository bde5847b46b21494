-- Two lists of more than half of a rack's keys have a key in common. Assumes nothing.
use mathlib.Core.Path.{◌≡◌, refl, sym, subst, ◌∙◌}
use mathlib.Core.List.{List}
use Prim.Native.Nat.{ℕ, zero, suc, ◌+◌, ◌≤◌, ◌<◌}
use native.Mathlib.Decide.{dec_lt}
use native.Mathlib.Nat.{not-suc-le-zero}
use native.Mathlib.Omega.{arith}
use Rattle.rack.specs.Racks.{rack_cut}
use Rattle.safety.specs.Chip.{key_at}
use Rattle.safety.proofs.Views.{Most}

-- strictly rising numbers below a bound
record Rising (f : ℕ → ℕ) (n bound : ℕ) : Type 0 where
  below : (i : ℕ) → i < n → f i < bound
  rising : (i : ℕ) → suc i < n → f i < f (suc i)

-- an earlier one is smaller
earlier : (f : ℕ → ℕ) (n bound : ℕ) → Rising f n bound → (i j : ℕ) → i < j → j < n → f i < f j
earlier f n bound r i zero h k = absurd (not-suc-le-zero h)
earlier f n bound r i (suc j) h k = go (λ l. earlier f n bound r i j l (omega arith)) (dec_lt i j)
  where
    go : (i < j → f i < f j) → Dec (i < j) → f i < f (suc j)
    go before (yes l) = omega (arith, before l, r.rising j k)
    go before (no g) = let e : i ≡ j = omega arith in subst (λ (x : ℕ). f x < f (suc j)) (sym e) (r.rising j k)

-- the last of them is the number below the bound, or they all stay below that
data Topped (f : ℕ → ℕ) (n bound : ℕ) : Type 0 where
  at_top : (m : ℕ) → n ≡ suc m → f m ≡ bound → Rising f m bound → Topped f n bound
  short : Rising f n bound → Topped f n bound

topped : (f : ℕ → ℕ) (n bound : ℕ) → Rising f n (suc bound) → Topped f n bound
topped f zero bound r = short (record { below = λ i h. absurd (not-suc-le-zero h); rising = r.rising })
topped f (suc m) bound r = go (dec_lt (f m) bound)
  where
    last : f m < suc bound
    last = r.below m (omega arith)

    under : f m < bound → (i : ℕ) → i < suc m → Dec (i < m) → f i < bound
    under l i h (yes k) = omega (arith, earlier f (suc m) (suc bound) r i m k (omega arith))
    under l i h (no g) = let e : m ≡ i = omega arith in subst (λ (x : ℕ). f x < bound) e l

    go : Dec (f m < bound) → Topped f (suc m) bound
    go (yes l) = short (record { below = λ i h. under l i h (dec_lt i m); rising = r.rising })
    go (no g) =
        at_top m refl (omega (arith, last))
        (record { below = λ i h. omega (arith, last, earlier f (suc m) (suc bound) r i m h (omega arith)); rising = λ i h. r.rising i (omega arith) })

record Meeting (f g : ℕ → ℕ) (m n : ℕ) : Type 0 where
  one : ℕ
  other : ℕ
  one_below : one < m
  other_below : other < n
  meets : f one ≡ g other

behind_first : {f : ℕ → ℕ} {g : ℕ → ℕ} {m n m' n' : ℕ} → m ≤ m' → n ≤ n' → Meeting f g m n → Meeting f g m' n'
behind_first a b t =
    record { one = t.one; other = t.other; one_below = omega (arith, t.one_below); other_below = omega (arith, t.other_below); meets = t.meets }

-- more numbers than there are below the bound: one is in both lists
meeting : (bound : ℕ) (f g : ℕ → ℕ) (m n : ℕ) → Rising f m bound → Rising g n bound → bound < m + n → Meeting f g m n
meeting zero f g zero n r s h = absurd (not-suc-le-zero (s.below 0 (omega arith)))
meeting zero f g (suc m) n r s h = absurd (not-suc-le-zero (r.below 0 (omega arith)))
meeting (suc b) f g m n r s h = go (λ m' n'. meeting b f g m' n') (topped f m b r) (topped g n b s)
  where
    go : ((m' n' : ℕ) → Rising f m' b → Rising g n' b → b < m' + n' → Meeting f g m' n') → Topped f m b → Topped g n b → Meeting f g m n
    go below (at_top i p q r') (at_top j p' q' s') =
        record { one = i; other = j; one_below = omega arith; other_below = omega arith; meets = q ∙ sym q' }
    go below (at_top i p q r') (short s') = behind_first (omega arith) (omega arith) (below i n r' s' (omega arith))
    go below (short r') (at_top j p q s') = behind_first (omega arith) (omega arith) (below m j r' s' (omega arith))
    go below (short r') (short s') = below m n r' s' (omega arith)

pub record Shared (P Q : List ℕ → Type 0) : Type 0 where
  pub key : List ℕ
  pub left : P key
  pub right : Q key

ordered : {rack : List ℕ} {P : List ℕ → Type 0} (a : Most rack P) → Rising a.position a.count (rack_cut rack).count
ordered a = record { below = a.below; rising = a.rising }

pub shared : {rack : List ℕ} {P Q : List ℕ → Type 0} → Most rack P → Most rack Q → Shared P Q
shared {rack} {P} {Q} a b =
    let t = meeting (rack_cut rack).count a.position b.position a.count b.count (ordered a) (ordered b) (omega (arith, a.enough, b.enough)) in
    record {
      key = key_at rack (a.position t.one);
      left = a.each_one t.one t.one_below;
      right = subst (λ (p : ℕ). Q (key_at rack p)) (sym t.meets) (b.each_one t.other t.other_below);
    }

-- one rack under two names
pub shared_of : {rack other : List ℕ} {P Q : List ℕ → Type 0} → rack ≡ other → Most rack P → Most other Q → Shared P Q
shared_of {P = P} {Q = Q} e a b = shared a (subst (λ (r : List ℕ). Most r Q) (sym e) b)
