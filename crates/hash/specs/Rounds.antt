-- FIPS 180-4, 6.2.2 and 6.4.2, steps 2 to 4: the working variables, the rounds and the next intermediate hash value.
use Rattle.std.specs.Prelude.{ℕ, zero, suc, ◌+◌, List, [], ◌∷◌, slice_index}
use Rattle.hash.specs.Words.{plus}
use Rattle.hash.specs.Functions.{Ch, Maj}
use Rattle.hash.specs.Family.{Family}
use Rattle.hash.specs.Schedule.{schedule}

-- the eight working variables
pub record Eight : Type 0 where
  pub a : ℕ
  pub b : ℕ
  pub c : ℕ
  pub d : ℕ
  pub e : ℕ
  pub f : ℕ
  pub g : ℕ
  pub h : ℕ

-- step 2: "initialize the eight working variables .. with the (i-1)st hash value"
unfoldable pub initial : List ℕ → Eight
initial H =
    record {
      a = slice_index H 0;
      b = slice_index H 1;
      c = slice_index H 2;
      d = slice_index H 3;
      e = slice_index H 4;
      f = slice_index H 5;
      g = slice_index H 6;
      h = slice_index H 7;
    }

-- T₁ = h + Σ₁(e) + Ch(e, f, g) + K_t + W_t
unfoldable pub T₁ : Family → Eight → ℕ → ℕ → ℕ
T₁ F s k w =
    plus F.width
    (plus F.width (plus F.width (plus F.width s.h (F.Σ₁ s.e)) (Ch F.width s.e s.f s.g)) k)
    w

-- T₂ = Σ₀(a) + Maj(a, b, c)
unfoldable pub T₂ : Family → Eight → ℕ
T₂ F s = plus F.width (F.Σ₀ s.a) (Maj s.a s.b s.c)

-- h = g, g = f, f = e, e = d + T₁, d = c, c = b, b = a, a = T₁ + T₂
unfoldable pub shifted : Family → Eight → ℕ → ℕ → Eight
shifted F s t₁ t₂ =
    record {
      a = plus F.width t₁ t₂;
      b = s.a;
      c = s.b;
      d = s.c;
      e = plus F.width s.d t₁;
      f = s.e;
      g = s.f;
      h = s.g;
    }

-- step 3, for one t
unfoldable pub round : Family → Eight → ℕ → ℕ → Eight
round F s k w = shifted F s (T₁ F s k w) (T₂ F s)

-- step 3, for t from 0 to n - 1, with the schedule W
unfoldable pub rounds : Family → List ℕ → Eight → ℕ → Eight
rounds F W s zero = s
rounds F W s (suc n) = round F (rounds F W s n) (slice_index F.K n) (slice_index W n)

-- step 4: H_0 = a + H_0, .. H_7 = h + H_7
unfoldable pub summed : Family → List ℕ → Eight → List ℕ
summed F H s =
    plus F.width s.a (slice_index H 0) ∷ plus F.width s.b (slice_index H 1) ∷ plus F.width s.c (slice_index H 2)
    ∷ plus F.width s.d (slice_index H 3) ∷ plus F.width s.e (slice_index H 4) ∷ plus F.width s.f (slice_index H 5)
    ∷ plus F.width s.g (slice_index H 6) ∷ plus F.width s.h (slice_index H 7) ∷ []

-- steps 1 to 4: the hash value after the chunk M
unfoldable pub compressed : Family → List ℕ → List ℕ → List ℕ
compressed F H M = summed F H (rounds F (schedule F M F.further) (initial H) (16 + F.further))
