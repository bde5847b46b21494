-- A string taken apart gives a statement of the right shape. Assumes nothing.
use mathlib.Core.Path.{◌≡◌, refl, sym, subst}
use mathlib.Core.List.{List}
use Prim.Native.Nat.{ℕ, ◌+◌, ◌^◌, ◌≤◌, ◌<◌}
use native.Mathlib.Omega.{arith}
use lib.ListN.{length, take, drop, length-drop}
use lib.Seq.{length-take-le}
use lib.Dec.{lit<}
use Rattle.octets.specs.Numbers.{number_of}
use Rattle.octets.proofs.Exact.{Octets, octets_take, octets_drop, number_below}
use Rattle.statement.specs.declared.Kind.{Kind}
use Rattle.statement.specs.declared.Kind.TheVariants.{Blank, New, Append, Read, Finalise, Initialise}
use Rattle.statement.specs.Kinds.{kind_number, receipt_size, handover_size, digest_bytes, label_bytes, number_bytes}
use Rattle.statement.specs.Kinds.{identity_place, first_place, second_place, third_place, label_place, tail_place, height_place, nonce_place, nonce_half, number_at}
use Rattle.statement.specs.Cut.{blank_statement, kind_at, receipt_at, handover_at, cut_as, cut_statement}
use Rattle.statement.specs.Shape.{Arrays, Numbers, Shaped}
use Rattle.statement.proofs.Strings.{Of, of_kind}
use Rattle.statement.proofs.Held.{cut_kind}

module _ (s : List ℕ) where
  part_length : (i n : ℕ) → i + n ≤ length s → length (take n (drop i s)) ≡ n
  part_length i n h = length-take-le n (drop i s) (omega (arith, length-drop i s))

  receipt_arrays : (k : Kind) → receipt_size ≤ length s → Arrays (receipt_at k s)
  unfolding receipt_at
  receipt_arrays k h =
      record {
        identity = part_length identity_place digest_bytes (omega arith);
        own = part_length first_place digest_bytes (omega arith);
        label = part_length label_place label_bytes (omega arith);
        tail = part_length tail_place digest_bytes (omega arith);
        other = refl;
        roll = refl;
      }

  handover_arrays : (k : Kind) (x y : ℕ) → x + digest_bytes ≤ length s → y + digest_bytes ≤ length s → handover_size ≤ length s → Arrays (handover_at k x y s)
  unfolding handover_at
  handover_arrays k x y hx hy h =
      record {
        identity = part_length identity_place digest_bytes (omega arith);
        own = part_length x digest_bytes hx;
        label = refl;
        tail = refl;
        other = part_length y digest_bytes hy;
        roll = part_length third_place digest_bytes (omega arith);
      }

  as_arrays : (k : Kind) → (0 < kind_number k → Of k s) → Arrays (cut_as k s)
  unfolding blank_statement cut_as
  as_arrays Blank o = record { identity = refl; own = refl; label = refl; tail = refl; other = refl; roll = refl }
  as_arrays New o = receipt_arrays New (omega (arith, (o (lit< tt)).sized))
  as_arrays (Append x) o = receipt_arrays (Append x) (omega (arith, (o (lit< tt)).sized))
  as_arrays (Read x y z) o = receipt_arrays (Read x y z) (omega (arith, (o (lit< tt)).sized))
  as_arrays Finalise o =
      handover_arrays Finalise first_place second_place (omega (arith, (o (lit< tt)).sized)) (omega (arith, (o (lit< tt)).sized)) (omega (arith, (o (lit< tt)).sized))
  as_arrays Initialise o =
      handover_arrays Initialise second_place first_place (omega (arith, (o (lit< tt)).sized)) (omega (arith, (o (lit< tt)).sized)) (omega (arith, (o (lit< tt)).sized))

  number_fits : Octets s → (i x : ℕ) → number_at i s ≡ x → i + number_bytes ≤ length s → x < 2 ^ 64
  number_fits b i x e h =
      let p : List ℕ = take number_bytes (drop i s) in
      let l : number_of p < 256 ^ length p = number_below p (octets_take number_bytes (drop i s) (octets_drop i s b)) in
      let m : number_of p < 256 ^ number_bytes = subst (λ (n : ℕ). number_of p < 256 ^ n) (part_length i number_bytes h) l in
      omega arith

  as_numbers : Octets s → (k : Kind) → (0 < kind_number k → Of k s) → Numbers k
  as_numbers b Blank o = tt
  as_numbers b New o = tt
  as_numbers b (Append x) o = let w : Of (Append x) s = o (lit< tt) in number_fits b height_place x w.stands (omega (arith, w.sized))
  as_numbers b (Read x y z) o =
      let w : Of (Read x y z) s = o (lit< tt) in (
        number_fits b height_place x w.stands.0 (omega (arith, w.sized)),
        number_fits b nonce_place y w.stands.1 (omega (arith, w.sized)),
        number_fits b nonce_half z w.stands.2 (omega (arith, w.sized)),
      )
  as_numbers b Finalise o = tt
  as_numbers b Initialise o = tt

  pub cut_shaped : Octets s → Shaped (cut_statement s)
  unfolding cut_statement
  cut_shaped b =
      record {
        arrays = as_arrays (kind_at s) (of_kind s);
        numbers = subst Numbers (sym (cut_kind s)) (as_numbers b (kind_at s) (of_kind s));
      }
