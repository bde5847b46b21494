use Rattle.std.proofs.Common.{◌≡◌, ℕ, ◌+◌, ◌*◌, ◌/◌, List, [], ◌∷◌, ◌++◌, length, refl, ap, ◌∙◌, arith, length-append, length-drop}
use Rattle.hash.specs.Family.{word_bytes, chunk_bytes}
use Rattle.hash.specs.Padding.{words}
use Rattle.hash.specs.Rounds.{compressed}
use Rattle.hash.specs.Digest.{absorbed}
use Rattle.hash.specs.Sha256.{constants, sha_256}
use Rattle.hash.proofs.Absorbed.{absorbed_part, left_part}
use Rattle.hash.proofs.chunk.absorb.Goals as goal

pub loop-chunk-init : goal.loop-chunk-init
unfolding absorbed
loop-chunk-init c =
    let e = c.into_iter-chunk-iterator.ensures.into_iter_gives in
    let f = c.chunks_exact-chunk-items.ensures in
    record { places = c.requires; size = rw e f.size; within = omega arith; rest = rw e f.rest; so_far = refl }

pub invariant_of-table : goal.invariant_of-table
unfolding constants
invariant_of-table c = record { as_printed = refl }

pub compress-next-requires : goal.compress-next-requires
compress-next-requires c = (c.loop-chunk.invariant.places, c.in-Some.ensures.steps.1.1 ∙ c.loop-chunk.invariant.size)

pub loop-chunk-preserved : goal.loop-chunk-preserved
unfolding word_bytes chunk_bytes sha_256
loop-chunk-preserved c =
    let l = c.loop-chunk in
    let step = c.in-Some.ensures.steps in
    let s = c.args.s.now in
    let n = length l.yielded in
    let whole : length c.in-Some.chunk.now ≡ 64 = step.1.1 ∙ l.invariant.size in
    let more : length (l.yielded ++ (c.in-Some.chunk ∷ [])) ≡ n + 1 = length-append l.yielded (c.in-Some.chunk ∷ []) in
    let room : length l.chunk-iterator.rest.now ≡ 64 + length c.next.new.self.rest.now =
    ap length step.1.0 ∙ length-append c.in-Some.chunk.now c.next.new.self.rest.now ∙ ap (λ (k : ℕ). k + length c.next.new.self.rest.now) whole in
    rw more
    (record {
      places = c.compress-next.auto.w ∙ l.invariant.places;
      size = step.0 ∙ l.invariant.size;
      within = omega (arith, room, ap length l.invariant.rest, length-drop (64 * n) s);
      rest = left_part sha_256 c.args.h s l.chunk-iterator.rest.now c.in-Some.chunk.now c.next.new.self.rest.now n l.invariant.rest step.1.0 whole;
      so_far =
          c.compress-next.ensures ∙ ap (λ (v : List ℕ). compressed sha_256 v (words 4 c.in-Some.chunk.now 16)) l.invariant.so_far
          ∙ absorbed_part sha_256 c.args.h s l.chunk-iterator.rest.now c.in-Some.chunk.now c.next.new.self.rest.now n l.invariant.rest step.1.0 whole;
    })

pub returns : goal.returns
returns c =
    let l = c.loop-chunk in
    let n : length l.yielded ≡ length c.args.s.now / 64 =
    omega (arith, c.in-None.ensures.steps.1.0, l.invariant.size, ap length l.invariant.rest, length-drop (64 * length l.yielded) c.args.s.now) in
    l.invariant.so_far ∙ ap (absorbed sha_256 c.args.h c.args.s.now) n
