use Rattle.std.proofs.Common.{◌≡◌, ◌*◌, ◌≤◌, length, drop}
use Rattle.hash.specs.Digest.{absorbed}
use Rattle.hash.specs.Sha256.{sha_256}
use Rattle.hash.proofs.chunk.absorb.Given as goal

abbrev pub invariant-loop-chunk : goal.invariant-loop-chunk
invariant-loop-chunk l =
    record {
      places : length l.w ≡ 16;
      size : l.chunk-iterator.size ≡ 64;
      within : 64 * length l.yielded ≤ length l.s;
      rest : l.chunk-iterator.rest.now ≡ drop (64 * length l.yielded) l.s;
      so_far : l.value ≡ absorbed sha_256 l.initial.value l.s (length l.yielded);
    }
