use mathlib.Core.Path.{◌≡◌, sym, ap, ap₂, ◌∙◌}
use mathlib.Core.List.{List}
use Prim.Native.Nat.{ℕ, ◌+◌, ◌-◌, ◌*◌, ◌≤◌}
use native.Mathlib.Omega.{arith}
use lib.ListN.{length, take, drop, replicate, length-take, length-drop}
use Rattle.octets.specs.Strings.{put}
use Rattle.rows.specs.Sizes.{table_bytes}
use Rattle.roll.specs.Blocks.{gathered, block_bytes, places_bytes, head_bytes}
use Rattle.roll.specs.Roll.{filled}
use Rattle.roll.proofs.Strings.{put-filled, filled-length}
use Rattle.roll.proofs.Cuts.{gathered-length, gathered_next}
use Rattle.roll.proofs.gather.gather.Goals as goal

-- the table keeps its length
long : (s : List ℕ) (b : ℕ) {t : List ℕ} → block_bytes * b ≤ length s → places_bytes * b ≤ table_bytes → t ≡ filled table_bytes (gathered s b) → length t ≡ table_bytes
long s b h k e = ap length e ∙ filled-length table_bytes (gathered s b) (omega (arith, gathered-length s b h))

pub loop-b-init : goal.loop-b-init
unfolding filled gathered
loop-b-init c = (c.fill.ensures.after (λ y e. e) ∙ ap (λ (k : ℕ). replicate k 0) c.requires.2)

pub copy_at-requires : goal.copy_at-requires
copy_at-requires c =
    let l = c.loop-b in
    let t = long c.args.s.now l.b (omega arith) (omega arith) l.invariant in
    simp (length-take, length-drop) (omega arith)

pub loop-b-preserved : goal.loop-b-preserved
loop-b-preserved c =
    let l = c.loop-b in
    let a = c.args in
    let g = gathered-length a.s.now l.b (omega arith) in
    let p : List ℕ = take places_bytes (drop (block_bytes * l.b + head_bytes) a.s.now) in
    let k : length p ≡ places_bytes = simp (length-take, length-drop) (omega arith) in
    let e : block_bytes * l.b + head_bytes + places_bytes - (block_bytes * l.b + head_bytes) ≡ places_bytes = omega arith in
    c.copy_at.ensures
    ∙ ap₂ (λ (d : List ℕ) (m : ℕ). put d (places_bytes * l.b) (take m (drop (block_bytes * l.b + head_bytes) a.s.now))) l.invariant e
    ∙ put-filled table_bytes (gathered a.s.now l.b) p (places_bytes * l.b) (omega arith) (omega arith)
    ∙ ap (filled table_bytes) (sym (gathered_next a.s.now l.b))

pub shape_of-table : goal.shape_of-table
shape_of-table c =
    let start = c in
    let l = c.loop-b in
    long start.args.s.now l.b (omega arith) (omega arith) l.invariant ∙ sym start.requires.2

pub returns : goal.returns
returns c =
    let l = c.loop-b in
    let e : l.b ≡ c.args.n = omega arith in
    rw e at l.invariant
