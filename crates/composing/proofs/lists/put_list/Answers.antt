use mathlib.Core.Path.{refl, ap, ◌∙◌}
use mathlib.Core.List.{List, [], ◌∷◌, ◌++◌}
use Prim.Native.Nat.{ℕ, ◌+◌}
use native.Mathlib.Omega.{arith}
use Rattle.octets.specs.Strings.{put}
use Rattle.octets.proofs.Puts.{put-put}
use Rattle.maker.specs.Lists.{listed}
use Rattle.maker.proofs.Listings.{listed_long}
use Rattle.composing.proofs.Putting.{count_bytes}
use Rattle.composing.proofs.lists.put_list.Goals as goal

pub returns : goal.returns
returns c =
    let a = c.args in
    let p = c.requires in
    let l : List ℕ = listed a.store.now a.label a.height a.n in
    c.put_digests.ensures ∙ ap (λ (x : List ℕ). put x (a.at + 2) l) c.copy_at.ensures
    ∙ put-put a.area.now a.at (0 ∷ a.n ∷ []) l (a.at + 2) refl (omega (arith, p.4, listed_long a.store.now a.label a.height a.n))
    ∙ ap (λ (b : List ℕ). put a.area.now a.at (b ++ l)) (count_bytes a.n p.2)
