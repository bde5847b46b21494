use mathlib.Core.Path.{◌≡◌, refl, ap, ◌∙◌}
use mathlib.Core.Bool.{not}
use Prim.Native.Nat.{ℕ}
use Rattle.std.specs.Prelude.{Result, Ok, Err, is_ok}
use Rattle.rules.specs.Rows.{is_absent}
use Rattle.listing.specs.Leading.{has_label}
use Rattle.listing.proofs.early.has_label.Goals as goal

found_is : (f : Result ℕ ℕ) → is_ok f ≡ not (is_absent f)
found_is (Ok i) = refl
found_is (Err n) = refl

pub returns : goal.returns
unfolding has_label
returns c = c.is_ok.ensures.value ∙ ap is_ok c.find_in.ensures ∙ found_is _
