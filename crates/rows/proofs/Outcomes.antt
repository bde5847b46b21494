-- Each public call leaves no choice: two outcomes that its contract allows are equal. Assumes nothing.
use mathlib.Core.Path.{◌≡◌}
use mathlib.Core.Bool.{Bool}
use mathlib.Core.List.{List}
use Prim.Native.Nat.{ℕ}
use Rattle.rows.specs.Table.{rows_fit}
use Rattle.rows.specs.Search.{find}
use Rattle.rows.specs.Digests.{roll_digest, appended}
use Rattle.std.specs.Prelude.{Result}

pub rows_fit_once : (count : ℕ) (rows : List ℕ) (x y : Bool) → x ≡ rows_fit count rows → y ≡ rows_fit count rows → x ≡ y
rows_fit_once count rows x y p q = cc

pub find_once : (count : ℕ) (rows label : List ℕ) (x y : Result ℕ ℕ) → x ≡ find count rows label → y ≡ find count rows label → x ≡ y
find_once count rows label x y p q = cc

pub roll_digest_once : (count : ℕ) (rows x y : List ℕ) → x ≡ roll_digest count rows → y ≡ roll_digest count rows → x ≡ y
roll_digest_once count rows x y p q = cc

pub appended_once : (tail entry x y : List ℕ) → x ≡ appended tail entry → y ≡ appended tail entry → x ≡ y
appended_once tail entry x y p q = cc
