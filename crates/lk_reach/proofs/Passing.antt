-- Whether one of a list passes a test.
use Rattle.std.proofs.Common.{◌≡◌, Bool, true, false, ◌||◌, ℕ, List, Some, refl}
use Rattle.std.specs.List.{list_any, slice_get}
use Rattle.std.proofs.lemmas.Option.{get_or_from_slice_get, slice_get_within}
use Rattle.std.proofs.lemmas.List.Folds.{list_any-from_Any}

-- one element for which it holds
pub some_holds : {X : Type 0} (p : X → Bool) (xs : List X) (k : ℕ) (x : X) → slice_get xs k ≡ Some x → p x ≡ true → list_any p xs ≡ true
some_holds p xs k x h e = list_any-from_Any p xs (k, x, slice_get_within xs k x h, get_or_from_slice_get xs k x x h, e)

-- nothing more
pub or_last : (b : Bool) → (b || false) ≡ b
or_last true = refl
or_last false = refl
