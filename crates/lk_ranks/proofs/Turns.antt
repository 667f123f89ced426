-- The elements of a slice, one after the other.
use Rattle.std.proofs.Common.{◌≡◌, ℕ, ◌+◌, ◌<◌, List, [], ◌∷◌, ◌++◌, Some, get_or, length, take, refl, sym, ap, ◌∙◌}
use Rattle.std.specs.List.{slice_get}
use Rattle.std.proofs.lemmas.List.{take_more}
use Rattle.std.proofs.lemmas.Option.{get_or_from_slice_get, slice_get_within}
use Rattle.lk_link.proofs.Elements.{at_index}

-- one that was read stands there
pub there : {X : Type 0} (xs : List X) (i : ℕ) (x : X) → i < length xs → x ≡ get_or xs i x → slice_get xs i ≡ Some x
there xs i x below read =
    let at = at_index xs i below in
    at.1 ∙ ap Some (sym (read ∙ get_or_from_slice_get xs i at.0 x at.1))

-- those so far, and it
pub so_far : {X : Type 0} (xs : List X) (i : ℕ) (x : X) → slice_get xs i ≡ Some x → take (i + 1) xs ≡ take i xs ++ x ∷ []
so_far xs i x at =
    take_more xs i x (slice_get_within xs i x at) ∙ ap (λ y. take i xs ++ y ∷ []) (get_or_from_slice_get xs i x x at)

-- at the end those so far are all
pub all_so_far : {X : Type 0} (xs : List X) (i : ℕ) → i ≡ length xs → take i xs ≡ xs
all_so_far xs i end = ap (λ n. take n xs) end ∙ whole xs
  where
    whole : {Y : Type 0} (ys : List Y) → take (length ys) ys ≡ ys
    whole [] = refl
    whole (y ∷ ys) = ap (λ (zs : List _). y ∷ zs) (whole ys)
