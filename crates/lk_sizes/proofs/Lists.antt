-- What is made alike of each element is alike.
use Rattle.std.proofs.Common.{◌≡◌, ℕ, suc, List, [], ◌∷◌, ◌++◌, map, Some, refl, ap, ◌∙◌}
use Rattle.std.specs.List.{flat_map, slice_get}

pub map_alike : {X Y : Type 0} (f g : X → Y) (xs : List X) → ((k : ℕ) (x : X) → slice_get xs k ≡ Some x → f x ≡ g x) → map f xs ≡ map g xs
map_alike f g [] same = refl
map_alike f g (x ∷ xs) same = ap (λ y. y ∷ map f xs) (same 0 x refl) ∙ ap (λ (ys : List _). g x ∷ ys) (map_alike f g xs (λ k. same (suc k)))

pub flat_alike : {X Y : Type 0} (f g : X → List Y) (xs : List X) → ((k : ℕ) (x : X) → slice_get xs k ≡ Some x → f x ≡ g x) → flat_map f xs ≡ flat_map g xs
flat_alike f g [] same = refl
flat_alike f g (x ∷ xs) same = ap (λ (ys : List _). ys ++ flat_map f xs) (same 0 x refl) ∙ ap (λ (ys : List _). g x ++ ys) (flat_alike f g xs (λ k. same (suc k)))
