-- The last of several, where one more is looked at.
use Rattle.std.proofs.Common.{◌≡◌, ℕ, zero, suc, ◌+◌, List, [], ◌∷◌, take, Option, Some, None, refl, ap, ◌∙◌}
use Rattle.std.specs.Prelude.{slice_get}
use Rattle.std.specs.List.{cons_option, enumerate_from, filter_map, last_or}
use Rattle.std.specs.Option.{option_or}

-- what is told of one element more, if anything, is what is told last
pub last_next : {X Y : Type 0} (f : X → Option Y) (a : Option Y) (xs : List X) (k : ℕ) (x : X) → slice_get xs k ≡ Some x
    → last_or a (filter_map f (take (suc k) xs)) ≡ option_or (f x) (last_or a (filter_map f (take k xs)))
last_next f a [] k x here = absurd (cc)
last_next {X} {Y} f a (y ∷ ys) zero x here =
    let same : y ≡ x = cc in
    elim (f y) as (λ (o : Option Y). last_or a (cons_option o []) ≡ option_or o a) [ None ↦ refl | Some v ↦ refl ] ∙ ap (λ (z : X). option_or (f z) a) same
last_next {X} {Y} f a (y ∷ ys) (suc k) x here =
    elim (f y) as (λ (o : Option Y). last_or a (cons_option o (filter_map f (take (suc k) ys))) ≡ option_or (f x) (last_or a (cons_option o (filter_map f (take k ys))))) [
      | None ↦ last_next f a ys k x here
      | Some v ↦ last_next f (Some v) ys k x here
    ]

-- past the end there is none
pub take_past : {X : Type 0} (xs : List X) (k : ℕ) → slice_get xs k ≡ None → take (suc k) xs ≡ take k xs
take_past [] zero h = refl
take_past [] (suc k) h = refl
take_past (y ∷ ys) zero h = absurd (cc)
take_past {X} (y ∷ ys) (suc k) h = ap (λ (zs : List X). y ∷ zs) (take_past ys k h)

-- and none with its number
pub numbered_none : {X : Type 0} (n : ℕ) (xs : List X) (k : ℕ) → slice_get xs k ≡ None → slice_get (enumerate_from n xs) k ≡ None
numbered_none n [] k h = refl
numbered_none n (y ∷ ys) zero h = absurd (cc)
numbered_none n (y ∷ ys) (suc k) h = numbered_none (n + 1) ys k h
