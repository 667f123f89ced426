-- Where there is no answer, and why.
use Rattle.std.proofs.Common.{◌≡◌, ℕ, zero, suc, Bool, true, false, not, cond, List, [], ◌∷◌, Option, Some, None, option_map, find, position, refl, ap, sym, ◌∙◌}
use Rattle.std.specs.List.{list_all, slice_get}
use Rattle.std.proofs.lemmas.List.Quantifiers.{position-Some}
use Rattle.std.proofs.lemmas.List.Sums.{AllPass-from_list_all}
use Rattle.lk_link.specs.Files.{first_some}
use Rattle.lk_check.specs.FirstAnswer.{first_of}
use Rattle.lk_check.proofs.First.{found_of}

-- ---- an option

pub no_map : {X Y : Type 0} (f : X → Y) (o : Option X) → option_map f o ≡ None → o ≡ None
no_map f None h = refl
no_map f (Some x) h = absurd (cc)

pub passes_if : {X : Type 0} (b : Bool) (x : X) → cond b None (Some x) ≡ None → b ≡ true
passes_if true x h = refl
passes_if false x h = absurd (cc)

pub fails_if : {X : Type 0} (b : Bool) (x : X) → cond b (Some x) None ≡ None → b ≡ false
fails_if true x h = absurd (cc)
fails_if false x h = refl

pub holds_if : {X : Type 0} (b : Bool) (o : Option X) (x : X) → cond b o (Some x) ≡ None → (b ≡ true) × (o ≡ None)
holds_if true o x h = (refl, h)
holds_if false o x h = absurd (cc)

-- an option is none where it isn't some
pub none_unless : {X : Type 0} (o : Option X) → ((x : X) → o ≡ Some x → ⊥) → o ≡ None
none_unless None h = refl
none_unless (Some x) h = absurd (h x refl)

pub none_first : {X : Type 0} (a b : Option X) → first_some a b ≡ None → (a ≡ None) × (b ≡ None)
unfolding first_some
none_first None b h = (refl, h)
none_first (Some x) b h = absurd (cc)

pub both_none : {X : Type 0} (a b : Option X) → a ≡ None → b ≡ None → first_some a b ≡ None
unfolding first_some
both_none a b h g = ap (λ o. first_some o b) h ∙ g

-- ---- a list

-- where each fails, none is found
pub find_none : {X : Type 0} (p : X → Bool) (xs : List X) → ((k : ℕ) (x : X) → slice_get xs k ≡ Some x → p x ≡ false) → find p xs ≡ None
find_none p [] h = refl
find_none p (x ∷ xs) h = ap (λ b. cond b (Some x) (find p xs)) (h 0 x refl) ∙ find_none p xs (λ k. h (suc k))

-- where all pass, none has a place that fails
pub none_where_all : {X : Type 0} (p : X → Bool) (xs : List X) → list_all p xs ≡ true → position (λ x. not (p x)) xs ≡ None
none_where_all p [] h = refl
none_where_all p (y ∷ ys) h = none_unless (position (λ x. not (p x)) (y ∷ ys)) (λ i at_i.
    let fails = position-Some (λ x. not (p x)) (y ∷ ys) i y at_i in
    let passes = AllPass-from_list_all p (y ∷ ys) h i y fails.0 in
    let clash : not true ≡ true = ap not (sym passes) ∙ fails.1 in
    cc)

-- where there is no first answer, none answers
pub none_of : {X Y : Type 0} (f : X → Option Y) (xs : List X) (k : ℕ) (x : X) → first_of f xs ≡ None → slice_get xs k ≡ Some x → f x ≡ None
unfolding first_of
none_of f [] k x h e = absurd (cc)
none_of f (y ∷ xs) zero x h e = let same : y ≡ x = cc in ap f (sym same) ∙ (none_first (f y) (first_of f xs) h).0
none_of f (y ∷ xs) (suc k) x h e = none_of f xs k x (none_first (f y) (first_of f xs) h).1 e

-- and the other way round
pub none_from : {X Y : Type 0} (f : X → Option Y) (xs : List X) → ((k : ℕ) (x : X) → slice_get xs k ≡ Some x → f x ≡ None) → first_of f xs ≡ None
none_from f xs h = none_unless (first_of f xs) (λ y answer.
    let by = found_of f xs y answer in
    let none = h by.0 by.1 by.2 in
    let some = by.3 in
    cc)
