-- Keys: where no key stands twice, the one that has it is found in its place.
use Rattle.std.proofs.Common.{◌≡◌, ℕ, zero, suc, ◌+◌, ◌==◌, Bool, true, false, cond, not, List, [], ◌∷◌, ◌++◌, Option, map, filter, None, Some, refl, sym, ap, ◌∙◌, subst, arith}
use Rattle.std.specs.List.{AllByRecursion, cons_option, filter_map, flat_map, position_or_len, slice_get}
use Rattle.std.specs.Option.{option_map_or}
use Rattle.std.proofs.lemmas.Bool.{eqb-false, eqb-true, false_from_ne_true, true_from_ne_false}
use Rattle.std.proofs.lemmas.List.Elements.{filter_map-append}
use Rattle.lk_ranks.proofs.Rising.{NoneTwice}
use Rattle.lk_sizes.specs.Owners.{Owner}
use Rattle.lk_sizes.specs.PartOwners.{has_key}

pub same_number : (n : ℕ) → (n == n) ≡ true
same_number n = true_from_ne_false (n == n) (λ other. eqb-false n n other refl)

-- ---- one key in front of others

tail_all : (P : ℕ → Type 0) (o : Option ℕ) (ns : List ℕ) → AllByRecursion P (cons_option o ns) → AllByRecursion P ns
tail_all P None ns h = h
tail_all P (Some n) ns h = h.1

tail_once : (o : Option ℕ) (ns : List ℕ) → NoneTwice (cons_option o ns) → NoneTwice ns
tail_once None ns h = h
tail_once (Some n) ns h = h.1

more_all : (P : ℕ → Type 0) (o : Option ℕ) (ns ms : List ℕ) → (AllByRecursion P ns → AllByRecursion P ms) → AllByRecursion P (cons_option o ns) → AllByRecursion P (cons_option o ms)
more_all P None ns ms all h = all h
more_all P (Some n) ns ms all h = (h.0, all h.1)

more_once : (o : Option ℕ) (ns ms : List ℕ) → ((P : ℕ → Type 0) → AllByRecursion P ns → AllByRecursion P ms) → (NoneTwice ns → NoneTwice ms)
    → NoneTwice (cons_option o ns) → NoneTwice (cons_option o ms)
more_once None ns ms all once h = once h
more_once (Some n) ns ms all once h = (all (λ m. m ≡ n → ⊥) h.0, once h.1)

-- ---- keys

-- what holds of all keys holds of the keys of some
some_all : {X : Type 0} (P : ℕ → Type 0) (key : X → Option ℕ) (p : X → Bool) (xs : List X) → AllByRecursion P (filter_map key xs)
    → AllByRecursion P (filter_map key (filter p xs))
some_all P key p [] h = tt
some_all P key p (x ∷ xs) h =
    elim (p x) as (λ b. AllByRecursion P (filter_map key (cond b (x ∷ filter p xs) (filter p xs)))) [
      | true ↦ more_all P (key x) (filter_map key xs) (filter_map key (filter p xs)) (some_all P key p xs) h
      | false ↦ some_all P key p xs (tail_all P (key x) (filter_map key xs) h)
    ]

pub some_once : {X : Type 0} (key : X → Option ℕ) (p : X → Bool) (xs : List X) → NoneTwice (filter_map key xs) → NoneTwice (filter_map key (filter p xs))
some_once key p [] h = tt
some_once key p (x ∷ xs) h =
    elim (p x) as (λ b. NoneTwice (filter_map key (cond b (x ∷ filter p xs) (filter p xs)))) [
      | true ↦ more_once (key x) (filter_map key xs) (filter_map key (filter p xs)) (λ P. some_all P key p xs) (some_once key p xs) h
      | false ↦ some_once key p xs (tail_once (key x) (filter_map key xs) h)
    ]

of_key : {X : Type 0} (P : ℕ → Type 0) (key : X → Option ℕ) (n : ℕ) (xs : List X) (k : ℕ) (x : X) → slice_get xs k ≡ Some x → key x ≡ Some n
    → AllByRecursion P (filter_map key xs) → P n
of_key P key n [] k x there is h = absurd (cc)
of_key P key n (z ∷ xs) zero x there is h =
    let same : z ≡ x = cc in
    (subst (λ (o : Option ℕ). AllByRecursion P (cons_option o (filter_map key xs))) (ap key same ∙ is) h).0
of_key P key n (z ∷ xs) (suc k) x there is h = of_key P key n xs k x there is (tail_all P (key z) (filter_map key xs) h)

other_key : (o : Option ℕ) (n : ℕ) (ns : List ℕ) → ((P : ℕ → Type 0) → AllByRecursion P ns → P n) → NoneTwice (cons_option o ns) → option_map_or (λ m. m == n) o false ≡ false
other_key None n ns among h = refl
other_key (Some m) n ns among h = false_from_ne_true (m == n) (λ same. among (λ i. i ≡ m → ⊥) h.0 (sym (eqb-true m n same)))

-- where no key stands twice, the first that has a key is the one that has it
pub found_there : (key : Owner → Option ℕ) (n : ℕ) (xs : List Owner) (k : ℕ) (x : Owner) → slice_get xs k ≡ Some x → key x ≡ Some n
    → NoneTwice (filter_map key xs) → position_or_len (has_key key n) xs ≡ k
found_there key n [] k x there is once = absurd (cc)
found_there key n (z ∷ xs) zero x there is once =
    let same : z ≡ x = cc in
    let here : has_key key n z ≡ true = ap (λ (o : Option ℕ). option_map_or (λ m. m == n) o false) (ap key same ∙ is) ∙ same_number n in
    ap (λ b. cond (not b) (1 + position_or_len (has_key key n) xs) 0) here
found_there key n (z ∷ xs) (suc k) x there is once =
    let other = other_key (key z) n (filter_map key xs) (λ P. of_key P key n xs k x there is) once in
    ap (λ b. cond (not b) (1 + position_or_len (has_key key n) xs) 0) other
    ∙ omega (arith, found_there key n xs k x there is (tail_once (key z) (filter_map key xs) once))

-- ---- the keys of lists

pub made_keys : {X Y : Type 0} (key : Y → Option ℕ) (g : X → Y) (xs : List X) → filter_map key (map g xs) ≡ filter_map (λ x. key (g x)) xs
made_keys key g [] = refl
made_keys key g (x ∷ xs) = ap (cons_option (key (g x))) (made_keys key g xs)

pub flat_keys : {X Y : Type 0} (key : Y → Option ℕ) (f : X → List Y) (xs : List X) → filter_map key (flat_map f xs) ≡ flat_map (λ x. filter_map key (f x)) xs
flat_keys key f [] = refl
flat_keys key f (x ∷ xs) = filter_map-append key (f x) (flat_map f xs) ∙ ap (λ (ns : List ℕ). filter_map key (f x) ++ ns) (flat_keys key f xs)

pub all_keys : {X : Type 0} (g : X → ℕ) (xs : List X) → filter_map (λ x. Some (g x)) xs ≡ map g xs
all_keys g [] = refl
all_keys g (x ∷ xs) = ap (λ (ns : List ℕ). g x ∷ ns) (all_keys g xs)

pub no_keys : {X : Type 0} (key : X → Option ℕ) (xs : List X) → ((x : X) → key x ≡ None) → filter_map key xs ≡ []
no_keys key [] none = refl
no_keys key (x ∷ xs) none = ap (λ (o : Option ℕ). cons_option o (filter_map key xs)) (none x) ∙ no_keys key xs none
