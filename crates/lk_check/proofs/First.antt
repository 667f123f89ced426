-- The first answer over a list.
use Rattle.std.proofs.Common.{◌≡◌, ℕ, ◌+◌, ◌<◌, ◌≤◌, List, [], ◌∷◌, ◌++◌, Option, Some, None, length, get_or, drop, refl, ap, ◌∙◌, suc}
use Rattle.std.specs.List.{enumerate_from, slice_get}
use Rattle.std.proofs.lemmas.List.{drop_all, drop_more}
use Rattle.lk_link.specs.Files.{first_some}
use Rattle.lk_check.specs.FirstAnswer.{first_of}

-- ---- one answer behind another

pub answer_first : {X : Type 0} (x : X) (o : Option X) → first_some (Some x) o ≡ Some x
unfolding first_some
answer_first x o = refl

pub answer_next : {X : Type 0} (o : Option X) → first_some None o ≡ o
unfolding first_some
answer_next o = refl

pub ruleset firsts = (answer_first, answer_next)

-- ---- element by element

pub first_of-none : {X Y : Type 0} (f : X → Option Y) → first_of f [] ≡ None
unfolding first_of
first_of-none f = refl

-- where the first element answers nothing
pub first_of-on : {X Y : Type 0} (f : X → Option Y) (x : X) (xs : List X) → f x ≡ None → first_of f (x ∷ xs) ≡ first_of f xs
unfolding first_of first_some
first_of-on f x xs h = ap (λ o. first_some o (first_of f xs)) h

-- where it answers
pub first_of-here : {X Y : Type 0} (f : X → Option Y) (x : X) (xs : List X) (y : Y) → f x ≡ Some y → first_of f (x ∷ xs) ≡ Some y
unfolding first_of first_some
first_of-here f x xs y h = ap (λ o. first_some o (first_of f xs)) h

pub ruleset walks = (first_of-none, first_of-on, first_of-here)

-- ---- from a place on

pub first_at-end : {X Y : Type 0} (f : X → Option Y) (xs : List X) (i : ℕ) → length xs ≤ i → first_of f (drop i xs) ≡ None
unfolding first_of
first_at-end f xs i h = ap (first_of f) (drop_all i xs h)

pub first_at-on : {X Y : Type 0} (f : X → Option Y) (xs : List X) (i : ℕ) (d : X) → i < length xs → f (get_or xs i d) ≡ None → first_of f (drop i xs) ≡ first_of f (drop (i + 1) xs)
first_at-on f xs i d h e = ap (first_of f) (drop_more xs i d h) ∙ first_of-on f (get_or xs i d) (drop (i + 1) xs) e

pub first_at-here : {X Y : Type 0} (f : X → Option Y) (xs : List X) (i : ℕ) (d : X) (y : Y) → i < length xs → f (get_or xs i d) ≡ Some y → first_of f (drop i xs) ≡ Some y
first_at-here f xs i d y h e = ap (first_of f) (drop_more xs i d h) ∙ first_of-here f (get_or xs i d) (drop (i + 1) xs) y e

pub ruleset places = (first_at-end, first_at-on, first_at-here)

-- what answers nothing may be left out
pub left_out : {X Y : Type 0} (f : X → Option Y) (xs ys : List X) → first_of f ys ≡ None → first_of f (xs ++ ys) ≡ first_of f xs
unfolding first_of
left_out f [] ys h = h
left_out f (x ∷ xs) ys h = ap (first_some (f x)) (left_out f xs ys h)

-- ---- by numbers, from a place on

pub numbered_end : {X Y : Type 0} (f : ℕ × X → Option Y) (xs : List X) (i : ℕ) → length xs ≤ i → first_of f (enumerate_from i (drop i xs)) ≡ None
unfolding first_of
numbered_end f xs i h = ap (λ ys. first_of f (enumerate_from i ys)) (drop_all i xs h)

pub numbered_on : {X Y : Type 0} (f : ℕ × X → Option Y) (xs : List X) (i : ℕ) (d : X) → i < length xs → f (i, get_or xs i d) ≡ None → first_of f (enumerate_from i (drop i xs)) ≡ first_of f (enumerate_from (i + 1) (drop (i + 1) xs))
numbered_on f xs i d h e =
    ap (λ ys. first_of f (enumerate_from i ys)) (drop_more xs i d h)
    ∙ first_of-on f (i, get_or xs i d) (enumerate_from (i + 1) (drop (i + 1) xs)) e

pub numbered_here : {X Y : Type 0} (f : ℕ × X → Option Y) (xs : List X) (i : ℕ) (d : X) (y : Y) → i < length xs → f (i, get_or xs i d) ≡ Some y → first_of f (enumerate_from i (drop i xs)) ≡ Some y
numbered_here f xs i d y h e =
    ap (λ ys. first_of f (enumerate_from i ys)) (drop_more xs i d h)
    ∙ first_of-here f (i, get_or xs i d) (enumerate_from (i + 1) (drop (i + 1) xs)) y e

-- ---- who answered

-- some element gave the answer
pub found_of : {X Y : Type 0} (f : X → Option Y) (xs : List X) (y : Y) → first_of f xs ≡ Some y → (k : ℕ) × (x : X) × (slice_get xs k ≡ Some x) × (f x ≡ Some y)
unfolding first_of first_some
found_of f [] y h = absurd (cc)
found_of f (x ∷ xs) y h =
    elim (f x) as (λ o. f x ≡ o → first_some o (first_of f xs) ≡ Some y → (k : ℕ) × (z : _) × (slice_get (x ∷ xs) k ≡ Some z) × (f z ≡ Some y)) [
      | None ↦ λ e g. let r = found_of f xs y g in (suc r.0, r.1, r.2, r.3)
      | Some z ↦ λ e g. (0, x, refl, e ∙ g)
    ] refl h
