-- What is given one after the other.
use Rattle.std.proofs.Common.{◌≡◌, ℕ, ◌+◌, List, [], ◌∷◌, ◌++◌, Result, Ok, Err, refl, ap, ◌∙◌}
use Rattle.std.proofs.lemmas.List.{append-nil}
use Rattle.lk_place.specs.declared.error.PlaceError.{PlaceError}
use Rattle.lk_expressions.specs.Expressions.{◌>>=◌}
use Rattle.lk_place.specs.Regions.{all_given}

-- a value before others, unless there is a refusal
abbrev pub with_first : {X : Type 0} → Result X PlaceError → Result (List X) PlaceError → Result (List X) PlaceError
with_first r rest = r >>= λ x. rest >>= λ xs. Ok (x ∷ xs)

-- values behind others, unless there is a refusal
abbrev pub behind : {X : Type 0} → List X → Result (List X) PlaceError → Result (List X) PlaceError
behind xs (Ok ys) = Ok (xs ++ ys)
behind xs (Err e) = Err e

append_one : {X : Type 0} (xs : List X) (x : X) (ys : List X) → xs ++ (x ∷ ys) ≡ (xs ++ (x ∷ [])) ++ ys
append_one [] x ys = refl
append_one (z ∷ xs) x ys = ap (λ zs. z ∷ zs) (append_one xs x ys)

one_behind : {X : Type 0} (xs : List X) (x : X) (rest : Result (List X) PlaceError) → behind xs (with_first (Ok x) rest) ≡ behind (xs ++ (x ∷ [])) rest
one_behind xs x (Ok ys) = ap (λ zs. Ok zs) (append_one xs x ys)
one_behind xs x (Err e) = refl

-- none behind
pub given_first : {A X : Type 0} (f : ℕ → A → Result X PlaceError) (later : List A) → behind [] (all_given f 0 later) ≡ all_given f 0 later
given_first {A} {X} f later = elim (all_given f 0 later) as (λ (r : Result (List X) PlaceError). behind [] r ≡ r) [ (Ok ys) ↦ refl | (Err e) ↦ refl ]

-- none left
pub given_last : {A X : Type 0} (f : ℕ → A → Result X PlaceError) (i : ℕ) (xs : List X) → behind xs (all_given f i []) ≡ Ok xs
unfolding all_given
given_last f i xs = ap (λ zs. Ok zs) (append-nil xs)

-- one more
pub given_more : {A X : Type 0} (f : ℕ → A → Result X PlaceError) (i : ℕ) (a : A) (later : List A) (xs : List X) (x : X) → f i a ≡ Ok x
    → behind xs (all_given f i (a ∷ later)) ≡ behind (xs ++ (x ∷ [])) (all_given f (i + 1) later)
unfolding all_given
given_more f i a later xs x h = ap (λ r. behind xs (with_first r (all_given f (i + 1) later))) h ∙ one_behind xs x (all_given f (i + 1) later)

-- the first refusal
pub given_refused : {A X : Type 0} (f : ℕ → A → Result X PlaceError) (i : ℕ) (a : A) (later : List A) (xs : List X) (e : PlaceError) → f i a ≡ Err e
    → behind xs (all_given f i (a ∷ later)) ≡ Err e
unfolding all_given
given_refused f i a later xs e h = ap (λ r. behind xs (with_first r (all_given f (i + 1) later))) h

pub ruleset given = (given_first, given_last)
