-- What lists contain.
use Rattle.std.proofs.Common.{◌≡◌, [], ◌∷◌, ◌++◌, ◌⊎◌, List, arith, inl, inr, refl, subst, sym}
use Rattle.std.proofs.lemmas.List.Elements.{Contains-append_cases, Contains-append_left, Contains-append_right, Contains-push, Contains-push_cases}
use Rattle.std.specs.List.{Contains}
use Rattle.lk_slots.specs.Machine.{TakesOut}

pub none_in : {X : Type 0} {A : Type 0} (xs : List X) (x : X) → xs ≡ [] → Contains xs x → A
none_in {X} {A} xs x e h = let there : Contains [] x = subst (λ ys. Contains ys x) e h in absurd (omega (arith, there.1))

pub moved_in : {X : Type 0} (xs ys : List X) (x : X) → xs ≡ ys → Contains xs x → Contains ys x
moved_in xs ys x e h = subst (λ zs. Contains zs x) e h

pub first_in : {X : Type 0} (x : X) (xs : List X) → Contains (x ∷ xs) x
first_in {X} x xs = Contains-append_left (x ∷ []) xs x (Contains-push {X = X} [] x)

pub later_in : {X : Type 0} (y : X) (xs : List X) (x : X) → Contains xs x → Contains (y ∷ xs) x
later_in y xs x h = Contains-append_right (y ∷ []) xs x h

pub in_cases : {X : Type 0} (y : X) (xs : List X) (x : X) → Contains (y ∷ xs) x → (y ≡ x) ⊎ Contains xs x
in_cases {X} y xs x h = elim (Contains-append_cases (y ∷ []) xs x h) [
  | inl one ↦ elim (Contains-push_cases {X = X} [] y x one) [
    | inl none ↦ none_in [] x refl none
    | inr is ↦ inl is
  ]
  | inr later ↦ inr later
]

pub left_in : {X : Type 0} (old : List X) (x : X) (new : List X) (y : X) → TakesOut old x new → Contains new y → Contains old y
left_in {X} old x new y out h = moved_in (out.before ++ x ∷ out.after) old y (sym out.is)
    (elim (Contains-append_cases out.before out.after y (moved_in new (out.before ++ out.after) y out.left h)) [
      | inl before ↦ Contains-append_left out.before (x ∷ out.after) y before
      | inr after ↦ Contains-append_right out.before (x ∷ out.after) y (later_in x out.after y after)
    ])

pub out_in : {X : Type 0} (old : List X) (x : X) (new : List X) → TakesOut old x new → Contains old x
out_in old x new out = moved_in (out.before ++ x ∷ out.after) old x (sym out.is)
    (Contains-append_right out.before (x ∷ out.after) x (first_in x out.after))

pub out_cases : {X : Type 0} (old : List X) (x : X) (new : List X) (y : X) → TakesOut old x new → Contains old y
    → (x ≡ y) ⊎ Contains new y
out_cases {X} old x new y out h = elim
    (Contains-append_cases out.before (x ∷ out.after) y (moved_in old (out.before ++ x ∷ out.after) y out.is h)) [
      | inl before ↦
          inr (moved_in (out.before ++ out.after) new y (sym out.left) (Contains-append_left out.before out.after y before))
      | inr rest ↦ elim (in_cases x out.after y rest) [
        | inl is ↦ inl is
        | inr after ↦
            inr (moved_in (out.before ++ out.after) new y (sym out.left) (Contains-append_right out.before out.after y after))
      ]
    ]
