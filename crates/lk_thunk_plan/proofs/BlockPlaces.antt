-- Whose the thunks of blocks are, and where they begin, by the owners in order and their addresses.
use Rattle.std.proofs.Common.{◌≡◌, ℕ, zero, suc, ◌+◌, ◌==◌, ◌&&◌, Bool, true, false, cond, List, [], ◌∷◌, length, map, find, Option, Some, refl, sym, ap, ◌∙◌, arith, inl, inr}
use Rattle.std.specs.Prelude.{option_map}
use Rattle.std.specs.List.{enumerate_from, range_with_len, slice_get}
use Rattle.std.proofs.lemmas.Bool.Decides.{eqb_tells}
use Rattle.std.proofs.lemmas.Option.{slice_get-map}
use Rattle.lk_link.specs.declared.ids.FileId.{FileId}
use Rattle.lk_thunk_plan.specs.declared.thunk_plan.ThunkPlan.{ThunkPlan}
use Rattle.lk_thunk_plan.specs.Branches.{block_owner, block_places, owners_of_blocks, owns_block}
use Rattle.lk_thunk_plan.specs.Orders.{OwnersFollow, owning}

-- the first object owns block n, and what others own is found behind it
first_or_later : (n k : ℕ) (u : FileId × ℕ × Bool) (users : List (FileId × ℕ × Bool)) → u.1 ≡ n + 0
    → ((m : ℕ) → find (owns_block (n + 1 + m)) users ≡ slice_get (owning users) m)
    → cond (u.1 == n + k) (Some u) (find (owns_block (n + k)) users) ≡ slice_get (u ∷ owning users) k
first_or_later n zero u users number later = elim (eqb_tells u.1 (n + 0)) [
  | inl hit ↦ ap (λ b. cond b (Some u) (find (owns_block (n + 0)) users)) hit.0
  | inr miss ↦ absurd (miss.1 number)
]
first_or_later n (suc m) u users number later = elim (eqb_tells u.1 (n + suc m)) [
  | inl hit ↦ absurd (omega (arith, hit.1, number))
  | inr miss ↦
      let next : n + suc m ≡ n + 1 + m = omega arith in
      ap (λ b. cond b (Some u) (find (owns_block (n + suc m)) users)) miss.0
      ∙ ap (λ i. find (owns_block i) users) next ∙ later m
]

-- where owners are numbered in order from n on, that of a block is found in its place
owner_found : (n k : ℕ) (users : List (FileId × ℕ × Bool)) → ((j : ℕ) (u : FileId × ℕ × Bool) → slice_get (owning users) j ≡ Some u → u.1 ≡ n + j)
    → find (owns_block (n + k)) users ≡ slice_get (owning users) k
owner_found n k [] numbers = refl
owner_found n k (u ∷ users) numbers =
    let rest : List (FileId × ℕ × Bool) = owning users in
    (elim u.2 as (λ b. ((j : ℕ) (v : FileId × ℕ × Bool) → slice_get (cond b (u ∷ rest) rest) j ≡ Some v → v.1 ≡ n + j)
    → cond (b && (u.1 == n + k)) (Some u) (find (owns_block (n + k)) users) ≡ slice_get (cond b (u ∷ rest) rest) k) [
      | false ↦ λ told. owner_found n k users told
      | true ↦ λ told. first_or_later n k u users (told 0 u refl)
          (λ m. owner_found (n + 1) m users (λ j v at. omega (arith, told (suc j) v at)))
    ]) numbers

mapped_twice : (place : FileId → ℕ) (qs : List (FileId × ℕ)) → map (λ q. place q.0) qs ≡ map place (map (λ q. q.0) qs)
mapped_twice place [] = refl
mapped_twice place (q ∷ qs) = ap (λ (ns : List ℕ). place q.0 ∷ ns) (mapped_twice place qs)

-- the owner of block k is the one in its place
owner_is : (plan : ThunkPlan) (k : ℕ) → OwnersFollow plan → option_map (λ (q : FileId × ℕ). q.0) (slice_get plan.owners k) ≡ block_owner plan.users k
owner_is plan k follow =
    let file : FileId × ℕ × Bool → FileId = λ u. u.0 in
    let owners : List (FileId × ℕ × Bool) = owning plan.users in
    let number : 0 + k ≡ k = omega arith in
    let found : find (owns_block k) plan.users ≡ slice_get owners k
    = ap (λ i. find (owns_block i) plan.users) (sym number) ∙ owner_found 0 k plan.users (λ j u at. omega (arith, follow.numbers j u at)) in
    sym (slice_get-map (λ (q : FileId × ℕ). q.0) plan.owners k)
    ∙ ap (λ (files : List FileId). slice_get files k) follow.files
    ∙ slice_get-map file owners k
    ∙ ap (λ (o : Option (FileId × ℕ × Bool)). option_map file o) (sym found)

-- its address is the one in that place
place_is : (plan : ThunkPlan) (place : FileId → ℕ) (addresses : List ℕ) (k : ℕ) → OwnersFollow plan → addresses ≡ map (λ q. place q.0) plan.owners
    → slice_get addresses k ≡ option_map place (block_owner plan.users k)
place_is plan place addresses k follow is =
    let file : FileId × ℕ → FileId = λ q. q.0 in
    ap (λ (ns : List ℕ). slice_get ns k) (is ∙ mapped_twice place plan.owners)
    ∙ slice_get-map place (map file plan.owners) k
    ∙ ap (option_map place) (slice_get-map file plan.owners k ∙ owner_is plan k follow)

-- what is made of the numbers
made : {X Y : Type 0} (f g : ℕ → Option Y) (o : ℕ) (xs : List X) → ((k : ℕ) → f k ≡ g k) → map f (range_with_len o (length xs)) ≡ map (λ q. g q.0) (enumerate_from o xs)
made f g o [] same = refl
made {X} {Y} f g o (x ∷ xs) same = ap (λ (p : Option Y). p ∷ map f (range_with_len (o + 1) (length xs))) (same o) ∙ ap (λ (ps : List (Option Y)). g o ∷ ps) (made f g (o + 1) xs same)

pub owners_are : (plan : ThunkPlan) (sets : List (List ℕ)) → OwnersFollow plan
    → map (λ k. option_map (λ (q : FileId × ℕ). q.0) (slice_get plan.owners k)) (range_with_len 0 (length sets)) ≡ owners_of_blocks sets plan.users
owners_are plan sets follow =
    made (λ k. option_map (λ (q : FileId × ℕ). q.0) (slice_get plan.owners k)) (block_owner plan.users) 0 sets (λ k. owner_is plan k follow)

pub places_are : (plan : ThunkPlan) (place : FileId → ℕ) (addresses : List ℕ) (sets : List (List ℕ)) → OwnersFollow plan → addresses ≡ map (λ q. place q.0) plan.owners
    → map (slice_get addresses) (range_with_len 0 (length sets)) ≡ block_places place sets plan.users
places_are plan place addresses sets follow is =
    made (slice_get addresses) (λ k. option_map place (block_owner plan.users k)) 0 sets (λ k. place_is plan place addresses k follow is)
