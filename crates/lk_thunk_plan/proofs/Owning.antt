-- The owners of blocks stand in the order of blocks.
use Rattle.std.proofs.Common.{◌≡◌, ℕ, zero, suc, ◌+◌, ◌-◌, ◌<◌, ◌≤◌, ◌==◌, Bool, cond, List, [], ◌∷◌, ◌++◌, drop, length, map, Some, refl, ap, sym, ◌∙◌, arith, inl, inr}
use Rattle.std.specs.List.{enumerate_from, slice_get}
use Rattle.std.proofs.lemmas.Bool.Decides.{eqb_tells}
use Rattle.std.proofs.lemmas.List.{length-drop, length-take}
use Rattle.std.proofs.lemmas.List.Elements.{filter-append}
use Rattle.lk_link.specs.declared.ids.FileId.{FileId}
use Rattle.lk_thunks.specs.declared.blocks.Block.{Block}
use Rattle.lk_thunks.specs.Blocks.{assigned, assigned_from, objects_of, thunk_blocks, users_of}
use Rattle.lk_thunks.proofs.Stretches.{Chain}
use Rattle.lk_thunks.proofs.UserLaws.{whole_chain}
use Rattle.lk_thunk_plan.specs.Orders.{owning}

-- an object with its place among some, where the one at place m owns block k
abbrev user_at : ℕ → ℕ → ℕ × (FileId × ℕ × ℕ) → FileId × ℕ × Bool
user_at k m q = (q.1.0, k, q.0 == m)

none_owns : (k m n : ℕ) (objects : List (FileId × ℕ × ℕ)) → m < n → owning (map (user_at k m) (enumerate_from n objects)) ≡ []
none_owns k m n [] lt = refl
none_owns k m n (o ∷ objects) lt =
    let rest : List (FileId × ℕ × Bool) = map (user_at k m) (enumerate_from (n + 1) objects) in
    elim (eqb_tells n m) [
      | inl hit ↦ absurd (omega (arith, hit.1, lt))
      | inr miss ↦ ap (λ b. cond b (user_at k m (n, o) ∷ owning rest) (owning rest)) miss.0 ∙ none_owns k m (n + 1) objects (omega (arith, lt))
    ]

-- one alone owns it
record IsOneOf (k : ℕ) (users : List (FileId × ℕ × Bool)) : Type 0 where
  user : FileId × ℕ × Bool
  number : user.1 ≡ k
  alone : users ≡ user ∷ []

one_owns : (k m n : ℕ) (objects : List (FileId × ℕ × ℕ)) → n ≤ m → m < n + length objects → IsOneOf k (owning (map (user_at k m) (enumerate_from n objects)))
one_owns k m n [] le lt = absurd (omega (arith, le, lt))
one_owns k m n (o ∷ objects) le lt =
    let rest : List (FileId × ℕ × Bool) = map (user_at k m) (enumerate_from (n + 1) objects) in
    elim (eqb_tells n m) [
      | inl hit ↦ record {
        user = user_at k m (n, o);
        number = refl;
        alone = ap (λ b. cond b (user_at k m (n, o) ∷ owning rest) (owning rest)) hit.0
            ∙ ap (λ (us : List (FileId × ℕ × Bool)). user_at k m (n, o) ∷ us) (none_owns k m (n + 1) objects (omega (arith, hit.1)));
      }
      | inr miss ↦
          let apart : (n ≡ m → ⊥) = miss.1 in
          let later = one_owns k m (n + 1) objects (above n m le apart) (omega (arith, lt)) in
          record {
            user = later.user;
            number = later.number;
            alone = ap (λ b. cond b (user_at k m (n, o) ∷ owning rest) (owning rest)) miss.0 ∙ later.alone;
          }
    ]
  where
    above : (a b : ℕ) → a ≤ b → (a ≡ b → ⊥) → a + 1 ≤ b
    above a b h other = omega (arith, h, other)

-- the first of some has a number, and the others have the next ones
first_or_later : (n j : ℕ) (v u : FileId × ℕ × Bool) (later : List (FileId × ℕ × Bool)) → v.1 ≡ n → ((i : ℕ) → slice_get later i ≡ Some u → u.1 ≡ n + 1 + i)
    → slice_get (v ∷ later) j ≡ Some u → u.1 ≡ n + j
first_or_later n zero v u later number next there =
    let same : v ≡ u = cc in
    omega (arith, ap (λ (w : FileId × ℕ × Bool). w.1) same, number)
first_or_later n (suc j) v u later number next there = omega (arith, next j there)

-- the owners of blocks from number n on
owners_from : (objects : List (FileId × ℕ × ℕ)) (f n : ℕ) (bs : List Block) (j : ℕ) (u : FileId × ℕ × Bool) → Chain objects f bs
    → slice_get (owning (assigned_from objects n bs)) j ≡ Some u → u.1 ≡ n + j
unfolding Chain assigned_from
owners_from objects f n [] j u h at = absurd (cc)
owners_from objects f n (b ∷ bs) j u h at =
    let size : length (objects_of objects b) ≡ b.behind - b.first
    = length-take (b.behind - b.first) (drop b.first objects) ∙ omega (arith, length-drop b.first objects, h.3) in
    let first = one_owns n (b.owner - b.first) 0 (objects_of objects b) (omega arith) (omega (arith, size, h.0, h.1, h.2)) in
    let later : List (FileId × ℕ × Bool) = owning (assigned_from objects (n + 1) bs) in
    let whole : owning (assigned_from objects n (b ∷ bs)) ≡ first.user ∷ later
    = filter-append (λ (v : FileId × ℕ × Bool). v.2) (users_of objects n b) (assigned_from objects (n + 1) bs) ∙ ap (λ (us : List (FileId × ℕ × Bool)). us ++ later) first.alone in
    first_or_later n j first.user u later first.number (λ i there. owners_from objects b.behind (n + 1) bs i u h.4 there)
    (sym (ap (λ (us : List (FileId × ℕ × Bool)). slice_get us j) whole) ∙ at)

pub owners_follow : (range : ℕ) (objects : List (FileId × ℕ × ℕ)) (j : ℕ) (u : FileId × ℕ × Bool) → slice_get (owning (assigned range objects)) j ≡ Some u → u.1 ≡ j
owners_follow range objects j u at = omega (arith, owners_from objects 0 0 (thunk_blocks range objects) j u (whole_chain range objects) at)
