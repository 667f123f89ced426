-- Objects are assigned as their blocks say.
use Rattle.std.proofs.Common.{◌≡◌, ℕ, suc, ◌+◌, ◌-◌, ◌<◌, ◌≤◌, ◌==◌, inl, inr, Bool, true, false, List, [], ◌∷◌, drop, get_or, length, Some, refl, sym, ap, subst, ◌∙◌, arith}
use Rattle.std.specs.List.{enumerate_from, slice_get}
use Rattle.std.proofs.lemmas.Bool.{cases_Bool, cases_lt, eqb-false, eqb-true}
use Rattle.std.proofs.lemmas.List.{get_or-drop, get_or-take, length-take}
use Rattle.std.proofs.lemmas.Option.{get_or_from_slice_get, slice_get-get_or, slice_get_within}
use Rattle.lk_link.specs.declared.ids.FileId.{FileId}
use Rattle.lk_link.proofs.Elements.{append_at, map_at, numbered_at}
use Rattle.lk_thunks.specs.declared.blocks.Block.{Block}
use Rattle.lk_thunks.specs.BlockLaws.{IsAssigned, IsOnlyOwner}
use Rattle.lk_thunks.specs.Blocks.{assigned, assigned_from, object_at, objects_of, thunk_blocks, user_of, users_of}
use Rattle.lk_thunks.proofs.Stretches.{Chain, IsUserOf, assigned_count, chain_at, chain_from, chain_rises, covered_once, users_count}

-- the place in a block and the place among all objects tell the same of the owner
owner_place : (f i o : ℕ) → f ≤ o → (i == o - f) ≡ (f + i == o)
owner_place f i o le = by (i == o - f) (f + i == o) refl refl
  where
    by : (a b : Bool) → (i == o - f) ≡ a → (f + i == o) ≡ b → a ≡ b
    by true true p q = refl
    by false false p q = refl
    by true false p q = absurd (eqb-false (f + i) o q (omega (arith, eqb-true i (o - f) p, le)))
    by false true p q = absurd (eqb-false i (o - f) p (omega (arith, eqb-true (f + i) o q, le)))

-- an object of a block, by its place there
object_in : (objects : List (FileId × ℕ × ℕ)) (b : Block) (i : ℕ) (o : FileId × ℕ × ℕ) → slice_get (objects_of objects b) i ≡ Some o → (i < b.behind - b.first) × (o ≡ object_at objects (b.first + i))
object_in objects b i o h =
    let nowhere : FileId × ℕ × ℕ = (record { group = 0; file = 0 }, 0, 0) in
    let within = slice_get_within (objects_of objects b) i o h in
    let below : i < b.behind - b.first = omega (arith, within, length-take (b.behind - b.first) (drop b.first objects)) in (
      below,
      sym (get_or_from_slice_get (objects_of objects b) i o nowhere h) ∙ get_or-take (b.behind - b.first) (drop b.first objects) i nowhere below ∙ get_or-drop b.first objects i nowhere,
    )

pub user_at : (objects : List (FileId × ℕ × ℕ)) (f n : ℕ) (bs : List Block) (i : ℕ) (u : FileId × ℕ × Bool) → Chain objects f bs → slice_get (assigned_from objects n bs) i ≡ Some u → IsUserOf objects n bs (f + i) u
unfolding Chain assigned_from
user_at objects f n [] i u h e = absurd (cc)
user_at objects f n (b ∷ bs) i u h e = elim (append_at (users_of objects n b) (assigned_from objects (n + 1) bs) i u e) [
  | inl here ↦
      let made = map_at (user_of n b) (enumerate_from 0 (objects_of objects b)) i u here in
      let numbered = numbered_at 0 (objects_of objects b) i made.0 made.1 in
      let object = object_in objects b i made.0.1 numbered.1 in
      let place : made.0.0 ≡ i = omega (arith, numbered.0) in
      record {
        covers = record { number = 0; block = b; at = refl; opened = omega (arith, h.0); inside = omega (arith, object.0, h.0) };
        number = ap (λ (x : FileId × ℕ × Bool). x.1) (sym made.2) ∙ omega arith;
        file = ap (λ (x : FileId × ℕ × Bool). x.0) (sym made.2) ∙ ap (λ (o : FileId × ℕ × ℕ). o.0) object.1 ∙ ap (λ k. (object_at objects (k + i)).0) h.0;
        owns = ap (λ (x : FileId × ℕ × Bool). x.2) (sym made.2) ∙ ap (λ k. k == b.owner - b.first) place ∙ owner_place b.first i b.owner (omega (arith, h.0, h.1)) ∙ ap (λ k. k + i == b.owner) h.0;
      }
  | inr later ↦
      let rest = user_at objects b.behind (n + 1) bs later.0 u h.4 later.2 in
      let same : b.behind + later.0 ≡ f + i = omega (arith, later.1, users_count objects n b (omega (arith, h.0, h.1, h.2)) h.3, h.0, h.1, h.2) in
      let moved = subst (λ k. IsUserOf objects (n + 1) bs k u) same rest in
      record {
        covers = record { number = suc moved.covers.number; block = moved.covers.block; at = moved.covers.at; opened = moved.covers.opened; inside = moved.covers.inside };
        number = omega (arith, moved.number);
        file = moved.file;
        owns = moved.owns;
      }
]

-- all blocks are a chain
pub whole_chain : (range : ℕ) (objects : List (FileId × ℕ × ℕ)) → Chain objects 0 (thunk_blocks range objects)
whole_chain range objects = chain_from range objects 0 (length objects) (omega arith)

pub is_assigned : (range : ℕ) (objects : List (FileId × ℕ × ℕ)) (i : ℕ) (u : FileId × ℕ × Bool) → slice_get (assigned range objects) i ≡ Some u → IsAssigned range objects i u
is_assigned range objects i u h =
    let user = subst (λ k. IsUserOf objects 0 (thunk_blocks range objects) k u) (omega arith) (user_at objects 0 0 (thunk_blocks range objects) i u (whole_chain range objects) h) in
    let number : u.1 ≡ user.covers.number = omega (arith, user.number) in
    record {
      file = user.file;
      place = record {
        block = user.covers.block;
        at = ap (slice_get (thunk_blocks range objects)) number ∙ user.covers.at;
        opened = user.covers.opened;
        inside = user.covers.inside;
      };
      owns = user.owns;
    }

pub all_assigned : (range : ℕ) (objects : List (FileId × ℕ × ℕ)) → length (assigned range objects) ≡ length objects
all_assigned range objects = omega (arith, assigned_count objects 0 0 (thunk_blocks range objects) (omega arith) (whole_chain range objects))

pub never_fall : (range : ℕ) (objects : List (FileId × ℕ × ℕ)) (i j : ℕ) (u v : FileId × ℕ × Bool) → i ≤ j → slice_get (assigned range objects) i ≡ Some u → slice_get (assigned range objects) j ≡ Some v
    → u.1 ≤ v.1
never_fall range objects i j u v le h g =
    let a = (is_assigned range objects i u h).place in
    let b = (is_assigned range objects j v g).place in
    elim (cases_lt v.1 u.1) [
      | inl before ↦ absurd (omega (arith, chain_rises objects 0 (thunk_blocks range objects) v.1 u.1 b.block a.block (whole_chain range objects) before b.at a.at, a.opened, b.inside, le))
      | inr kept ↦ kept
    ]

pub one_owner : (range : ℕ) (objects : List (FileId × ℕ × ℕ)) (k : ℕ) → k < length (thunk_blocks range objects) → IsOnlyOwner range objects k
one_owner range objects k lt =
    let blocks : List Block = thunk_blocks range objects in
    let chain = whole_chain range objects in
    let nothing : Block = record { first = 0; owner = 0; behind = 0 } in
    let b : Block = get_or blocks k nothing in
    let at : slice_get blocks k ≡ Some b = slice_get-get_or blocks k nothing lt in
    let stretch = (chain_at objects 0 blocks k b chain at).1 in
    let nobody : FileId × ℕ × Bool = (record { group = 0; file = 0 }, 0, false) in
    let u : FileId × ℕ × Bool = get_or (assigned range objects) b.owner nobody in
    let there : slice_get (assigned range objects) b.owner ≡ Some u
    = slice_get-get_or (assigned range objects) b.owner nobody (omega (arith, all_assigned range objects, stretch.closes, stretch.there)) in
    let user = is_assigned range objects b.owner u there in
    let number : u.1 ≡ k = covered_once objects 0 blocks b.owner u.1 k user.place.block b chain user.place.at at user.place.opened user.place.inside stretch.opens stretch.closes in
    let same : user.place.block ≡ b = same_block blocks u.1 k user.place.block b user.place.at at number in
    let owns : u.2 ≡ true = user.owns ∙ ap (λ (c : Block). b.owner == c.owner) same ∙ eqb_self b.owner in
    record {
      place = b.owner;
      file = u.0;
      there = there ∙ ap (λ n. Some (u.0, n, u.2)) number ∙ ap (λ m. Some (u.0, k, m)) owns;
      only = λ i g h.
          let other = is_assigned range objects i (g, k, true) h in
          let block : other.place.block ≡ b = same_block blocks k k other.place.block b other.place.at at refl in
          eqb-true i b.owner (sym (ap (λ (c : Block). i == c.owner) block) ∙ sym other.owns);
    }
  where
    same_block : (bs : List Block) (j m : ℕ) (c d : Block) → slice_get bs j ≡ Some c → slice_get bs m ≡ Some d → j ≡ m → c ≡ d
    same_block bs j m c d p q e = let r : Some c ≡ Some d = sym p ∙ ap (slice_get bs) e ∙ q in cc

    eqb_self : (n : ℕ) → (n == n) ≡ true
    eqb_self n = elim (cases_Bool (n == n)) [ inl t ↦ t | inr t ↦ absurd (eqb-false n n t refl) ]
