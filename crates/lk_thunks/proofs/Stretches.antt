-- Blocks are stretches of objects, one behind the other.
use Rattle.std.proofs.Common.{◌≡◌, ℕ, zero, suc, ◌+◌, ◌-◌, ◌<◌, ◌≤◌, ◌==◌, inl, inr, Bool, true, false, List, [], ◌∷◌, drop, length, nat_lt, Some, refl, sym, ap, subst, ◌∙◌, arith}
use Rattle.std.specs.List.{enumerate_from, slice_get}
use Rattle.std.proofs.lemmas.Bool.{cases_Bool, cases_lt, ltb-false, ltb-true, eqb-true}
use Rattle.std.proofs.lemmas.List.{length-drop, length-take, length-append, length-map}
use Rattle.std.proofs.lemmas.List.FromFn.{length-enumerate_from}
use Rattle.std.proofs.lemmas.List.Sums.{prefix_len-le-length}
use Rattle.lk_link.specs.declared.ids.FileId.{FileId}
use Rattle.lk_thunks.specs.declared.blocks.Block.{Block}
use Rattle.lk_thunks.specs.BlockLaws.{IsStretch}
use Rattle.lk_thunks.specs.Blocks.{assigned_from, block_from, blocks_from, ends_in, object_at, objects_of, owner_from, past, pending_owner, user_of, users_of}

-- ---- one block

pub past_from : (range : ℕ) (objects : List (FileId × ℕ × ℕ)) (address j : ℕ) → j ≤ past range objects address j
unfolding past
past_from range objects address j = omega arith

pub past_within : (range : ℕ) (objects : List (FileId × ℕ × ℕ)) (address j : ℕ) → j ≤ length objects → past range objects address j ≤ length objects
unfolding past
past_within range objects address j h = omega (arith, prefix_len-le-length (ends_in range address) (drop j objects), length-drop j objects, h)

-- an owner is no earlier than the block's first object, and is there
pub owner_inside : (range : ℕ) (objects : List (FileId × ℕ × ℕ)) (f : ℕ) → f < length objects → (f ≤ owner_from range objects f) × (owner_from range objects f < length objects)
unfolding pending_owner
owner_inside range objects f h = elim (cases_Bool (f == 0)) [
  | inl first ↦ let none : f ≡ 0 = eqb-true f 0 first in rw first (omega (arith, none), omega (arith, h))
  | inr later ↦
      let from = past_from range objects (object_at objects f).1 (f + 1) in
      let within = past_within range objects (object_at objects f).1 (f + 1) (omega (arith, h)) in
      rw later (omega (arith, from), omega (arith, from, within))
]

-- a block from an object on has its owner inside, and ends among the objects
pub block_inside : (range : ℕ) (objects : List (FileId × ℕ × ℕ)) (f : ℕ) → f < length objects
    → (f ≤ (block_from range objects f).owner) × ((block_from range objects f).owner < (block_from range objects f).behind) × ((block_from range objects f).behind ≤ length objects)
unfolding block_from
block_inside range objects f h =
    let owner = owner_inside range objects f h in
    let o : ℕ = owner_from range objects f in (
      owner.0,
      omega (arith, past_from range objects (object_at objects o).2 (o + 1)),
      past_within range objects (object_at objects o).2 (o + 1) (omega (arith, owner.1)),
    )

pub first_of_block : (range : ℕ) (objects : List (FileId × ℕ × ℕ)) (f : ℕ) → (block_from range objects f).first ≡ f
unfolding block_from
first_of_block range objects f = refl

-- ---- all blocks

-- blocks follow each other from an object on, to the last one
unfoldable pub Chain : List (FileId × ℕ × ℕ) → ℕ → List Block → Type 0
Chain objects f [] = length objects ≤ f
Chain objects f (b ∷ bs) = (b.first ≡ f) × (f ≤ b.owner) × (b.owner < b.behind) × (b.behind ≤ length objects) × Chain objects b.behind bs

pub chain_from : (range : ℕ) (objects : List (FileId × ℕ × ℕ)) (f n : ℕ) → length objects ≤ f + n → Chain objects f (blocks_from range objects f n)
unfolding blocks_from Chain
chain_from range objects f zero h = omega (arith, h)
chain_from range objects f (suc n) h = by (nat_lt f (length objects)) refl (chain_from range objects (block_from range objects f).behind n)
  where
    by : (b : Bool) → nat_lt f (length objects) ≡ b
        → (length objects ≤ (block_from range objects f).behind + n → Chain objects (block_from range objects f).behind (blocks_from range objects (block_from range objects f).behind n))
        → Chain objects f (blocks_from range objects f (suc n))
    by true e rest =
        let there : f < length objects = ltb-true f (length objects) e in
        let inside = block_inside range objects f there in
        rw e (first_of_block range objects f, inside.0, inside.1, inside.2, rest (omega (arith, inside.0, inside.1, h)))
    by false e rest = rw e (ltb-false f (length objects) e)

-- a block of a chain is a stretch, and doesn't begin before the chain
pub chain_at : (objects : List (FileId × ℕ × ℕ)) (f : ℕ) (bs : List Block) (k : ℕ) (b : Block) → Chain objects f bs → slice_get bs k ≡ Some b → (f ≤ b.first) × IsStretch objects b
unfolding Chain
chain_at objects f [] k b h e = absurd (cc)
chain_at objects f (c ∷ bs) zero b h e =
    let same : c ≡ b = cc in
    subst (λ (d : Block). (f ≤ d.first) × IsStretch objects d) same (omega (arith, h.0), record { opens = omega (arith, h.0, h.1); closes = h.2; there = h.3 })
chain_at objects f (c ∷ bs) (suc k) b h e =
    let rest = chain_at objects c.behind bs k b h.4 e in
    (omega (arith, rest.0, h.1, h.2), rest.1)

-- each next one begins where the one before ends
pub chain_next : (objects : List (FileId × ℕ × ℕ)) (f : ℕ) (bs : List Block) (k : ℕ) (b c : Block) → Chain objects f bs → slice_get bs k ≡ Some b → slice_get bs (suc k) ≡ Some c → c.first ≡ b.behind
unfolding Chain
chain_next objects f [] k b c h e g = absurd (cc)
chain_next objects f (d ∷ []) k b c h e g = absurd (cc)
chain_next objects f (d ∷ next ∷ bs) zero b c h e g =
    let one : d ≡ b = cc in
    let two : next ≡ c = cc in
    ap (λ (x : Block). x.first) (sym two) ∙ h.4.0 ∙ ap (λ (x : Block). x.behind) one
chain_next objects f (d ∷ next ∷ bs) (suc k) b c h e g = chain_next objects d.behind (next ∷ bs) k b c h.4 e g

-- later ones begin behind earlier ones
pub chain_rises : (objects : List (FileId × ℕ × ℕ)) (f : ℕ) (bs : List Block) (j k : ℕ) (b c : Block) → Chain objects f bs → j < k → slice_get bs j ≡ Some b → slice_get bs k ≡ Some c → b.behind ≤ c.first
unfolding Chain
chain_rises objects f [] j k b c h lt e g = absurd (cc)
chain_rises objects f (d ∷ bs) j zero b c h lt e g = absurd (omega arith)
chain_rises objects f (d ∷ bs) zero (suc k) b c h lt e g =
    let one : d ≡ b = cc in
    subst (λ (x : Block). x.behind ≤ c.first) one (chain_at objects d.behind bs k c h.4 g).0
chain_rises objects f (d ∷ bs) (suc j) (suc k) b c h lt e g = chain_rises objects d.behind bs j k b c h.4 (omega arith) e g

-- a block of a list that has an object in it
pub record Covers (bs : List Block) (i : ℕ) : Type 0 where
  pub number : ℕ
  pub block : Block
  pub at : slice_get bs number ≡ Some block
  pub opened : block.first ≤ i
  pub inside : i < block.behind

-- each object is in one
pub chain_covers : (objects : List (FileId × ℕ × ℕ)) (f : ℕ) (bs : List Block) (i : ℕ) → Chain objects f bs → f ≤ i → i < length objects → Covers bs i
unfolding Chain
chain_covers objects f [] i h le lt = absurd (omega (arith, h, le, lt))
chain_covers objects f (b ∷ bs) i h le lt = elim (cases_lt i b.behind) [
  | inl here ↦ record { number = 0; block = b; at = refl; opened = omega (arith, h.0, le); inside = here }
  | inr later ↦
      let rest = chain_covers objects b.behind bs i h.4 later lt in
      record { number = suc rest.number; block = rest.block; at = rest.at; opened = rest.opened; inside = rest.inside }
]

-- in one alone
pub covered_once : (objects : List (FileId × ℕ × ℕ)) (f : ℕ) (bs : List Block) (i j k : ℕ) (b c : Block) → Chain objects f bs → slice_get bs j ≡ Some b → slice_get bs k ≡ Some c
    → b.first ≤ i → i < b.behind → c.first ≤ i → i < c.behind → j ≡ k
covered_once objects f bs i j k b c h e g from below other_from other_below = elim (cases_lt j k) [
  | inl before ↦ absurd (omega (arith, chain_rises objects f bs j k b c h before e g, below, other_from))
  | inr le ↦ elim (cases_lt k j) [
    | inl before ↦ absurd (omega (arith, chain_rises objects f bs k j c b h before g e, other_below, from))
    | inr ge ↦ omega (arith, le, ge)
  ]
]

-- ---- users

-- how many objects a block has
pub users_count : (objects : List (FileId × ℕ × ℕ)) (n : ℕ) (b : Block) → b.first ≤ b.behind → b.behind ≤ length objects → length (users_of objects n b) ≡ b.behind - b.first
users_count objects n b opens there =
    length-map (enumerate_from 0 (objects_of objects b)) (user_of n b) ∙ length-enumerate_from 0 (objects_of objects b)
    ∙ omega (arith, length-take (b.behind - b.first) (drop b.first objects), length-drop b.first objects, opens, there)

-- as many users as objects
pub assigned_count : (objects : List (FileId × ℕ × ℕ)) (f n : ℕ) (bs : List Block) → f ≤ length objects → Chain objects f bs → f + length (assigned_from objects n bs) ≡ length objects
unfolding Chain assigned_from
assigned_count objects f n [] le h = omega (arith, le, h)
assigned_count objects f n (b ∷ bs) le h =
    omega (
      arith,
      length-append (users_of objects n b) (assigned_from objects (n + 1) bs),
      users_count objects n b (omega (arith, h.0, h.1, h.2)) h.3,
      assigned_count objects b.behind (n + 1) bs h.3 h.4,
      h.0,
      h.1,
      h.2,
    )

-- an object, by its place, is assigned by one of some blocks, the first of them with number n
pub record IsUserOf (objects : List (FileId × ℕ × ℕ)) (n : ℕ) (bs : List Block) (i : ℕ) (u : FileId × ℕ × Bool) : Type 0 where
  pub covers : Covers bs i
  pub number : u.1 ≡ n + covers.number
  pub file : u.0 ≡ (object_at objects i).0
  pub owns : u.2 ≡ (i == covers.block.owner)
