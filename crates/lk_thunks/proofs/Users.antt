-- Blocks and their users, one by one.
use Rattle.std.proofs.Common.{◌≡◌, ℕ, zero, suc, ◌+◌, ◌-◌, ◌<◌, ◌≤◌, Bool, true, List, [], ◌∷◌, ◌++◌, arith, drop, get_or, length, nat_lt, append_assoc, refl, sym, ap, add-one, ◌∙◌}
use Rattle.std.proofs.lemmas.List.{append-nil, length-append}
use Rattle.std.proofs.Math.Seq.{drop-cons}
use Rattle.std.proofs.lemmas.Bool.{le-ltb, lt-ltb}
use Rattle.lk_link.specs.declared.ids.FileId.{FileId}
use Rattle.lk_thunks.specs.declared.blocks.Block.{Block}
use Rattle.lk_thunks.specs.Blocks.{assigned_from, block_from, blocks_from, users_of}

-- the users of the next block, and of the others
pub assigned_next : (objects : List (FileId × ℕ × ℕ)) (bs : List Block) (k : ℕ) (d : Block) → k < length bs
    → assigned_from objects k (drop k bs) ≡ users_of objects k (get_or bs k d) ++ assigned_from objects (k + 1) (drop (k + 1) bs)
unfolding assigned_from
assigned_next objects bs k d h =
    rw (drop-cons bs k d) (ap (λ n. users_of objects k (get_or bs k d) ++ assigned_from objects (k + 1) (drop n bs)) (sym (add-one k)))

-- the block that is next, and those behind it
pub blocks_next : (range : ℕ) (objects : List (FileId × ℕ × ℕ)) (f n : ℕ) → f < length objects → n < length objects
    → blocks_from range objects f (length objects - n)
    ≡ block_from range objects f ∷ blocks_from range objects (block_from range objects f).behind (length objects - (n + 1))
unfolding blocks_from
blocks_next range objects f n h g = by (length objects - n) (length objects - (n + 1)) (nat_lt f (length objects)) (omega arith) refl (lt-ltb f (length objects) h)
  where
    by : (k j : ℕ) (b : Bool) → k ≡ suc j → nat_lt f (length objects) ≡ b → b ≡ true
        → blocks_from range objects f k ≡ block_from range objects f ∷ blocks_from range objects (block_from range objects f).behind j
    by k j b e t u = rw (e, t, u) refl

-- behind the last object there are no more
pub blocks_done : (range : ℕ) (objects : List (FileId × ℕ × ℕ)) (f n : ℕ) → length objects ≤ f → blocks_from range objects f n ≡ []
unfolding blocks_from
blocks_done range objects f zero h = refl
blocks_done range objects f (suc n) h = rw (le-ltb f (length objects) h) refl

-- one block more
pub blocks_turn : (range : ℕ) (objects : List (FileId × ℕ × ℕ)) (f : ℕ) (done next whole : List Block) (b : Block) → f < length objects
    → length done ≤ f → b ≡ block_from range objects f → next ≡ done ++ b ∷ []
    → done ++ blocks_from range objects f (length objects - length done) ≡ whole
    → next ++ blocks_from range objects b.behind (length objects - length next) ≡ whole
blocks_turn range objects f done next whole b h few is made so_far =
    let more : length next ≡ length done + 1 = ap length made ∙ length-append done (b ∷ []) in
    ap (λ xs. xs ++ blocks_from range objects b.behind (length objects - length next)) made
    ∙ ap (λ n. (done ++ b ∷ []) ++ blocks_from range objects b.behind (length objects - n)) more
    ∙ append_assoc done (b ∷ []) (blocks_from range objects b.behind (length objects - (length done + 1)))
    ∙ ap (λ c. done ++ c ∷ blocks_from range objects c.behind (length objects - (length done + 1))) is
    ∙ ap (λ xs. done ++ xs) (sym (blocks_next range objects f (length done) h (omega arith))) ∙ so_far

-- all blocks
pub blocks_end : (range : ℕ) (objects : List (FileId × ℕ × ℕ)) (f : ℕ) (done whole : List Block) → length objects ≤ f
    → done ++ blocks_from range objects f (length objects - length done) ≡ whole → done ≡ whole
blocks_end range objects f done whole h so_far =
    sym (append-nil done) ∙ ap (λ xs. done ++ xs) (sym (blocks_done range objects f (length objects - length done) h)) ∙ so_far
