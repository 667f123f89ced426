-- How objects are split into blocks. Each block has an owner, behind whose bytes its thunks stand. An object is given by its
-- file, where its bytes begin and where they end.
use Rattle.std.specs.Prelude.{ℕ, zero, suc, ◌+◌, ◌-◌, ◌==◌, Bool, if◌then◌else◌, List, [], ◌∷◌, ◌++◌, drop, length, map, nat_lt, take}
use Rattle.std.specs.List.{enumerate_from, prefix_len, slice_index_or}
use Rattle.lk_link.specs.declared.ids.FileId.{FileId}
use Rattle.lk_thunks.specs.declared.blocks.Block.{Block}

-- an object at a place of the list; one without bytes past the end
abbrev pub object_at : List (FileId × ℕ × ℕ) → ℕ → FileId × ℕ × ℕ
object_at objects k = slice_index_or objects k (record { group = 0; file = 0 }, 0, 0)

-- whether an object ends nearer than the range behind an address
abbrev pub ends_in : ℕ → ℕ → FileId × ℕ × ℕ → Bool
ends_in range address o = nat_lt (o.2 - address) range

-- the place of the first object, from place j on, that doesn't end in range of an address; the number of objects where all do
unfoldable pub past : ℕ → List (FileId × ℕ × ℕ) → ℕ → ℕ → ℕ
past range objects address j = j + prefix_len (ends_in range address) (drop j objects)

-- which object owns a block that another owner's block doesn't reach: the last of its first object f and the longest run behind it
-- that ends in range of where f begins
unfoldable pub pending_owner : ℕ → List (FileId × ℕ × ℕ) → ℕ → ℕ
pending_owner range objects f = past range objects (object_at objects f).1 (f + 1) - 1

-- the first object of all owns the first block
abbrev pub owner_from : ℕ → List (FileId × ℕ × ℕ) → ℕ → ℕ
owner_from range objects f = if f == 0 then 0 else pending_owner range objects f

-- the block that object f opens: it goes on behind its owner as long as objects end in range of the owner's end
unfoldable pub block_from : ℕ → List (FileId × ℕ × ℕ) → ℕ → Block
block_from range objects f = record {
  first = f;
  owner = owner_from range objects f;
  behind = past range objects (object_at objects (owner_from range objects f)).2 (owner_from range objects f + 1);
}

-- the blocks from object f on, each opened by the object behind the one before; there are at most so many
unfoldable pub blocks_from : ℕ → List (FileId × ℕ × ℕ) → ℕ → ℕ → List Block
blocks_from range objects f zero = []
blocks_from range objects f (suc n) =
    if nat_lt f (length objects) then block_from range objects f ∷ blocks_from range objects (block_from range objects f).behind n else []

-- all blocks: no more than there are objects
abbrev pub thunk_blocks : ℕ → List (FileId × ℕ × ℕ) → List Block
thunk_blocks range objects = blocks_from range objects 0 (length objects)

-- the objects of a block
abbrev pub objects_of : List (FileId × ℕ × ℕ) → Block → List (FileId × ℕ × ℕ)
objects_of objects b = take (b.behind - b.first) (drop b.first objects)

-- an object of a block, by its place there, with the block's number, and whether it is the owner
abbrev pub user_of : ℕ → Block → ℕ × (FileId × ℕ × ℕ) → FileId × ℕ × Bool
user_of k b q = (q.1.0, k, q.0 == b.owner - b.first)

-- all objects of block k
abbrev pub users_of : List (FileId × ℕ × ℕ) → ℕ → Block → List (FileId × ℕ × Bool)
users_of objects k b = map (user_of k b) (enumerate_from 0 (objects_of objects b))

-- the objects of blocks, numbered from k on
unfoldable pub assigned_from : List (FileId × ℕ × ℕ) → ℕ → List Block → List (FileId × ℕ × Bool)
assigned_from objects k [] = []
assigned_from objects k (b ∷ bs) = users_of objects k b ++ assigned_from objects (k + 1) bs

-- each object with the number of its block, and whether it is the block's owner
abbrev pub assigned : ℕ → List (FileId × ℕ × ℕ) → List (FileId × ℕ × Bool)
assigned range objects = assigned_from objects 0 (thunk_blocks range objects)
