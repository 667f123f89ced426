-- What holds of blocks and of the objects that are assigned to them.
use Rattle.std.specs.Prelude.{◌≡◌, ℕ, ◌+◌, ◌<◌, ◌≤◌, ◌==◌, Bool, true, List, Some, length, slice_get}
use Rattle.lk_link.specs.declared.ids.FileId.{FileId}
use Rattle.lk_thunks.specs.declared.blocks.Block.{Block}
use Rattle.lk_thunks.specs.Blocks.{assigned, object_at, thunk_blocks}
use Rattle.lk_thunks.specs.Reach.{is_near}

-- a block has its owner inside, and its objects are there
pub record IsStretch (objects : List (FileId × ℕ × ℕ)) (b : Block) : Type 0 where
  pub opens : b.first ≤ b.owner
  pub closes : b.owner < b.behind
  pub there : b.behind ≤ length objects

-- an object, by its place, is in block k
pub record IsIn (range : ℕ) (objects : List (FileId × ℕ × ℕ)) (i k : ℕ) : Type 0 where
  pub block : Block
  pub at : slice_get (thunk_blocks range objects) k ≡ Some block
  pub opened : block.first ≤ i
  pub inside : i < block.behind

-- blocks are stretches, each next one begins where the one before ends, and each object is in one
pub record BlocksAreStretches : Type 0 where
  pub each : (range : ℕ) (objects : List (FileId × ℕ × ℕ)) (k : ℕ) (b : Block) → slice_get (thunk_blocks range objects) k ≡ Some b
      → IsStretch objects b
  pub follow : (range : ℕ) (objects : List (FileId × ℕ × ℕ)) (k : ℕ) (b c : Block) → slice_get (thunk_blocks range objects) k ≡ Some b
      → slice_get (thunk_blocks range objects) (k + 1) ≡ Some c → c.first ≡ b.behind
  pub cover : (range : ℕ) (objects : List (FileId × ℕ × ℕ)) (i : ℕ) → i < length objects → (k : ℕ) × IsIn range objects i k

-- an object is assigned as the block that it is in says: with its file, the block's number, and whether it is the owner
pub record IsAssigned (range : ℕ) (objects : List (FileId × ℕ × ℕ)) (i : ℕ) (u : FileId × ℕ × Bool) : Type 0 where
  pub file : u.0 ≡ (object_at objects i).0
  pub place : IsIn range objects i u.1
  pub owns : u.2 ≡ (i == place.block.owner)

-- each object is assigned, in order
pub record ObjectsAreAssigned : Type 0 where
  pub count : (range : ℕ) (objects : List (FileId × ℕ × ℕ)) → length (assigned range objects) ≡ length objects
  pub each : (range : ℕ) (objects : List (FileId × ℕ × ℕ)) (i : ℕ) (u : FileId × ℕ × Bool)
      → slice_get (assigned range objects) i ≡ Some u → IsAssigned range objects i u

-- numbers of blocks never fall along the list
abbrev pub NumbersNeverFall : Type 0
NumbersNeverFall = (range : ℕ) (objects : List (FileId × ℕ × ℕ)) (i j : ℕ) (u v : FileId × ℕ × Bool) → i ≤ j
    → slice_get (assigned range objects) i ≡ Some u → slice_get (assigned range objects) j ≡ Some v → u.1 ≤ v.1

-- an object owns block k, and no other does
pub record IsOnlyOwner (range : ℕ) (objects : List (FileId × ℕ × ℕ)) (k : ℕ) : Type 0 where
  pub place : ℕ
  pub file : FileId
  pub there : slice_get (assigned range objects) place ≡ Some (file, k, true)
  pub only : (i : ℕ) (g : FileId) → slice_get (assigned range objects) i ≡ Some (g, k, true) → i ≡ place

-- each block has exactly one owner
abbrev pub BlocksHaveOneOwner : Type 0
BlocksHaveOneOwner =
    (range : ℕ) (objects : List (FileId × ℕ × ℕ)) (k : ℕ) → k < length (thunk_blocks range objects) → IsOnlyOwner range objects k

-- objects stand end to end, and each is shorter than the range
pub record AreEndToEnd (range : ℕ) (objects : List (FileId × ℕ × ℕ)) : Type 0 where
  pub follow : (k : ℕ) → k + 1 < length objects → (object_at objects (k + 1)).1 ≡ (object_at objects k).2
  pub rise : (k : ℕ) → k < length objects → (object_at objects k).1 ≤ (object_at objects k).2
  pub short : (k : ℕ) → k < length objects → (object_at objects k).2 < (object_at objects k).1 + range

-- the window law: each byte of an object is nearer to its block's owner's end than the range
abbrev pub ObjectsAreNearOwners : Type 0
ObjectsAreNearOwners = (range : ℕ) (objects : List (FileId × ℕ × ℕ)) (i k byte : ℕ) → AreEndToEnd range objects → (h : IsIn range objects i k)
    → (object_at objects i).1 ≤ byte → byte < (object_at objects i).2 → is_near range byte (object_at objects h.block.owner).2 ≡ true
