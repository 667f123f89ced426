-- Which objects need thunks, and of which blocks.
use Rattle.std.specs.Prelude.{◌≡◌, ◌==◌, ◌&&◌, ◌||◌, ℕ, Bool, true, false, List, AllPairs, Option, find, nat_lt}
use Rattle.std.specs.Option.{option_map_or}
use Rattle.lk_link.specs.declared.ids.FileId.{FileId}

-- whether a file stands before another: in an earlier group, or earlier in the same
abbrev pub is_before : FileId → FileId → Bool
is_before file other = nat_lt file.group other.group || file.group == other.group && nat_lt file.file other.file

-- whether these are one file
abbrev pub is_same : FileId → FileId → Bool
is_same file other = file.group == other.group && file.file == other.file

-- objects with their blocks stand in the order of files, each once; the invariant of the type that keeps them
abbrev pub AreInOrder : List (FileId × ℕ × Bool) → Type 0
AreInOrder users = AllPairs (λ u v. is_before u.0 v.0 ≡ true) users

-- the object that is this file, with its block, and whether it owns that; none where the file needs no thunks
abbrev pub user_for : List (FileId × ℕ × Bool) → FileId → Option (FileId × ℕ × Bool)
user_for users id = find (λ u. is_same u.0 id) users

-- the block of a file; the first one, where it needs no thunks
abbrev pub block_for : List (FileId × ℕ × Bool) → FileId → ℕ
block_for users id = option_map_or (λ u. u.1) (user_for users id) 0

-- whether it owns that
abbrev pub owns_block : List (FileId × ℕ × Bool) → FileId → Bool
owns_block users id = option_map_or (λ u. u.2) (user_for users id) false
