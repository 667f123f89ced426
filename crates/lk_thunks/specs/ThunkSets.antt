-- Which definitions each block has thunks for.
use Rattle.std.specs.Prelude.{ℕ, ◌-◌, ◌==◌, ◌&&◌, ◌||◌, not, Bool, false, if◌then◌else◌, List, [], ◌∷◌, ◌++◌, Option, None, filter, length, map, max, min, nat_lt, option_and_then, slice_get, unwrap_or}
use Rattle.std.specs.List.{enumerate_from, list_any, range_with_len}
use Rattle.std.specs.Option.{option_map_or}
use Rattle.lk_link.specs.declared.flags.TheConstants.ValueFlags as flag
use Rattle.lk_link.specs.declared.ids.FileId.{FileId}
use Rattle.lk_link.specs.declared.link.LinkInput.{LinkInput}
use Rattle.lk_link.specs.declared.symbol.InputSymbol.{InputSymbol}
use Rattle.lk_link.specs.Files.{file_in}
use Rattle.lk_link.specs.Flags.{has_flag}
use Rattle.lk_link.specs.Inputs.{NumberedFile}
use Rattle.lk_link.specs.NumberedSymbols.{known_symbol}
use Rattle.lk_link.specs.Symbols.{all_symbols, file_number, first_symbol}
use Rattle.lk_live.specs.declared.live.Live.{Live}
use Rattle.lk_live.specs.PrimaryMarks.{is_primary_symbol, names_primary, primary_symbols}
use Rattle.lk_live.specs.Reach.{live_inputs}
use Rattle.lk_thunks.specs.declared.blocks.Block.{Block}
use Rattle.lk_thunks.specs.Blocks.{objects_of, thunk_blocks}
use Rattle.lk_thunks.specs.Ranges.{file_ranges, planned_objects}

-- what thunks are planned by: a link, what is live of it, how far a branch is taken to reach, and where the primary bytes of
-- each file begin and end, by the file's number
pub record Planning : Type 0 where
  pub link : LinkInput
  pub live : Live
  pub range : ℕ
  pub ranges : List (FileId × ℕ × ℕ)

-- that of a link whose first file stands at an address
abbrev pub planning : LinkInput → Live → ℕ → ℕ → Planning
planning link live range start = record { link = link; live = live; range = range; ranges = file_ranges link live start }

-- ---- what a branch reaches by itself

-- the flags of the symbol with this number
abbrev pub flags_at : Live → ℕ → ℕ
flags_at live s = option_map_or (λ f. f.0) (slice_get live.flags s) 0

-- whether it is known only when the program runs where branches to it go
abbrev pub is_indirect : Live → ℕ → Bool
is_indirect live s = has_flag flag.IFUNC.0 (flags_at live s) || has_flag flag.DYNAMIC.0 (flags_at live s)

-- where a file stands, if there is such a file
abbrev pub range_of : Planning → FileId → Option (FileId × ℕ × ℕ)
range_of by id = option_and_then (λ _. slice_get by.ranges (file_number by.link.groups id)) (file_in by.link.groups id)

-- where the file of a numbered symbol stands, if the symbol is in the primary part and isn't indirect
abbrev pub home_in : Planning → ℕ × NumberedFile × InputSymbol → Option (FileId × ℕ × ℕ)
home_in by q =
    if is_primary_symbol by.link q.1.file q.2 && not (is_indirect by.live q.0) then range_of by q.1.id else None

-- the same for the symbol with a number
abbrev pub home_of : Planning → ℕ → Option (FileId × ℕ × ℕ)
home_of by d = option_and_then (home_in by) (known_symbol by.link.groups d)

-- where what goes to a definition may end up, by where the definition's file stands: from 0 on, if the definition has an entry
-- in plt
abbrev pub home_begin : Planning → ℕ → FileId × ℕ × ℕ → ℕ
home_begin by d home = if has_flag flag.PLT.0 (flags_at by.live d) then 0 else home.1

-- whether all branches of an object reach a definition by themselves: the span of the object and the definition's file is below
-- the range; where the definition stands elsewhere, the object ends below the range
abbrev pub is_in_window : Planning → FileId × ℕ × ℕ → ℕ → Bool
is_in_window by o d =
    option_map_or (λ home. nat_lt (max o.2 home.2 - min o.1 (home_begin by d home)) by.range) (home_of by d) (nat_lt o.2 by.range)

-- ---- sets

-- what stands for a symbol with its number: its definition, else itself
abbrev pub stands_for : ℕ × InputSymbol → ℕ
stands_for q = unwrap_or q.1.def q.0

-- whether an object needs a thunk for what stands for a symbol of its file: a branch of limited range goes to the symbol, and
-- may not reach
abbrev pub needs : Planning → FileId × ℕ × ℕ → ℕ × InputSymbol → Bool
needs by o q = has_flag flag.HAS_RANGE_LIMITED_REL.0 (flags_at by.live q.0) && not (is_in_window by o (stands_for q))

-- whether it needs one for this definition, which stands for the symbol
abbrev pub is_needed_for : Planning → FileId × ℕ × ℕ → ℕ → ℕ × InputSymbol → Bool
is_needed_for by o d q = needs by o q && (stands_for q == d)

-- whether it needs one for this definition, which stands for some symbol of its file
abbrev pub needs_thunk : Planning → ℕ → FileId × ℕ × ℕ → Bool
needs_thunk by d o =
    option_map_or (λ f. list_any (is_needed_for by o d) (enumerate_from (first_symbol by.link.groups o.0) f.symbols))
    (file_in by.link.groups o.0) false

-- whether a definition is in the primary part, and a live section of another part names it where a thunk may stand in
abbrev pub is_named_elsewhere : LinkInput → Live → ℕ → Bool
is_named_elsewhere link live d = list_any (names_primary link (primary_symbols link) d) (live_inputs link live)

-- whether block k, of these objects, has a thunk for a definition: one of them needs it, or it is the first block, which serves
-- other parts
abbrev pub has_thunk : Planning → ℕ → List (FileId × ℕ × ℕ) → ℕ → Bool
has_thunk by k objects d = list_any (needs_thunk by d) objects || ((k == 0) && is_named_elsewhere by.link by.live d)

-- the definitions for which it has thunks, by number
abbrev pub thunk_set : Planning → ℕ → List (FileId × ℕ × ℕ) → List ℕ
thunk_set by k objects = filter (has_thunk by k objects) (range_with_len 0 (length (all_symbols by.link.groups)))

-- the sets of blocks; where there is no block, the first one has a set all the same
abbrev pub sets_of : Planning → List (FileId × ℕ × ℕ) → List Block → List (List ℕ)
sets_of by objects blocks =
    map (λ q. thunk_set by q.0 (objects_of objects q.1)) (enumerate_from 0 blocks)
    ++ (if length blocks == 0 then thunk_set by 0 [] ∷ [] else [])

-- those of a link
abbrev pub thunk_sets : LinkInput → Live → ℕ → ℕ → List (List ℕ)
thunk_sets link live range start =
    sets_of (planning link live range start) (planned_objects link live start) (thunk_blocks range (planned_objects link live start))
