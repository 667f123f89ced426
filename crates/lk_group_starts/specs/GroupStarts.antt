-- Where the groups of a link begin in the tables of symbols.
use Rattle.std.specs.Prelude.{ℕ, ◌+◌, ◌-◌, ◌/◌, ◌==◌, ◌^◌, Bool, if◌then◌else◌, List, [], Option, None, length, map, min, sum_by, take}
use Rattle.std.specs.List.{range_with_len}
use Rattle.std.specs.Option.{option_map_or}
use Rattle.lk_link.specs.declared.file.InputFile.{InputFile}
use Rattle.lk_link.specs.declared.link.LinkInput.{LinkInput}
use Rattle.lk_link.specs.OutputKinds.{is_loaded_dynamically}
use Rattle.lk_link.specs.TableSizes.{TableSizes}
use Rattle.lk_live.specs.declared.live.Live.{Live}
use Rattle.lk_tables.specs.declared.shares.FileShare.{FileShare}
use Rattle.lk_tables.specs.ShareWords.{first_shares, prelude_share}
use Rattle.lk_group_starts.specs.declared.group_starts.GroupStarts.{GroupStarts}
use Rattle.lk_group_starts.specs.declared.group_starts.Table.{Table}
use Rattle.lk_group_starts.specs.declared.group_starts.Table.TheVariants as table

-- a number of bytes; one past 2^64 - 1 is told as that
abbrev pub capped : ℕ → ℕ
capped n = min n (2 ^ 64 - 1)

-- what a file takes in a table, in bytes
abbrev pub taken_in : Table → FileShare → ℕ
taken_in table.Names s = s.symtab.names
taken_in table.DynamicNames s = s.dynamic.names
taken_in table.Locals s = s.symtab.local
taken_in table.Globals s = s.symtab.global

-- the part that the plan names for it; for names of dynamic symbols there is one only where a dynamic linker loads the output
abbrev pub part_for : LinkInput → Table → Option ℕ
part_for link table.Names = link.plan.named.strtab
part_for link table.DynamicNames = if is_loaded_dynamically link.options.output then link.plan.named.dynstr else None
part_for link table.Locals = link.plan.named.symtab_local
part_for link table.Globals = link.plan.named.symtab_global

-- what the table begins with that no symbol brings, and that isn't among what the prelude takes: the empty name before those of dynamic symbols
abbrev pub first_bytes : Table → ℕ
first_bytes table.DynamicNames = 1
first_bytes _ = 0

-- how many files stand before a group
abbrev pub files_before : List (List InputFile) → ℕ → ℕ
files_before groups g = sum_by length (take g groups)

-- what the first n files take in a table, where each takes so much, and the first of all, which is the prelude, so much more
abbrev pub taken_before : ℕ → List ℕ → ℕ → ℕ
taken_before own bytes n = if n == 0 then 0 else capped (own + sum_by (λ b. b) (take n bytes))

-- where each group begins in it, and behind all of them the epilogue's
abbrev pub starts_in : List (List InputFile) → ℕ → List ℕ → List ℕ
starts_in groups own bytes = map (λ g. taken_before own bytes (files_before groups g)) (range_with_len 0 (length groups + 1))

-- the same in bytes by what files take first, and what the prelude takes when it is known which sections are told; 0 without a part
abbrev pub byte_starts : LinkInput → List FileShare → FileShare → Table → List ℕ
byte_starts link shares late t = starts_in link.groups
    (option_map_or (λ p. capped (taken_in t late + first_bytes t)) (part_for link t) 0)
    (option_map_or (λ p. map (λ s. capped (taken_in t s)) shares) (part_for link t) [])

-- how many entries of this size fill these bytes
abbrev pub entries_in : ℕ → ℕ → ℕ
entries_in entry bytes = if entry == 0 then 0 else bytes / entry

-- where each group begins in the names of symbols and of dynamic symbols, in bytes, and among local symbols and the others, in entries
abbrev pub starts_by : ℕ → LinkInput → List FileShare → FileShare → GroupStarts
starts_by entry link shares late = record {
  strtab = byte_starts link shares late table.Names;
  dynstr = byte_starts link shares late table.DynamicNames;
  symtab_local = map (entries_in entry) (byte_starts link shares late table.Locals);
  symtab_global = map (entries_in entry) (byte_starts link shares late table.Globals);
}

-- by what is live, and the sections whose edges are told
abbrev pub group_starts : TableSizes → LinkInput → Live → List Bool → GroupStarts
group_starts sizes link live told = starts_by sizes.symbol_entry link (first_shares sizes link live) (prelude_share sizes link live told)
