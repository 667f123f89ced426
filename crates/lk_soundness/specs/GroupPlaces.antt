-- Where groups begin in the tables of symbols, by whose entries stand there.
use Rattle.std.specs.Prelude.{◌≡◌, ◌≤◌, ◌==◌, ◌++◌, ℕ, true, List, [], ◌∷◌, Option, Some, if◌then◌else◌, length, map, slice_index, take}
use Rattle.std.specs.List.{flat_map}
use Rattle.lk_link.specs.declared.link.LinkInput.{LinkInput}
use Rattle.lk_link.specs.Inputs.{NumberedFile, numbered_files}
use Rattle.lk_link.specs.OutputKinds.{is_loaded_dynamically}
use Rattle.lk_sizes.specs.Emitted.{told_marks}
use Rattle.lk_sizes.specs.Owners.{EntryOwner}
use Rattle.lk_sizes.specs.PartOwners.{owners_of}
use Rattle.lk_tables.specs.SymbolTable.{TableEntry, entry_bytes, first_entry, global_entries, local_entries, name_entries}
use Rattle.lk_tables.specs.TableLists.{file_dynamic_entries, file_dynamic_names}
use Rattle.lk_group_starts.specs.GroupStarts.{entries_in, files_before}
use Rattle.lk_layout.specs.LayoutRecord.{LayoutRecord}
use Rattle.lk_layout.specs.Made.{Made, made_content, made_filling}

-- the entries of the files that stand before a group, by what each file brings
abbrev pub entries_before : (NumberedFile → List TableEntry) → LinkInput → ℕ → List TableEntry
entries_before entries link g = flat_map entries (take (files_before link.groups g) (numbered_files link.groups))

-- the owners of a part are these entries, and others behind them, and what is told of a start is how far these reach
pub record StartsBehind (made : Made) (p start : ℕ) (reach : List TableEntry → ℕ) (before : List TableEntry) : Type 0 where
  pub behind : List TableEntry
  pub divided : owners_of (made_filling made) p ≡ map EntryOwner (before ++ behind)
  pub begins : start ≡ reach before

-- in a part, if there is one, each group begins behind the entries that stand before it there
abbrev pub EachBegins : Made → Option ℕ → List ℕ → (List TableEntry → ℕ) → (ℕ → List TableEntry) → Type 0
EachBegins made part starts reach before = (g p : ℕ) → g ≤ length made.link.groups → part ≡ Some p → StartsBehind made p (slice_index starts g) reach (before g)

-- how many entries of local symbols and of the others reach so far, by their bytes
abbrev pub entries_reach : Made → List TableEntry → ℕ
entries_reach made entries = entries_in made.machine.sizes.symbol_entry (entry_bytes entries)

-- in the parts that the plan names for the tables of symbols, each group begins behind the entries of the files before it, and in that for the names
-- of dynamic symbols behind the table's own first entry too, where a file stands before; and in that for dynamic symbols the exports begin behind
-- those of all files
pub record GroupsBegin (made : Made) (layout : LayoutRecord) : Type 0 where
  pub names : EachBegins made made.link.plan.named.strtab layout.group_starts.strtab entry_bytes
      (entries_before (name_entries made.link made.live (told_marks (made_content made))) made.link)
  pub dynamic_names : is_loaded_dynamically made.link.options.output ≡ true → EachBegins made made.link.plan.named.dynstr layout.group_starts.dynstr entry_bytes
      (λ g. if files_before made.link.groups g == 0 then [] else first_entry 1 ∷ entries_before (file_dynamic_names made.link made.live (told_marks (made_content made))) made.link g)
  pub locals : EachBegins made made.link.plan.named.symtab_local layout.group_starts.symtab_local (entries_reach made)
      (entries_before (local_entries made.machine.sizes.symbol_entry made.link made.live (told_marks (made_content made))) made.link)
  pub globals : EachBegins made made.link.plan.named.symtab_global layout.group_starts.symtab_global (entries_reach made)
      (entries_before (global_entries made.machine.sizes.symbol_entry made.link made.live (told_marks (made_content made))) made.link)
  pub exports : (p : ℕ) → is_loaded_dynamically made.link.options.output ≡ true → made.link.plan.named.dynsym ≡ Some p
      → StartsBehind made p layout.dynsym_start_index length (first_entry made.machine.sizes.symbol_entry
      ∷ flat_map (file_dynamic_entries made.machine.sizes.symbol_entry made.link made.live (told_marks (made_content made))) (numbered_files made.link.groups))
