-- The graph that workers walk in a link: its units by number, group by group.
use Rattle.std.specs.Prelude.{ℕ, List, [], Option, Some, None, length, map, slice_get, slice_index}
use Rattle.std.specs.List.{flat_map}
use Rattle.std.specs.Option.{option_map_or}
use Rattle.lk_link.specs.declared.file.InputFile.{InputFile}
use Rattle.lk_link.specs.declared.flags.TheConstants.ValueFlags as flag
use Rattle.lk_link.specs.declared.link.LinkInput.{LinkInput}
use Rattle.lk_link.specs.Flags.{has_resolution}
use Rattle.lk_link.specs.Inputs.{NumberedFile, group_files}
use Rattle.lk_reach.specs.declared.units.Ask.{Ask}
use Rattle.lk_reach.specs.declared.units.Ask.TheVariants as ask
use Rattle.lk_reach.specs.declared.units.Unit.{Unit as LinkUnit}
use Rattle.lk_reach.specs.declared.units.Unit.TheVariants.{Sec, Sym}
use Rattle.lk_reach.specs.Marks.{asking, handed_in, unit_at, unit_number, word_of}
use Rattle.lk_reach.specs.Units.{file_roots, numbered_symbols}
use Rattle.lk_slots.specs.Machine.{Graph, Load, Mark, Refer, Request, Task}

-- what an ask gives to do
abbrev pub task_of : LinkInput → Ask → Task
task_of link (ask.Reference s flags) = Refer s flags.0
task_of link (ask.Section id i) = Request (Load (unit_number link.groups (Sec id i)))
task_of link (ask.Mark s flags) = Mark s flags.0

-- the files of a group
abbrev pub files_of_group : List (List InputFile) → ℕ → List NumberedFile
files_of_group groups g = option_map_or (group_files g 0) (slice_get groups g) []

-- what the files of a group ask for by themselves, file by file
abbrev pub group_roots : LinkInput → ℕ → List Ask
group_roots link g = flat_map (file_roots link) (files_of_group link.groups g)

-- the group of a unit, if there is one: the group of its file
abbrev pub unit_group : List (List InputFile) → Option LinkUnit → ℕ
unit_group groups None = 0
unit_group groups (Some (Sym s)) = option_map_or (λ q. q.0.id.group) (slice_get (numbered_symbols groups) s) 0
unit_group groups (Some (Sec id i)) = id.group

-- the graph of a link
abbrev pub graph_of : LinkInput → Graph
graph_of link = record {
  groups = length link.groups;
  group_of = λ u. unit_group link.groups (unit_at link.groups u);
  roots = λ g. map (task_of link) (group_roots link g);
  follows = λ n. map (task_of link) ((asking link).follows n);
  handed_in = λ s. slice_index (handed_in link) (word_of s);
  resolves = has_resolution;
  export_flags = flag.EXPORT_DYNAMIC.0;
}
