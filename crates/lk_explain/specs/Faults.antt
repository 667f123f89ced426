-- The first fault of a list of units as a path.
use Rattle.std.specs.Prelude.{ℕ, ◌+◌, ◌==◌, ◌&&◌, not, Bool, false, if◌then◌else◌, List, [], ◌∷◌, Option, Some, None, Result, Ok, Err, is_some, slice_get}
use Rattle.std.specs.List.{list_any}
use Rattle.std.specs.Option.{option_map_or, option_or}
use Rattle.lk_link.specs.declared.link.LinkInput.{LinkInput}
use Rattle.lk_link.specs.Files.{file_in}
use Rattle.lk_link.specs.Symbols.{is_canonical, symbol_at}
use Rattle.lk_reach.specs.declared.units.Ask.{Ask}
use Rattle.lk_reach.specs.declared.units.Ask.TheVariants.{Reference, Section, Mark}
use Rattle.lk_reach.specs.declared.units.Unit.{Unit as LinkUnit}
use Rattle.lk_reach.specs.declared.units.Unit.TheVariants.{Sym, Sec}
use Rattle.lk_reach.specs.Units.{follows, roots}
use Rattle.lk_explain.specs.declared.check.PathFault.{PathFault}
use Rattle.lk_explain.specs.declared.check.PathFault.TheVariants.{Empty, NoSuchUnit, NotRoot, NoAsk}

-- whether a link has a unit: a symbol that is there and stands for itself, or a section that is there
abbrev pub has_unit : LinkInput → LinkUnit → Bool
has_unit link (Sym s) = option_map_or (is_canonical s) (symbol_at link.groups s) false
has_unit link (Sec id i) = option_map_or (λ f. is_some (slice_get f.sections i)) (file_in link.groups id) false

-- whether an ask reaches a unit
abbrev pub is_for : LinkUnit → Ask → Bool
is_for (Sym s) (Reference t flags) = t == s
is_for (Sym s) (Section file index) = false
is_for (Sym s) (Mark t flags) = false
is_for (Sec id i) (Reference t flags) = false
is_for (Sec id i) (Section file index) = file.group == id.group && file.file == id.file && index == i
is_for (Sec id i) (Mark t flags) = false

-- the fault of a unit at a place of a list, if it has one: there is none such, or none of these asks is for it
abbrev pub unit_fault : LinkInput → List Ask → PathFault → ℕ → LinkUnit → Option PathFault
unit_fault link asks unasked at unit =
    if not (has_unit link unit) then Some (NoSuchUnit at)
    else if list_any (is_for unit) asks then None else Some unasked

-- the first fault of units behind one that comes before them, the first of them at this place
unfoldable pub chain_fault : LinkInput → LinkUnit → ℕ → List LinkUnit → Option PathFault
chain_fault link before at [] = None
chain_fault link before at (unit ∷ rest) = option_or (unit_fault link (follows link before) (NoAsk at) at unit) (chain_fault link unit (at + 1) rest)

-- the first fault behind the first unit
abbrev pub break_fault : LinkInput → List LinkUnit → Option PathFault
break_fault link [] = None
break_fault link (first ∷ rest) = chain_fault link first 1 rest

-- the first fault of a list of units, if it has one
abbrev pub path_fault : LinkInput → List LinkUnit → Option PathFault
path_fault link [] = Some Empty
path_fault link (first ∷ rest) = option_or (unit_fault link (roots link) NotRoot 0 first) (break_fault link (first ∷ rest))

-- what a check answered
abbrev pub fault_of : Result (Unit {0}) PathFault → Option PathFault
fault_of (Ok u) = None
fault_of (Err f) = Some f
