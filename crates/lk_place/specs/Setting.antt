-- What a placement depends on: the plan, the kind of output, the machine, the bytes of the plan's parts, and what expressions speak of.
use Rattle.std.specs.Prelude.{◌≡◌, ℕ, ◌+◌, ◌&&◌, not, Bool, true, List, Option, length, nat_lt, slice_index, slice_range}
use Rattle.std.specs.List.{list_all}
use Rattle.lk_link.specs.declared.file.InputFile.{InputFile}
use Rattle.lk_link.specs.declared.link.LinkInput.{LinkInput}
use Rattle.lk_link.specs.declared.options.OutputKind.{OutputKind}
use Rattle.lk_link.specs.declared.plan.Plan.{Plan}
use Rattle.lk_link.specs.declared.plan.PlanSection.{PlanSection}
use Rattle.lk_link.specs.Parts.{all_parts, first_part}
use Rattle.lk_link.specs.OutputKinds.{is_partial}
use Rattle.lk_link.specs.PlanSections.{is_allocated, section_at}
use Rattle.lk_link.specs.Rules.{is_good_section}
use Rattle.lk_link.specs.Target.{Target}
use Rattle.lk_link.specs.WellFormed.{IsEventOrder}
use Rattle.lk_expressions.specs.declared.positions.SymbolPosition.{SymbolPosition}

-- what is placed, for which output and machine; the bytes of each part, by its number over all sections; and the files whose symbols
-- expressions name, the bytes of the headers, and the place of each symbol that stands in a part
pub record Setting : Type 0 where
  pub plan : Plan
  pub output : OutputKind
  pub target : Target
  pub sizes : List ℕ
  pub groups : List (List InputFile)
  pub headers : ℕ
  pub positions : List (Option SymbolPosition)

-- the setting of a link, a machine, the parts' bytes, the headers' bytes, and the places of symbols
abbrev pub setting_of : LinkInput → Target → List ℕ → ℕ → List (Option SymbolPosition) → Setting
setting_of link target sizes headers positions = record {
  plan = link.plan;
  output = link.options.output;
  target = target;
  sizes = sizes;
  groups = link.groups;
  headers = headers;
  positions = positions;
}

-- the bytes of the part with this number
abbrev pub size_at : List ℕ → ℕ → ℕ
size_at sizes p = slice_index sizes p

-- whether the part with this number has bytes
abbrev pub has_bytes : List ℕ → ℕ → Bool
has_bytes sizes p = nat_lt 0 (size_at sizes p)

-- how many parts a section has
abbrev pub part_count : List PlanSection → ℕ → ℕ
part_count sections s = length (section_at sections s).parts

-- the number, over all sections, of the part with this place in its section
abbrev pub part_number : List PlanSection → ℕ → ℕ → ℕ
part_number sections s j = first_part sections s + j

-- what belongs to a section's parts, of what belongs to all parts by number
abbrev pub of_parts : {X : Type 0} → List PlanSection → List X → ℕ → List X
of_parts sections all s = slice_range all (first_part sections s) (first_part sections (s + 1))

-- whether a section's parts stand at addresses, and don't count from 0: where it is allocated, but in partial output
abbrev pub takes_addresses : Setting → ℕ → Bool
takes_addresses setting s = is_allocated setting.plan s && not (is_partial setting.output)

-- events in order, good sections, and a size for each part
pub record IsReady (setting : Setting) : Type 0 where
  pub events : IsEventOrder setting.plan
  pub sections : list_all (is_good_section setting.plan.sections) setting.plan.sections ≡ true
  pub sizes : length setting.sizes ≡ length (all_parts setting.plan.sections)
