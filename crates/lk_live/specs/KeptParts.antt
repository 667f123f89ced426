-- Words of private contracts: what is live and kept, by marks of units and words of flags, and by marks of parts.
use Rattle.std.specs.Prelude.{◌≡◌, ℕ, ◌+◌, ◌-◌, ◌<◌, ◌==◌, ◌&&◌, ◌||◌, not, Bool, false, List, drop, length, map}
use Rattle.std.specs.List.{enumerate_from, list_any, range_with_len}
use Rattle.std.specs.Option.{option_map_or}
use Rattle.lk_link.specs.declared.link.LinkInput.{LinkInput}
use Rattle.lk_link.specs.declared.section.InputSection.{InputSection}
use Rattle.lk_link.specs.declared.symbol.InputSymbol.{InputSymbol}
use Rattle.lk_link.specs.FileKinds.{is_script}
use Rattle.lk_link.specs.Inputs.{Input, NumberedFile, all_inputs, numbered_files}
use Rattle.lk_link.specs.InputSlots.{can_be_kept, is_debug}
use Rattle.lk_link.specs.Marks.{is_marked}
use Rattle.lk_link.specs.Parts.{all_parts, first_part}
use Rattle.lk_link.specs.Symbols.{first_symbol}
use Rattle.lk_live.specs.declared.live.Live.{Live}
use Rattle.lk_live.specs.Reach.{keeps_output, marked, redirect_output}
use Rattle.lk_reach.specs.Marks.{symbols_in_all}
use Rattle.lk_reach.specs.Units.{flags_from}

-- ---- live, by marks of units and words of flags

-- whether the unit of an input section with its number is marked, and its slot lets it be kept
abbrev pub live_mark : LinkInput → List Bool → ℕ × Input → Bool
live_mark link marks q = is_marked marks (symbols_in_all link.groups + q.0) && can_be_kept q.1.section.slot

-- the same for each input section
abbrev pub live_marks : LinkInput → List Bool → List Bool
live_marks link marks = map (live_mark link marks) (enumerate_from 0 (all_inputs link.groups))

-- whether a live section without bytes keeps an output section
abbrev pub section_keeps : LinkInput → List Bool → ℕ → Bool
section_keeps link live o = list_any (keeps_output link o) (marked live (all_inputs link.groups))

-- whether a symbol with its number is marked, and a redirect at the start or the end of an output section
abbrev pub names_output : List Bool → ℕ → ℕ × InputSymbol → Bool
names_output marks o q = is_marked marks q.0 && option_map_or (λ n. n == o) (redirect_output q.1.at) false

-- whether a file is a script that has such a symbol, and whether any file is
abbrev pub script_keeps : LinkInput → List Bool → ℕ → NumberedFile → Bool
script_keeps link marks o f =
    is_script f.file.kind && list_any (names_output marks o) (enumerate_from (first_symbol link.groups f.id) f.file.symbols)

abbrev pub redirect_keeps : LinkInput → List Bool → ℕ → Bool
redirect_keeps link marks o = list_any (script_keeps link marks o) (numbered_files link.groups)

-- a mark for each output section, by its number
abbrev pub for_sections : (ℕ → Bool) → LinkInput → List Bool
for_sections keeps link = map (λ q. keeps q.0) (enumerate_from 0 link.plan.sections)

-- for each output section whether either keeps it
abbrev pub kept_marks : LinkInput → List Bool → List Bool → List Bool
kept_marks link live marks = for_sections (λ o. section_keeps link live o || redirect_keeps link marks o) link

-- what is live
abbrev pub live_by : LinkInput → List Bool → List ℕ → Live
live_by link marks words = record {
  marks = live_marks link marks;
  flags = map flags_from (drop 1 words);
  kept = kept_marks link (live_marks link marks) marks;
}

-- ---- by marks of parts

-- whether a section without bytes, that isn't debug data, goes to a part
abbrev pub keeps_part : ℕ → InputSection → Bool
keeps_part p s = s.size == 0 && not (is_debug s.slot) && s.part == p

-- a mark for each part, set exactly where such a section that is live goes to it
pub record AreKeptParts (link : LinkInput) (live parts : List Bool) : Type 0 where
  pub count : length parts ≡ length (all_parts link.plan.sections)
  pub marks : (p : ℕ) → p < length parts
      → is_marked parts p ≡ list_any (λ x. keeps_part p x.section) (marked live (all_inputs link.groups))

-- whether one of the parts of an output section has a mark
abbrev pub part_keeps : LinkInput → List Bool → ℕ → Bool
part_keeps link parts o =
    list_any (is_marked parts)
    (range_with_len (first_part link.plan.sections o) (first_part link.plan.sections (o + 1) - first_part link.plan.sections o))
