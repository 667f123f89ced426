-- Which output sections are emitted, and which segments are active.
use Rattle.std.specs.Prelude.{ℕ, ◌==◌, ◌&&◌, ◌||◌, not, Bool, false, if◌then◌else◌, List, Option, None, filter, map, nat_lt}
use Rattle.std.specs.List.{enumerate_from, list_any, position}
use Rattle.std.specs.Option.{option_map_or}
use Rattle.lk_link.specs.declared.file.FileKind.{FileKind}
use Rattle.lk_link.specs.declared.link.LinkInput.{LinkInput}
use Rattle.lk_link.specs.declared.plan.Plan.{Plan}
use Rattle.lk_link.specs.declared.symbol.InputSymbol.{InputSymbol}
use Rattle.lk_link.specs.EmitKinds.{is_always, is_never}
use Rattle.lk_link.specs.FileKinds.{is_prelude}
use Rattle.lk_link.specs.Inputs.{NumberedFile, numbered_files}
use Rattle.lk_link.specs.Inside.{sections_inside}
use Rattle.lk_link.specs.OutputKinds.{is_partial}
use Rattle.lk_link.specs.PartRules.{is_table_part}
use Rattle.lk_link.specs.PlanSections.{is_singletons, primary_of, section_at}
use Rattle.lk_link.specs.SegmentKinds.{is_stack, segment_at}
use Rattle.lk_link.specs.Marks.{is_marked}
use Rattle.lk_live.specs.declared.live.Live.{Live}
use Rattle.lk_reach.specs.Placements.{edge_of}
use Rattle.lk_tables.specs.Copied.{is_wanted}
use Rattle.lk_tables.specs.HeaderParts.{event_sections}
use Rattle.lk_tables.specs.Late.{flags_at}
use Rattle.lk_tables.specs.SymbolTable.{symbols_by_number}
use Rattle.lk_sizes.specs.Attributes.{by_section, parts_of}
use Rattle.lk_sizes.specs.Owners.{Content, first_size}

-- ---- sections

-- the output section that a symbol of a file of a kind, with its number, keeps: of one of the prelude that gets a resolution, the section
-- at whose start or end it stands, or at the end of which and its secondaries
abbrev pub section_kept_by : Live → FileKind → ℕ × InputSymbol → Option ℕ
section_kept_by live kind q =
    if is_prelude kind && is_wanted kind q.0 q.1 (flags_at live.flags q.0) then edge_of q.1.at else None

-- whether it keeps this one
abbrev pub keeps : Live → FileKind → ℕ → ℕ × InputSymbol → Bool
keeps live kind s q = option_map_or (λ o. o == s) (section_kept_by live kind q) false

-- whether one of a file does
abbrev pub file_keeps : LinkInput → Live → ℕ → NumberedFile → Bool
file_keeps link live s f = list_any (keeps live f.file.kind s) (symbols_by_number link f)

-- whether one of the link does
abbrev pub is_kept_by_symbol : LinkInput → Live → ℕ → Bool
is_kept_by_symbol link live s = list_any (file_keeps link live s) (numbered_files link.groups)

-- whether an output section is kept: the plan always emits it, what is live keeps it, a symbol of the prelude does, or one of its parts has
-- bytes by its first size
abbrev pub is_kept : Content → ℕ → Bool
is_kept content s =
    is_always (section_at content.link.plan.sections s).emit || is_marked content.live.kept s || is_kept_by_symbol content.link content.live s
    || list_any (λ p. nat_lt 0 (first_size content p)) (parts_of content.link.plan.sections s)

-- whether an output section can be emitted: the plan doesn't say never, and it isn't that of singletons
abbrev pub can_be_emitted : Plan → ℕ → Bool
can_be_emitted plan s = not (is_never (section_at plan.sections s).emit) && not (is_singletons plan s)

-- a section is emitted where it, or one that is secondary to it, is kept, and it can be; a secondary section isn't
abbrev pub is_emitted : Content → ℕ → Bool
is_emitted content s =
    list_any (λ q. primary_of content.link.plan.sections q.0 == s && is_kept content q.0) (enumerate_from 0 content.link.plan.sections)
    && can_be_emitted content.link.plan s

-- for each output section, whether it is emitted
abbrev pub emitted_marks : Content → List Bool
emitted_marks content = by_section (is_emitted content) content.link

-- whether an output section has a part that is no table
abbrev pub has_content : Plan → ℕ → Bool
has_content plan s = list_any (λ p. not (is_table_part plan.named p)) (parts_of plan.sections s)

-- whether symbols at the edges of a section are told: where it is emitted, and in output that is linked again has such a part
abbrev pub tells_edges : Content → ℕ → Bool
tells_edges content s = is_emitted content s && (not (is_partial content.link.options.output) || has_content content.link.plan s)

-- for each output section, whether they are
abbrev pub told_marks : Content → List Bool
told_marks content = by_section (tells_edges content) content.link

-- a section's index in the output: its place among the emitted ones, in the order of events
abbrev pub output_index : Content → ℕ → Option ℕ
output_index content s = position (λ t. t == s) (filter (is_emitted content) (event_sections content.link.plan.events))

-- ---- segments

-- whether a segment is told, by the sections for which something holds: none is in partial output; else each where program headers
-- were asked for, one that always is, one for the stack, and one with such a section inside
abbrev pub is_told : LinkInput → (ℕ → Bool) → ℕ → Bool
is_told link some i =
    not (is_partial link.options.output)
    && (link.plan.custom_phdrs || (segment_at link.plan.segments i).always || is_stack (segment_at link.plan.segments i).kind
    || list_any some (sections_inside link.plan.events i))

-- whether it is active: told by the emitted sections
abbrev pub is_active : Content → ℕ → Bool
is_active content i = is_told content.link (is_emitted content) i

-- the active segments, in rising order
abbrev pub active_segments : Content → List ℕ
active_segments content = filter (is_active content) (map (λ q. q.0) (enumerate_from 0 content.link.plan.segments))
