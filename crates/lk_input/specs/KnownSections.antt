-- Sections of which each known member is read where it stands: the words of private contracts.
use Rattle.std.specs.Prelude.{[], false, Result, Ok, is_some, option_map, unwrap_or}
use Rattle.serde_json.specs.Data.{Members}
use Rattle.serde_json.specs.Find.{get_member}
use Rattle.lk_link.specs.declared.section.InputSection.{InputSection}
use Rattle.lk_input.specs.declared.read.section.InputSectionKey.TheVariants as key
use Rattle.lk_input.specs.declared.read.section.SectionMembers.{SectionMembers}
use Rattle.lk_input.specs.Known.{kept_needed, kept_optional}
use Rattle.lk_input.specs.Large.{kept_or}
use Rattle.lk_input.specs.ReadingRelocations.{relax_candidate_of, relocation_of}
use Rattle.lk_input.specs.ReadingSections.{slots, hex_bytes, size_in}
use Rattle.lk_input.specs.ReadingSteps.{Path, ◌>>=◌, index_of, list_of, number_of, one_of, text_of, truth_of}
use Rattle.lk_input.specs.Keys.{input_section_key_text}

-- what is kept of the members of a section
abbrev pub section_kept : Members → SectionMembers
section_kept ms = record {
  name = option_map text_of (get_member (input_section_key_text key.Name) ms);
  slot = option_map (one_of slots) (get_member (input_section_key_text key.Slot) ms);
  part = option_map index_of (get_member (input_section_key_text key.Part) ms);
  size = option_map number_of (get_member (input_section_key_text key.Size) ms);
  bytes = option_map hex_bytes (get_member (input_section_key_text key.Data) ms);
  strings = option_map truth_of (get_member (input_section_key_text key.Strings) ms);
  sorted = option_map truth_of (get_member (input_section_key_text key.Sorted) ms);
  attrs = option_map index_of (get_member (input_section_key_text key.Attrs) ms);
  group = option_map index_of (get_member (input_section_key_text key.Group) ms);
  relocs = option_map (list_of relocation_of) (get_member (input_section_key_text key.Relocs) ms);
  relax = option_map (list_of relax_candidate_of) (get_member (input_section_key_text key.Relax) ms);
}

-- a section, of what was kept, in the order of the format
unfoldable pub section_from : SectionMembers → Result InputSection Path
section_from known = do
  name ← kept_or [] (input_section_key_text key.Name) known.name
  slot ← kept_needed (input_section_key_text key.Slot) known.slot
  part ← kept_or 0 (input_section_key_text key.Part) known.part
  size ← kept_or 0 (input_section_key_text key.Size) known.size
  given ← kept_optional (input_section_key_text key.Data) known.bytes
  strings ← kept_or false (input_section_key_text key.Strings) known.strings
  sorted ← kept_or false (input_section_key_text key.Sorted) known.sorted
  attrs ← kept_or 0 (input_section_key_text key.Attrs) known.attrs
  group ← kept_optional (input_section_key_text key.Group) known.group
  relocs ← kept_or [] (input_section_key_text key.Relocs) known.relocs
  relax ← kept_or [] (input_section_key_text key.Relax) known.relax
  Ok (record {
    name = name;
    slot = slot;
    part = part;
    size = size_in slot size (unwrap_or given []);
    bytes = unwrap_or given [];
    given = is_some given;
    strings = strings;
    sorted = sorted;
    attrs = attrs;
    group = group;
    relocs = relocs;
    relax = relax;
  })
