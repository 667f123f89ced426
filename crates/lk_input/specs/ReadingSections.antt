-- What is read of the sections of objects, in the order of their fields.
use Rattle.std.specs.Prelude.{ℕ, List, [], ◌∷◌, Result, Ok, false, is_some, length, unwrap_or}
use Rattle.std.specs.Result.{result_ok}
use Rattle.serde_json.specs.Data.{Data}
use Rattle.hex.specs.Hex.{decode_of}
use Rattle.lk_link.specs.declared.section.InputSlot.{InputSlot}
use Rattle.lk_link.specs.declared.section.InputSlot.TheVariants.{Discard, Unloaded, MustLoad, DebugInfo, MustLoadDebugInfo, Merge}
use Rattle.lk_link.specs.declared.section.InputSection.{InputSection}
use Rattle.lk_input.specs.ReadingSteps.{Path, ◌>>=◌, wanted, number_of, index_of, truth_of, text_of, one_of, object, required, defaulted, optional, list_of, written}
use Rattle.lk_input.specs.ReadingRelocations.{relocation_of, relax_candidate_of}

-- the slots
abbrev pub slots : List (List ℕ × InputSlot)
slots =
    (written "discard", Discard) ∷ (written "unloaded", Unloaded) ∷ (written "must", MustLoad) ∷ (written "debug", DebugInfo) ∷
    (written "mustdebug", MustLoadDebugInfo) ∷ (written "merge", Merge) ∷ []

-- the bytes of a hexadecimal text
abbrev pub hex_bytes : Data → Result (List ℕ) Path
hex_bytes d = text_of d >>= λ text. wanted (result_ok (decode_of text))

-- the size of a section: a merge section's is that of its data, whatever was given
abbrev pub size_in : InputSlot → ℕ → List ℕ → ℕ
size_in Merge size bytes = length bytes
size_in _ size bytes = size

-- a section of an object: its slot must be given, its data may be
unfoldable pub input_section_of : Data → Result InputSection Path
input_section_of d = do
  _ ← object d
  name ← defaulted [] text_of (written "name") d
  slot ← required (one_of slots) (written "slot") d
  part ← defaulted 0 index_of (written "part") d
  size ← defaulted 0 number_of (written "size") d
  given ← optional hex_bytes (written "data") d
  strings ← defaulted false truth_of (written "strings") d
  sorted ← defaulted false truth_of (written "sorted") d
  attrs ← defaulted 0 index_of (written "attrs") d
  group ← optional index_of (written "group") d
  relocs ← defaulted [] (list_of relocation_of) (written "relocs") d
  relax ← defaulted [] (list_of relax_candidate_of) (written "relax") d
  Ok (record {
    name = name;
    slot = slot;
    part = part;
    size = size_in slot size (unwrap_or given []);
    bytes = unwrap_or given [];
    given = is_some given;
    strings = strings;
    sorted = sorted;
    attrs = attrs;
    group = group;
    relocs = relocs;
    relax = relax;
  })

-- the sections of an object
abbrev pub input_sections_of : Data → Result (List InputSection) Path
input_sections_of d = list_of input_section_of d
