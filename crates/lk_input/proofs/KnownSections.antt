-- Sections of which each known member is read where it stands.
use Rattle.std.proofs.Common.{◌≡◌, ℕ, List, [], false, Some, if◌then◌else◌, refl}
use Rattle.std.specs.Str.{bytes_eq}
use Rattle.serde_json.specs.Data.{Data, object, Members}
use Rattle.serde_json.specs.Find.{get_member}
use Rattle.lk_input.specs.declared.read.section.InputSectionKey.TheVariants as key
use Rattle.lk_input.specs.declared.read.section.SectionMembers.{SectionMembers}
use Rattle.lk_input.specs.KnownSections.{section_from, section_kept}
use Rattle.lk_input.specs.ReadingRelocations.{relax_candidate_of, relocation_of}
use Rattle.lk_input.specs.ReadingSections.{slots, hex_bytes, input_section_of}
use Rattle.lk_input.specs.ReadingSteps.{index_of, list_of, number_of, one_of, text_of, truth_of}
use Rattle.lk_input.proofs.Known.{PutsBy, bind_same, field, kept-found, kept-needed, kept-present}
use Rattle.lk_input.proofs.Objects.{WantsObject}
use Rattle.lk_input.specs.Keys.{input_section_key_text}

-- what is kept of a section goes on by this
abbrev pub section_put : List ℕ → Data → SectionMembers → SectionMembers
section_put k d old = record {
  name = if bytes_eq k (input_section_key_text key.Name) then Some (text_of d) else old.name;
  slot = if bytes_eq k (input_section_key_text key.Slot) then Some (one_of slots d) else old.slot;
  part = if bytes_eq k (input_section_key_text key.Part) then Some (index_of d) else old.part;
  size = if bytes_eq k (input_section_key_text key.Size) then Some (number_of d) else old.size;
  bytes = if bytes_eq k (input_section_key_text key.Data) then Some (hex_bytes d) else old.bytes;
  strings = if bytes_eq k (input_section_key_text key.Strings) then Some (truth_of d) else old.strings;
  sorted = if bytes_eq k (input_section_key_text key.Sorted) then Some (truth_of d) else old.sorted;
  attrs = if bytes_eq k (input_section_key_text key.Attrs) then Some (index_of d) else old.attrs;
  group = if bytes_eq k (input_section_key_text key.Group) then Some (index_of d) else old.group;
  relocs = if bytes_eq k (input_section_key_text key.Relocs) then Some (list_of relocation_of d) else old.relocs;
  relax = if bytes_eq k (input_section_key_text key.Relax) then Some (list_of relax_candidate_of d) else old.relax;
}

pub section-put : PutsBy section_kept section_put
section-put k d ms =
    rw (
      field text_of (input_section_key_text key.Name) k d ms,
      field (one_of slots) (input_section_key_text key.Slot) k d ms,
      field index_of (input_section_key_text key.Part) k d ms,
      field number_of (input_section_key_text key.Size) k d ms,
      field hex_bytes (input_section_key_text key.Data) k d ms,
      field truth_of (input_section_key_text key.Strings) k d ms,
      field truth_of (input_section_key_text key.Sorted) k d ms,
      field index_of (input_section_key_text key.Attrs) k d ms,
      field index_of (input_section_key_text key.Group) k d ms,
      field (list_of relocation_of) (input_section_key_text key.Relocs) k d ms,
      field (list_of relax_candidate_of) (input_section_key_text key.Relax) k d ms,
    ) refl

pub section_wants_object : WantsObject input_section_of
unfolding input_section_of
section_wants_object d none = rw none refl

pub section-kept : (ms : Members) → input_section_of (object ms) ≡ section_from (section_kept ms)
unfolding input_section_of section_from
section-kept ms =
    bind_same _ _ _ _ (kept-found [] text_of (input_section_key_text key.Name) (get_member (input_section_key_text key.Name) ms)) (λ name.
    bind_same _ _ _ _ (kept-needed (one_of slots) (input_section_key_text key.Slot) (get_member (input_section_key_text key.Slot) ms)) (λ slot.
    bind_same _ _ _ _ (kept-found 0 index_of (input_section_key_text key.Part) (get_member (input_section_key_text key.Part) ms)) (λ part.
    bind_same _ _ _ _ (kept-found 0 number_of (input_section_key_text key.Size) (get_member (input_section_key_text key.Size) ms)) (λ size.
    bind_same _ _ _ _ (kept-present hex_bytes (input_section_key_text key.Data) (get_member (input_section_key_text key.Data) ms)) (λ given.
    bind_same _ _ _ _ (kept-found false truth_of (input_section_key_text key.Strings) (get_member (input_section_key_text key.Strings) ms)) (λ strings.
    bind_same _ _ _ _ (kept-found false truth_of (input_section_key_text key.Sorted) (get_member (input_section_key_text key.Sorted) ms)) (λ sorted.
    bind_same _ _ _ _ (kept-found 0 index_of (input_section_key_text key.Attrs) (get_member (input_section_key_text key.Attrs) ms)) (λ attrs.
    bind_same _ _ _ _ (kept-present index_of (input_section_key_text key.Group) (get_member (input_section_key_text key.Group) ms)) (λ group.
    bind_same _ _ _ _ (kept-found [] (list_of relocation_of) (input_section_key_text key.Relocs) (get_member (input_section_key_text key.Relocs) ms)) (λ relocs.
    bind_same _ _ _ _ (kept-found [] (list_of relax_candidate_of) (input_section_key_text key.Relax) (get_member (input_section_key_text key.Relax) ms)) (λ relax. refl)))))))))))
