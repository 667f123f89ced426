use Rattle.std.proofs.Common.{◌≡◌, true, false, refl, arith}
use Rattle.std.specs.Str.{bytes_eq}
use Rattle.std.proofs.lemmas.Slice.Eq.{bytes_eq-Decides}
use Rattle.lk_input.specs.declared.read.section.InputSectionKey.TheVariants as key
use Rattle.lk_input.specs.KnownSections.{section_kept}
use Rattle.lk_input.specs.ReadingRelocations.{relax_candidate_of, relocation_of}
use Rattle.lk_input.specs.ReadingSections.{slots, hex_bytes}
use Rattle.lk_input.specs.ReadingSteps.{index_of, list_of, number_of, one_of, text_of, truth_of, written}
use Rattle.lk_input.proofs.Known.{passed-keeps, reread-keeps}
use Rattle.lk_input.proofs.KnownSections.{section-put, section_put}
use Rattle.lk_input.proofs.read.section.SectionMembersKnown.take.Goals as goal
use Rattle.lk_input.specs.Keys.{input_section_key_text}

pub returns-then-eq : goal.returns-then-eq
unfolding written
returns-then-eq c =
    let name = c.args.key.now in
    let same : bytes_eq name (input_section_key_text key.Name) ≡ true = grind arith in
    let is : name ≡ input_section_key_text key.Name = (bytes_eq-Decides name (input_section_key_text key.Name)).0 same in
    reread-keeps text_of section_kept section_put section-put name c.args.depth _ _ _ _ _ _ c.reread.ensures (λ d e. rw (is, e) refl)

pub returns-then-eq-2 : goal.returns-then-eq-2
unfolding written
returns-then-eq-2 c =
    let name = c.args.key.now in
    let same : bytes_eq name (input_section_key_text key.Slot) ≡ true = grind arith in
    let is : name ≡ input_section_key_text key.Slot = (bytes_eq-Decides name (input_section_key_text key.Slot)).0 same in
    reread-keeps (one_of slots) section_kept section_put section-put name c.args.depth _ _ _ _ _ _ c.reread-then-eq-2.ensures (λ d e. rw (is, e) refl)

pub returns-then-eq-3 : goal.returns-then-eq-3
unfolding written
returns-then-eq-3 c =
    let name = c.args.key.now in
    let same : bytes_eq name (input_section_key_text key.Part) ≡ true = grind arith in
    let is : name ≡ input_section_key_text key.Part = (bytes_eq-Decides name (input_section_key_text key.Part)).0 same in
    reread-keeps index_of section_kept section_put section-put name c.args.depth _ _ _ _ _ _ c.reread-then-eq-3.ensures (λ d e. rw (is, e) refl)

pub returns-then-eq-4 : goal.returns-then-eq-4
unfolding written
returns-then-eq-4 c =
    let name = c.args.key.now in
    let same : bytes_eq name (input_section_key_text key.Size) ≡ true = grind arith in
    let is : name ≡ input_section_key_text key.Size = (bytes_eq-Decides name (input_section_key_text key.Size)).0 same in
    reread-keeps number_of section_kept section_put section-put name c.args.depth _ _ _ _ _ _ c.reread-then-eq-4.ensures (λ d e. rw (is, e) refl)

pub returns-then-eq-5 : goal.returns-then-eq-5
unfolding written
returns-then-eq-5 c =
    let name = c.args.key.now in
    let same : bytes_eq name (input_section_key_text key.Data) ≡ true = grind arith in
    let is : name ≡ input_section_key_text key.Data = (bytes_eq-Decides name (input_section_key_text key.Data)).0 same in
    reread-keeps hex_bytes section_kept section_put section-put name c.args.depth _ _ _ _ _ _ c.reread-then-eq-5.ensures (λ d e. rw (is, e) refl)

pub returns-then-eq-6 : goal.returns-then-eq-6
unfolding written
returns-then-eq-6 c =
    let name = c.args.key.now in
    let same : bytes_eq name (input_section_key_text key.Strings) ≡ true = grind arith in
    let is : name ≡ input_section_key_text key.Strings = (bytes_eq-Decides name (input_section_key_text key.Strings)).0 same in
    reread-keeps truth_of section_kept section_put section-put name c.args.depth _ _ _ _ _ _ c.reread-then-eq-6.ensures (λ d e. rw (is, e) refl)

pub returns-then-eq-7 : goal.returns-then-eq-7
unfolding written
returns-then-eq-7 c =
    let name = c.args.key.now in
    let same : bytes_eq name (input_section_key_text key.Sorted) ≡ true = grind arith in
    let is : name ≡ input_section_key_text key.Sorted = (bytes_eq-Decides name (input_section_key_text key.Sorted)).0 same in
    reread-keeps truth_of section_kept section_put section-put name c.args.depth _ _ _ _ _ _ c.reread-then-eq-7.ensures (λ d e. rw (is, e) refl)

pub returns-then-eq-8 : goal.returns-then-eq-8
unfolding written
returns-then-eq-8 c =
    let name = c.args.key.now in
    let same : bytes_eq name (input_section_key_text key.Attrs) ≡ true = grind arith in
    let is : name ≡ input_section_key_text key.Attrs = (bytes_eq-Decides name (input_section_key_text key.Attrs)).0 same in
    reread-keeps index_of section_kept section_put section-put name c.args.depth _ _ _ _ _ _ c.reread-then-eq-8.ensures (λ d e. rw (is, e) refl)

pub returns-then-eq-9 : goal.returns-then-eq-9
unfolding written
returns-then-eq-9 c =
    let name = c.args.key.now in
    let same : bytes_eq name (input_section_key_text key.Group) ≡ true = grind arith in
    let is : name ≡ input_section_key_text key.Group = (bytes_eq-Decides name (input_section_key_text key.Group)).0 same in
    reread-keeps index_of section_kept section_put section-put name c.args.depth _ _ _ _ _ _ c.reread-then-eq-9.ensures (λ d e. rw (is, e) refl)

pub returns-then-eq-10 : goal.returns-then-eq-10
unfolding written
returns-then-eq-10 c =
    let name = c.args.key.now in
    let same : bytes_eq name (input_section_key_text key.Relocs) ≡ true = grind arith in
    let is : name ≡ input_section_key_text key.Relocs = (bytes_eq-Decides name (input_section_key_text key.Relocs)).0 same in
    reread-keeps (list_of relocation_of) section_kept section_put section-put name c.args.depth _ _ _ _ _ _ c.reread-then-eq-10.ensures (λ d e. rw (is, e) refl)

pub returns-then-eq-11 : goal.returns-then-eq-11
unfolding written
returns-then-eq-11 c =
    let name = c.args.key.now in
    let same : bytes_eq name (input_section_key_text key.Relax) ≡ true = grind arith in
    let is : name ≡ input_section_key_text key.Relax = (bytes_eq-Decides name (input_section_key_text key.Relax)).0 same in
    reread-keeps (list_of relax_candidate_of) section_kept section_put section-put name c.args.depth _ _ _ _ _ _ c.reread-then-eq-11.ensures (λ d e. rw (is, e) refl)

pub returns-else-eq-11 : goal.returns-else-eq-11
unfolding written
returns-else-eq-11 c =
    let name = c.args.key.now in
    let no_name : bytes_eq name (input_section_key_text key.Name) ≡ false = grind arith in
    let no_slot : bytes_eq name (input_section_key_text key.Slot) ≡ false = grind arith in
    let no_part : bytes_eq name (input_section_key_text key.Part) ≡ false = grind arith in
    let no_size : bytes_eq name (input_section_key_text key.Size) ≡ false = grind arith in
    let no_bytes : bytes_eq name (input_section_key_text key.Data) ≡ false = grind arith in
    let no_strings : bytes_eq name (input_section_key_text key.Strings) ≡ false = grind arith in
    let no_sorted : bytes_eq name (input_section_key_text key.Sorted) ≡ false = grind arith in
    let no_attrs : bytes_eq name (input_section_key_text key.Attrs) ≡ false = grind arith in
    let no_group : bytes_eq name (input_section_key_text key.Group) ≡ false = grind arith in
    let no_relocs : bytes_eq name (input_section_key_text key.Relocs) ≡ false = grind arith in
    let no_relax : bytes_eq name (input_section_key_text key.Relax) ≡ false = grind arith in
    passed-keeps section_kept section_put section-put name c.args.depth _ _ _ _ c.pass_value.ensures (λ d. rw (no_name, no_slot, no_part, no_size, no_bytes, no_strings, no_sorted, no_attrs, no_group, no_relocs, no_relax) refl)
