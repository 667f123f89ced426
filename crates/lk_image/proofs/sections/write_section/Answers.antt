use Rattle.std.proofs.Common.{◌≡◌, ◌+◌, ◌-◌, ◌≤◌, ℕ, true, List, [], ◌∷◌, if◌then◌else◌, fold, length, drop, sym, ap, ◌∙◌, arith}
use Rattle.std.proofs.lemmas.List.{length-drop, length-take-le}
use Rattle.lk_link.specs.declared.section.InputSection.{InputSection}
use Rattle.lk_link.specs.Inputs.{Input}
use Rattle.lk_link.specs.Walks.{input_of}
use Rattle.lk_image.specs.Contents.{content}
use Rattle.lk_image.specs.Ready.{StandsInside}
use Rattle.lk_image.specs.Places.{is_in_file, section_place}
use Rattle.lk_image.specs.References.{relocation_value}
use Rattle.lk_image.specs.Stretches.{Stretch, with_stretch}
use Rattle.lk_image.proofs.Made.{put_nothing}
use Rattle.lk_image.proofs.Puts.{length-content}
use Rattle.lk_image.proofs.sections.write_section.Goals as goal

pub returns-then-input-eq0-clause-written : goal.returns-then-input-eq0-clause-written
returns-then-input-eq0-clause-written c =
    let link = c.args.link.now in
    let layout = c.args.layout.now in
    let q : ℕ × Input = (c.args.number, input_of c.args.input) in
    let s : InputSection = c.args.input.section.now in
    let value = relocation_value link layout c.args.input.file in
    let there : is_in_file link layout q ≡ true = sym c.is_in_file.ensures ∙ c.if-not-is_in_file.false in
    let stands : StandsInside link layout q = c.requires.ready.sections c.args.number (input_of c.args.input) c.requires.there in
    let empty : length (content value s) ≡ 0 = length-content value s (stands.whole there) (c.requires.room there) ∙ c.if-input-eq0.true in
    let one : List Stretch = record { at = section_place link layout q; bytes = content value s } ∷ [] in
    sym (ap (λ b. fold with_stretch c.args.image.now (if b then one else [])) there ∙ put_nothing (section_place link layout q) (content value s) c.args.image.now empty)

pub overflow_add-bytes : goal.overflow_add-bytes
overflow_add-bytes c =
    let there : is_in_file c.args.link.now c.args.layout.now (c.args.number, input_of c.args.input) ≡ true = sym c.is_in_file.ensures ∙ c.if-not-is_in_file.false in
    let stands = c.requires.ready.sections c.args.number (input_of c.args.input) c.requires.there in
    omega (arith, stands.ends there (omega (arith, c.if-input-eq0.false)), c.section_place-at.ensures, c.requires.long, c.type_inv.image)

pub slice_bounds-bytes-end : goal.slice_bounds-bytes-end
slice_bounds-bytes-end c =
    let there : is_in_file c.args.link.now c.args.layout.now (c.args.number, input_of c.args.input) ≡ true = sym c.is_in_file.ensures ∙ c.if-not-is_in_file.false in
    let stands = c.requires.ready.sections c.args.number (input_of c.args.input) c.requires.there in
    omega (arith, stands.ends there (omega (arith, c.if-input-eq0.false)), c.section_place-at.ensures, c.requires.long)

pub write_content-requires-clause-kept : goal.write_content-requires-clause-kept
write_content-requires-clause-kept c =
    let there : is_in_file c.args.link.now c.args.layout.now (c.args.number, input_of c.args.input) ≡ true = sym c.is_in_file.ensures ∙ c.if-not-is_in_file.false in
    (c.requires.ready.sections c.args.number (input_of c.args.input) c.requires.there).kept there

pub write_content-requires-clause-whole : goal.write_content-requires-clause-whole
write_content-requires-clause-whole c =
    let there : is_in_file c.args.link.now c.args.layout.now (c.args.number, input_of c.args.input) ≡ true = sym c.is_in_file.ensures ∙ c.if-not-is_in_file.false in
    let stands = c.requires.ready.sections c.args.number (input_of c.args.input) c.requires.there in
    let at = c.section_place-at.result in
    let size = c.args.input.section.now.size in
    let ends = stands.ends there (omega (arith, c.if-input-eq0.false)) in
    let room : at + size - at ≤ length (drop at c.args.image.now) = omega (arith, length-drop at c.args.image.now, ends, c.section_place-at.ensures, c.requires.long) in
    omega (arith, stands.whole there, length-take-le (at + size - at) (drop at c.args.image.now) room)

pub section_place-at-requires : goal.section_place-at-requires
section_place-at-requires c =
    let there : is_in_file c.args.link.now c.args.layout.now (c.args.number, input_of c.args.input) ≡ true = sym c.is_in_file.ensures ∙ c.if-not-is_in_file.false in
    let stands = c.requires.ready.sections c.args.number (input_of c.args.input) c.requires.there in
    record { fits = omega (arith, stands.ends there (omega (arith, c.if-input-eq0.false)), c.requires.long, c.type_inv.image) }
