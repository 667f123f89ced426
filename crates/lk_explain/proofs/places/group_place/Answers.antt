use Rattle.std.proofs.Common.{◌≡◌, ℕ, ◌+◌, ◌<◌, ◌^◌, true, Some, sym, ap, ◌∙◌, subst, refl, arith}
use Rattle.std.specs.List.{slice_get}
use Rattle.lk_link.specs.declared.file.InputFile.{InputFile}
use Rattle.lk_link.specs.declared.section.InputSection.{InputSection}
use Rattle.lk_link.specs.Files.{file_in}
use Rattle.lk_link.specs.Inputs.{input_number}
use Rattle.lk_link.specs.InputSlots.{can_be_kept}
use Rattle.lk_link.specs.SectionGroups.{IsMember, group_members}
use Rattle.lk_link.proofs.Elements.{contains_at}
use Rattle.lk_reach.specs.Walking.{IsGroupPlace}
use Rattle.lk_reach.proofs.GroupLemmas.{group_place, place_few}
use Rattle.lk_reach.proofs.SymbolNumbers.{inputs_few}
use Rattle.lk_explain.proofs.places.group_place.Goals as goal

pub input_start-requires : goal.input_start-requires
input_start-requires c = omega (arith, inputs_few c.args.link.now c.requires)

pub overflow_add-result : goal.overflow_add-result
overflow_add-result c =
    let link = c.args.link.now in
    let file : InputFile = c.in_ok-sections.field-0.now in
    let section : InputSection = c.in_ok-section.section.now in
    let group : ℕ = c.in_ok-group.group in
    let first : ℕ = c.in_ok-first.field-0.now in
    let at_file : file_in link.groups c.args.file ≡ Some file = sym c.in_ok-sections.ensures in
    let at_section : slice_get file.sections c.args.index ≡ Some section = sym c.in_ok-section.ensures in
    let kept : can_be_kept section.slot ≡ true = sym c.can_be_kept.ensures ∙ c.if-not-can_be_kept.false in
    let in_group : section.group ≡ Some group = c.in_ok-group.was in
    let there : slice_get (group_members file.sections group) 0 ≡ Some first = ap (λ ms. slice_get ms 0) (sym c.members.ensures) ∙ sym c.in_ok-first.ensures.value in
    let member : IsMember file.sections group first = ((c.group_members_rise.ensures file.sections group).0 first).0 (contains_at (group_members file.sections group) 0 first there) in
    let n = input_number link.groups c.args.file first in
    let place = group_place link c.args.file c.args.index n file section group first at_file at_section kept in_group member refl in
    let few : n < 2 ^ 32 = place_few link c.args.file c.args.index n c.requires place in
    let start = c.in_ok-input_start.ensures in
    omega (arith, few, start.1)

pub returns : goal.returns
returns c x e =
    let link = c.args.link.now in
    let file : InputFile = c.in_ok-sections.field-0.now in
    let section : InputSection = c.in_ok-section.section.now in
    let group : ℕ = c.in_ok-group.group in
    let first : ℕ = c.in_ok-first.field-0.now in
    let at_file : file_in link.groups c.args.file ≡ Some file = sym c.in_ok-sections.ensures in
    let at_section : slice_get file.sections c.args.index ≡ Some section = sym c.in_ok-section.ensures in
    let kept : can_be_kept section.slot ≡ true = sym c.can_be_kept.ensures ∙ c.if-not-can_be_kept.false in
    let in_group : section.group ≡ Some group = c.in_ok-group.was in
    let there : slice_get (group_members file.sections group) 0 ≡ Some first = ap (λ ms. slice_get ms 0) (sym c.members.ensures) ∙ sym c.in_ok-first.ensures.value in
    let member : IsMember file.sections group first = ((c.group_members_rise.ensures file.sections group).0 first).0 (contains_at (group_members file.sections group) 0 first there) in
    let n : ℕ = c.in_ok-input_start.field-0 + first in
    let same : n ≡ x = cc in
    let start = c.in_ok-input_start.ensures in
    let number : n ≡ input_number link.groups c.args.file first = ap (λ s. s + first) start.1 in
    subst (IsGroupPlace link c.args.file c.args.index) same
    (group_place link c.args.file c.args.index n file section group first at_file at_section kept in_group member number)
