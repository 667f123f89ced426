use Rattle.std.proofs.Common.{◌≡◌, Some, sym, arith}
use Rattle.std.specs.List.{slice_get}
use Rattle.std.proofs.lemmas.Option.{slice_get_within}
use Rattle.lk_link.specs.Files.{file_in}
use Rattle.lk_reach.proofs.SymbolNumbers.{first_within, inputs_few, sections_within}
use Rattle.lk_live.proofs.live.Live.slot.Goals as goal

pub input_start-requires : goal.input_start-requires
input_start-requires c = omega (arith, inputs_few c.args.link.now c.requires)

pub overflow_add-number : goal.overflow_add-number
overflow_add-number c =
    let link = c.args.link.now in
    let there : file_in link.groups c.args.file ≡ Some c.in_ok-file.field-0.now = sym c.in_ok-file.ensures in
    let section : slice_get c.in_ok-file.field-0.now.sections c.args.index ≡ Some c.in_ok-section.section.now = sym c.in_ok-section.ensures in
    let start = c.in_ok-number.ensures in
    omega (
      arith,
      start.1,
      slice_get_within c.in_ok-file.field-0.now.sections c.args.index c.in_ok-section.section.now section,
      sections_within link.groups c.args.file c.in_ok-file.field-0.now there,
      first_within link.groups c.args.file,
      inputs_few link c.requires,
    )
