use Rattle.std.proofs.Common.{arith, ap, length}
use Rattle.lk_reach.proofs.SymbolNumbers.{first_within, inputs_few, sections_within}
use Rattle.lk_thunks.proofs.ranges.primary_bytes.Goals as goal

pub input_start-requires : goal.input_start-requires
input_start-requires c = omega (arith, inputs_few c.args.link.now c.requires.good)

pub sum_sections-requires : goal.sum_sections-requires
sum_sections-requires c =
    let link = c.args.link.now in
    omega (
      arith,
      c.in-Some.ensures.1,
      ap length c.as_slice-in-Some.ensures,
      sections_within link.groups c.args.file.id c.args.file.file.now c.requires.there,
      first_within link.groups c.args.file.id,
      inputs_few link c.requires.good,
    )
