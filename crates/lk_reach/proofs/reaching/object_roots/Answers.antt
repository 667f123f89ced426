use Rattle.std.proofs.Common.{length, ap, arith}
use Rattle.lk_reach.proofs.SymbolNumbers.{sections_few}
use Rattle.lk_reach.proofs.reaching.object_roots.Goals as goal

pub invariant_of-result : goal.invariant_of-result
invariant_of-result c =
    omega (arith, sections_few c.args.link.now c.args.file.id c.args.file.file.now c.requires.well_formed c.requires.there, ap length c.as_slice.ensures)
