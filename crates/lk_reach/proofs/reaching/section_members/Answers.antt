use Rattle.std.proofs.Common.{length, ap, sym, arith}
use Rattle.lk_reach.proofs.SymbolNumbers.{sections_few}
use Rattle.lk_reach.proofs.reaching.section_members.Goals as goal

pub invariant_of-result : goal.invariant_of-result
invariant_of-result c =
    omega (arith, sections_few c.args.link.now c.args.id c.in_ok-file.file.now c.requires (sym c.in_ok-file.ensures), ap length c.as_slice.ensures)
