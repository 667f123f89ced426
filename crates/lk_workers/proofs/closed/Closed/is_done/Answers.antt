use Rattle.std.proofs.Common.{subst}
use Rattle.lk_reach.specs.declared.units.Unit.TheVariants.{Sec}
use Rattle.lk_reach.specs.Marks.{IsUnit}
use Rattle.lk_reach.proofs.SymbolNumbers.{is_there, unit_file}
use Rattle.lk_workers.proofs.closed.Closed.is_done.Goals as goal

pub returns-in-None : goal.returns-in-None
returns-in-None g c =
    let groups = c.args.link.now.groups in
    let id = c.in-Sec.file in
    let is : IsUnit groups (Sec id c.in-Sec.index) = subst (IsUnit groups) c.in-Sec.is c.requires.there in
    let file = unit_file groups id c.in-Sec.index is in
    absurd (c.in-None.ensures (is_there groups id file.0 file.1))
