use Rattle.std.proofs.Common.{length, ap, arith}
use Rattle.lk_reach.specs.declared.units.Unit.TheVariants.{Sec, Sym}
use Rattle.lk_reach.specs.Marks.{IsUnit}
use Rattle.lk_reach.specs.Units.{flags_of, target_of}
use Rattle.lk_reach.proofs.SymbolNumbers.{is_there, unit_file, unit_within, units_few}
use Rattle.lk_reach.proofs.walk.Walk.take.Goals as goal

pub join-requires : goal.join-requires
join-requires c =
    omega (arith, c.requires.inside.symbol (c.in-Reference.symbol, c.in-Reference.flags.0) (ap flags_of c.in-Reference.is), c.requires.sized.words)

pub mark-requires-clause-there : goal.mark-requires-clause-there
mark-requires-clause-there c =
    let unit : IsUnit c.args.link.now.groups (Sym c.in-Reference.symbol) = c.requires.inside.target (Sym c.in-Reference.symbol) (ap target_of c.in-Reference.is) in
    omega (arith, unit_within c.args.link.now.groups (Sym c.in-Reference.symbol) unit, c.requires.sized.marks, ap length c.join.ensures.marks)

pub mark-requires-in-Some-clause-there : goal.mark-requires-in-Some-clause-there
mark-requires-in-Some-clause-there c =
    let unit : IsUnit c.args.link.now.groups (Sec c.in-Section.file c.in-Section.index) = c.requires.inside.target (Sec c.in-Section.file c.in-Section.index) (ap target_of c.in-Section.is) in
    let number = c.in-Some.ensures in
    omega (arith, number.1, unit_within c.args.link.now.groups (Sec c.in-Section.file c.in-Section.index) unit, c.requires.sized.marks)

pub mark-requires-in-Some-clause-few : goal.mark-requires-in-Some-clause-few
mark-requires-in-Some-clause-few c =
    let unit : IsUnit c.args.link.now.groups (Sec c.in-Section.file c.in-Section.index) = c.requires.inside.target (Sec c.in-Section.file c.in-Section.index) (ap target_of c.in-Section.is) in
    let number = c.in-Some.ensures in
    omega (arith, number.1, unit_within c.args.link.now.groups (Sec c.in-Section.file c.in-Section.index) unit, units_few c.args.link.now c.requires.well_formed)

pub join-requires-in-Mark : goal.join-requires-in-Mark
join-requires-in-Mark c = omega (arith, c.requires.inside.symbol (c.in-Mark.symbol, c.in-Mark.flags.0) (ap flags_of c.in-Mark.is), c.requires.sized.words)

pub returns-in-None : goal.returns-in-None
returns-in-None c =
    let unit : IsUnit c.args.link.now.groups (Sec c.in-Section.file c.in-Section.index) = c.requires.inside.target (Sec c.in-Section.file c.in-Section.index) (ap target_of c.in-Section.is) in
    let file = unit_file c.args.link.now.groups c.in-Section.file c.in-Section.index unit in
    absurd (c.in-None.ensures (is_there c.args.link.now.groups c.in-Section.file file.0 file.1))
