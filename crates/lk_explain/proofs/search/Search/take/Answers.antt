use Rattle.std.proofs.Common.{◌≡◌, ◌<◌, [], ◌∷◌, Some, sym, ap, ◌∙◌, arith}
use Rattle.lk_reach.specs.declared.units.Unit.TheVariants.{Sec, Sym}
use Rattle.lk_reach.specs.Marks.{IsUnit, asking}
use Rattle.lk_reach.specs.Units.{target_of}
use Rattle.lk_reach.proofs.SymbolNumbers.{is_there, unit_file, unit_within, units_few}
use Rattle.lk_explain.specs.Searching.{Meets, Takes, with_asker}
use Rattle.lk_explain.proofs.TakeLemmas.{on_ok, takes_met}
use Rattle.lk_explain.proofs.search.Search.take.Goals as goal

pub meet-requires-clause-there : goal.meet-requires-clause-there
meet-requires-clause-there c =
    let unit : IsUnit c.args.asker.link.now.groups (Sym c.in-Reference.symbol) = c.requires.inside.target (Sym c.in-Reference.symbol) (ap target_of c.in-Reference.is) in
    omega (arith, unit_within c.args.asker.link.now.groups (Sym c.in-Reference.symbol) unit, c.requires.sized.distances)

pub meet-requires-clause-asked : goal.meet-requires-clause-asked
meet-requires-clause-asked c =
    let unit : IsUnit c.args.asker.link.now.groups (Sym c.in-Reference.symbol) = c.requires.inside.target (Sym c.in-Reference.symbol) (ap target_of c.in-Reference.is) in
    omega (arith, unit_within c.args.asker.link.now.groups (Sym c.in-Reference.symbol) unit, c.requires.sized.askers)

pub meet-requires-in-Some-clause-there : goal.meet-requires-in-Some-clause-there
meet-requires-in-Some-clause-there c =
    let unit : IsUnit c.args.asker.link.now.groups (Sec c.in-Section.file c.in-Section.index) = c.requires.inside.target (Sec c.in-Section.file c.in-Section.index) (ap target_of c.in-Section.is) in
    let number = c.in-Some.ensures in
    omega (arith, number.1, unit_within c.args.asker.link.now.groups (Sec c.in-Section.file c.in-Section.index) unit, c.requires.sized.distances)

pub meet-requires-in-Some-clause-asked : goal.meet-requires-in-Some-clause-asked
meet-requires-in-Some-clause-asked c =
    let unit : IsUnit c.args.asker.link.now.groups (Sec c.in-Section.file c.in-Section.index) = c.requires.inside.target (Sec c.in-Section.file c.in-Section.index) (ap target_of c.in-Section.is) in
    let number = c.in-Some.ensures in
    omega (arith, number.1, unit_within c.args.asker.link.now.groups (Sec c.in-Section.file c.in-Section.index) unit, c.requires.sized.askers)

pub meet-requires-in-Some-clause-few : goal.meet-requires-in-Some-clause-few
meet-requires-in-Some-clause-few c =
    let unit : IsUnit c.args.asker.link.now.groups (Sec c.in-Section.file c.in-Section.index) = c.requires.inside.target (Sec c.in-Section.file c.in-Section.index) (ap target_of c.in-Section.is) in
    let number = c.in-Some.ensures in
    omega (arith, number.1, unit_within c.args.asker.link.now.groups (Sec c.in-Section.file c.in-Section.index) unit, units_few c.args.asker.link.now c.requires.well_formed)

pub returns-in-Reference : goal.returns-in-Reference
returns-in-Reference c =
    let link = c.args.asker.link.now in
    let old = c.args.self.now in
    let new = c.meet.new.self in
    let unit : IsUnit link.groups (Sym c.in-Reference.symbol) = c.requires.inside.target (Sym c.in-Reference.symbol) (ap target_of c.in-Reference.is) in
    let target : (asking link).target c.args.ask ≡ Some c.as_usize.result = ap (asking link).target c.in-Reference.is ∙ ap Some (sym c.as_usize.ensures) in
    let within : c.as_usize.result < (asking link).count = omega (arith, unit_within link.groups (Sym c.in-Reference.symbol) unit) in
    on_ok c.meet.result (Meets c.as_usize.result c.args.asker.number c.args.asker.distance old new) (Takes (asking link) c.args.asker.distance (with_asker c.args.asker.number (c.args.ask ∷ [])) old new) c.meet.ensures
    (takes_met (asking link) c.args.asker.distance c.args.asker.number c.as_usize.result c.args.ask old new c.requires.distance target c.requires.sized within c.requires.below)

pub returns-in-Some : goal.returns-in-Some
returns-in-Some c =
    let link = c.args.asker.link.now in
    let old = c.args.self.now in
    let new = c.meet-in-Some.new.self in
    let unit : IsUnit link.groups (Sec c.in-Section.file c.in-Section.index) = c.requires.inside.target (Sec c.in-Section.file c.in-Section.index) (ap target_of c.in-Section.is) in
    let number = c.in-Some.ensures in
    let target : (asking link).target c.args.ask ≡ Some c.in-Some.number = ap (asking link).target c.in-Section.is ∙ ap Some (sym number.1) in
    let within : c.in-Some.number < (asking link).count = omega (arith, number.1, unit_within link.groups (Sec c.in-Section.file c.in-Section.index) unit) in
    on_ok c.meet-in-Some.result (Meets c.in-Some.number c.args.asker.number c.args.asker.distance old new) (Takes (asking link) c.args.asker.distance (with_asker c.args.asker.number (c.args.ask ∷ [])) old new) c.meet-in-Some.ensures
    (takes_met (asking link) c.args.asker.distance c.args.asker.number c.in-Some.number c.args.ask old new c.requires.distance target c.requires.sized within c.requires.below)

pub returns-in-None : goal.returns-in-None
returns-in-None c =
    let unit : IsUnit c.args.asker.link.now.groups (Sec c.in-Section.file c.in-Section.index) = c.requires.inside.target (Sec c.in-Section.file c.in-Section.index) (ap target_of c.in-Section.is) in
    let file = unit_file c.args.asker.link.now.groups c.in-Section.file c.in-Section.index unit in
    absurd (c.in-None.ensures (is_there c.args.asker.link.now.groups c.in-Section.file file.0 file.1))
