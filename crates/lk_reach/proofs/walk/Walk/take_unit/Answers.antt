use Rattle.std.proofs.Common.{◌≡◌, sym, subst}
use Rattle.lk_reach.specs.declared.units.Unit.TheVariants.{Sym, Sec}
use Rattle.lk_reach.specs.Units.{follows}
use Rattle.lk_reach.specs.Walking.{Adds}
use Rattle.lk_reach.proofs.EdgeLemmas.{asked_more}
use Rattle.lk_reach.proofs.GroupLemmas.{taken_more}
use Rattle.lk_reach.proofs.walk.Walk.take_unit.Goals as goal

pub returns-in_ok-take_symbol-in-Sym : goal.returns-in_ok-take_symbol-in-Sym
returns-in_ok-take_symbol-in-Sym c =
    let link = c.args.link.now in
    let old = c.args.self.now in
    let new = c.take_symbol.new.self in
    let took = c.in_ok-take_symbol-in-Sym.ensures in
    let same : c.args.unit ≡ Sym c.in-Sym.symbol = c.in-Sym.is in
    let adds : Adds link (follows link c.args.unit) old new = subst (λ u. Adds link (follows link u) old new) (sym same) took.0 in
    (adds, taken_more link c.args.taken.now.items (follows link c.args.unit) old new c.requires.taken adds, took.1)

pub returns-in_ok-take_section-in-Sec : goal.returns-in_ok-take_section-in-Sec
returns-in_ok-take_section-in-Sec c =
    let link = c.args.link.now in
    let old = c.args.self.now in
    let new = c.take_section.new.self in
    let took = c.in_ok-take_section-in-Sec.ensures in
    let same : c.args.unit ≡ Sec c.in-Sec.file c.in-Sec.index = c.in-Sec.is in
    let adds : Adds link (follows link c.args.unit) old new = subst (λ u. Adds link (follows link u) old new) (sym same) took.0 in
    (adds, took.1, asked_more link c.args.edges.now.taken.items (follows link c.args.unit) old new c.requires.edges adds)
