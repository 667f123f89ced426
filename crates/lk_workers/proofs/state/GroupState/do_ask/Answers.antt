use Rattle.std.proofs.Common.{rules, ◌≡◌, refl, sym, subst}
use Rattle.lk_link.specs.declared.flags.TheConstants.ValueFlags as flag
use Rattle.lk_reach.specs.declared.units.Ask.TheVariants as ask
use Rattle.lk_workers.specs.Asked.{IsMet}
use Rattle.lk_workers.specs.Items.{IsMeant}
use Rattle.lk_workers.specs.declared.work.WorkItem.TheVariants.{LoadGcUnit}
use Rattle.lk_workers.proofs.Asked.{export_meant, section_meant}
use Rattle.lk_workers.proofs.state.GroupState.do_ask.Goals as goal

pub pass_on-requires : goal.pass_on-requires
pass_on-requires g c =
    let lists = g.J.Reach.lists in
    let met : IsMet lists (ask.Reference c.in-Reference.symbol c.in-Reference.flags) = subst (IsMet lists) c.in-Reference.is c.requires.met in
    let export : c.in-Reference.flags.0 ≡ flag.EXPORT_DYNAMIC.0 = search rules in
    record { meant = export_meant lists c.in-Reference.symbol c.in-Reference.flags met export }

pub pass_on-requires-in-Section : goal.pass_on-requires-in-Section
pass_on-requires-in-Section g c =
    let lists = g.J.Reach.lists in
    let met : IsMet lists (ask.Section c.in-Section.file_id c.in-Section.index) = subst (IsMet lists) c.in-Section.is c.requires.met in
    record { meant = subst (λ n. IsMeant lists (LoadGcUnit (record { file_id = c.in-Section.file_id; gc_unit = n }))) (sym c.new-gc_unit.ensures) (section_meant lists c.in-Section.file_id c.in-Section.index met) }

pub set-requires-clause-there : goal.set-requires-clause-there
set-requires-clause-there g c =
    let lists = g.J.Reach.lists in
    let met : IsMet lists (ask.Mark c.in-Mark.symbol c.in-Mark.flags) = subst (IsMet lists) c.in-Mark.is c.requires.met in
    met.inside.symbol (c.in-Mark.symbol, c.in-Mark.flags.0) refl

pub set-requires-clause-bounded : goal.set-requires-clause-bounded
set-requires-clause-bounded g c =
    let lists = g.J.Reach.lists in
    let met : IsMet lists (ask.Mark c.in-Mark.symbol c.in-Mark.flags) = subst (IsMet lists) c.in-Mark.is c.requires.met in
    met.flags (c.in-Mark.symbol, c.in-Mark.flags.0) refl
