use Rattle.std.proofs.Common.{refl, subst}
use Rattle.lk_reach.specs.declared.units.Ask.TheVariants as ask
use Rattle.lk_reach.specs.declared.units.Unit.TheVariants.{Sec, Sym}
use Rattle.lk_reach.specs.Marks.{IsInside}
use Rattle.lk_workers.proofs.closed.Closed.is_met.Goals as goal

pub is_done-requires-clause-there : goal.is_done-requires-clause-there
is_done-requires-clause-there g c =
    let inside : IsInside c.args.link.now.groups (ask.Reference c.in-Reference.symbol c.in-Reference.flags) = subst (IsInside c.args.link.now.groups) c.in-Reference.is c.requires.inside in
    inside.target (Sym c.in-Reference.symbol) refl

pub has_flags-requires-clause-there : goal.has_flags-requires-clause-there
has_flags-requires-clause-there g c =
    let inside : IsInside c.args.link.now.groups (ask.Reference c.in-Reference.symbol c.in-Reference.flags) = subst (IsInside c.args.link.now.groups) c.in-Reference.is c.requires.inside in
    inside.symbol (c.in-Reference.symbol, c.in-Reference.flags.0) refl

pub is_done-requires-in-Section-clause-there : goal.is_done-requires-in-Section-clause-there
is_done-requires-in-Section-clause-there g c =
    let inside : IsInside c.args.link.now.groups (ask.Section c.in-Section.file c.in-Section.index) = subst (IsInside c.args.link.now.groups) c.in-Section.is c.requires.inside in
    inside.target (Sec c.in-Section.file c.in-Section.index) refl

pub has_flags-requires-in-Mark-clause-there : goal.has_flags-requires-in-Mark-clause-there
has_flags-requires-in-Mark-clause-there g c =
    let inside : IsInside c.args.link.now.groups (ask.Mark c.in-Mark.symbol c.in-Mark.flags) = subst (IsInside c.args.link.now.groups) c.in-Mark.is c.requires.inside in
    inside.symbol (c.in-Mark.symbol, c.in-Mark.flags.0) refl
