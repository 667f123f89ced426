use Rattle.std.proofs.Common.{rules, ap, ◌∙◌, sym}
use Rattle.lk_flags.specs.Flags.{Pass}
use Rattle.lk_flags.proofs.Keeping.{set_keeps}
use Rattle.lk_flags.proofs.flags.FlagTable.set.Goals as goal

pub fetch_or-requires : goal.fetch_or-requires
fetch_or-requires g c = (
  ap (λ (p : Pass). p.table) c.pass.view_is ∙ c.requires.own ∙ sym c.self.view_is,
  search rules,
  set_keeps g.J.Reach.lists.handed g.J.Reach.lists.words c.self.inside.table.shared.table_id.slots c.pass.inside.seat.id c.pass.inside.seat.me c.args.word c.args.bits c.requires.place c.requires.bounded
      c.pass.invariant.1,
)
