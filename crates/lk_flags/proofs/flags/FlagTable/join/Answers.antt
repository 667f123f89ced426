use Rattle.std.proofs.Common.{rules, ap, ◌∙◌, sym}
use Rattle.lk_flags.specs.Flags.{Pass}
use Rattle.lk_flags.proofs.Keeping.{join_keeps}
use Rattle.lk_flags.proofs.flags.FlagTable.join.Goals as goal

pub join_seat-requires : goal.join_seat-requires
join_seat-requires g c = (
  ap (λ (p : Pass). p.table) c.pass.view_is ∙ c.requires.own ∙ sym c.self.view_is,
  ap (λ (p : Pass). p.table) c.other.view_is ∙ c.requires.same ∙ sym c.self.view_is,
  c.other.invariant.0,
  search rules,
  join_keeps g.J.Reach.lists.handed g.J.Reach.lists.words c.pass.inside.seat.id c.pass.inside.seat.me.0 c.other.inside.seat.id c.other.inside.seat.me.0,
)
