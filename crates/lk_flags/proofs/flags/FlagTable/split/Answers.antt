use Rattle.std.proofs.Common.{rules, ◌<◌, ap, ◌∙◌, sym, subst}
use Rattle.lk_flags.specs.Flags.{Pass}
use Rattle.lk_flags.proofs.Keeping.{split_keeps}
use Rattle.lk_flags.proofs.flags.FlagTable.split.Goals as goal

pub split_seat-requires : goal.split_seat-requires
split_seat-requires g c = (
  ap (λ (p : Pass). p.table) c.pass.view_is ∙ c.requires.own ∙ sym c.self.view_is,
  search rules,
  split_keeps g.J.Reach.lists.handed g.J.Reach.lists.words c.pass.inside.seat.id c.pass.inside.seat.me.0
      (subst (λ (p : Pass). 1 < p.parts) (sym c.pass.view_is) c.requires.parts),
)
