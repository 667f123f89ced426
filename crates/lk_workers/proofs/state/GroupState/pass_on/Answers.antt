use Rattle.std.proofs.Common.{rules, ◌≡◌, Some, sym, subst}
use Rattle.lk_slot_link.specs.LinkGraphs.{unit_group}
use Rattle.lk_workers.specs.Items.{AreOwn, IsOwn, unit_of}
use Rattle.lk_workers.proofs.Doing.{own_more}
use Rattle.lk_workers.proofs.state.GroupState.pass_on.Goals as goal

pub invariant_of-self-then-group-own : goal.invariant_of-self-then-group-own
invariant_of-self-then-group-own g c =
    let lists = g.J.Reach.lists in
    let own = c.self.inside.group in
    let same : unit_group lists.groups (Some (unit_of c.args.item)) ≡ own = search rules in
    let is : IsOwn lists own c.args.item = record { meant = c.requires.meant; own = same } in (
      subst (AreOwn lists own) (sym c.in_ok-push.ensures.added) (own_more lists own c.self.inside.items c.args.item c.self.invariant.0 is),
      c.self.invariant.1,
      c.self.invariant.2,
    )
