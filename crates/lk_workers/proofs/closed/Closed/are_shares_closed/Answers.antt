use Rattle.std.proofs.Common.{ap, ◌∙◌}
use Rattle.std.specs.List.{list_all}
use Rattle.lk_workers.proofs.Sharing.{shares_are_all}
use Rattle.lk_workers.proofs.closed.Closed.are_shares_closed.Goals as goal

pub returns : goal.returns
returns g c =
    c.are_all.ensures
    ∙ ap (list_all (λ b. b)) c.as_slice.ensures.value
    ∙ shares_are_all c.args.self.now c.args.link.now c.args.workers c.in_ok-shares.shares.items c.requires.some c.in_ok-shares.ensures.count c.in_ok-shares.ensures.each
