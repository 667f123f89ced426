use Rattle.std.proofs.Common.{rules, ◌≡◌, true, ap, ◌∙◌}
use Rattle.lk_workers.specs.Closings.{ClosedValue, are_groups_closed}
use Rattle.lk_workers.proofs.Covering.{closed_is_all}
use Rattle.lk_workers.proofs.closed.Closed.into_whole.Goals as goal

pub returns-clause-marks : goal.returns-clause-marks
returns-clause-marks g c =
    let v : ClosedValue = record { done = c.self.inside.done.items; words = c.self.inside.words.items } in
    let all : are_groups_closed c.args.self c.args.link.now ≡ true = search rules in
    let whole : are_groups_closed v c.args.link.now ≡ true = ap (λ (w : ClosedValue). are_groups_closed w c.args.link.now) c.self.view_is ∙ all in
    (closed_is_all g.J.Reach.lists c.args.link.now v c.requires c.self.invariant whole).0

pub returns-clause-words : goal.returns-clause-words
returns-clause-words g c =
    let v : ClosedValue = record { done = c.self.inside.done.items; words = c.self.inside.words.items } in
    let all : are_groups_closed c.args.self c.args.link.now ≡ true = search rules in
    let whole : are_groups_closed v c.args.link.now ≡ true = ap (λ (w : ClosedValue). are_groups_closed w c.args.link.now) c.self.view_is ∙ all in
    (closed_is_all g.J.Reach.lists c.args.link.now v c.requires c.self.invariant whole).1
