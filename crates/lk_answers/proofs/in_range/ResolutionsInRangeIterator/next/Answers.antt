use Rattle.std.proofs.Common.{◌≡◌, ◌∙◌, ◌-◌, ◌+◌, ◌<◌, List, ◌∷◌, Option, None, drop, take, length, sym, ap, arith}
use Rattle.lk_link.specs.declared.resolution.Resolution.{Resolution}
use Rattle.lk_answers.proofs.Querying.{first_left, some_there}
use Rattle.lk_answers.proofs.in_range.ResolutionsInRangeIterator.next.Goals as goal

pub returns-clause-steps : goal.returns-clause-steps
returns-clause-steps c =
    let all : List (Option Resolution) = c.self.inside.resolutions.now in
    let many : length (take c.self.inside.count (drop c.self.inside.start all)) ≡ length c.args.self.now = ap length c.self.view_is in
    let some : 0 < length (take c.self.inside.count (drop c.self.inside.start all)) = omega (arith, many, some_there (length c.args.self.now) (sym c.if-is_empty.ensures)) in
    sym c.self.view_is ∙ first_left all c.self.inside.start c.self.inside.count None some
    ∙ ap (λ o. o ∷ take (c.self.inside.count - 1) (drop (c.self.inside.start + 1) all)) (sym c.nth-first.ensures)
