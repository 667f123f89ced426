use Rattle.std.proofs.Common.{sym, ◌∙◌}
use Rattle.lk_map.specs.Spans.{FindsOverlap}
use Rattle.lk_map.proofs.check.check_lines.Goals as goal

pub unheld_line-requires : goal.unheld_line-requires
unfolding FindsOverlap
unheld_line-requires c = record { rises = c.requires; ends = sym (c.in_default.ensures {u = tt}); apart = rw c.in_default-3.is at (c.in_ok-a-2.ensures {u = tt}) }

pub returns-in-Some-3 : goal.returns-in-Some-3
unfolding FindsOverlap
returns-in-Some-3 c = (sym (c.in_default.ensures {u = tt}), rw c.in_default-2.is at (c.in_ok-a.ensures {u = tt}), rw c.in-Some-3.is at (c.in_ok-a-2.ensures {u = tt}))

pub returns-in-Some-4 : goal.returns-in-Some-4
unfolding FindsOverlap
returns-in-Some-4 c =
    (sym (c.in_default.ensures {u = tt}), rw c.in_default-2.is at (c.in_ok-a.ensures {u = tt}), rw c.in_default-3.is at (c.in_ok-a-2.ensures {u = tt}), sym (c.in_ok-line.ensures {u = tt}) ∙ c.in-Some-4.is)

pub returns : goal.returns
unfolding FindsOverlap
returns c =
    (sym (c.in_default.ensures {u = tt}), rw c.in_default-2.is at (c.in_ok-a.ensures {u = tt}), rw c.in_default-3.is at (c.in_ok-a-2.ensures {u = tt}), sym (c.in_ok-line.ensures {u = tt}) ∙ c.in_default-4.is)
