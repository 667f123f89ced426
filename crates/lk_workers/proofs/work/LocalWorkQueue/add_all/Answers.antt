use Rattle.std.proofs.Common.{◌++◌, ap, ◌∙◌}
use Rattle.std.specs.Option.{option_to_list}
use Rattle.lk_workers.proofs.WorkLemmas.{items_next}
use Rattle.lk_workers.proofs.work.LocalWorkQueue.add_all.Goals as goal

pub loop-ask-preserved : goal.loop-ask-preserved
loop-ask-preserved c =
    items_next c.args.self.now c.loop-ask.self c.add_item.new.self c.loop-ask.yielded c.in-Some.ask c.loop-ask.invariant
    (c.in_ok-add_item.ensures.added ∙ ap (λ o. c.loop-ask.self ++ option_to_list o) c.item_of.ensures)
