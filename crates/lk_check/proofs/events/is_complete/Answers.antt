use Rattle.std.proofs.Common.{arith}
use Rattle.std.proofs.lemmas.Grind.{common_steps}
use Rattle.lk_check.proofs.MarkLemmas.{complete}
use Rattle.lk_check.proofs.events.is_complete.Goals as goal

pub returns-then-all_marked-2 : goal.returns-then-all_marked-2
returns-then-all_marked-2 c = λ plan marks.
    let e = complete plan _ _ _ marks in
    grind (arith, common_steps)

pub returns-else-all_marked-2 : goal.returns-else-all_marked-2
returns-else-all_marked-2 c = λ plan marks.
    let e = complete plan _ _ _ marks in
    grind (arith, common_steps)
