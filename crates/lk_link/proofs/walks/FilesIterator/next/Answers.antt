use Rattle.std.proofs.Common.{◌≡◌, ◌∷◌, length, arith, ap, ◌∙◌, sym}
use Rattle.std.proofs.lemmas.Grind.{common_steps}
use Rattle.lk_link.proofs.InputLemmas.{next_group}
use Rattle.lk_link.proofs.walks.FilesIterator.next.Goals as goal

pub loop-self-preserved : goal.loop-self-preserved
loop-self-preserved c =
    let none : length c.loop-self.self-inside.files.now ≡ 0 = grind (arith, common_steps) in
    let front = c.in_ok-files.ensures.cases.0 in
    let groups : c.loop-self.self-inside.groups.now ≡ c.as_slice-self-inside.result.now ∷ c.in_ok-files.groups.now =
    front ∙ ap (λ fs. fs ∷ c.in_ok-files.groups.now) (sym c.as_slice-self-inside.ensures) in
    next_group c.loop-self.self-inside.group c.loop-self.self-inside.file c.loop-self.self-inside.files.now c.as_slice-self-inside.result.now c.loop-self.self-inside.groups.now c.in_ok-files.groups.now _ none groups c.loop-self.invariant
