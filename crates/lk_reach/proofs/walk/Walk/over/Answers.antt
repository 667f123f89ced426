use Rattle.std.proofs.Common.{◌≡◌, false, length, replicate, sym, ap, ◌∙◌, subst, arith}
use Rattle.lk_link.specs.Inputs.{all_inputs}
use Rattle.lk_link.proofs.InputLemmas.{inputs_follow}
use Rattle.lk_reach.specs.Walking.{AreAsked, AreTaken}
use Rattle.lk_reach.proofs.EdgeLemmas.{asked_none}
use Rattle.lk_reach.proofs.GroupLemmas.{none_taken}
use Rattle.lk_reach.proofs.SymbolNumbers.{inputs_few}
use Rattle.lk_reach.proofs.WalkLemmas.{start_sized, walked, walking_from}
use Rattle.lk_reach.proofs.walk.Walk.over.Goals as goal

pub take_roots-requires-clause-sized : goal.take_roots-requires-clause-sized
take_roots-requires-clause-sized c = start_sized c.args.link.now _ c.in_ok-walk.ensures

pub take_stack-requires-clause-walking : goal.take_stack-requires-clause-walking
take_stack-requires-clause-walking c = walking_from c.args.link.now _ _ c.requires c.in_ok-walk.ensures c.in_ok-take_roots.ensures

pub take_stack-requires-clause-taken : goal.take_stack-requires-clause-taken
take_stack-requires-clause-taken c =
    let link = c.args.link.now in
    let count : c.input_count.result ≡ length (all_inputs link.groups) = omega (arith, inputs_follow.count link.groups, inputs_few link c.requires) in
    subst (λ ms. AreTaken link ms c.take_roots.new.self.marks.items) (sym (c.in_ok-taken.ensures ∙ ap (λ n. replicate n false) count)) (none_taken link c.take_roots.new.self.marks.items)

pub take_stack-requires-clause-edges : goal.take_stack-requires-clause-edges
take_stack-requires-clause-edges c =
    let link = c.args.link.now in
    let walk = c.take_roots.new.self in
    subst (λ ms. AreAsked link ms walk) (sym c.in_ok-edges.ensures) (asked_none link _ walk)

pub returns : goal.returns
returns c = walked c.args.link.now _ c.in_ok-take_stack.ensures.0 c.in_ok-take_stack.ensures.1
