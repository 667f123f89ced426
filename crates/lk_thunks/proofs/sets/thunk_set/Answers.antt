use Rattle.std.proofs.Common.{◌+◌, arith, take, ◌∙◌}
use Rattle.std.specs.List.{list_any}
use Rattle.lk_reach.proofs.SymbolNumbers.{symbols_few}
use Rattle.lk_reach.proofs.UnitLemmas.{symbols_length}
use Rattle.lk_thunks.specs.Noting.{planning_of}
use Rattle.lk_thunks.specs.ThunkSets.{needs_thunk}
use Rattle.lk_thunks.proofs.Noting.{block_made}
use Rattle.lk_thunks.proofs.sets.thunk_set.Goals as goal

pub add_elsewhere-requires : goal.add_elsewhere-requires
add_elsewhere-requires c =
    let link = c.args.by.now.link.now in
    omega (arith, c.requires.marks.count, symbols_few link c.requires.good, symbols_length link.groups)

pub returns-clause-set : goal.returns-clause-set
returns-clause-set c =
    let by = planning_of c.args.by.now in
    let i = c.loop-object.object-index in
    let noted = c.in_ok-add_elsewhere.ensures.noted (λ d. list_any (needs_thunk by d) (take i c.args.objects.now)) c.loop-object.invariant.1 in
    block_made by c.args.number c.args.objects.now c.args.by.now.elsewhere.now i (c.args.number + 1) c.add_elsewhere.new.stamps c.add_elsewhere.new.set.items c.in_ok-block.block.symbols c.loop-object-test.false
    c.requires.marks (c.in_ok-add_elsewhere.ensures.count ∙ c.loop-object.invariant.0 ∙ c.requires.stamps.count) noted c.in_ok-block.ensures

pub returns-clause-stamps : goal.returns-clause-stamps
returns-clause-stamps c =
    let by = planning_of c.args.by.now in
    let noted = c.in_ok-add_elsewhere.ensures.noted (λ d. list_any (needs_thunk by d) (take c.loop-object.object-index c.args.objects.now)) c.loop-object.invariant.1 in
    record { count = c.in_ok-add_elsewhere.ensures.count ∙ c.loop-object.invariant.0 ∙ c.requires.stamps.count; few = noted.few }
