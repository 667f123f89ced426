use Rattle.std.proofs.Common.{◌||◌, take, sym, ◌∙◌}
use Rattle.std.specs.List.{enumerate_from, list_any}
use Rattle.lk_thunks.specs.Noting.{planning_of}
use Rattle.lk_thunks.specs.ThunkSets.{is_needed_for}
use Rattle.lk_thunks.proofs.Noting.{all_numbered, numbered_more}
use Rattle.lk_thunks.proofs.sets.add_symbols.Goals as goal

pub loop-index-preserved : goal.loop-index-preserved
loop-index-preserved c =
    let needed = is_needed_for (planning_of c.args.user.now.by.now) c.args.user.now.object in (
      c.in_ok-add_symbol.ensures.count ∙ c.loop-index.invariant.0,
      λ test given.
          numbered_more needed c.args.symbols.now c.args.first c.loop-index.index c.index-symbols-index.result c.from_u32-number.result test c.args.user.now.stamp c.add_symbol.new.stamps c.add_symbol.new.set.items
          c.loop-index-test.true (sym c.index-symbols-index.is) c.from_u32-number.ensures
          (c.in_ok-add_symbol.ensures.noted (λ d. test d || list_any (needed d) (take c.loop-index.index (enumerate_from c.args.first c.args.symbols.now))) (c.loop-index.invariant.1 test given)),
    )

pub returns-clause-noted : goal.returns-clause-noted
returns-clause-noted c = λ test given.
    all_numbered (is_needed_for (planning_of c.args.user.now.by.now) c.args.user.now.object) c.args.symbols.now c.args.first c.loop-index.index test c.args.user.now.stamp c.loop-index.stamps c.loop-index.set.items c.loop-index-test.false (c.loop-index.invariant.1 test given)
