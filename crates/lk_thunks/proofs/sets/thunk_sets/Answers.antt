use Rattle.std.proofs.Common.{◌≡◌, ◌++◌, List, length, map, arith, ap}
use Rattle.std.specs.List.{enumerate_from}
use Rattle.lk_link.specs.Symbols.{all_symbols}
use Rattle.lk_reach.proofs.SymbolNumbers.{symbols_few}
use Rattle.lk_reach.proofs.UnitLemmas.{symbols_length}
use Rattle.lk_thunks.specs.declared.sets.ThunkBlock.{ThunkBlock}
use Rattle.lk_thunks.specs.Blocks.{objects_of}
use Rattle.lk_thunks.specs.Noting.{planning_of}
use Rattle.lk_thunks.specs.ThunkSets.{thunk_set}
use Rattle.lk_thunks.proofs.Noting.{fresh_first}
use Rattle.lk_thunks.proofs.sets.thunk_sets.Goals as goal

pub loop-number-init : goal.loop-number-init
loop-number-init c =
    let by = planning_of c.args.by.now in
    let link = c.args.by.now.link.now in
    let count : c.symbol_count.result ≡ length (all_symbols link.groups) = omega (arith, c.symbol_count.ensures, symbols_few link c.requires.good, symbols_length link.groups) in (
      fresh_first by c.symbol_count.result c.in_ok-stamps.stamps.items c.in_ok-stamps.ensures count,
      ap (λ (xs : List ThunkBlock). map (λ b. b.symbols) xs ++ map (λ q. thunk_set by q.0 (objects_of c.args.objects.now q.1)) (enumerate_from 0 c.args.blocks.now)) c.in_ok-sets.ensures.items,
    )
