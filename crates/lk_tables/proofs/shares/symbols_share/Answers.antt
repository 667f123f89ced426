use Rattle.std.proofs.Common.{◌∷◌, ◌++◌, [], ℕ, map, take, ap, ◌∙◌}
use Rattle.std.specs.List.{enumerate_from}
use Rattle.lk_link.specs.Walks.{file_of}
use Rattle.lk_tables.specs.ShareSteps.{sum_of, symbol_share}
use Rattle.lk_tables.proofs.ShareSums.{sum_next}
use Rattle.lk_tables.proofs.shares.symbols_share.Goals as goal

pub loop-index-preserved : goal.loop-index-preserved
loop-index-preserved g c =
    let each = symbol_share (g.P.Platform.table_sizes c.args.platform.now) c.args.given.link.now c.args.given.live.now c.args.given.told.now (file_of c.args.file) in
    let x = c.index-symbols-index.result in
    let i = c.loop-index.index in
    let far = map each (enumerate_from c.args.first (take i c.args.symbols.now)) in
    c.with_symbol-sum.ensures far c.loop-index.invariant
    ∙ ap (λ (n : ℕ). sum_of (far ++ each (n, x) ∷ [])) c.from_u32-number.ensures
    ∙ sum_next each c.args.first i c.args.symbols.now x c.loop-index-test.true c.index-symbols-index.is
