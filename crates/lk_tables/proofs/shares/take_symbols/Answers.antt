use Rattle.std.proofs.Common.{◌∷◌, ◌++◌, [], ℕ, List, map, take, ap, ◌∙◌}
use Rattle.std.specs.List.{cons_option, enumerate_from, filter_map}
use Rattle.lk_link.specs.Walks.{file_of}
use Rattle.lk_tables.specs.declared.commons.Common.{Common}
use Rattle.lk_tables.specs.Commons.{common_of}
use Rattle.lk_tables.specs.ShareSteps.{sum_of, symbol_share}
use Rattle.lk_tables.proofs.CommonLists.{commons_next}
use Rattle.lk_tables.proofs.ShareSums.{sum_next}
use Rattle.lk_tables.proofs.shares.take_symbols.Goals as goal

pub loop-index-preserved : goal.loop-index-preserved
loop-index-preserved g c =
    let each = symbol_share (g.P.Platform.table_sizes c.args.platform.now) c.args.given.link.now c.args.given.live.now c.args.given.told.now (file_of c.args.file) in
    let of = common_of c.args.given.live.now c.args.file.file.now.kind in
    let x = c.index-symbols-index.result in
    let i = c.loop-index.index in
    let numbered = enumerate_from c.args.first (take i c.args.symbols.now) in
    let far = map each numbered in
    let old : List Common = c.args.commons.now.items in (
      c.with_symbol-sum.ensures far c.loop-index.invariant.0
          ∙ ap (λ (n : ℕ). sum_of (far ++ each (n, x) ∷ [])) c.from_u32-number.ensures
          ∙ sum_next each c.args.first i c.args.symbols.now x c.loop-index-test.true c.index-symbols-index.is,
      c.in_ok-push_common.ensures
          ∙ ap (λ (cs : List Common). cs ++ cons_option (of (c.from_u32-number.result, x)) []) c.loop-index.invariant.1
          ∙ ap (λ (n : ℕ). (old ++ filter_map of numbered) ++ cons_option (of (n, x)) []) c.from_u32-number.ensures
          ∙ commons_next of old c.args.first i c.args.symbols.now x c.loop-index-test.true c.index-symbols-index.is,
    )
