use Rattle.std.proofs.Common.{◌<◌, length, refl, sym, ◌∙◌, arith}
use Rattle.lk_link.specs.Marks.{is_marked}
use Rattle.lk_live.specs.KeptParts.{names_output}
use Rattle.lk_reach.proofs.Passing.{or_last}
use Rattle.lk_live.proofs.KeepLemmas.{symbol_next}
use Rattle.lk_live.proofs.named.keep_by_symbols.Goals as goal

pub loop-index-init : goal.loop-index-init
loop-index-init c = (refl, λ o lt. sym (or_last (is_marked c.args.kept.now.items o)))

pub loop-index-preserved : goal.loop-index-preserved
loop-index-preserved c = (
  c.keep_by_symbol.ensures.count ∙ c.loop-index.invariant.0,
  λ o lt.
      let before : o < length c.loop-index.kept.items = omega (arith, c.loop-index.invariant.0, lt) in
      symbol_next (names_output c.args.marks.now o) c.args.first c.loop-index.index c.args.symbols.now c.index-symbols-index.result (is_marked c.args.kept.now.items o) (is_marked c.loop-index.kept.items o)
      (is_marked c.keep_by_symbol.new.kept.items o) c.loop-index-test.true c.index-symbols-index.is (c.loop-index.invariant.1 o lt) (c.keep_by_symbol.ensures.marks o before),
)
