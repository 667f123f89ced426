use Rattle.std.proofs.Common.{◌≡◌, ◌+◌, ◌<◌, ◌^◌, None, sym, ◌∙◌}
use Rattle.std.proofs.lemmas.List.Elements.{All-rest}
use Rattle.lk_link.specs.declared.relocation.Relocation.{Relocation}
use Rattle.lk_reach.specs.Units.{range_mark, reference}
use Rattle.lk_reach.proofs.SuccessorLemmas.{none_from, passed_over}
use Rattle.lk_reach.proofs.asks.RelocationAsksIterator.next.Goals as goal

pub invariant_of-self-in-Some-reference : goal.invariant_of-self-in-Some-reference
invariant_of-self-in-Some-reference c =
    All-rest (λ (r : Relocation). c.loop-relocation.self-inside.first + r.symbol < 2 ^ 32) c.in-Some-split_first.relocation.now c.in-Some-split_first.relocs.now
    c.loop-relocation.self-inside.relocs.now c.in-Some-split_first.ensures.cases.0 c.loop-relocation.invariant.2

pub invariant_of-self-then-is_some : goal.invariant_of-self-then-is_some
invariant_of-self-then-is_some c =
    All-rest (λ (r : Relocation). c.loop-relocation.self-inside.first + r.symbol < 2 ^ 32) c.in-Some-split_first.relocation.now c.in-Some-split_first.relocs.now
    c.loop-relocation.self-inside.relocs.now c.in-Some-split_first.ensures.cases.0 c.loop-relocation.invariant.2

pub loop-relocation-preserved : goal.loop-relocation-preserved
loop-relocation-preserved c =
    let self = c.loop-relocation.self-inside in
    let r : Relocation = c.in-Some-split_first.relocation.now in
    let no_reference : reference self.first self.symbols.now r ≡ None = sym c.reference.ensures ∙ c.in_default-reference.is in
    let no_mark : range_mark self.primary self.first r ≡ None = sym c.range_mark-mark.ensures ∙ none_from c.range_mark-mark.result (sym c.is_some.ensures ∙ c.if-is_some.false) in (
      c.loop-relocation.invariant.0,
      passed_over self.primary self.first self.symbols.now r self.relocs.now c.in-Some-split_first.relocs.now _ c.in-Some-split_first.ensures.cases.0 no_reference no_mark
          c.loop-relocation.invariant.1,
      All-rest (λ (r : Relocation). self.first + r.symbol < 2 ^ 32) r c.in-Some-split_first.relocs.now self.relocs.now c.in-Some-split_first.ensures.cases.0
          c.loop-relocation.invariant.2,
    )
