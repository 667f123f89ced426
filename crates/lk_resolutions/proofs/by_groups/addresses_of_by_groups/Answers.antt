use Rattle.std.proofs.Common.{List, ℕ, sym, ap, ◌∙◌, subst}
use Rattle.lk_tables.specs.declared.numbers.DynamicNumbers.{DynamicNumbers}
use Rattle.lk_tables.specs.DynamicCounters.{AreNumbersAt}
use Rattle.lk_resolutions.specs.Tables.{AreMergedOf}
use Rattle.lk_resolutions.proofs.by_groups.addresses_of_by_groups.Goals as goal

pub resolve_by_groups-requires-clause-numbers : goal.resolve_by_groups-requires-clause-numbers
resolve_by_groups-requires-clause-numbers g c = λ lifetimes outlive.
    let tables = c.tables-tables.result in
    subst (λ (ns : DynamicNumbers). AreNumbersAt tables.merged.link.now tables.live.now tables.told.now 0 ns) (sym c.numbers.ensures) c.tables-tables.ensures.numbers

pub returns-clause-sections : goal.returns-clause-sections
returns-clause-sections g c = λ by h. ap (λ v. v.items) c.with_resolutions.ensures.sections ∙ (c.in_ok-found.ensures.found by h).sections

pub returns-clause-blocks : goal.returns-clause-blocks
returns-clause-blocks g c = λ by h. ap (λ v. v.items) c.with_resolutions.ensures.blocks ∙ (c.in_ok-found.ensures.found by h).blocks

pub returns-clause-buckets : goal.returns-clause-buckets
returns-clause-buckets g c = λ by h. c.with_resolutions.ensures.buckets ∙ (c.in_ok-found.ensures.found by h).buckets

pub returns-clause-belong : goal.returns-clause-belong
returns-clause-belong g c = subst (λ (bs : List ℕ). AreMergedOf c.args.link.now c.args.merged.now bs) (sym c.with_resolutions.ensures.buckets) c.in_ok-found.ensures.belong

pub returns-clause-resolutions : goal.returns-clause-resolutions
returns-clause-resolutions g c = λ by h. c.with_resolutions.ensures.resolutions ∙ c.tables-tables.ensures.resolutions by c.in_ok-resolutions.resolutions h c.in_ok-resolutions.ensures
