use Rattle.std.proofs.Common.{◌≡◌, ℕ, Option, get_or, sum_by, take, refl, sym, ap, ◌∙◌, arith}
use Rattle.std.specs.List.{zip}
use Rattle.lk_link.specs.PartRules.{table_parts}
use Rattle.lk_tables.specs.HeaderParts.{told_sum}
use Rattle.lk_tables.specs.TotalSteps.{all_totals, bytes_if}
use Rattle.lk_tables.proofs.PartBytes.{part_more, told_parts}
use Rattle.lk_tables.proofs.totals.bytes_in_part.Goals as goal

pub loop-table-preserved : goal.loop-table-preserved
loop-table-preserved c =
    let named = c.args.named.now in
    let totals = c.args.totals.now in
    let f = bytes_if c.args.part in
    let i = c.loop-table.table in
    let x = c.index-parts-table.result in
    let ns = table_parts named in
    let bs = all_totals totals in
    let read : x ≡ get_or ns i x = c.index-parts-table.is ∙ ap (λ xs. get_or xs i x) c.table_parts-parts.ensures in
    let more = part_more f ns bs i x refl refl refl c.loop-table-test.true read in
    let here : c.bytes_if.result ≡ f (x, get_or bs i 0) = c.bytes_if.ensures ∙ ap (λ (y : Option ℕ). f (y, get_or c.all_totals-bytes.result i 0)) (sym c.index-parts-table.is)
    ∙ ap (λ xs. f (x, get_or xs i 0)) c.all_totals-bytes.ensures in
    omega (arith, c.saturating_add-sum.ensures, c.loop-table.invariant, here, more)

pub returns : goal.returns
returns c = λ lists h.
    let named = c.args.named.now in
    let totals = c.args.totals.now in
    let end : c.loop-table.table ≡ 11 = omega (arith, c.loop-table-test.false, c.loop-table.auto.table-end) in
    c.loop-table.invariant
    ∙ ap (λ (n : ℕ). told_sum (sum_by (bytes_if c.args.part) (take n (zip (table_parts named) (all_totals totals))))) end
    ∙ told_parts named totals lists c.args.part h
