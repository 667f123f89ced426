use Rattle.std.proofs.Common.{◌≡◌, ◌≤◌, length, ap, arith}
use Rattle.lk_tables.specs.Dynamic.{dynamic_table}
use Rattle.lk_tables.proofs.TableLength.{few_entries}
use Rattle.lk_tables.proofs.dynamic.dynamic_table.Goals as goal

pub returns-clause-few : goal.returns-clause-few
returns-clause-few c =
    let link = c.args.link.now in
    let live = c.args.live.now in
    let told = c.as_slice-told.result.now in
    let same : length c.in_ok-table.table.items ≡ length (dynamic_table link live told) = ap length c.in_ok-table.ensures in
    let few : length (dynamic_table link live told) ≤ 33554432 = few_entries link live told c.requires.good in
    omega (arith, same, few)
