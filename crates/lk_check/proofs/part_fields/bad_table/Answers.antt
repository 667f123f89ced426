use Rattle.std.proofs.Common.{sym, ◌∙◌}
use Rattle.lk_check.proofs.TableLemmas.{finds_none, goes_on, stops}
use Rattle.lk_check.proofs.part_fields.bad_table.Goals as goal

pub returns-then-not-is_good_table : goal.returns-then-not-is_good_table
returns-then-not-is_good_table c =
    sym (stops c.args.plan.now c.args.tables.now c.loop-place.place c.index-tables-place.result c.requires c.loop-place-test.true c.index-tables-place.is (sym c.is_good_table.ensures ∙ c.if-not-is_good_table.true))
    ∙ c.loop-place.invariant

pub loop-place-preserved : goal.loop-place-preserved
loop-place-preserved c =
    sym (goes_on c.args.plan.now c.args.tables.now c.loop-place.place c.index-tables-place.result c.requires c.loop-place-test.true c.index-tables-place.is (sym c.is_good_table.ensures ∙ c.if-not-is_good_table.false))
    ∙ c.loop-place.invariant

pub returns : goal.returns
returns c = sym (finds_none c.args.plan.now c.args.tables.now c.loop-place.place c.requires c.loop-place-test.false) ∙ c.loop-place.invariant
