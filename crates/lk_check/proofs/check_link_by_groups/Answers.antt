use Rattle.lk_check.proofs.Bounds.{few_sections, few_segments, few_symbols, numbered}
use Rattle.lk_check.proofs.check_link_by_groups.Goals as goal

pub check_rules_by_groups-requires-clause-files : goal.check_rules_by_groups-requires-clause-files
check_rules_by_groups-requires-clause-files g c = λ lifetimes outlive. numbered c.args.link.now c.in_ok-check_limits_by_groups.field-0 c.in_ok-check_limits_by_groups.ensures

pub check_rules_by_groups-requires-clause-symbols : goal.check_rules_by_groups-requires-clause-symbols
check_rules_by_groups-requires-clause-symbols g c = λ lifetimes outlive. few_symbols c.args.link.now c.in_ok-check_limits_by_groups.field-0 c.in_ok-check_limits_by_groups.ensures

pub check_rules_by_groups-requires-clause-sections : goal.check_rules_by_groups-requires-clause-sections
check_rules_by_groups-requires-clause-sections g c = λ lifetimes outlive. few_sections c.args.link.now c.in_ok-check_limits_by_groups.field-0 c.in_ok-check_limits_by_groups.ensures

pub check_rules_by_groups-requires-clause-segments : goal.check_rules_by_groups-requires-clause-segments
check_rules_by_groups-requires-clause-segments g c = λ lifetimes outlive. few_segments c.args.link.now c.in_ok-check_limits_by_groups.field-0 c.in_ok-check_limits_by_groups.ensures
