use Rattle.lk_layout.specs.Machines.{platform_machine}
use Rattle.lk_layout.proofs.Answering.{handed_on}
use Rattle.lk_compute.proofs.computation.compute.Goals as goal

pub returns-in_err-check_by_groups : goal.returns-in_err-check_by_groups
returns-in_err-check_by_groups g c =
    let machine = platform_machine (g.P.Platform.segment_start c.args.platform.now) (g.P.Platform.table_sizes c.args.platform.now) (g.A.Arch.config_of c.args.arch.now) in
    handed_on machine c.args.link.now c.in_err-check_by_groups.field-0.0 c.from_residual.result c.from_residual.ensures.1 (c.in_err-check_by_groups.ensures machine)

pub returns-in_err-images : goal.returns-in_err-images
returns-in_err-images g c =
    let machine = platform_machine (g.P.Platform.segment_start c.args.platform.now) (g.P.Platform.table_sizes c.args.platform.now) (g.A.Arch.config_of c.args.arch.now) in
    handed_on machine c.args.link.now c.in_err-images.field-0.0 c.from_residual-in_err-images.result c.from_residual-in_err-images.ensures.1 (c.in_err-images.ensures machine)

pub returns-in_err-kept : goal.returns-in_err-kept
returns-in_err-kept g c =
    let machine = platform_machine (g.P.Platform.segment_start c.args.platform.now) (g.P.Platform.table_sizes c.args.platform.now) (g.A.Arch.config_of c.args.arch.now) in
    handed_on machine c.args.link.now c.in_err-kept.field-0.0 c.from_residual-in_err-kept.result c.from_residual-in_err-kept.ensures.1 (c.in_err-kept.ensures machine)

pub merge_by_workers-requires-clause-checked : goal.merge_by_workers-requires-clause-checked
merge_by_workers-requires-clause-checked g c κs within =
    let machine = platform_machine (g.P.Platform.segment_start c.args.platform.now) (g.P.Platform.table_sizes c.args.platform.now) (g.A.Arch.config_of c.args.arch.now) in
    c.in_ok-check_by_groups.ensures machine

pub keep_by_workers-requires-clause-merged : goal.keep_by_workers-requires-clause-merged
keep_by_workers-requires-clause-merged g c κs within =
    let machine = platform_machine (g.P.Platform.segment_start c.args.platform.now) (g.P.Platform.table_sizes c.args.platform.now) (g.A.Arch.config_of c.args.arch.now) in
    c.in_ok-images.ensures machine

pub lay_out_by_groups-requires-clause-kept : goal.lay_out_by_groups-requires-clause-kept
lay_out_by_groups-requires-clause-kept g c κs within =
    let machine = platform_machine (g.P.Platform.segment_start c.args.platform.now) (g.P.Platform.table_sizes c.args.platform.now) (g.A.Arch.config_of c.args.arch.now) in
    c.in_ok-kept.ensures machine
