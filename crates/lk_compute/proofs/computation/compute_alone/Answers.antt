use Rattle.std.proofs.Common.{refl}
use Rattle.lk_layout.specs.Machines.{platform_machine}
use Rattle.lk_layout.proofs.Answering.{handed_on}
use Rattle.lk_compute.proofs.computation.compute_alone.Goals as goal

pub returns-in_err-check : goal.returns-in_err-check
returns-in_err-check g c =
    let machine = platform_machine (g.P.Platform.segment_start c.args.platform.now) (g.P.Platform.table_sizes c.args.platform.now) (g.A.Arch.config_of c.args.arch.now) in
    handed_on machine c.args.link.now c.in_err-check.field-0.0 c.from_residual.result c.from_residual.ensures.1 (c.in_err-check.ensures machine)

pub returns-in_err-images : goal.returns-in_err-images
returns-in_err-images g c =
    let machine = platform_machine (g.P.Platform.segment_start c.args.platform.now) (g.P.Platform.table_sizes c.args.platform.now) (g.A.Arch.config_of c.args.arch.now) in
    handed_on machine c.args.link.now c.in_err-images.field-0.0 c.from_residual-in_err-images.result c.from_residual-in_err-images.ensures.1 (c.in_err-images.ensures machine)

pub returns-in_err-kept : goal.returns-in_err-kept
returns-in_err-kept g c =
    let machine = platform_machine (g.P.Platform.segment_start c.args.platform.now) (g.P.Platform.table_sizes c.args.platform.now) (g.A.Arch.config_of c.args.arch.now) in
    handed_on machine c.args.link.now c.in_err-kept.field-0.0 c.from_residual-in_err-kept.result c.from_residual-in_err-kept.ensures.1 (c.in_err-kept.ensures machine)

pub merge-requires : goal.merge-requires
merge-requires g c =
    let machine = platform_machine (g.P.Platform.segment_start c.args.platform.now) (g.P.Platform.table_sizes c.args.platform.now) (g.A.Arch.config_of c.args.arch.now) in
    record { checked = c.in_ok-check.ensures machine }

pub keep-requires : goal.keep-requires
keep-requires g c =
    let machine = platform_machine (g.P.Platform.segment_start c.args.platform.now) (g.P.Platform.table_sizes c.args.platform.now) (g.A.Arch.config_of c.args.arch.now) in
    record { merged = c.in_ok-images.ensures machine }

pub lay_out-requires : goal.lay_out-requires
lay_out-requires g c κs =
    let machine = platform_machine (g.P.Platform.segment_start c.args.platform.now) (g.P.Platform.table_sizes c.args.platform.now) (g.A.Arch.config_of c.args.arch.now) in
    ((refl, tt), c.in_ok-kept.ensures machine)
