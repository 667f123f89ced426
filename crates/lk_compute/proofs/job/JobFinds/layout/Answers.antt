use Rattle.lk_layout.specs.Machines.{platform_machine}
use Rattle.lk_compute.proofs.Reaching.{from_told}
use Rattle.lk_compute.proofs.job.JobFinds.layout.Goals as goal

pub into_layout-requires : goal.into_layout-requires
into_layout-requires g c = record {
  told = (platform_machine (g.P.Platform.segment_start c.args.self.now.platform.now) (g.P.Platform.table_sizes c.args.self.now.platform.now) (g.A.Arch.config_of c.args.self.now.arch.now), c.requires.told);
}

pub returns : goal.returns
returns g c =
    let machine = platform_machine (g.P.Platform.segment_start c.args.self.now.platform.now) (g.P.Platform.table_sizes c.args.self.now.platform.now) (g.A.Arch.config_of c.args.self.now.arch.now) in
    from_told machine c.args.self.now.link.now c.args.told c.into_layout.result c.requires.told (c.into_layout.ensures machine c.requires.told)
