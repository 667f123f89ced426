use Rattle.lk_layout.proofs.laws.machines_are_lawful.Goals as goal

pub returns : goal.returns
returns g c = record {
  target = record { after = g.met.P.Platform.starts_after c.args.platform.now; congruent = g.met.P.Platform.starts_congruent c.args.platform.now };
  sizes = g.met.P.Platform.sizes_are_lawful c.args.platform.now;
  thunks = c.configs_are_lawful.ensures;
}
