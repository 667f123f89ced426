use Rattle.std.proofs.Common.{◌∙◌}
use Rattle.lk_layout.specs.Machines.{platform_machine}
use Rattle.lk_layout.specs.Made.{made_filling}
use Rattle.lk_layout.specs.Stages.{made_spanned}
use Rattle.lk_compute.proofs.Valuing.{valued}
use Rattle.lk_compute.proofs.job.JobFinds.valued.Goals as goal

pub addresses_of-requires-clause-merged : goal.addresses_of-requires-clause-merged
addresses_of-requires-clause-merged g c = c.as_slice-merged.ensures ∙ c.requires.spanned.placed.kept.merged.are.sections

pub returns : goal.returns
returns g c =
    let machine = platform_machine (g.P.Platform.segment_start c.args.self.now.platform.now) (g.P.Platform.table_sizes c.args.self.now.platform.now) (g.A.Arch.config_of c.args.self.now.arch.now) in
    let is = c.requires.spanned in
    let filling = made_filling (made_spanned is) in
    let told = c.in_ok-found.ensures in
    valued machine c.args.self.now.link.now c.args.spanned.now is c.placed_parts-parts.result.parts.now c.placed_parts-parts.result.deltas.now c.placed_parts-parts.result.edges.now c.in_ok-found.found
    (c.placed_parts-parts.ensures.parts is) (c.placed_parts-parts.ensures.deltas is) (c.placed_parts-parts.ensures.edges ∙ c.in_ok-edges.ensures is)
    (told.sections filling is.placed.owners) (told.blocks filling is.placed.owners) (told.buckets filling is.placed.owners) (told.resolutions filling is.placed.owners)
