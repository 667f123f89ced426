use Rattle.std.proofs.Common.{ℕ, List, length, ap, ◌∙◌}
use Rattle.lk_thunk_plan.specs.ThunkPlans.{planned_sets}
use Rattle.lk_sizes.specs.Owners.{Filling}
use Rattle.lk_tables.specs.declared.header_info.HeaderInfo.{HeaderInfo}
use Rattle.lk_thunk_plan.specs.Branches.{owners_of_blocks}
use Rattle.lk_resolutions.specs.OutputContent.{output_filling}
use Rattle.lk_link.specs.declared.link.LinkInput.{LinkInput}
use Rattle.lk_group_starts.specs.GroupStarts.{group_starts}
use Rattle.lk_layout.specs.Machines.{platform_machine}
use Rattle.lk_sizes.specs.Contents.{contents_of}
use Rattle.lk_layout.specs.Made.{Made, made_filling}
use Rattle.lk_layout.specs.Stages.{made_reaching}
use Rattle.lk_resolutions.proofs.PartCounts.{length-by_part}
use Rattle.lk_compute.proofs.job.JobFinds.completed.Goals as goal

pub attributes_of_contents-requires-clause-count : goal.attributes_of_contents-requires-clause-count
attributes_of_contents-requires-clause-count g c =
    let machine = platform_machine (g.P.Platform.segment_start c.args.self.now.platform.now) (g.P.Platform.table_sizes c.args.self.now.platform.now) (g.A.Arch.config_of c.args.self.now.arch.now) in
    let link : LinkInput = c.args.self.now.link.now in
    let made : Made = made_reaching c.requires.reaching in
    ap length (c.contents.ensures ∙ c.requires.reaching.branched.addressed.spanned.placed.owners.contents)
    ∙ length-by_part (contents_of (made_filling made)) link

pub group_starts-requires-clause-shares : goal.group_starts-requires-clause-shares
group_starts-requires-clause-shares g c = c.shares-shares.ensures ∙ c.requires.reaching.branched.addressed.spanned.placed.owners.shares

pub returns : goal.returns
returns g c =
    let machine = platform_machine (g.P.Platform.segment_start c.args.self.now.platform.now) (g.P.Platform.table_sizes c.args.self.now.platform.now) (g.A.Arch.config_of c.args.self.now.arch.now) in
    let filling : Filling = made_filling (made_reaching c.requires.reaching) in
    let plain : Filling = output_filling machine.sizes c.args.self.now.link.now c.args.reaching.now.addressed.spanned.placed.kept.live in
    let plan = c.requires.reaching.branched.addressed.spanned.placed.thunks in
    let told = c.as_slice-told.ensures ∙ ap (λ (h : HeaderInfo). h.told) (c.header-header.ensures ∙ c.requires.reaching.branched.addressed.spanned.placed.owners.header) in
    record {
      reaching = c.requires.reaching;
      attributes = c.from_vec.ensures ∙ c.in_ok-attributes.ensures.contents filling (c.contents.ensures ∙ c.requires.reaching.branched.addressed.spanned.placed.owners.contents);
      partial = c.in_ok-partial_link.ensures;
      owners = c.from_vec-2.ensures ∙ c.in_ok-block_owners.ensures
          ∙ ap (λ (sets : List (List ℕ)). owners_of_blocks sets c.args.reaching.now.addressed.spanned.placed.thunks.users) plan.sets
          ∙ ap (owners_of_blocks (planned_sets machine.thunks plain)) plan.users;
      starts = c.in_ok-starts.ensures ∙ ap (group_starts machine.sizes c.args.self.now.link.now c.args.reaching.now.addressed.spanned.placed.kept.live) told;
    }
