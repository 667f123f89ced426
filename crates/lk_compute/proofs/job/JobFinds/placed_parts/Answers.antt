use Rattle.std.proofs.Common.{◌≡◌, ◌<◌, ℕ, List, length, sym, ap, subst, ◌∙◌}
use Rattle.lk_expressions.specs.Records.{Record, record_at}
use Rattle.lk_live.specs.declared.live.Live.{Live}
use Rattle.lk_link.specs.declared.link.LinkInput.{LinkInput}
use Rattle.lk_link.specs.WellFormed.{IsWellFormed}
use Rattle.lk_deltas.specs.LinkDeletions.{sizes_after}
use Rattle.lk_sizes.specs.Owners.{AreThunkOwners}
use Rattle.lk_sizes.specs.PartOwners.{part_size}
use Rattle.lk_layout.specs.Machines.{platform_machine}
use Rattle.lk_layout.specs.Made.{Made, made_filling, relaxing_for}
use Rattle.lk_layout.specs.Stages.{made_spanned}
use Rattle.lk_layout.proofs.Settings.{takes}
use Rattle.lk_compute.proofs.job.JobFinds.placed_parts.Goals as goal

pub returns-clause-parts : goal.returns-clause-parts
returns-clause-parts g c = λ is. c.as_slice.ensures ∙ is.placed.records

pub returns-clause-deltas : goal.returns-clause-deltas
returns-clause-deltas g c = λ is. c.as_slice-2.ensures ∙ is.placed.deltas

pub returns-clause-each : goal.returns-clause-each
returns-clause-each g c = ap length c.as_slice.ensures ∙ c.requires.spanned.placed.are.is.each

pub returns-clause-placed : goal.returns-clause-placed
returns-clause-placed g c =
    let machine = platform_machine (g.P.Platform.segment_start c.args.self.now.platform.now) (g.P.Platform.table_sizes c.args.self.now.platform.now) (g.A.Arch.config_of c.args.self.now.arch.now) in
    let link : LinkInput = c.args.self.now.link.now in
    let live : Live = c.args.spanned.now.placed.kept.live in
    let is = c.requires.spanned.placed in
    let made : Made = made_spanned c.requires.spanned in
    let good : IsWellFormed link = is.kept.merged.checked.good in
    let stands = c.relaxed_stands.ensures (relaxing_for machine link live) is.stage good is.relaxed in
    let of = takes c.parts_take_their_bytes.ensures machine link live is.stage good stands is.unrefused in
    let read : c.as_slice.result.now ≡ made.stage.records = c.as_slice.ensures ∙ is.records in (
      made_filling made,
      record {
        filled = is.owners;
        thunks = subst (AreThunkOwners link) is.owners.thunks is.listed;
        takes = subst (λ (rs : List Record). (p : ℕ) → p < length rs → (record_at rs p).mem_size ≡ part_size (made_filling made) p) (sym read) of;
      },
      ap (sizes_after link.groups) (sym (c.as_slice-2.ensures ∙ is.deltas)),
    )
