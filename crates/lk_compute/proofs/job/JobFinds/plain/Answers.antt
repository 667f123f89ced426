use Rattle.std.proofs.Common.{◌≡◌, ℕ, Ok, Err, List, ap, subst, ◌∙◌}
use Rattle.lk_live.specs.declared.live.Live.{Live}
use Rattle.lk_link.specs.TableSizes.{TableSizes}
use Rattle.lk_sizes.specs.declared.error.SizeError.{SizeError}
use Rattle.lk_sizes.specs.Emitted.{is_emitted}
use Rattle.lk_sizes.specs.Owners.{content_of, plain_filling}
use Rattle.lk_sizes.specs.Sizing.{GivesOwners}
use Rattle.lk_resolutions.specs.OutputContent.{image_lens, output_filling}
use Rattle.lk_layout.specs.Machines.{platform_machine}
use Rattle.lk_layout.specs.Stages.{ArePlainOwners, Reaches}
use Rattle.lk_layout.proofs.Answering.{err_exit}
use Rattle.lk_compute.proofs.Oversized.{unsized}
use Rattle.lk_compute.proofs.Reaching.{from_kept}
use Rattle.lk_compute.proofs.job.JobFinds.plain.Goals as goal

pub returns-in_err-plain : goal.returns-in_err-plain
returns-in_err-plain g c =
    let tables : TableSizes = g.P.Platform.table_sizes c.args.self.now.platform.now in
    let machine = platform_machine (g.P.Platform.segment_start c.args.self.now.platform.now) (g.P.Platform.table_sizes c.args.self.now.platform.now) (g.A.Arch.config_of c.args.self.now.arch.now) in
    let link = c.args.self.now.link.now in
    let live : Live = c.args.kept.now.live in
    let error : SizeError = c.in_err-plain.field-0.0 in
    let lens : c.deref.result.now ≡ image_lens link = c.deref.ensures.value ∙ c.requires.kept.merged.are.lens in
    let here : GivesOwners (output_filling tables link live) (Err error)
    = subst (λ (ls : List ℕ). GivesOwners (plain_filling (content_of link tables live ls)) (Err error)) lens c.in_err-plain.ensures.owners in
    err_exit (Reaches machine link (ArePlainOwners machine link live)) _ c.from_residual.result c.from_residual.ensures.1
    (λ e is. from_kept machine link c.args.kept.now (Err e) c.requires.kept (unsized machine link live error e here is))

pub returns : goal.returns
returns g c =
    let tables : TableSizes = g.P.Platform.table_sizes c.args.self.now.platform.now in
    let link = c.args.self.now.link.now in
    let live : Live = c.args.kept.now.live in
    let lens : c.deref.result.now ≡ image_lens link = c.deref.ensures.value ∙ c.requires.kept.merged.are.lens in
    record {
      owners = subst (λ (ls : List ℕ). GivesOwners (plain_filling (content_of link tables live ls)) (Ok c.in_ok-plain.plain)) lens c.in_ok-plain.ensures.owners;
      marks = c.in_ok-plain.ensures.marks ∙ ap (λ (ls : List ℕ). is_emitted (content_of link tables live ls)) lens;
    }
