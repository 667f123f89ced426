use Rattle.std.proofs.Common.{◌≡◌, ℕ, None, Ok, Err, List, Option, length, sym, ap, subst, ◌∙◌}
use Rattle.lk_thunk_plan.specs.ThunkPlans.{IsThunkPlan, thunk_owners}
use Rattle.lk_live.specs.declared.live.Live.{Live}
use Rattle.lk_link.specs.declared.ids.FileId.{FileId}
use Rattle.lk_link.specs.declared.options.Options.{Options}
use Rattle.lk_link.specs.declared.plan.Plan.{Plan}
use Rattle.lk_link.specs.Marks.{is_marked}
use Rattle.lk_link.specs.TableSizes.{TableSizes}
use Rattle.lk_sizes.specs.declared.error.SizeError.{SizeError}
use Rattle.lk_sizes.specs.Contents.{contents_of, sum_refusal}
use Rattle.lk_sizes.specs.Owners.{AreThunkOwners, Filling, with_thunks}
use Rattle.lk_sizes.specs.Sizing.{GivesAdded}
use Rattle.lk_tables.specs.declared.header_info.HeaderInfo.{HeaderInfo}
use Rattle.lk_thunks.specs.declared.arch.ThunkConfig.{ThunkConfig}
use Rattle.lk_layout.specs.Machines.{platform_machine}
use Rattle.lk_layout.specs.Made.{filling_for}
use Rattle.lk_resolutions.specs.OutputContent.{image_lens, output_filling}
use Rattle.lk_resolutions.proofs.PartCounts.{length-by_part}
use Rattle.lk_layout.specs.Stages.{IsSized, Reaches}
use Rattle.lk_layout.proofs.Answering.{err_exit}
use Rattle.lk_compute.proofs.Oversized.{first_none, overfull, second_is}
use Rattle.lk_compute.proofs.Reaching.{from_kept}
use Rattle.lk_compute.proofs.job.JobFinds.with_thunks.Goals as goal

pub plan_thunks-requires-clause-filled : goal.plan_thunks-requires-clause-filled
plan_thunks-requires-clause-filled g c =
    let tables : TableSizes = g.P.Platform.table_sizes c.args.self.now.platform.now in
    let plain : Filling = output_filling tables c.args.self.now.link.now c.args.kept.now.live in
    (tables, image_lens c.args.self.now.link.now, c.requires.plain.owners.1, first_none (sum_refusal plain) (sum_refusal plain) c.requires.plain.owners.0)

pub add_thunks-requires-clause-thunks : goal.add_thunks-requires-clause-thunks
add_thunks-requires-clause-thunks g c =
    let tables : TableSizes = g.P.Platform.table_sizes c.args.self.now.platform.now in
    let thunks : Options → Plan → Option ThunkConfig = g.A.Arch.config_of c.args.self.now.arch.now in
    let link = c.args.self.now.link.now in
    let plain : Filling = output_filling tables link c.args.kept.now.live in
    let planned = c.in_ok-thunks.ensures.plan tables (image_lens link) c.requires.plain.owners.1 in
    subst (AreThunkOwners link) (sym (c.as_slice.ensures ∙ planned.owners)) (c.thunk_owners_are_good.ensures thunks plain)

pub add_thunks-requires-clause-count : goal.add_thunks-requires-clause-count
add_thunks-requires-clause-count g c =
    let tables : TableSizes = g.P.Platform.table_sizes c.args.self.now.platform.now in
    let link = c.args.self.now.link.now in
    let plain : Filling = output_filling tables link c.args.kept.now.live in
    ap length c.requires.plain.owners.1.contents ∙ length-by_part (contents_of plain) link

pub returns-in_err-owners : goal.returns-in_err-owners
returns-in_err-owners g c =
    let tables : TableSizes = g.P.Platform.table_sizes c.args.self.now.platform.now in
    let thunks : Options → Plan → Option ThunkConfig = g.A.Arch.config_of c.args.self.now.arch.now in
    let machine = platform_machine (g.P.Platform.segment_start c.args.self.now.platform.now) (g.P.Platform.table_sizes c.args.self.now.platform.now) (g.A.Arch.config_of c.args.self.now.arch.now) in
    let link = c.args.self.now.link.now in
    let live : Live = c.args.kept.now.live in
    let error : SizeError = c.in_err-owners.field-0.0 in
    let plain : Filling = output_filling tables link live in
    let planned : IsThunkPlan thunks plain c.in_ok-thunks.thunks = c.in_ok-thunks.ensures.plan tables (image_lens link) c.requires.plain.owners.1 in
    let told : c.as_slice.result.now ≡ thunk_owners thunks plain = c.as_slice.ensures ∙ planned.owners in
    let fits : sum_refusal plain ≡ None = first_none (sum_refusal plain) (sum_refusal plain) c.requires.plain.owners.0 in
    let here : GivesAdded (filling_for machine link live) (Err error)
    = subst (λ (ts : List (FileId × ℕ)). GivesAdded (with_thunks plain ts) (Err error)) told (c.in_err-owners.ensures plain c.requires.plain.owners.1) in
    err_exit (Reaches machine link (λ q. IsSized machine link (record { kept = c.args.kept.now; owners = q.0; thunks = q.1 }))) _ c.from_residual-in_err-owners.result c.from_residual-in_err-owners.ensures.1 (λ e is.
    from_kept machine link c.args.kept.now (Err e) c.requires.kept (overfull machine link live error e fits here is))

pub returns : goal.returns
returns g c =
    let tables : TableSizes = g.P.Platform.table_sizes c.args.self.now.platform.now in
    let thunks : Options → Plan → Option ThunkConfig = g.A.Arch.config_of c.args.self.now.arch.now in
    let machine = platform_machine (g.P.Platform.segment_start c.args.self.now.platform.now) (g.P.Platform.table_sizes c.args.self.now.platform.now) (g.A.Arch.config_of c.args.self.now.arch.now) in
    let link = c.args.self.now.link.now in
    let live : Live = c.args.kept.now.live in
    let plain : Filling = output_filling tables link live in
    let planned : IsThunkPlan thunks plain c.in_ok-thunks.thunks = c.in_ok-thunks.ensures.plan tables (image_lens link) c.requires.plain.owners.1 in
    let told : c.as_slice.result.now ≡ thunk_owners thunks plain = c.as_slice.ensures ∙ planned.owners in
    let fits : sum_refusal plain ≡ None = first_none (sum_refusal plain) (sum_refusal plain) c.requires.plain.owners.0 in
    let added : GivesAdded (filling_for machine link live) (Ok c.in_ok-owners.owners)
    = subst (λ (ts : List (FileId × ℕ)). GivesAdded (with_thunks plain ts) (Ok c.in_ok-owners.owners)) told (c.in_ok-owners.ensures plain c.requires.plain.owners.1) in
    record {
      kept = c.requires.kept;
      fits = second_is (sum_refusal plain) (sum_refusal (filling_for machine link live)) fits ∙ added.0;
      owners = added.1;
      marks = ap (λ (h : HeaderInfo). is_marked h.emitted) (added.1.header ∙ sym c.requires.plain.owners.1.header) ∙ c.requires.plain.marks;
      thunks = planned;
      order = c.in_ok-thunks.ensures.order;
      listed = subst (AreThunkOwners link) (sym added.1.thunks) (c.thunk_owners_are_good.ensures thunks plain);
    }
