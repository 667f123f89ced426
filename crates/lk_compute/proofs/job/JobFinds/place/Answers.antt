use Rattle.std.proofs.Common.{◌≡◌, ℕ, Err, length, sym, ap, subst, ◌∙◌, arith}
use Rattle.lk_live.specs.declared.live.Live.{Live}
use Rattle.lk_link.specs.declared.link.LinkInput.{LinkInput}
use Rattle.lk_link.specs.Marks.{is_marked}
use Rattle.lk_place.specs.Answers.{ArePlaced}
use Rattle.lk_relax.specs.Relaxed.{AreRelaxed, GivesRelaxed}
use Rattle.lk_relax.specs.RelaxedLaws.{nothing_deleted}
use Rattle.lk_relax.specs.Stages.{Relaxing, setting_after}
use Rattle.lk_sizes.specs.Header.{header_info}
use Rattle.lk_sizes.specs.Owners.{AreThunkOwners}
use Rattle.lk_tables.specs.declared.header_info.HeaderInfo.{HeaderInfo}
use Rattle.lk_tables.specs.HeaderParts.{header_sizes}
use Rattle.lk_layout.specs.Headers.{header_bytes, leading_bytes}
use Rattle.lk_layout.specs.Machines.{platform_machine}
use Rattle.lk_layout.specs.Made.{filling_for}
use Rattle.lk_layout.specs.Stages.{IsPlacedLink, Reaches}
use Rattle.lk_resolutions.specs.OutputContent.{output_content}
use Rattle.lk_layout.proofs.Answering.{err_exit, reached_on}
use Rattle.lk_compute.proofs.FewHeaders.{few_active}
use Rattle.lk_compute.proofs.PlacingRefused.{relaxing_refused}
use Rattle.lk_compute.proofs.Reaching.{from_sized}
use Rattle.lk_compute.proofs.job.JobFinds.place.Goals as goal

pub header_bytes-headers-requires : goal.header_bytes-headers-requires
header_bytes-headers-requires g c =
    let tables = g.P.Platform.table_sizes c.args.self.now.platform.now in
    let link : LinkInput = c.args.self.now.link.now in
    let live : Live = c.args.sized.kept.live in
    let count : length c.header.result.now.active_segment_ids ≡ length (header_info (output_content tables link live)).active_segment_ids = ap (λ (h : HeaderInfo). length h.active_segment_ids) (c.header.ensures ∙ c.requires.sized.owners.header) in
    omega (arith, count, few_active tables link live c.requires.sized.kept.merged.checked.good)

pub first_placed-requires-clause-headers : goal.first_placed-requires-clause-headers
first_placed-requires-clause-headers g c =
    let machine = platform_machine (g.P.Platform.segment_start c.args.self.now.platform.now) (g.P.Platform.table_sizes c.args.self.now.platform.now) (g.A.Arch.config_of c.args.self.now.arch.now) in
    let link : LinkInput = c.args.self.now.link.now in
    let live : Live = c.args.sized.kept.live in
    c.header_bytes-headers.ensures live ∙ ap (λ (h : HeaderInfo). leading_bytes (header_sizes machine.sizes link live h.emitted h.active_segment_ids)) (c.header.ensures ∙ c.requires.sized.owners.header)

pub returns-in_err-first : goal.returns-in_err-first
returns-in_err-first g c =
    let machine = platform_machine (g.P.Platform.segment_start c.args.self.now.platform.now) (g.P.Platform.table_sizes c.args.self.now.platform.now) (g.A.Arch.config_of c.args.self.now.arch.now) in
    reached_on machine c.args.self.now.link.now (IsPlacedLink machine c.args.self.now.link.now) c.in_err-first.field-0.0 c.from_residual.result c.from_residual.ensures.1 c.in_err-first.ensures

pub relax_owners-requires-clause-first : goal.relax_owners-requires-clause-first
relax_owners-requires-clause-first g c =
    let machine = platform_machine (g.P.Platform.segment_start c.args.self.now.platform.now) (g.P.Platform.table_sizes c.args.self.now.platform.now) (g.A.Arch.config_of c.args.self.now.arch.now) in
    let link : LinkInput = c.args.self.now.link.now in
    let live : Live = c.args.sized.kept.live in
    let by : ℕ → Relaxing = λ n. record { filling = filling_for machine link live; target = machine.target; headers = n } in
    let headers : c.header_bytes-headers.result ≡ header_bytes machine link live
    = c.header_bytes-headers.ensures live ∙ ap (λ (h : HeaderInfo). leading_bytes (header_sizes machine.sizes link live h.emitted h.active_segment_ids)) (c.header.ensures ∙ c.requires.sized.owners.header) in (
      filling_for machine link live,
      c.requires.sized.owners,
      subst (λ n. ArePlaced (setting_after (by n) (nothing_deleted link)) c.in_ok-first.first) (sym headers) c.in_ok-first.ensures,
    )

pub returns-in_err-relaxed : goal.returns-in_err-relaxed
returns-in_err-relaxed g c =
    let machine = platform_machine (g.P.Platform.segment_start c.args.self.now.platform.now) (g.P.Platform.table_sizes c.args.self.now.platform.now) (g.A.Arch.config_of c.args.self.now.arch.now) in
    let link : LinkInput = c.args.self.now.link.now in
    let live : Live = c.args.sized.kept.live in
    let by : ℕ → Relaxing = λ n. record { filling = filling_for machine link live; target = machine.target; headers = n } in
    let headers : c.header_bytes-headers.result ≡ header_bytes machine link live
    = c.header_bytes-headers.ensures live ∙ ap (λ (h : HeaderInfo). leading_bytes (header_sizes machine.sizes link live h.emitted h.active_segment_ids)) (c.header.ensures ∙ c.requires.sized.owners.header) in
    let first = subst (λ n. ArePlaced (setting_after (by n) (nothing_deleted link)) c.in_ok-first.first) (sym headers) c.in_ok-first.ensures in
    let gives = subst (λ n. GivesRelaxed (by n) (AreRelaxed (by n)) (Err c.in_err-relaxed.field-0.0)) headers (c.in_err-relaxed.ensures (filling_for machine link live) c.requires.sized.owners first) in
    err_exit (Reaches machine link (IsPlacedLink machine link)) _ c.from_residual-in_err-relaxed.result c.from_residual-in_err-relaxed.ensures.1 (λ e is.
    from_sized machine link c.args.sized (Err e) c.requires.sized (relaxing_refused machine link live (AreRelaxed (by (header_bytes machine link live))) c.in_err-relaxed.field-0.0 e gives is))

pub returns : goal.returns
returns g c =
    let machine = platform_machine (g.P.Platform.segment_start c.args.self.now.platform.now) (g.P.Platform.table_sizes c.args.self.now.platform.now) (g.A.Arch.config_of c.args.self.now.arch.now) in
    let link : LinkInput = c.args.self.now.link.now in
    let live : Live = c.args.sized.kept.live in
    let by : ℕ → Relaxing = λ n. record { filling = filling_for machine link live; target = machine.target; headers = n } in
    let headers : c.header_bytes-headers.result ≡ header_bytes machine link live
    = c.header_bytes-headers.ensures live ∙ ap (λ (h : HeaderInfo). leading_bytes (header_sizes machine.sizes link live h.emitted h.active_segment_ids)) (c.header.ensures ∙ c.requires.sized.owners.header) in
    let first = subst (λ n. ArePlaced (setting_after (by n) (nothing_deleted link)) c.in_ok-first.first) (sym headers) c.in_ok-first.ensures in
    let end = subst (λ n. AreRelaxed (by n) c.in_ok-relaxed.relaxed) headers (c.in_ok-relaxed.ensures (filling_for machine link live) c.requires.sized.owners first) in
    let sized = c.requires.sized in
    record {
      kept = sized.kept;
      fits = sized.fits;
      thunks = sized.thunks;
      order = sized.order;
      stage = end.last;
      relaxed = end.ends.relaxed;
      unrefused = end.ends.unrefused;
      deltas = c.from_vec.ensures ∙ end.ends.deletions;
      owners = end.filled;
      marks = ap (λ (h : HeaderInfo). is_marked h.emitted) (end.filled.header ∙ sym sized.owners.header) ∙ sized.marks;
      listed = subst (AreThunkOwners link) (sized.owners.thunks ∙ sym end.filled.thunks) sized.listed;
      are = end.ends.stands;
      states = end.ends.states;
      records = end.ends.records;
    }
