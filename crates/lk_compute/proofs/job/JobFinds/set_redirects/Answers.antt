use Rattle.std.proofs.Common.{◌≡◌, Ok, Err, length, ap, ◌∙◌, arith}
use Rattle.lk_live.specs.declared.live.Live.{Live}
use Rattle.lk_link.specs.declared.link.LinkInput.{LinkInput}
use Rattle.lk_link.specs.TableSizes.{TableSizes}
use Rattle.lk_tables.specs.declared.header_info.HeaderInfo.{HeaderInfo}
use Rattle.lk_tables.specs.HeaderParts.{header_sizes}
use Rattle.lk_sizes.specs.Header.{header_info}
use Rattle.lk_layout.specs.Headers.{header_bytes, leading_bytes}
use Rattle.lk_layout.specs.Machines.{platform_machine}
use Rattle.lk_layout.specs.Made.{Made}
use Rattle.lk_layout.specs.Stages.{made_spanned}
use Rattle.lk_compute.proofs.FewHeaders.{few_active}
use Rattle.lk_compute.proofs.Redirecting.{as_made, at_hand, few_regions, not_redirected, only_memory, out_of_memory}
use Rattle.lk_compute.proofs.job.JobFinds.set_redirects.Goals as goal
use Rattle.lk_resolutions.specs.OutputContent.{output_content}

pub evaluate_regions-requires-clause-few : goal.evaluate_regions-requires-clause-few
evaluate_regions-requires-clause-few g c = few_regions c.args.self.now.link.now c.requires.placed.kept.merged.checked.good

pub header_bytes-headers-requires : goal.header_bytes-headers-requires
header_bytes-headers-requires g c =
    let tables : TableSizes = g.P.Platform.table_sizes c.args.self.now.platform.now in
    let link : LinkInput = c.args.self.now.link.now in
    let placed = c.requires.placed in
    let live : Live = c.args.spanned.now.placed.kept.live in
    let count : length c.header.result.now.active_segment_ids ≡ length (header_info (output_content tables link live)).active_segment_ids = ap (λ (h : HeaderInfo). length h.active_segment_ids) (c.header.ensures ∙ placed.owners.header) in
    omega (arith, count, few_active tables link live placed.kept.merged.checked.good)

pub returns-in_err-regions : goal.returns-in_err-regions
returns-in_err-regions g c is old =
    let made : Made = made_spanned is in
    out_of_memory made c.args.resolutions.now c.from_residual.result c.in_err-regions.field-0.0 c.from_residual.ensures.1
    (only_memory made c.in_err-regions.field-0.0 is.placed.unrefused c.in_err-regions.ensures)

pub returns-in_err-evaluate_redirects : goal.returns-in_err-evaluate_redirects
returns-in_err-evaluate_redirects g c is old =
    let machine = platform_machine (g.P.Platform.segment_start c.args.self.now.platform.now) (g.P.Platform.table_sizes c.args.self.now.platform.now) (g.A.Arch.config_of c.args.self.now.arch.now) in
    let link : LinkInput = c.args.self.now.link.now in
    let live : Live = c.args.spanned.now.placed.kept.live in
    let made : Made = made_spanned is in
    let headers : c.header_bytes-headers.result ≡ header_bytes machine link live
    = c.header_bytes-headers.ensures live ∙ ap (λ (h : HeaderInfo). leading_bytes (header_sizes machine.sizes link live h.emitted h.active_segment_ids)) (c.header.ensures ∙ is.placed.owners.header) in
    let hand = at_hand machine link c.args.spanned.now is c.header_bytes-headers.result c.in_ok-regions.regions c.as_slice.result.now c.as_slice-2.result.now c.as_slice-3.result.now c.as_slice-4.result.now
    headers c.in_ok-regions.ensures c.as_slice.ensures c.as_slice-2.ensures c.as_slice-3.ensures c.as_slice-4.ensures in
    not_redirected made c.evaluate_redirects.new.values c.from_residual-in_err-evaluate_redirects.result c.in_err-evaluate_redirects.field-0.0 c.from_residual-in_err-evaluate_redirects.ensures.1
    (as_made made _ c.args.resolutions.now (Err c.in_err-evaluate_redirects.field-0.0) hand old c.in_err-evaluate_redirects.ensures.redirected)

pub returns : goal.returns
returns g c is old =
    let machine = platform_machine (g.P.Platform.segment_start c.args.self.now.platform.now) (g.P.Platform.table_sizes c.args.self.now.platform.now) (g.A.Arch.config_of c.args.self.now.arch.now) in
    let link : LinkInput = c.args.self.now.link.now in
    let live : Live = c.args.spanned.now.placed.kept.live in
    let made : Made = made_spanned is in
    let headers : c.header_bytes-headers.result ≡ header_bytes machine link live
    = c.header_bytes-headers.ensures live ∙ ap (λ (h : HeaderInfo). leading_bytes (header_sizes machine.sizes link live h.emitted h.active_segment_ids)) (c.header.ensures ∙ is.placed.owners.header) in
    let hand = at_hand machine link c.args.spanned.now is c.header_bytes-headers.result c.in_ok-regions.regions c.as_slice.result.now c.as_slice-2.result.now c.as_slice-3.result.now c.as_slice-4.result.now
    headers c.in_ok-regions.ensures c.as_slice.ensures c.as_slice-2.ensures c.as_slice-3.ensures c.as_slice-4.ensures in
    as_made made _ c.args.resolutions.now (Ok c.evaluate_redirects.new.values) hand old c.in_ok-evaluate_redirects.ensures.redirected
