use Rattle.std.proofs.Common.{Err}
use Rattle.lk_link.specs.declared.link.LinkInput.{LinkInput}
use Rattle.lk_layout.specs.Machines.{platform_machine}
use Rattle.lk_layout.specs.Made.{Made}
use Rattle.lk_layout.specs.Stages.{IsAddressedLink, Reaches, made_spanned}
use Rattle.lk_layout.proofs.Answering.{err_exit, reached_on, refused, unredirected}
use Rattle.lk_compute.proofs.Reaching.{from_spanned}
use Rattle.lk_compute.proofs.job.JobFinds.redirected.Goals as goal

pub returns-in_err-check_offsets : goal.returns-in_err-check_offsets
returns-in_err-check_offsets g c =
    let machine = platform_machine (g.P.Platform.segment_start c.args.self.now.platform.now) (g.P.Platform.table_sizes c.args.self.now.platform.now) (g.A.Arch.config_of c.args.self.now.arch.now) in
    let link : LinkInput = c.args.self.now.link.now in
    let is = c.requires.found.spanned in
    err_exit (Reaches machine link (λ q. IsAddressedLink machine link (record { spanned = c.args.spanned.now; addresses = q }))) _ c.from_residual.result c.from_residual.ensures.1 (λ e same.
    from_spanned machine link c.args.spanned.now (Err e) is (λ some. refused (made_spanned is) c.in_err-check_offsets.field-0.0 e c.in_err-check_offsets.ensures same))

pub returns-in_err-set_redirects : goal.returns-in_err-set_redirects
returns-in_err-set_redirects g c =
    let machine = platform_machine (g.P.Platform.segment_start c.args.self.now.platform.now) (g.P.Platform.table_sizes c.args.self.now.platform.now) (g.A.Arch.config_of c.args.self.now.arch.now) in
    let link : LinkInput = c.args.self.now.link.now in
    let is = c.requires.found.spanned in
    let made : Made = made_spanned is in
    let e = c.in_err-set_redirects.field-0.0 in
    reached_on machine link (λ q. IsAddressedLink machine link (record { spanned = c.args.spanned.now; addresses = q })) e c.from_residual-in_err-set_redirects.result c.from_residual-in_err-set_redirects.ensures.1
    (from_spanned machine link c.args.spanned.now (Err e) is (λ some. unredirected made e c.in_ok-check_offsets.ensures (c.in_err-set_redirects.ensures is c.requires.found.resolutions some)))

pub returns : goal.returns
returns g c =
    let is = c.requires.found in
    record {
      spanned = is.spanned;
      inside = c.in_ok-check_offsets.ensures;
      sections = is.sections;
      blocks = is.blocks;
      buckets = is.buckets;
      redirected = c.in_ok-set_redirects.ensures is.spanned is.resolutions;
    }
