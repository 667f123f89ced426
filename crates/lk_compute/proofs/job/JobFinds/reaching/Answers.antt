use Rattle.std.proofs.Common.{Err}
use Rattle.lk_link.specs.declared.link.LinkInput.{LinkInput}
use Rattle.lk_layout.specs.Machines.{platform_machine}
use Rattle.lk_layout.specs.Made.{Made}
use Rattle.lk_layout.specs.Stages.{IsReachingLink, made_addressed}
use Rattle.lk_layout.proofs.Answering.{past_refused, reached_on}
use Rattle.lk_compute.proofs.Reaching.{from_spanned}
use Rattle.lk_compute.proofs.job.JobFinds.reaching.Goals as goal

pub returns-in_err-places : goal.returns-in_err-places
returns-in_err-places g c =
    let machine = platform_machine (g.P.Platform.segment_start c.args.self.now.platform.now) (g.P.Platform.table_sizes c.args.self.now.platform.now) (g.A.Arch.config_of c.args.self.now.arch.now) in
    reached_on machine c.args.self.now.link.now (λ q. IsReachingLink machine c.args.self.now.link.now (record { addressed = c.args.addressed.now; places = q })) c.in_err-places.field-0.0 c.from_residual.result c.from_residual.ensures.1 c.in_err-places.ensures

pub returns-in_err-check_deleted : goal.returns-in_err-check_deleted
returns-in_err-check_deleted g c =
    let machine = platform_machine (g.P.Platform.segment_start c.args.self.now.platform.now) (g.P.Platform.table_sizes c.args.self.now.platform.now) (g.A.Arch.config_of c.args.self.now.arch.now) in
    let link : LinkInput = c.args.self.now.link.now in
    let is = c.in_ok-places.ensures in
    let made : Made = made_addressed is.addressed in
    let e = c.in_err-check_deleted.field-0.0 in
    reached_on machine link (λ q. IsReachingLink machine link (record { addressed = c.args.addressed.now; places = q })) e c.from_residual-in_err-check_deleted.result c.from_residual-in_err-check_deleted.ensures.1
    (from_spanned machine link c.args.addressed.now.spanned (Err e) is.addressed.spanned (λ some.
    past_refused made c.args.addressed.now.addresses.resolutions e is.addressed.inside is.addressed.redirected is.reach (c.in_err-check_deleted.ensures is.addressed.spanned.placed some)))

pub returns : goal.returns
returns g c = record { branched = c.in_ok-places.ensures; near = c.in_ok-check_deleted.ensures c.in_ok-places.ensures.addressed.spanned.placed }
