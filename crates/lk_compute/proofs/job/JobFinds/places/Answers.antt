use Rattle.std.proofs.Common.{◌≡◌, Some, Err, ap, sym, ◌∙◌}
use Rattle.std.specs.Prelude.{slice_get}
use Rattle.lk_thunk_plan.specs.Branches.{Branching, unreached}
use Rattle.lk_thunk_plan.specs.declared.check.BranchPlace.{BranchPlace}
use Rattle.lk_link.specs.declared.link.LinkInput.{LinkInput}
use Rattle.lk_layout.specs.Machines.{platform_machine}
use Rattle.lk_layout.specs.Made.{Made}
use Rattle.lk_layout.specs.Stages.{IsBranchedLink, Reaches, made_addressed}
use Rattle.lk_layout.specs.Thunks.{made_branching, made_places}
use Rattle.lk_layout.proofs.Answering.{err_exit, unreached_refused}
use Rattle.lk_compute.proofs.Branching.{branching_is, places_are}
use Rattle.lk_compute.proofs.Reaching.{from_spanned}
use Rattle.lk_compute.proofs.job.JobFinds.places.Goals as goal

pub returns-in_err-check_branches : goal.returns-in_err-check_branches
returns-in_err-check_branches g c =
    let machine = platform_machine (g.P.Platform.segment_start c.args.self.now.platform.now) (g.P.Platform.table_sizes c.args.self.now.platform.now) (g.A.Arch.config_of c.args.self.now.arch.now) in
    let link : LinkInput = c.args.self.now.link.now in
    let made : Made = made_addressed c.requires.addressed in
    let stand : c.in_ok-places.places.items ≡ made_places made = places_are machine link c.args.addressed.now c.requires.addressed c.deref.result.now c.in_ok-places.places.items c.deref.ensures.value c.in_ok-places.ensures in
    let all = branching_is machine link c.args.addressed.now c.requires.addressed c.deref-2.result.now c.deref-3.result.now c.as_slice.result.now (c.deref-2.ensures.value ∙ stand) c.deref-3.ensures.value c.as_slice.ensures in
    let at : BranchPlace = c.in_err-check_branches.field-0.0 in
    let first : slice_get (unreached (made_branching made)) 0 ≡ Some at = ap (λ (by : Branching). slice_get (unreached by) 0) (sym all) ∙ c.in_err-check_branches.ensures in
    err_exit (Reaches machine link (λ q. IsBranchedLink machine link (record { addressed = c.args.addressed.now; places = q }))) _ c.from_residual-in_err-check_branches.result c.from_residual-in_err-check_branches.ensures.1 (λ e is.
    from_spanned machine link c.args.addressed.now.spanned (Err e) c.requires.addressed.spanned (λ some.
    unreached_refused made c.args.addressed.now.addresses.resolutions at e c.requires.addressed.inside c.requires.addressed.redirected first is))

pub returns : goal.returns
returns g c =
    let machine = platform_machine (g.P.Platform.segment_start c.args.self.now.platform.now) (g.P.Platform.table_sizes c.args.self.now.platform.now) (g.A.Arch.config_of c.args.self.now.arch.now) in
    let link : LinkInput = c.args.self.now.link.now in
    let made : Made = made_addressed c.requires.addressed in
    let stand : c.in_ok-places.places.items ≡ made_places made = places_are machine link c.args.addressed.now c.requires.addressed c.deref.result.now c.in_ok-places.places.items c.deref.ensures.value c.in_ok-places.ensures in
    let all = branching_is machine link c.args.addressed.now c.requires.addressed c.deref-2.result.now c.deref-3.result.now c.as_slice.result.now (c.deref-2.ensures.value ∙ stand) c.deref-3.ensures.value c.as_slice.ensures in
    record {
      addressed = c.requires.addressed;
      places = c.from_vec.ensures ∙ stand;
      reach = ap unreached (sym all) ∙ c.in_ok-check_branches.ensures;
    }
