use Rattle.std.proofs.Common.{ℕ, Err, subst}
use Rattle.lk_live.specs.declared.live.Live.{Live}
use Rattle.lk_link.specs.declared.link.LinkInput.{LinkInput}
use Rattle.lk_place.specs.Answers.{ArePlaced, GivesPlaced}
use Rattle.lk_relax.specs.RelaxedLaws.{nothing_deleted}
use Rattle.lk_relax.specs.Stages.{Relaxing, setting_after}
use Rattle.lk_layout.specs.Machines.{platform_machine}
use Rattle.lk_layout.specs.Made.{filling_for}
use Rattle.lk_layout.specs.Stages.{IsPlacedFirst, Reaches}
use Rattle.lk_layout.proofs.Answering.{err_exit}
use Rattle.lk_compute.proofs.PlacingRefused.{placing_refused}
use Rattle.lk_compute.proofs.Reaching.{from_sized}
use Rattle.lk_compute.proofs.job.JobFinds.first_placed.Goals as goal

pub place_first-requires-clause-filled : goal.place_first-requires-clause-filled
place_first-requires-clause-filled g c =
    let machine = platform_machine (g.P.Platform.segment_start c.args.self.now.platform.now) (g.P.Platform.table_sizes c.args.self.now.platform.now) (g.A.Arch.config_of c.args.self.now.arch.now) in
    (filling_for machine c.args.self.now.link.now c.args.sized.now.kept.live, c.requires.sized.owners)

pub place_first-requires-clause-own : goal.place_first-requires-clause-own
place_first-requires-clause-own g c = c.requires.sized.owners.sizes

pub returns-in_err-first : goal.returns-in_err-first
returns-in_err-first g c =
    let machine = platform_machine (g.P.Platform.segment_start c.args.self.now.platform.now) (g.P.Platform.table_sizes c.args.self.now.platform.now) (g.A.Arch.config_of c.args.self.now.arch.now) in
    let link : LinkInput = c.args.self.now.link.now in
    let live : Live = c.args.sized.now.kept.live in
    let by : ℕ → Relaxing = λ n. record { filling = filling_for machine link live; target = machine.target; headers = n } in
    let gives = subst (λ n. GivesPlaced (setting_after (by n) (nothing_deleted link)) (Err c.in_err-first.field-0.0)) c.requires.headers
    (c.in_err-first.ensures (filling_for machine link live) c.requires.sized.owners) in
    err_exit (Reaches machine link (IsPlacedFirst machine link live)) _ c.from_residual.result c.from_residual.ensures.1 (λ e is.
    from_sized machine link c.args.sized.now (Err e) c.requires.sized (placing_refused machine link live c.in_err-first.field-0.0 e gives is))

pub returns : goal.returns
returns g c =
    let machine = platform_machine (g.P.Platform.segment_start c.args.self.now.platform.now) (g.P.Platform.table_sizes c.args.self.now.platform.now) (g.A.Arch.config_of c.args.self.now.arch.now) in
    let link : LinkInput = c.args.self.now.link.now in
    let live : Live = c.args.sized.now.kept.live in
    let by : ℕ → Relaxing = λ n. record { filling = filling_for machine link live; target = machine.target; headers = n } in
    subst (λ n. ArePlaced (setting_after (by n) (nothing_deleted link)) c.in_ok-first.first) c.requires.headers
    (c.in_ok-first.ensures (filling_for machine link live) c.requires.sized.owners)
