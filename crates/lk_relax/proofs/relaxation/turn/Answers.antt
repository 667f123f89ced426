use Rattle.std.proofs.Common.{Err, sym, subst}
use Rattle.lk_place.specs.declared.error.PlaceError.{PlaceError}
use Rattle.lk_sizes.specs.Owners.{AreThunkOwners, in_output}
use Rattle.lk_relax.specs.RelaxationWords.{GivesTurn, stage_in}
use Rattle.lk_relax.specs.Relaxed.{relaxing}
use Rattle.lk_relax.specs.Stages.{Relaxing, Stage}
use Rattle.lk_relax.proofs.Turning.{next_turn, passed_filled, refused_turn, still_turn, turn_exit}
use Rattle.lk_relax.proofs.relaxation.turn.Goals as goal

pub pass-requires-clause-stage : goal.pass-requires-clause-stage
pass-requires-clause-stage g c = (relaxing (g.P.Platform.segment_start c.args.by.now.platform.now) c.args.by.now.headers c.requires.stage.0, c.requires.stage.1)

pub returns-then-passed-eq0 : goal.returns-then-passed-eq0
returns-then-passed-eq0 g c = λ filling is.
    let from : Relaxing = relaxing (g.P.Platform.segment_start c.args.by.now.platform.now) c.args.by.now.headers filling in
    let by : Relaxing = relaxing (g.P.Platform.segment_start c.args.by.now.platform.now) c.args.by.now.headers (in_output c.args.by.now.link.now c.args.by.now.live.now filling) in
    still_turn by c.args.hand is c.in_ok-passed.passed c.requires.some (c.in_ok-passed.ensures from is) c.if-passed-eq0.true

pub place_anew-requires-clause-thunks : goal.place_anew-requires-clause-thunks
place_anew-requires-clause-thunks g c =
    let from : Relaxing = relaxing (g.P.Platform.segment_start c.args.by.now.platform.now) c.args.by.now.headers c.requires.stage.0 in
    let is = c.requires.stage.1 in
    subst (AreThunkOwners c.args.by.now.link.now) (sym (c.in_ok-passed.ensures from is).filled.thunks) is.thunks

pub place_anew-requires-clause-filled : goal.place_anew-requires-clause-filled
place_anew-requires-clause-filled g c =
    let from : Relaxing = relaxing (g.P.Platform.segment_start c.args.by.now.platform.now) c.args.by.now.headers c.requires.stage.0 in
    let by : Relaxing = relaxing (g.P.Platform.segment_start c.args.by.now.platform.now) c.args.by.now.headers (in_output c.args.by.now.link.now c.args.by.now.live.now c.requires.stage.0) in
    let is = c.requires.stage.1 in
    (c.requires.stage.0, passed_filled by (stage_in c.args.hand is) c.args.hand c.in_ok-passed.passed (c.in_ok-passed.ensures from is))

pub returns-in_err-next : goal.returns-in_err-next
returns-in_err-next g c = λ filling is.
    let from : Relaxing = relaxing (g.P.Platform.segment_start c.args.by.now.platform.now) c.args.by.now.headers filling in
    let by : Relaxing = relaxing (g.P.Platform.segment_start c.args.by.now.platform.now) c.args.by.now.headers (in_output c.args.by.now.link.now c.args.by.now.live.now filling) in
    let a : Stage = stage_in c.args.hand is in
    let h = c.in_ok-passed.ensures from is in
    let filled = passed_filled by a c.args.hand c.in_ok-passed.passed h in
    turn_exit by a c.args.hand _ c.from_residual-in_err-next.result c.from_residual-in_err-next.ensures.1
    (λ e same. subst (λ (x : PlaceError). GivesTurn by a c.args.hand (Err x)) (sym same)
    (refused_turn by c.args.hand is c.in_ok-passed.passed c.in_err-next.field-0.0 c.requires.some h c.if-passed-eq0.false (c.in_err-next.ensures filling filled)))

pub returns : goal.returns
returns g c = λ filling is.
    let from : Relaxing = relaxing (g.P.Platform.segment_start c.args.by.now.platform.now) c.args.by.now.headers filling in
    let by : Relaxing = relaxing (g.P.Platform.segment_start c.args.by.now.platform.now) c.args.by.now.headers (in_output c.args.by.now.link.now c.args.by.now.live.now filling) in
    let h = c.in_ok-passed.ensures from is in
    let filled = passed_filled by (stage_in c.args.hand is) c.args.hand c.in_ok-passed.passed h in
    next_turn c.passes_stay_shrunk.ensures by c.args.hand c.in_ok-next.next is c.in_ok-passed.passed c.requires.good c.requires.some h c.if-passed-eq0.false (c.in_ok-next.ensures filling filled)
