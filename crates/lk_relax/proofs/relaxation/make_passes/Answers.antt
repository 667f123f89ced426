use Rattle.std.proofs.Common.{◌≡◌, ◌+◌, ◌-◌, ℕ, suc, Ok, Err, length, rules, sym, subst, arith}
use Rattle.lk_place.specs.declared.error.PlaceError.{PlaceError}
use Rattle.lk_sizes.specs.Owners.{in_output}
use Rattle.lk_relax.specs.declared.relaxation.Turned.{Turned}
use Rattle.lk_relax.specs.RelaxationWords.{GivesTurn, IsInHand, stage_in}
use Rattle.lk_relax.specs.Relaxed.{AreRelaxed, GivesRelaxed, relaxing}
use Rattle.lk_relax.specs.Stages.{Relaxing}
use Rattle.lk_relax.proofs.Ending.{ends_last, ends_still, ends_unseen, first_in_hand, goes_next, refused_end, relaxed_exit}
use Rattle.lk_relax.proofs.relaxation.make_passes.Goals as goal

pub loop-pass-init : goal.loop-pass-init
loop-pass-init g c = λ filling is first.
    let by : Relaxing = relaxing (g.P.Platform.segment_start c.args.by.now.platform.now) c.args.by.now.headers (in_output c.args.by.now.link.now c.args.by.now.live.now filling) in
    first_in_hand by c.args.hand is first

pub returns-then-is_empty : goal.returns-then-is_empty
returns-then-is_empty g c = λ filling is first.
    let by : Relaxing = relaxing (g.P.Platform.segment_start c.args.by.now.platform.now) c.args.by.now.headers (in_output c.args.by.now.link.now c.args.by.now.live.now filling) in
    let none : length c.loop-pass.hand.scan.items ≡ 0 = search rules in
    subst (AreRelaxed by) (sym c.end_of.ensures) (ends_unseen by (5 - c.loop-pass._pass) c.loop-pass.hand (c.loop-pass.invariant filling is first) none)

pub turn-requires-clause-stage : goal.turn-requires-clause-stage
turn-requires-clause-stage g c = (c.requires.first.0, (c.loop-pass.invariant c.requires.first.0 c.requires.first.1 c.requires.first.2).is)

pub returns-in_err-parts : goal.returns-in_err-parts
returns-in_err-parts g c = λ filling is first.
    let by : Relaxing = relaxing (g.P.Platform.segment_start c.args.by.now.platform.now) c.args.by.now.headers (in_output c.args.by.now.link.now c.args.by.now.live.now filling) in
    let left : ℕ = 5 - c.loop-pass._pass in
    let rest : ℕ = 5 - (c.loop-pass._pass + 1) in
    let count : left ≡ suc rest = omega (arith, c.loop-pass-test.true) in
    let h : IsInHand by left c.loop-pass.hand = c.loop-pass.invariant filling is first in
    relaxed_exit by (AreRelaxed by) _ c.from_residual.result c.from_residual.ensures.1
    (λ e same. subst (λ (x : PlaceError). GivesRelaxed by (AreRelaxed by) (Err x)) (sym same)
    (refused_end by left rest c.loop-pass.hand c.in_err-parts.field-0.0 h count (c.in_err-parts.ensures filling h.is)))

pub returns-in-Last : goal.returns-in-Last
returns-in-Last g c = λ filling is first.
    let by : Relaxing = relaxing (g.P.Platform.segment_start c.args.by.now.platform.now) c.args.by.now.headers (in_output c.args.by.now.link.now c.args.by.now.live.now filling) in
    let left : ℕ = 5 - c.loop-pass._pass in
    let rest : ℕ = 5 - (c.loop-pass._pass + 1) in
    let count : left ≡ suc rest = omega (arith, c.loop-pass-test.true) in
    let h : IsInHand by left c.loop-pass.hand = c.loop-pass.invariant filling is first in
    ends_still by left rest c.loop-pass.hand c.in-Last.parts h count
    (subst (λ (t : Turned). GivesTurn by (stage_in c.loop-pass.hand h.is) c.loop-pass.hand (Ok t)) c.in-Last.is (c.in_ok-parts.ensures filling h.is))

pub loop-pass-preserved : goal.loop-pass-preserved
loop-pass-preserved g c = λ filling is first.
    let by : Relaxing = relaxing (g.P.Platform.segment_start c.args.by.now.platform.now) c.args.by.now.headers (in_output c.args.by.now.link.now c.args.by.now.live.now filling) in
    let left : ℕ = 5 - c.loop-pass._pass in
    let rest : ℕ = 5 - (c.loop-pass._pass + 1) in
    let count : left ≡ suc rest = omega (arith, c.loop-pass-test.true) in
    let h : IsInHand by left c.loop-pass.hand = c.loop-pass.invariant filling is first in
    goes_next by left rest c.loop-pass.hand c.in-Next.next h count
    (subst (λ (t : Turned). GivesTurn by (stage_in c.loop-pass.hand h.is) c.loop-pass.hand (Ok t)) c.in-Next.is (c.in_ok-parts.ensures filling h.is))

pub returns : goal.returns
returns g c = λ filling is first.
    let by : Relaxing = relaxing (g.P.Platform.segment_start c.args.by.now.platform.now) c.args.by.now.headers (in_output c.args.by.now.link.now c.args.by.now.live.now filling) in
    let none : 5 - c.loop-pass._pass ≡ 0 = omega (arith, c.loop-pass-test.false) in
    subst (AreRelaxed by) (sym c.end_of-2.ensures) (ends_last by (5 - c.loop-pass._pass) c.loop-pass.hand none (c.loop-pass.invariant filling is first))
