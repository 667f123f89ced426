use Rattle.std.proofs.Common.{◌≡◌, ℕ, Option, length, ap, arith, ◌∙◌}
use Rattle.lk_link.specs.Inputs.{Input}
use Rattle.lk_reach.proofs.Numbered.{are_numbered}
use Rattle.lk_relax.specs.PositionWords.{section_position_in}
use Rattle.lk_relax.proofs.Positioned.{push_turn}
use Rattle.lk_relax.proofs.positions.section_positions.Goals as goal

pub inputs-input-items-requires : goal.inputs-input-items-requires
inputs-input-items-requires c = are_numbered c.args.link.now c.requires

pub loop-input-preserved : goal.loop-input-preserved
loop-input-preserved c =
    let marks = c.args.live.now.marks in
    let places = c.args.places.now in
    let section = c.in-Some.input.section.now in
    let number : c.len-number.result ≡ length c.loop-input.positions.items = omega (arith, c.len-number.ensures, c.loop-input.positions.ok.0) in
    let by : ℕ × Input → Option (ℕ × ℕ) = λ q. section_position_in marks places q.0 q.1.section in
    push_turn by c.loop-input.yielded c.in-Some.input c.loop-input.positions.items _ c.section_position.result c.loop-input.invariant c.in_ok-push.ensures.items (
    c.section_position.ensures
    ∙ ap (λ ms. section_position_in ms places c.len-number.result section) c.as_slice-marks.ensures
    ∙ ap (λ n. section_position_in marks places n section) number
    )
