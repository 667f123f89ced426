use Rattle.std.proofs.Common.{◌≡◌, ◌+◌, ◌∷◌, List, Some, length, map, sym, ap, ◌∙◌, arith, length-append}
use Rattle.std.specs.List.{enumerate_from, flat_map, slice_get}
use Rattle.std.proofs.lemmas.List.{length-map, length_push}
use Rattle.lk_link.specs.Inputs.{Input, all_inputs}
use Rattle.lk_link.specs.Walks.{input_of}
use Rattle.lk_link.proofs.InputLemmas.{inputs_follow}
use Rattle.lk_reach.proofs.LiveWalk.{finish, turn}
use Rattle.lk_reach.proofs.Numbered.{are_numbered}
use Rattle.lk_reach.proofs.SymbolNumbers.{inputs_few}
use Rattle.lk_stops.proofs.Stopping.{exit}
use Rattle.lk_image.specs.declared.error.ImageError.{ImageError}
use Rattle.lk_image.specs.Refusals.{room_refusals_in}
use Rattle.lk_image.proofs.Turns.{first_next, none_more}
use Rattle.lk_image.proofs.room.check_room.Goals as goal

pub inputs-input-items-requires : goal.inputs-input-items-requires
inputs-input-items-requires c = are_numbered c.args.link.now c.requires.good

pub returns-in_err-check_section : goal.returns-in_err-check_section
returns-in_err-check_section c =
    let link = c.args.link.now in
    let g = room_refusals_in link c.args.layout.now in
    let x : Input = input_of c.in-Some.input in
    let done : List Input = map input_of c.loop-input.yielded in
    let at = turn (all_inputs link.groups) c.into_iter-input-iterator.result c.loop-input.input-iterator c.next.new.self c.loop-input.yielded c.in-Some.input (cc) c.loop-input.yielded_by c.in-Some.ensures.steps in
    let place : c.loop-input.number ≡ 0 + length done = omega (arith, c.loop-input.invariant.number, length-map c.loop-input.yielded input_of) in
    let found : slice_get (g (0 + length done, x)) 0 ≡ Some c.in_err-check_section.field-0.0 = ap (λ n. slice_get (g (n, x)) 0) (sym place) ∙ c.in_err-check_section.ensures in
    exit _ _ c.from_residual.result c.from_residual.ensures.1 (λ e is.
    ap (λ (xs : List Input). slice_get (flat_map g (enumerate_from 0 xs)) 0) at.splits
    ∙ first_next g 0 done x at.rest _ c.loop-input.invariant.none found ∙ ap (λ (p : ImageError). Some p) (sym is))

pub overflow_add-number : goal.overflow_add-number
overflow_add-number c =
    let link = c.args.link.now in
    let at = turn (all_inputs link.groups) c.into_iter-input-iterator.result c.loop-input.input-iterator c.next.new.self c.loop-input.yielded c.in-Some.input (cc) c.loop-input.yielded_by c.in-Some.ensures.steps in
    omega (
      arith,
      c.loop-input.invariant.number,
      length-map c.loop-input.yielded input_of,
      ap length at.splits,
      length-append (map input_of c.loop-input.yielded) (input_of c.in-Some.input ∷ at.rest),
      inputs_follow.count link.groups,
      inputs_few link c.requires.good,
    )

pub loop-input-preserved : goal.loop-input-preserved
loop-input-preserved c = record {
  none = none_more input_of (room_refusals_in c.args.link.now c.args.layout.now) c.loop-input.yielded c.in-Some.input c.loop-input.number c.loop-input.invariant.number
      c.loop-input.invariant.none c.in_ok-check_section.ensures;
  number = omega (arith, c.loop-input.invariant.number, length_push c.loop-input.yielded c.in-Some.input);
}

pub returns : goal.returns
returns c =
    let link = c.args.link.now in
    let all : map input_of c.loop-input.yielded ≡ all_inputs link.groups = finish (all_inputs link.groups) c.into_iter-input-iterator.result c.loop-input.input-iterator c.next.new.self c.loop-input.yielded (cc) c.loop-input.yielded_by c.in-None.ensures.steps in
    ap (λ (xs : List Input). flat_map (room_refusals_in link c.args.layout.now) (enumerate_from 0 xs)) (sym all) ∙ c.loop-input.invariant.none
