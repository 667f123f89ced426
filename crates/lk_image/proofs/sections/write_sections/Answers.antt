use Rattle.std.proofs.Common.{◌≡◌, ◌∷◌, List, Some, fold, length, map, ap, ◌∙◌, arith, length-append}
use Rattle.std.specs.List.{enumerate_from, flat_map, slice_get}
use Rattle.std.proofs.lemmas.List.{length-map, length_push}
use Rattle.lk_link.specs.Inputs.{Input, all_inputs}
use Rattle.lk_link.specs.Walks.{input_of}
use Rattle.lk_link.proofs.InputLemmas.{inputs_follow}
use Rattle.lk_reach.proofs.LiveWalk.{finish, turn}
use Rattle.lk_reach.proofs.Numbered.{are_numbered}
use Rattle.lk_reach.proofs.SymbolNumbers.{inputs_few}
use Rattle.lk_relax.proofs.InputsThere.{input_turn}
use Rattle.lk_image.specs.Image.{section_stretch}
use Rattle.lk_image.specs.Stretches.{with_stretch}
use Rattle.lk_image.proofs.Turns.{folds_more}
use Rattle.lk_image.proofs.sections.write_sections.Goals as goal

pub inputs-input-items-requires : goal.inputs-input-items-requires
inputs-input-items-requires c = are_numbered c.args.link.now c.requires.ready.good

pub write_section-requires-clause-there : goal.write_section-requires-clause-there
write_section-requires-clause-there c =
    let link = c.args.link.now in
    ap (slice_get (all_inputs link.groups)) c.loop-input.invariant.number
    ∙ input_turn link c.into_iter-input-iterator.result c.loop-input.input-iterator c.next.new.self c.loop-input.yielded c.in-Some.input (cc) c.loop-input.yielded_by c.in-Some.ensures.steps

pub write_section-requires-clause-room : goal.write_section-requires-clause-room
write_section-requires-clause-room c =
    let link = c.args.link.now in
    let there : slice_get (all_inputs link.groups) c.loop-input.number ≡ Some (input_of c.in-Some.input)
    = ap (slice_get (all_inputs link.groups)) c.loop-input.invariant.number
    ∙ input_turn link c.into_iter-input-iterator.result c.loop-input.input-iterator c.next.new.self c.loop-input.yielded c.in-Some.input (cc) c.loop-input.yielded_by c.in-Some.ensures.steps in
    c.requires.room c.loop-input.number (input_of c.in-Some.input) there

pub overflow_add-number : goal.overflow_add-number
overflow_add-number c =
    let link = c.args.link.now in
    let at = turn (all_inputs link.groups) c.into_iter-input-iterator.result c.loop-input.input-iterator c.next.new.self c.loop-input.yielded c.in-Some.input (cc) c.loop-input.yielded_by c.in-Some.ensures.steps in
    omega (
      arith,
      c.loop-input.invariant.number,
      length-map c.loop-input.yielded input_of,
      ap length at.splits,
      length-append (map input_of c.loop-input.yielded) (input_of c.in-Some.input ∷ at.rest),
      inputs_follow.count link.groups,
      inputs_few link c.requires.ready.good,
    )

pub loop-input-preserved : goal.loop-input-preserved
loop-input-preserved c = record {
  written = folds_more with_stretch c.args.image.now c.loop-input.image c.write_section.new.image input_of (section_stretch c.args.link.now c.args.layout.now) c.loop-input.yielded c.in-Some.input
      c.loop-input.number c.loop-input.invariant.number c.loop-input.invariant.written c.write_section.ensures.written;
  long = c.write_section.ensures.long ∙ c.loop-input.invariant.long;
  number = omega (arith, c.loop-input.invariant.number, length_push c.loop-input.yielded c.in-Some.input);
}

pub returns-clause-written : goal.returns-clause-written
returns-clause-written c =
    let link = c.args.link.now in
    let all : map input_of c.loop-input.yielded ≡ all_inputs link.groups = finish (all_inputs link.groups) c.into_iter-input-iterator.result c.loop-input.input-iterator c.next.new.self c.loop-input.yielded (cc) c.loop-input.yielded_by c.in-None.ensures.steps in
    c.loop-input.invariant.written ∙ ap (λ (xs : List Input). fold with_stretch c.args.image.now (flat_map (section_stretch link c.args.layout.now) (enumerate_from 0 xs))) all
