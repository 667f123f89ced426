use Rattle.std.proofs.Common.{◌≡◌, ◌∷◌, length, map, sym, ap, ◌∙◌, arith, length-append}
use Rattle.std.specs.Prelude.{is_some}
use Rattle.std.specs.List.{count_by}
use Rattle.std.proofs.lemmas.List.{length-map, length_push}
use Rattle.lk_link.specs.Inputs.{all_inputs}
use Rattle.lk_link.specs.Walks.{input_of}
use Rattle.lk_link.proofs.InputLemmas.{inputs_follow}
use Rattle.lk_layout.specs.Layouts.{emitted_count, is_told_singleton}
use Rattle.lk_reach.proofs.LiveWalk.{finish, turn}
use Rattle.lk_reach.proofs.Numbered.{are_numbered}
use Rattle.lk_reach.proofs.SymbolNumbers.{inputs_few}
use Rattle.lk_report.proofs.SingleLines.{all_written, no_lines, picked_few, written_first, written_more}
use Rattle.lk_report.proofs.singles.write_singles.Goals as goal

pub inputs-input-items-requires : goal.inputs-input-items-requires
inputs-input-items-requires c = are_numbered c.args.link.now c.requires.good

pub write_if_single-requires : goal.write_if_single-requires
write_if_single-requires c =
    let link = c.args.link.now in
    let at = turn (all_inputs link.groups) c.into_iter-input-iterator.result c.loop-input.input-iterator c.next.new.self c.loop-input.yielded c.in-Some.input (cc) c.loop-input.yielded_by c.in-Some.ensures.steps in
    omega (
      arith,
      c.loop-input.invariant.written.next,
      c.count_emitted-index.ensures.value,
      c.count_emitted-index.ensures.room,
      ap (count_by is_some) c.output_section_indexes.ensures,
      picked_few (is_told_singleton link c.args.layout.now) (map input_of c.loop-input.yielded),
      ap length at.splits,
      length-append (map input_of c.loop-input.yielded) (input_of c.in-Some.input ∷ at.rest),
      inputs_follow.count link.groups,
      inputs_few link c.requires.good,
    )

pub overflow_add-number : goal.overflow_add-number
overflow_add-number c =
    let link = c.args.link.now in
    let at = turn (all_inputs link.groups) c.into_iter-input-iterator.result c.loop-input.input-iterator c.next.new.self c.loop-input.yielded c.in-Some.input (cc) c.loop-input.yielded_by c.in-Some.ensures.steps in
    omega (
      arith,
      c.loop-input.invariant.number,
      length-map c.loop-input.yielded input_of,
      ap length at.splits,
      length-append (map input_of c.loop-input.yielded) (input_of c.in-Some.input ∷ at.rest),
      inputs_follow.count link.groups,
      inputs_few link c.requires.good,
    )

pub loop-input-init : goal.loop-input-init
loop-input-init c =
    let emitted = c.count_emitted-index.ensures.value ∙ ap (count_by is_some) c.output_section_indexes.ensures in
    record {
      written = record { lines = (written_first (is_told_singleton c.args.link.now c.args.layout.now) (emitted_count c.args.layout.now) _).lines; next = omega (arith, emitted) };
      number = omega arith;
    }

pub loop-input-preserved : goal.loop-input-preserved
loop-input-preserved c = record {
  written = written_more (is_told_singleton c.args.link.now c.args.layout.now) (emitted_count c.args.layout.now) c.loop-input.yielded c.in-Some.input c.loop-input.number c.loop-input.index _ _ _ _
      c.loop-input.invariant.written c.loop-input.invariant.number c.in_ok-index.ensures.text c.in_ok-index.ensures.index;
  number = omega (arith, c.loop-input.invariant.number, length_push c.loop-input.yielded c.in-Some.input);
}

pub returns-then-not-is_partial : goal.returns-then-not-is_partial
returns-then-not-is_partial c = no_lines c.args.link.now c.args.layout.now _ (sym c.is_partial.ensures ∙ c.if-not-is_partial.true)

pub returns : goal.returns
returns c =
    let link = c.args.link.now in
    let p = is_told_singleton link c.args.layout.now in
    let all : map input_of c.loop-input.yielded ≡ all_inputs link.groups = finish (all_inputs link.groups) c.into_iter-input-iterator.result c.loop-input.input-iterator c.next.new.self c.loop-input.yielded (cc) c.loop-input.yielded_by c.in-None.ensures.steps in
    all_written p (emitted_count c.args.layout.now) (map input_of c.loop-input.yielded) (all_inputs link.groups) _ _ c.loop-input.index c.loop-input.invariant.written all
