use Rattle.std.proofs.Common.{◌≡◌, ℕ, ◌+◌, ◌≤◌, List, [], ◌∷◌, ◌++◌, length, map, get_or, cond, sym, ap, ◌∙◌, subst, arith}
use Rattle.std.proofs.lemmas.List.{length-map, map-append, length-append, length_push}
use Rattle.lk_link.specs.Inputs.{Input, all_inputs}
use Rattle.lk_link.specs.Parts.{part_sections}
use Rattle.lk_link.specs.Walks.{input_of}
use Rattle.lk_link.proofs.GoodLinks.{few}
use Rattle.lk_link.proofs.InputLemmas.{inputs_follow}
use Rattle.lk_merge.specs.LinkInputTables.{CanGo}
use Rattle.lk_merge.specs.LinkInputs.{is_merged_into, merge_input}
use Rattle.lk_merge.proofs.Gathering.{AreAmong, can_go, gathered_next, gathered_all}
use Rattle.lk_merge.proofs.InputWalk.{turn, finish}
use Rattle.lk_merge.proofs.link_inputs.gather.Goals as goal

pub section_of_parts-requires : goal.section_of_parts-requires
section_of_parts-requires c =
    let n : length c.as_slice.result.now ≡ length c.args.link.now.plan.sections = ap length c.as_slice.ensures in
    let most : length c.args.link.now.plan.sections ≤ 65279 = (few c.args.link.now c.requires).sections in
    omega (arith, n, most)

pub inputs-input-items-requires : goal.inputs-input-items-requires
inputs-input-items-requires c = let f = few c.args.link.now c.requires in record { few_groups = f.groups; few_files = f.files }

pub add_input-requires : goal.add_input-requires
add_input-requires c = λ merged.
    let link = c.args.link.now in
    let f = few link c.requires in
    let all : List Input = all_inputs link.groups in
    let next = turn all c.into_iter-input-iterator.result c.loop-input.input-iterator c.next.new.self c.loop-input.yielded c.in-Some.input (cc) c.loop-input.yielded_by c.in-Some.ensures.steps in
    let count : length all ≤ 16777216 = omega (arith, inputs_follow.count link.groups, f.inputs) in
    let number : c.loop-input.number ≡ length (map input_of c.loop-input.yielded) = c.loop-input.invariant.0 ∙ sym (length-map c.loop-input.yielded input_of) in
    subst (λ (l : List ℕ). CanGo l c.loop-input.outputs.items c.loop-input.number c.in-Some.input.section.now) (sym c.as_slice-in-loop-input.ensures.value)
    (can_go link c.in_ok-sections.sections.items (map input_of c.loop-input.yielded) (input_of c.in-Some.input) next.0 c.loop-input.outputs.items c.loop-input.number c.requires
    (c.in_ok-sections.ensures ∙ ap part_sections c.as_slice.ensures) next.1 number c.loop-input.invariant.1 count f.merged merged)

pub overflow_add-number : goal.overflow_add-number
overflow_add-number c =
    let link = c.args.link.now in
    let f = few link c.requires in
    let all : List Input = all_inputs link.groups in
    let next = turn all c.into_iter-input-iterator.result c.loop-input.input-iterator c.next.new.self c.loop-input.yielded c.in-Some.input (cc) c.loop-input.yielded_by c.in-Some.ensures.steps in
    let count : length all ≤ 16777216 = omega (arith, inputs_follow.count link.groups, f.inputs) in
    let split : length all ≡ length (map input_of c.loop-input.yielded) + length (input_of c.in-Some.input ∷ next.0) = ap length next.1 ∙ length-append (map input_of c.loop-input.yielded) (input_of c.in-Some.input ∷ next.0) in
    let n : length (map input_of c.loop-input.yielded) ≡ length c.loop-input.yielded = length-map c.loop-input.yielded input_of in
    omega (arith, count, split, n, c.loop-input.invariant.0)

pub loop-input-preserved : goal.loop-input-preserved
loop-input-preserved c =
    let link = c.args.link.now in
    let done : List Input = map input_of c.loop-input.yielded in
    let number : c.loop-input.number ≡ length done = c.loop-input.invariant.0 ∙ sym (length-map c.loop-input.yielded input_of) in
    let n = length_push c.loop-input.yielded c.in-Some.input in (
      omega (arith, n, c.loop-input.invariant.0),
      subst (λ (l : List Input). AreAmong c.in_ok-sections.sections.items (length link.plan.sections) l c.add_input.new.outputs.items)
          (sym (map-append input_of c.loop-input.yielded (c.in-Some.input ∷ [])))
          (gathered_next c.in_ok-sections.sections.items (length link.plan.sections) c.loop-input.number done (input_of c.in-Some.input) c.loop-input.outputs.items c.add_input.new.outputs.items
          c.loop-input.invariant.1 number c.in_ok-add_input.ensures.count
          (λ s below. c.in_ok-add_input.ensures.each s below
          ∙ ap (λ (l : List ℕ). get_or c.loop-input.outputs.items s [] ++ cond (is_merged_into l s c.in-Some.input.section.now) (merge_input c.loop-input.number c.in-Some.input.section.now ∷ []) [])
          c.as_slice-in-loop-input.ensures.value)),
    )

pub returns : goal.returns
returns c =
    let link = c.args.link.now in
    let all = finish (all_inputs link.groups) c.into_iter-input-iterator.result c.loop-input.input-iterator c.next.new.self c.loop-input.yielded (cc) c.loop-input.yielded_by c.in-None.ensures.steps in
    gathered_all link c.in_ok-sections.sections.items (map input_of c.loop-input.yielded) c.loop-input.outputs.items (c.in_ok-sections.ensures ∙ ap part_sections c.as_slice.ensures) c.loop-input.invariant.1 all
