use Rattle.std.proofs.Common.{ℕ, ◌+◌, refl, sym, ap, ◌∙◌, subst, arith}
use Rattle.std.specs.List.{slice_get}
use Rattle.lk_link.specs.Inputs.{Input, all_inputs, input_number}
use Rattle.lk_link.proofs.GoodLinks.{few}
use Rattle.lk_link.proofs.InputLemmas.{inputs_follow}
use Rattle.lk_merge.specs.declared.output_address.SymbolPlace.{SymbolPlace}
use Rattle.lk_merge.specs.OutputAddressTables.{IsMergePlace, lent_place}
use Rattle.lk_merge.proofs.LocatedLemmas.{slice_within}
use Rattle.lk_merge.proofs.SymbolPlaces.{some_one}
use Rattle.lk_merge.proofs.output_address.place_in.Goals as goal

pub input_start-requires : goal.input_start-requires
input_start-requires c = let f = few c.args.link.now c.requires.well_formed in omega (arith, f.inputs)

pub overflow_cast-result : goal.overflow_cast-result
overflow_cast-result c =
    let groups = c.args.link.now.groups in
    let f = few c.args.link.now c.requires.well_formed in
    let at = inputs_follow.at groups c.args.file.id c.args.file.file.now c.in-Section.index c.in_ok-section.section.now c.requires.there (sym c.in_ok-section.ensures) in
    let within = slice_within (all_inputs groups) (input_number groups c.args.file.id c.in-Section.index) _ at in
    omega (arith, f.inputs, within, inputs_follow.count groups, c.in_ok-first.ensures.1)

pub overflow_add-result : goal.overflow_add-result
overflow_add-result c =
    let groups = c.args.link.now.groups in
    let f = few c.args.link.now c.requires.well_formed in
    let at = inputs_follow.at groups c.args.file.id c.args.file.file.now c.in-Section.index c.in_ok-section.section.now c.requires.there (sym c.in_ok-section.ensures) in
    let within = slice_within (all_inputs groups) (input_number groups c.args.file.id c.in-Section.index) _ at in
    omega (arith, f.inputs, within, inputs_follow.count groups, c.in_ok-first.ensures.1)

pub returns-clause-there : goal.returns-clause-there
returns-clause-there c p is =
    let groups = c.args.link.now.groups in
    let at = inputs_follow.at groups c.args.file.id c.args.file.file.now c.in-Section.index c.in_ok-section.section.now c.requires.there (sym c.in_ok-section.ensures) in
    let input : Input = record { file = c.args.file.id; index = c.in-Section.index; section = c.in_ok-section.section.now } in
    subst (λ (z : SymbolPlace). IsMergePlace c.args.link.now (lent_place z)) (some_one _ _ is)
    (record {
      input = input;
      there = ap (λ (n : ℕ). slice_get (all_inputs groups) (n + c.in-Section.index)) c.in_ok-first.ensures.1 ∙ at;
      section = refl;
      merged = sym c.is_merge.ensures ∙ c.if-not-is_merge.false;
    })
