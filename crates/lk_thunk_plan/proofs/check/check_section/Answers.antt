use Rattle.std.proofs.Common.{◌≡◌, ℕ, ◌+◌, true, List, [], Some, length, take, sym, ap, ◌∙◌, if◌then◌else◌, arith}
use Rattle.std.specs.Prelude.{◌&&◌}
use Rattle.std.specs.List.{enumerate_from, flat_map, slice_get}
use Rattle.std.proofs.lemmas.Option.{slice_get_within}
use Rattle.lk_link.specs.declared.relocation.Relocation.{Relocation}
use Rattle.lk_link.specs.InputSlots.{is_regular}
use Rattle.lk_link.specs.Inputs.{input_number}
use Rattle.lk_link.specs.Marks.{is_marked}
use Rattle.lk_link.specs.Walks.{file_of}
use Rattle.lk_link.proofs.GoodInputs.{lists_of}
use Rattle.lk_reach.proofs.SymbolNumbers.{first_within, inputs_few, relocations_from, sections_few}
use Rattle.lk_stops.proofs.Stopping.{all_gone, exit, one_more, stops_at}
use Rattle.lk_thunk_plan.specs.declared.check.BranchPlace.{BranchPlace}
use Rattle.lk_thunk_plan.specs.Branches.{Branching, BranchOrigin, relocation_unreached, standing_of}
use Rattle.lk_thunk_plan.specs.BranchWords.{branching_of, standing_at}
use Rattle.lk_thunk_plan.proofs.check.check_section.Goals as goal

pub overflow_add-number : goal.overflow_add-number
overflow_add-number c =
    let link = c.args.by.now.link.now in
    omega (
      arith,
      c.requires.file.start,
      first_within link.groups c.args.at.now.file.id,
      inputs_few link c.requires.good,
      sections_few link c.args.at.now.file.id c.args.at.now.file.file.now c.requires.good c.requires.file.there,
      slice_get_within c.args.at.now.file.file.now.sections c.args.index c.args.section.now c.requires.section,
    )

pub overflow_cast-place : goal.overflow_cast-place
overflow_cast-place c =
    let few = lists_of c.args.by.now.link.now c.args.at.now.file.id c.args.index c.args.at.now.file.file.now c.args.section.now c.requires.good c.requires.file.there c.requires.section in
    omega (arith, few.0, ap length c.as_slice-relocation-items.ensures, c.loop-place-test.true)

pub check_relocation-requires-clause-number : goal.check_relocation-requires-clause-number
check_relocation-requires-clause-number c =
    let regular : is_regular c.args.section.now.slot ≡ true = sym c.is_regular.ensures ∙ c.if-not-is_regular.false in
    relocations_from c.args.by.now.link.now c.args.at.now.file.id c.args.at.now.file.file.now c.args.index c.args.section.now c.args.at.now.first c.as_slice-relocation-items.result.now
    c.requires.good c.requires.file.there c.requires.section regular c.requires.file.first c.as_slice-relocation-items.ensures c.loop-place.place _ c.loop-place-test.true

pub returns-in_err-check_relocation : goal.returns-in_err-check_relocation
returns-in_err-check_relocation c =
    let by : Branching = branching_of c.args.by.now in
    let spot : standing_at c.spot_of-spot.result ≡ standing_of by c.args.at.now.file.id (c.args.index, c.args.section.now)
    = c.spot_of-spot.ensures.spot in
    let f : BranchOrigin → ℕ × Relocation → List BranchPlace = relocation_unreached by c.args.at.now.config.now (file_of c.args.at.now.file) c.args.index in
    let relocs : List Relocation = c.args.section.now.relocs in
    let all : List BranchPlace = flat_map (f (standing_of by c.args.at.now.file.id (c.args.index, c.args.section.now))) (enumerate_from 0 relocs) in
    let regular : is_regular c.args.section.now.slot ≡ true = sym c.is_regular.ensures ∙ c.if-not-is_regular.false in
    let live : is_marked by.live.marks (input_number by.link.groups c.args.at.now.file.id c.args.index) ≡ true
    = ap (is_marked by.live.marks) (sym (ap (λ (n : ℕ). n + c.args.index) c.requires.file.start)) ∙ ap (λ ms. is_marked ms (c.args.at.now.start + c.args.index)) (sym c.as_slice.ensures) ∙ sym c.is_marked.ensures ∙ c.if-not-is_marked.false in
    let so_far = ap (λ (s : BranchOrigin). flat_map (f s) (take c.loop-place.place (enumerate_from 0 relocs))) spot ∙ c.loop-place.invariant in
    let first : slice_get all 0 ≡ Some c.in_err-check_relocation.field-0.0
    = ap (λ (s : BranchOrigin). slice_get (flat_map (f s) (enumerate_from 0 relocs)) 0) (sym spot)
    ∙ stops_at (f (standing_at c.spot_of-spot.result)) 0 relocs c.as_slice-relocation-items.result.now c.loop-place.place c.loop-place.place _ _ c.as_slice-relocation-items.ensures c.loop-place-test.true (omega arith)
    so_far c.in_err-check_relocation.ensures in
    exit _ _ c.from_residual.result c.from_residual.ensures.1 (λ e is.
    ap (λ b. slice_get (if b && is_regular c.args.section.now.slot then all else []) 0) live
    ∙ ap (λ b. slice_get (if b then all else []) 0) regular ∙ first ∙ ap (λ (p : BranchPlace). Some p) (sym is))

pub loop-place-preserved : goal.loop-place-preserved
loop-place-preserved c =
    let by : Branching = branching_of c.args.by.now in
    let spot : standing_at c.spot_of-spot.result ≡ standing_of by c.args.at.now.file.id (c.args.index, c.args.section.now)
    = c.spot_of-spot.ensures.spot in
    let f : BranchOrigin → ℕ × Relocation → List BranchPlace = relocation_unreached by c.args.at.now.config.now (file_of c.args.at.now.file) c.args.index in
    let relocs : List Relocation = c.args.section.now.relocs in
    let so_far = ap (λ (s : BranchOrigin). flat_map (f s) (take c.loop-place.place (enumerate_from 0 relocs))) spot ∙ c.loop-place.invariant in
    ap (λ (s : BranchOrigin). flat_map (f s) (take (c.loop-place.place + 1) (enumerate_from 0 relocs))) (sym spot)
    ∙ one_more (f (standing_at c.spot_of-spot.result)) 0 relocs c.as_slice-relocation-items.result.now c.loop-place.place c.loop-place.place _ c.as_slice-relocation-items.ensures c.loop-place-test.true (omega arith)
    so_far c.in_ok-check_relocation.ensures

pub returns : goal.returns
returns c =
    let by : Branching = branching_of c.args.by.now in
    let f = relocation_unreached by c.args.at.now.config.now (file_of c.args.at.now.file) c.args.index (standing_of by c.args.at.now.file.id (c.args.index, c.args.section.now)) in
    let relocs : List Relocation = c.args.section.now.relocs in
    let all : List BranchPlace = flat_map f (enumerate_from 0 relocs) in
    let regular : is_regular c.args.section.now.slot ≡ true = sym c.is_regular.ensures ∙ c.if-not-is_regular.false in
    let live : is_marked by.live.marks (input_number by.link.groups c.args.at.now.file.id c.args.index) ≡ true
    = ap (is_marked by.live.marks) (sym (ap (λ (n : ℕ). n + c.args.index) c.requires.file.start)) ∙ ap (λ ms. is_marked ms (c.args.at.now.start + c.args.index)) (sym c.as_slice.ensures) ∙ sym c.is_marked.ensures ∙ c.if-not-is_marked.false in
    ap (λ b. if b && is_regular c.args.section.now.slot then all else []) live ∙ ap (λ b. if b then all else []) regular
    ∙ all_gone f 0 relocs c.as_slice-relocation-items.result.now c.loop-place.place c.as_slice-relocation-items.ensures c.loop-place-test.false c.loop-place.invariant
