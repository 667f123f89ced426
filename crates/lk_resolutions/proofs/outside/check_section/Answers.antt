use Rattle.std.proofs.Common.{◌≡◌, true, List, [], Some, length, sym, ap, ◌∙◌, if◌then◌else◌, arith}
use Rattle.std.specs.Prelude.{◌&&◌}
use Rattle.std.specs.List.{enumerate_from, flat_map, slice_get}
use Rattle.lk_link.specs.declared.relocation.Relocation.{Relocation}
use Rattle.lk_link.specs.InputSlots.{is_regular}
use Rattle.lk_link.specs.Walks.{file_of}
use Rattle.lk_link.proofs.GoodInputs.{lists_of}
use Rattle.lk_reach.proofs.SymbolNumbers.{relocations_from}
use Rattle.lk_resolutions.specs.declared.outside.MergeOffsetPlace.{MergeOffsetPlace}
use Rattle.lk_resolutions.specs.Outside.{relocation_outside}
use Rattle.lk_stops.proofs.Stopping.{all_gone, exit, one_more, stops_at}
use Rattle.lk_resolutions.proofs.outside.check_section.Goals as goal

pub overflow_cast-number : goal.overflow_cast-number
overflow_cast-number c =
    let few = lists_of c.args.at.link.now c.args.at.file.id c.args.index c.args.at.file.file.now c.args.section.now c.requires.good c.requires.there c.requires.section in
    omega (arith, few.0, ap length c.as_slice-relocation-items.ensures, c.loop-number-test.true)

pub check_relocation-requires-clause-number : goal.check_relocation-requires-clause-number
check_relocation-requires-clause-number c =
    let regular : is_regular c.args.section.now.slot ≡ true = sym c.is_regular.ensures ∙ c.if-not-is_regular.false in
    relocations_from c.args.at.link.now c.args.at.file.id c.args.at.file.file.now c.args.index c.args.section.now c.args.at.first c.as_slice-relocation-items.result.now
    c.requires.good c.requires.there c.requires.section regular c.requires.first c.as_slice-relocation-items.ensures c.loop-number.number _ c.loop-number-test.true

pub returns-in_err-check_relocation : goal.returns-in_err-check_relocation
returns-in_err-check_relocation c =
    let f = relocation_outside c.args.at.link.now (file_of c.args.at.file) c.args.index in
    let relocs : List Relocation = c.args.section.now.relocs in
    let all : List MergeOffsetPlace = flat_map f (enumerate_from 0 relocs) in
    let regular : is_regular c.args.section.now.slot ≡ true = sym c.is_regular.ensures ∙ c.if-not-is_regular.false in
    let live : c.args.is_live ≡ true = c.if-not-is_live.false in
    let first : slice_get all 0 ≡ Some c.in_err-check_relocation.field-0.0
    = stops_at f 0 relocs c.as_slice-relocation-items.result.now c.loop-number.number c.loop-number.number _ _ c.as_slice-relocation-items.ensures c.loop-number-test.true (omega arith)
    c.loop-number.invariant c.in_err-check_relocation.ensures in
    exit _ _ c.from_residual.result c.from_residual.ensures.1 (λ e is.
    ap (λ b. slice_get (if b && is_regular c.args.section.now.slot then all else []) 0) live
    ∙ ap (λ b. slice_get (if b then all else []) 0) regular ∙ first ∙ ap (λ (p : MergeOffsetPlace). Some p) (sym is))

pub loop-number-preserved : goal.loop-number-preserved
loop-number-preserved c =
    let f = relocation_outside c.args.at.link.now (file_of c.args.at.file) c.args.index in
    one_more f 0 c.args.section.now.relocs c.as_slice-relocation-items.result.now c.loop-number.number c.loop-number.number _ c.as_slice-relocation-items.ensures c.loop-number-test.true (omega arith)
    c.loop-number.invariant c.in_ok-check_relocation.ensures

pub returns : goal.returns
returns c =
    let f = relocation_outside c.args.at.link.now (file_of c.args.at.file) c.args.index in
    let relocs : List Relocation = c.args.section.now.relocs in
    let all : List MergeOffsetPlace = flat_map f (enumerate_from 0 relocs) in
    let regular : is_regular c.args.section.now.slot ≡ true = sym c.is_regular.ensures ∙ c.if-not-is_regular.false in
    let live : c.args.is_live ≡ true = c.if-not-is_live.false in
    ap (λ b. if b && is_regular c.args.section.now.slot then all else []) live ∙ ap (λ b. if b then all else []) regular
    ∙ all_gone f 0 relocs c.as_slice-relocation-items.result.now c.loop-number.number c.as_slice-relocation-items.ensures c.loop-number-test.false c.loop-number.invariant
