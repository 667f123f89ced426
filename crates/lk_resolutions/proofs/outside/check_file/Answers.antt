use Rattle.std.proofs.Common.{◌≡◌, ◌+◌, List, Some, length, sym, ap, ◌∙◌, arith}
use Rattle.std.specs.List.{slice_get}
use Rattle.std.proofs.lemmas.Option.{slice_get-get_or}
use Rattle.lk_link.specs.declared.section.InputSection.{InputSection}
use Rattle.lk_link.specs.Inputs.{input_number}
use Rattle.lk_link.specs.Marks.{is_marked}
use Rattle.lk_link.specs.Walks.{file_of}
use Rattle.lk_reach.proofs.SymbolNumbers.{first_within, inputs_few, sections_few, symbols_few}
use Rattle.lk_resolutions.specs.declared.outside.MergeOffsetPlace.{MergeOffsetPlace}
use Rattle.lk_resolutions.specs.Outside.{outside_in, section_outside}
use Rattle.lk_stops.proofs.Stopping.{all_gone, exit, one_more, stops_at}
use Rattle.lk_resolutions.proofs.outside.check_file.Goals as goal

pub input_start-requires : goal.input_start-requires
input_start-requires c = omega (arith, inputs_few c.args.link.now c.requires.good)

pub symbol_id_range-requires : goal.symbol_id_range-requires
symbol_id_range-requires c = symbols_few c.args.link.now c.requires.good

pub overflow_add-start : goal.overflow_add-start
overflow_add-start c =
    let link = c.args.link.now in
    omega (
      arith,
      c.in-Some.ensures.1,
      first_within link.groups c.args.file.id,
      inputs_few link c.requires.good,
      sections_few link c.args.file.id c.args.file.file.now c.requires.good c.requires.there,
      c.loop-index-test.true,
      ap length c.as_slice-section-items.ensures,
    )

pub overflow_cast-index : goal.overflow_cast-index
overflow_cast-index c =
    omega (
      arith,
      sections_few c.args.link.now c.args.file.id c.args.file.file.now c.requires.good c.requires.there,
      c.loop-index-test.true,
      ap length c.as_slice-section-items.ensures,
    )

pub check_section-requires-clause-section : goal.check_section-requires-clause-section
check_section-requires-clause-section c =
    let sections : List InputSection = c.as_slice-section-items.result.now in
    ap (λ (xs : List InputSection). slice_get xs c.loop-index.index) (sym c.as_slice-section-items.ensures)
    ∙ slice_get-get_or sections c.loop-index.index c.section-item.result c.loop-index-test.true ∙ ap (λ (s : InputSection). Some s) (sym c.section-item.is)

pub returns-in_err-check_section : goal.returns-in_err-check_section
returns-in_err-check_section c =
    let link = c.args.link.now in
    let n = c.loop-index.index in
    let f = section_outside link c.args.live.now (file_of c.args.file) in
    let number : c.in-Some.start + n ≡ input_number link.groups c.args.file.id n = omega (arith, c.in-Some.ensures.1) in
    let mark : c.is_marked-is_live.result ≡ is_marked c.args.live.now.marks (input_number link.groups c.args.file.id n)
    = c.is_marked-is_live.ensures ∙ ap (λ ms. is_marked ms (c.in-Some.start + n)) c.as_slice.ensures ∙ ap (is_marked c.args.live.now.marks) number in
    let found = ap (λ b. slice_get (outside_in link b (file_of c.args.file) (n, c.section-item.result)) 0) (sym mark) ∙ c.in_err-check_section.ensures in
    exit _ _ c.from_residual.result c.from_residual.ensures.1 (λ e is.
    stops_at f 0 c.args.file.file.now.sections c.as_slice-section-items.result.now n n c.section-item.result _ c.as_slice-section-items.ensures c.loop-index-test.true (omega arith)
    c.loop-index.invariant (ap (λ (s : InputSection). slice_get (f (n, s)) 0) (sym c.section-item.is) ∙ found) ∙ ap (λ (p : MergeOffsetPlace). Some p) (sym is))

pub loop-index-preserved : goal.loop-index-preserved
loop-index-preserved c =
    let link = c.args.link.now in
    let n = c.loop-index.index in
    let f = section_outside link c.args.live.now (file_of c.args.file) in
    let number : c.in-Some.start + n ≡ input_number link.groups c.args.file.id n = omega (arith, c.in-Some.ensures.1) in
    let mark : c.is_marked-is_live.result ≡ is_marked c.args.live.now.marks (input_number link.groups c.args.file.id n)
    = c.is_marked-is_live.ensures ∙ ap (λ ms. is_marked ms (c.in-Some.start + n)) c.as_slice.ensures ∙ ap (is_marked c.args.live.now.marks) number in
    let none = ap (λ b. outside_in link b (file_of c.args.file) (n, c.section-item.result)) (sym mark) ∙ c.in_ok-check_section.ensures in
    one_more f 0 c.args.file.file.now.sections c.as_slice-section-items.result.now n n c.section-item.result c.as_slice-section-items.ensures c.loop-index-test.true (omega arith)
    c.loop-index.invariant (ap (λ (s : InputSection). f (n, s)) (sym c.section-item.is) ∙ none)

pub returns : goal.returns
returns c =
    let f = section_outside c.args.link.now c.args.live.now (file_of c.args.file) in
    all_gone f 0 c.args.file.file.now.sections c.as_slice-section-items.result.now c.loop-index.index c.as_slice-section-items.ensures c.loop-index-test.false c.loop-index.invariant
