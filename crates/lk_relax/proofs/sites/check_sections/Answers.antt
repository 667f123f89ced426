use Rattle.std.proofs.Common.{List, Some, length, sym, ap, ◌∙◌, arith}
use Rattle.std.specs.List.{slice_get}
use Rattle.std.proofs.lemmas.Option.{slice_get-get_or}
use Rattle.lk_link.specs.declared.section.InputSection.{InputSection}
use Rattle.lk_reach.proofs.SymbolNumbers.{sections_few}
use Rattle.lk_relax.specs.declared.sites.RelaxedPlace.{RelaxedPlace}
use Rattle.lk_relax.specs.ScanWords.{pass_state_of}
use Rattle.lk_relax.specs.Sites.{section_past}
use Rattle.lk_stops.proofs.Stopping.{all_gone, exit, one_more, stops_at}
use Rattle.lk_relax.proofs.sites.check_sections.Goals as goal

pub overflow_cast-index : goal.overflow_cast-index
overflow_cast-index c =
    omega (
      arith,
      sections_few c.args.by.link.now c.args.file.id c.args.file.file.now c.requires.good c.requires.there,
      c.loop-index-test.true,
      ap length c.as_slice-section-items.ensures,
    )

pub check_section-requires-clause-section : goal.check_section-requires-clause-section
check_section-requires-clause-section c =
    let sections : List InputSection = c.as_slice-section-items.result.now in
    ap (λ (xs : List InputSection). slice_get xs c.loop-index.index) (sym c.as_slice-section-items.ensures)
    ∙ slice_get-get_or sections c.loop-index.index c.section-item.result c.loop-index-test.true ∙ ap (λ (s : InputSection). Some s) (sym c.section-item.is)

pub returns-in_err-check_section : goal.returns-in_err-check_section
returns-in_err-check_section c =
    let n = c.loop-index.index in
    let f = section_past (pass_state_of c.args.by) c.args.file.id in
    exit _ _ c.from_residual.result c.from_residual.ensures.1 (λ e is.
    stops_at f 0 c.args.file.file.now.sections c.as_slice-section-items.result.now n n c.section-item.result _ c.as_slice-section-items.ensures c.loop-index-test.true (omega arith)
    c.loop-index.invariant (ap (λ (s : InputSection). slice_get (f (n, s)) 0) (sym c.section-item.is) ∙ c.in_err-check_section.ensures) ∙ ap (λ (p : RelaxedPlace). Some p) (sym is))

pub loop-index-preserved : goal.loop-index-preserved
loop-index-preserved c =
    let n = c.loop-index.index in
    let f = section_past (pass_state_of c.args.by) c.args.file.id in
    one_more f 0 c.args.file.file.now.sections c.as_slice-section-items.result.now n n c.section-item.result c.as_slice-section-items.ensures c.loop-index-test.true (omega arith)
    c.loop-index.invariant (ap (λ (s : InputSection). f (n, s)) (sym c.section-item.is) ∙ c.in_ok-check_section.ensures)

pub returns : goal.returns
returns c =
    let f = section_past (pass_state_of c.args.by) c.args.file.id in
    all_gone f 0 c.args.file.file.now.sections c.as_slice-section-items.result.now c.loop-index.index c.as_slice-section-items.ensures c.loop-index-test.false c.loop-index.invariant
