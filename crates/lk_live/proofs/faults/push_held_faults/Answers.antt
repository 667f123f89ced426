use Rattle.std.proofs.Common.{◌≡◌, ◌+◌, ◌++◌, true, false, Global, List, Vec, Some, length, sym, ap, ◌∙◌, arith}
use Rattle.std.specs.List.{slice_get}
use Rattle.std.proofs.lemmas.List.{append-nil}
use Rattle.std.proofs.lemmas.Option.{slice_get-get_or}
use Rattle.lk_link.specs.declared.section.InputSection.{InputSection}
use Rattle.lk_link.specs.Walks.{file_of}
use Rattle.lk_live.specs.declared.error.ReferenceFault.{ReferenceFault}
use Rattle.lk_reach.specs.declared.units.Unit.TheVariants.{Sec}
use Rattle.lk_live.specs.Faults.{marked_faults}
use Rattle.lk_reach.specs.Marks.{unit_number}
use Rattle.lk_live.proofs.FaultLemmas.{faults_if_marked, section_next}
use Rattle.lk_reach.proofs.SymbolNumbers.{first_within, inputs_few, sections_few, symbols_few}
use Rattle.lk_live.proofs.faults.push_held_faults.Goals as goal
use Rattle.lk_live.proofs.faults.push_held_faults.Goals.{then-is_marked+in_ok-push_section_faults, else-is_marked}

pub overflow_add-start : goal.overflow_add-start
overflow_add-start c =
    let link = c.args.link.now in
    let start = c.in-Some.ensures in
    omega (
      arith,
      start.1,
      first_within link.groups c.args.file.id,
      inputs_few link c.requires.well_formed,
      symbols_few link c.requires.well_formed,
      sections_few link c.args.file.id c.args.file.file.now c.requires.well_formed c.requires.there,
      ap length c.as_slice-sections.ensures,
    )

pub overflow_cast-index : goal.overflow_cast-index
overflow_cast-index c = omega (arith, sections_few c.args.link.now c.args.file.id c.args.file.file.now c.requires.well_formed c.requires.there, ap length c.as_slice-sections.ensures)

pub push_section_faults-requires-clause-section : goal.push_section_faults-requires-clause-section
push_section_faults-requires-clause-section c =
    let sections : List InputSection = c.as_slice-sections.result.now in
    ap (λ (xs : List InputSection). slice_get xs c.loop-index.index) (sym c.as_slice-sections.ensures)
    ∙ slice_get-get_or sections c.loop-index.index c.index-sections-index.result c.loop-index-test.true ∙ ap Some (sym c.index-sections-index.is)

pub loop-index-preserved : goal.loop-index-preserved
loop-index-preserved c =
    let link = c.args.link.now in
    let f = file_of c.args.file in
    let n = c.loop-index.index in
    let section : InputSection = c.index-sections-index.result in
    let start = c.in-Some.ensures in
    let number : c.in-Some.start + n ≡ unit_number link.groups (Sec f.id n) = omega (arith, start.1) in
    let old : List ReferenceFault = c.loop-index.faults.items in
    let step : c.if-is_marked.faults.items ≡ old ++ marked_faults link c.args.marks.now f (n, section)
    = elim c.if-is_marked.branch [
      | then-is_marked+in_ok-push_section_faults w ↦
          ap (λ (v : Vec ReferenceFault Global). v.items) w.faults-is ∙ w.in_ok-push_section_faults.ensures
          ∙ ap (λ ys. old ++ ys) (sym (faults_if_marked link c.args.marks.now f (n, section) (c.in-Some.start + n) true number (sym c.is_marked.ensures ∙ w.if-is_marked.true)))
      | else-is_marked w ↦
          ap (λ (v : Vec ReferenceFault Global). v.items) w.faults-is ∙ sym (append-nil old)
          ∙ ap (λ ys. old ++ ys) (sym (faults_if_marked link c.args.marks.now f (n, section) (c.in-Some.start + n) false number (sym c.is_marked.ensures ∙ w.if-is_marked.false)))
    ] in
    section_next (marked_faults link c.args.marks.now f) n c.as_slice-sections.result.now section section c.args.faults.now.items old c.if-is_marked.faults.items c.loop-index-test.true
    c.index-sections-index.is c.loop-index.invariant step
