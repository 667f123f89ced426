use Rattle.std.proofs.Common.{◌≡◌, ◌+◌, ◌++◌, ℕ, List, Some, length, sym, ap, ◌∙◌, arith}
use Rattle.std.specs.Prelude.{string_bytes}
use Rattle.std.specs.List.{slice_get}
use Rattle.std.proofs.lemmas.Option.{slice_get-get_or}
use Rattle.lk_link.specs.declared.section.InputSection.{InputSection}
use Rattle.lk_link.specs.Inputs.{Input, input_number, numbered_section}
use Rattle.lk_link.proofs.InputLemmas.{inputs_follow}
use Rattle.lk_reach.proofs.SymbolNumbers.{first_within, inputs_few, sections_within}
use Rattle.lk_report.specs.LiveLines.{input_text}
use Rattle.lk_report.proofs.LiveLines.{next_item}
use Rattle.lk_report.proofs.live_sections.write_file.Goals as goal

pub input_start-requires : goal.input_start-requires
input_start-requires c = omega (arith, inputs_few c.args.link.now c.requires.good)

pub overflow_add-first : goal.overflow_add-first
overflow_add-first c =
    let link = c.args.link.now in
    omega (
      arith,
      c.in-Some.ensures.1,
      c.loop-index-test.true,
      ap length c.as_slice-sections.ensures,
      sections_within link.groups c.args.file.id c.args.file.file.now c.requires.there,
      first_within link.groups c.args.file.id,
      inputs_few link c.requires.good,
    )

pub write_input-requires-clause-there : goal.write_input-requires-clause-there
write_input-requires-clause-there c =
    let sections : List InputSection = c.as_slice-sections.result.now in
    let k : ℕ = c.loop-index.index in
    let x : InputSection = c.index-sections-index.result in
    let at : slice_get c.args.file.file.now.sections k ≡ Some x
    = ap (λ (xs : List InputSection). slice_get xs k) (sym c.as_slice-sections.ensures) ∙ slice_get-get_or sections k x c.loop-index-test.true ∙ ap (λ (s : InputSection). Some s) (sym c.index-sections-index.is) in
    inputs_follow.at c.args.link.now.groups c.args.file.id c.args.file.file.now k x c.requires.there at

pub loop-index-preserved : goal.loop-index-preserved
loop-index-preserved c =
    let link = c.args.link.now in
    let layout = c.args.layout.now in
    let id = c.args.file.id in
    let sections : List InputSection = c.as_slice-sections.result.now in
    let k : ℕ = c.loop-index.index in
    let x : InputSection = c.index-sections-index.result in
    let lines : Input → List ℕ = λ y. input_text link layout (input_number link.groups y.file y.index, y) in
    record {
      written = next_item lines (numbered_section id) k sections x x _ _ _ c.loop-index-test.true c.index-sections-index.is c.loop-index.invariant.written
          (c.in_ok-write_input.ensures ∙ ap (λ (n : ℕ). string_bytes c.loop-index.text ++ input_text link layout (n + k, numbered_section id (k, x))) c.in-Some.ensures.1);
      within = omega (arith, c.loop-index-test.true);
    }
