use Rattle.std.proofs.Common.{List, fold, length, ap, ◌∙◌, arith}
use Rattle.std.specs.List.{enumerate_from, flat_map}
use Rattle.std.proofs.lemmas.List.{take_all}
use Rattle.std.proofs.lemmas.List.FromFn.{length-enumerate_from}
use Rattle.lk_merge.specs.Pieces.{MergeInput}
use Rattle.lk_image.specs.Image.{merged_stretch}
use Rattle.lk_image.specs.Stretches.{with_stretch}
use Rattle.lk_image.proofs.Pieces.{folds_next}
use Rattle.lk_image.proofs.merged.write_merged.Goals as goal

pub loop-section-preserved : goal.loop-section-preserved
loop-section-preserved c = record {
  written = folds_next with_stretch (merged_stretch c.args.link.now c.args.layout.now) c.args.layout.now.merged_strings c.merged_strings-merged-items.result.now c.loop-section.section
      c.merged-item.result c.args.image.now c.loop-section.image c.write_section.new.image c.merged_strings-merged-items.ensures c.loop-section-test.true c.merged-item.is
      c.loop-section.invariant.written c.write_section.ensures.written;
  long = c.write_section.ensures.long ∙ c.loop-section.invariant.long;
}

pub returns-clause-written : goal.returns-clause-written
returns-clause-written c =
    let all : List (List MergeInput) = c.args.layout.now.merged_strings in
    let whole = take_all c.loop-section.section (enumerate_from 0 all) (omega (arith, c.loop-section-test.false, ap length c.merged_strings-merged-items.ensures, length-enumerate_from 0 all)) in
    c.loop-section.invariant.written ∙ ap (λ qs. fold with_stretch c.args.image.now (flat_map (merged_stretch c.args.link.now c.args.layout.now) qs)) whole
