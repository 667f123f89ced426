use Rattle.std.proofs.Common.{◌∙◌, List, length, ap}
use Rattle.lk_merge.specs.Image.{all_pieces}
use Rattle.lk_merge.specs.Pieces.{MergeInput}
use Rattle.lk_merge.proofs.MergedLemmas.{entries_count}
use Rattle.lk_merge.proofs.section.MergedStringsSection.input_string_count.Goals as goal

pub returns : goal.returns
returns c =
    c.len.ensures _ c.self.invariant.offsets ∙ entries_count c.self.inside.inputs
    ∙ ap (λ (xs : List MergeInput). length (all_pieces xs)) c.self.view_is
