use Rattle.std.proofs.Common.{◌≡◌, false, not, List, Some, length, sym, ap, ◌∙◌}
use Rattle.std.specs.Prelude.{◌==◌}
use Rattle.std.specs.List.{flat_map, list_any}
use Rattle.lk_link.specs.Inputs.{numbered_files}
use Rattle.lk_link.proofs.Elements.{append_left}
use Rattle.lk_merge.specs.LinkInputs.{link_inputs}
use Rattle.lk_merge.specs.Pieces.{MergeInput}
use Rattle.lk_resolutions.specs.declared.outside.MergeOffsetPlace.{MergeOffsetPlace}
use Rattle.lk_resolutions.specs.Outside.{relocations_outside, symbols_outside}
use Rattle.lk_resolutions.proofs.NothingMerged.{no_offsets}
use Rattle.lk_stops.proofs.Stopping.{exit}
use Rattle.lk_resolutions.proofs.outside.check_offsets.Goals as goal

pub returns-then-not-has_merged : goal.returns-then-not-has_merged
returns-then-not-has_merged c =
    let link = c.args.link.now in
    let none : list_any (λ (xs : List MergeInput). not (length xs == 0)) (link_inputs link).outputs ≡ false
    = ap (λ (all : List (List MergeInput)). list_any (λ (xs : List MergeInput). not (length xs == 0)) all) (sym c.requires.merged) ∙ sym c.has_merged.ensures ∙ c.if-not-has_merged.true in
    no_offsets link c.requires.good none c.args.live.now

pub returns-in_err-check_symbols : goal.returns-in_err-check_symbols
returns-in_err-check_symbols c =
    let link = c.args.link.now in
    let live = c.args.live.now in
    exit _ _ c.from_residual.result c.from_residual.ensures.1 (λ e is.
    append_left (flat_map (symbols_outside link live) (numbered_files link.groups)) (flat_map (relocations_outside link live) (numbered_files link.groups)) 0 _ c.in_err-check_symbols.ensures
    ∙ ap (λ (p : MergeOffsetPlace). Some p) (sym is))
