use Rattle.std.proofs.Common.{Option, option_and_then, sym, ap, ◌∙◌}
use Rattle.lk_link.specs.declared.symbol.InputSymbol.{InputSymbol}
use Rattle.lk_link.specs.Inputs.{NumberedFile}
use Rattle.lk_merge.specs.OffsetsOutside.{is_symbol_outside}
use Rattle.lk_merge.specs.OutputAddresses.{merge_place}
use Rattle.lk_resolutions.proofs.outside.is_outside.Goals as goal

pub returns : goal.returns
returns c =
    c.stands_outside_in.ensures
    ∙ ap (λ (o : Option (NumberedFile × InputSymbol)). is_symbol_outside (option_and_then (merge_place c.args.link.now.groups) o)) (sym c.requires.numbered)
