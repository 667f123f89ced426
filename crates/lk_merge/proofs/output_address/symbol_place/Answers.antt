use Rattle.std.proofs.Common.{Option, option_and_then, refl, sym, ap, ◌∙◌}
use Rattle.lk_link.specs.declared.symbol.InputSymbol.{InputSymbol}
use Rattle.lk_link.specs.Inputs.{NumberedFile}
use Rattle.lk_link.specs.Walks.{file_of}
use Rattle.lk_link.proofs.GoodLinks.{few}
use Rattle.lk_merge.specs.OutputAddresses.{merge_place}
use Rattle.lk_merge.proofs.SymbolPlaces.{file_of_symbol, known_symbol_is}
use Rattle.lk_merge.proofs.output_address.symbol_place.Goals as goal

pub symbol_in_file-requires : goal.symbol_in_file-requires
symbol_in_file-requires c = let f = few c.args.link.now c.requires in record { few_groups = f.groups; few_files = f.files }

pub place_in-requires-clause-there : goal.place_in-requires-clause-there
place_in-requires-clause-there c =
    let groups = c.args.link.now.groups in
    let f : NumberedFile = file_of c.in-Some.found.file in
    let x : InputSymbol = c.in-Some.found.symbol.now in
    file_of_symbol groups c.args.symbol f x (known_symbol_is groups c.args.symbol c.in-Some.found.number f x _ refl c.in-Some.ensures)

pub returns-in-Some-clause-names : goal.returns-in-Some-clause-names
returns-in-Some-clause-names c =
    let groups = c.args.link.now.groups in
    let f : NumberedFile = file_of c.in-Some.found.file in
    let x : InputSymbol = c.in-Some.found.symbol.now in
    c.place_in.ensures.names
    ∙ ap (λ (o : Option (NumberedFile × InputSymbol)). option_and_then (merge_place groups) o)
    (sym (known_symbol_is groups c.args.symbol c.in-Some.found.number f x _ refl c.in-Some.ensures))
