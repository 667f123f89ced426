use Rattle.std.proofs.Common.{◌≡◌, ℕ, ◌+◌, Option, Some, None, option_and_then, sym, ap, ◌∙◌}
use Rattle.std.specs.List.{slice_get}
use Rattle.std.specs.Option.{option_map_or}
use Rattle.std.specs.Prelude.{ℤ, unwrap_or}
use Rattle.std.proofs.Math.Facts.{to_z-of_z}
use Rattle.lk_link.specs.declared.file.InputFile.{InputFile}
use Rattle.lk_link.specs.declared.symbol.InputSymbol.{InputSymbol}
use Rattle.lk_link.specs.Inputs.{NumberedFile}
use Rattle.lk_link.specs.Symbols.{first_symbol}
use Rattle.lk_link.specs.Walks.{file_of}
use Rattle.lk_link.proofs.NumberedSymbolLemmas.{stands}
use Rattle.lk_reach.specs.Units.{local_definition}
use Rattle.lk_merge.specs.OffsetsOutside.{is_reference_outside, refers_outside}
use Rattle.lk_merge.specs.OutputAddresses.{merge_place}
use Rattle.lk_resolutions.proofs.outside.reference_outside.Goals as goal

-- a symbol that stands for itself
stands_for_itself : (first index : ℕ) (x : InputSymbol) (o : Option InputSymbol) → o ≡ Some x → x.def ≡ None
    → option_map_or (λ (s : InputSymbol). unwrap_or s.def (first + index)) o (first + index) ≡ first + index
stands_for_itself first index x o there own =
    ap (λ (p : Option InputSymbol). option_map_or (λ (s : InputSymbol). unwrap_or s.def (first + index)) p (first + index)) there
    ∙ ap (λ d. unwrap_or d (first + index)) own

pub returns-in-None-def : goal.returns-in-None-def
returns-in-None-def c =
    let link = c.args.at.link.now in
    let groups = link.groups in
    let file : InputFile = c.args.at.file.file.now in
    let x : InputSymbol = c.in-Some.symbol.now in
    let there : slice_get file.symbols c.args.index ≡ Some x = sym c.in-Some.ensures in
    let at = stands groups c.args.at.file.id file c.args.index x c.requires.there there in
    let own : local_definition c.args.at.first file.symbols c.args.index ≡ first_symbol groups c.args.at.file.id + c.args.index
    = stands_for_itself c.args.at.first c.args.index x (slice_get file.symbols c.args.index) there c.in-None-def.is ∙ ap (λ n. n + c.args.index) c.requires.first in
    let q : NumberedFile × InputSymbol = (file_of c.args.at.file, x) in
    c.refers_outside_in.ensures
    ∙ ap (λ (z : ℤ). is_reference_outside z (merge_place groups q)) (to_z-of_z c.ranges.addend)
    ∙ ap (λ (o : Option (NumberedFile × InputSymbol)). is_reference_outside c.args.addend (option_and_then (merge_place groups) o)) (sym at)
    ∙ ap (λ n. refers_outside link n c.args.addend) (sym own)
