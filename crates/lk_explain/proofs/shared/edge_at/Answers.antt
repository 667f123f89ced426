use Rattle.std.proofs.Common.{◌≡◌, [], Some, ap, ◌∙◌}
use Rattle.std.specs.List.{slice_get}
use Rattle.std.specs.Option.{option_map_or}
use Rattle.lk_link.specs.declared.file.InputFile.{InputFile}
use Rattle.lk_link.specs.declared.ids.FileId.{FileId}
use Rattle.lk_link.specs.declared.symbol.InputSymbol.{InputSymbol}
use Rattle.lk_link.specs.NumberedSymbols.{symbol_of}
use Rattle.lk_link.specs.Files.{file_in}
use Rattle.lk_reach.specs.Units.{candidate_asks, kind_asks, numbered_symbols, symbol_asks}
use Rattle.lk_reach.proofs.EdgeLemmas.{synthetic_kind}
use Rattle.lk_reach.proofs.Numbered.{are_numbered}
use Rattle.lk_reach.proofs.SymbolNumbers.{at_known}
use Rattle.lk_reach.proofs.UnitLemmas.{symbol_stands}
use Rattle.lk_explain.proofs.shared.edge_at.Goals as goal

pub symbol_in_file-requires : goal.symbol_in_file-requires
symbol_in_file-requires c = are_numbered c.args.link.now c.requires

pub returns-in-Some : goal.returns-in-Some
returns-in-Some c e is =
    let link = c.args.link.now in
    let s = c.args.symbol in
    let t = symbol_of c.in-Some.found in
    let id : FileId = t.1.id in
    let f : InputFile = t.1.file in
    let x : InputSymbol = t.2 in
    let known : slice_get (numbered_symbols link.groups) s ≡ Some (t.1, t.2) = at_known s t (slice_get (numbered_symbols link.groups) s) c.in-Some.ensures in
    let edge = c.edge_in.ensures e is in
    record {
      file = f;
      there = ap (file_in link.groups) edge.0 ∙ (symbol_stands link.groups s (t.1, t.2) known).there;
      asks = ap (λ o. option_map_or (symbol_asks link.groups s) o []) known ∙ ap (kind_asks link.groups s id f x) (synthetic_kind f.kind edge.1)
          ∙ ap (λ o. option_map_or (candidate_asks f.candidates) o []) edge.2;
    }
