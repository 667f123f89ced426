use Rattle.std.proofs.Common.{◌≡◌, Bool, true, if◌then◌else◌, List, [], Some, sym, ap, ◌∙◌}
use Rattle.std.specs.List.{flat_map, slice_get}
use Rattle.std.specs.Option.{option_map_or}
use Rattle.std.proofs.lemmas.Option.{MatchOption-at_some}
use Rattle.lk_link.specs.declared.file.InputFile.{InputFile}
use Rattle.lk_link.specs.declared.relocation.Relocation.{Relocation}
use Rattle.lk_link.specs.declared.section.InputSection.{InputSection}
use Rattle.lk_link.specs.declared.symbol.InputSymbol.{InputSymbol}
use Rattle.lk_link.specs.Files.{file_in}
use Rattle.lk_link.specs.InputSlots.{is_regular}
use Rattle.lk_link.specs.Symbols.{AreSymbolsOf, first_symbol}
use Rattle.lk_reach.specs.Units.{is_primary_section, relocation_asks, section_references}
use Rattle.lk_reach.proofs.SymbolNumbers.{relocations_from, symbols_few}
use Rattle.lk_explain.proofs.references.references_of.Goals as goal

pub symbol_id_range-requires : goal.symbol_id_range-requires
symbol_id_range-requires c = symbols_few c.args.link.now c.requires

pub returns : goal.returns
returns c =
    let link = c.args.link.now in
    let id = c.args.id in
    let file : InputFile = c.in_ok-file.file.now in
    let section : InputSection = c.in_ok-section.section.now in
    let primary : Bool = is_primary_section link section in
    let there : file_in link.groups id ≡ Some file = sym c.in_ok-file.ensures in
    let at : slice_get file.sections c.args.index ≡ Some section = sym c.in_ok-section.ensures in
    let regular : is_regular section.slot ≡ true = sym c.is_regular.ensures ∙ c.if-not-is_regular.false in
    let range : AreSymbolsOf link.groups id c.in_ok-symbols.symbols = MatchOption-at_some _ _ c.in_ok-symbols.symbols c.in_ok-symbols.was c.symbol_id_range.ensures in
    let first : c.as_u32.result ≡ first_symbol link.groups id = c.as_u32.ensures ∙ c.start.ensures ∙ range.start in
    record {
      primary = primary;
      are = ap (λ o. option_map_or (λ f. option_map_or (section_references link id f) (slice_get f.sections c.args.index) []) o []) there
          ∙ ap (λ o. option_map_or (section_references link id file) o []) at
          ∙ ap (λ b. if b then flat_map (relocation_asks primary (first_symbol link.groups id) file.symbols) section.relocs else []) regular
          ∙ ap (λ n. flat_map (relocation_asks primary n file.symbols) section.relocs) (sym first)
          ∙ ap (λ (xs : List InputSymbol). flat_map (relocation_asks primary c.as_u32.result xs) section.relocs) (sym c.as_slice.ensures)
          ∙ ap (λ (rs : List Relocation). flat_map (relocation_asks primary c.as_u32.result c.as_slice.result.now) rs) (sym c.as_slice-2.ensures);
      numbers = relocations_from link id file c.args.index section c.as_u32.result c.as_slice-2.result.now c.requires there at regular first c.as_slice-2.ensures;
    }
