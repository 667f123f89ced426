use Rattle.std.proofs.Common.{List, sym, ap, subst, ◌∙◌, arith}
use Rattle.std.specs.Option.{option_copied}
use Rattle.std.proofs.lemmas.Option.{MatchOption-at_some}
use Rattle.lk_link.specs.declared.file.InputFile.{InputFile}
use Rattle.lk_link.specs.declared.link.LinkInput.{LinkInput}
use Rattle.lk_link.specs.Files.{file_in}
use Rattle.lk_link.specs.Symbols.{AreSymbolsOf}
use Rattle.lk_link.specs.WellFormed.{IsWellFormed}
use Rattle.lk_reach.proofs.SymbolNumbers.{inputs_few, symbols_few}
use Rattle.lk_answers.proofs.files.find_file.Goals as goal

pub symbol_id_range-requires : goal.symbol_id_range-requires
symbol_id_range-requires c = symbols_few c.link.result.now (subst IsWellFormed (sym c.link.ensures.link) c.link.ensures.good)

pub input_start-requires : goal.input_start-requires
input_start-requires c = omega (arith, inputs_few c.link.result.now (subst IsWellFormed (sym c.link.ensures.link) c.link.ensures.good))

pub returns : goal.returns
returns c =
    let groups = ap (λ (l : LinkInput). l.groups) c.link.ensures.link in
    record {
      file = c.in_ok-file.file.now;
      there = sym (ap (λ (gs : List (List InputFile)). file_in gs c.args.id) groups) ∙ sym c.file.ensures ∙ ap option_copied c.in_ok-file.was;
      range = c.in_ok-symbol_id_range.symbol_id_range;
      symbols = subst (λ (gs : List (List InputFile)). AreSymbolsOf gs c.args.id c.in_ok-symbol_id_range.symbol_id_range) groups
          (MatchOption-at_some _ _ c.in_ok-symbol_id_range.symbol_id_range c.in_ok-symbol_id_range.was c.symbol_id_range.ensures);
      by = c.layout_by.ensures;
    }
