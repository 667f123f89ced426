use Rattle.std.proofs.Common.{◌≡◌, ◌∙◌, List, Bool, Option, Some, None, ap, sym, arith}
use Rattle.std.specs.Option.{option_copied}
use Rattle.lk_link.specs.declared.file.InputFile.{InputFile}
use Rattle.lk_link.specs.declared.link.LinkInput.{LinkInput}
use Rattle.lk_link.specs.Files.{file_in}
use Rattle.lk_link.proofs.SymbolLemmas.{symbols_within}
use Rattle.lk_reach.proofs.SymbolNumbers.{symbols_few}
use Rattle.lk_layout.specs.LateWords.{marked_from}
use Rattle.lk_layout.proofs.LateMarks.{first_file, marks_are_all, zeroth}
use Rattle.lk_layout.proofs.late_marks.with_late_marks.Goals.{in-Some, in_default}
use Rattle.lk_layout.proofs.late_marks.with_late_marks.Goals as goal

pub mark_symbols-requires : goal.mark_symbols-requires
mark_symbols-requires c =
    let link : LinkInput = c.args.link.now in
    let there : file_in link.groups zeroth ≡ Some c.in-Some.prelude.now = sym c.file.ensures ∙ ap option_copied c.in-Some.is in
    omega (arith, symbols_within link.groups zeroth c.in-Some.prelude.now there, symbols_few link c.requires)

pub returns : goal.returns
returns c =
    let link : LinkInput = c.args.link.now in
    let told : List Bool = c.args.told.now in
    elim c.match-file.branch [
      | in-Some w ↦
          let first : InputFile = w.in-Some.prelude.now in
          let there : file_in link.groups zeroth ≡ Some first = sym c.file.ensures ∙ ap option_copied w.in-Some.is in
          c.from_vec.ensures ∙ ap (λ flags. flags.items) w.flags-is ∙ w.mark_symbols.ensures
          ∙ ap (marked_from link told first.kind 0 first.symbols) c.into_vec-flags.ensures
          ∙ marks_are_all link told first c.args.flags c.requires there
      | in_default w ↦
          let first = first_file link.groups c.requires.prelude.first in
          let none : file_in link.groups zeroth ≡ None = sym c.file.ensures ∙ ap option_copied w.in_default.is in
          let clash : ◌≡◌ {A = Option InputFile} None (Some first.0) = sym none ∙ first.1 in
          absurd (cc)
    ]
