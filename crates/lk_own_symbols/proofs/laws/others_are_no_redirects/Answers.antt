use Rattle.std.proofs.Common.{◌∙◌, ◌+◌, ℕ, Bool, None, ap, if◌then◌else◌}
use Rattle.std.specs.Prelude.{◌&&◌, is_some, option_map}
use Rattle.lk_link.specs.Inputs.{NumberedFile}
use Rattle.lk_link.specs.Symbols.{first_symbol, is_canonical}
use Rattle.lk_link.proofs.Elements.{at_index}
use Rattle.lk_link.proofs.NumberedSymbolLemmas.{stands}
use Rattle.lk_own_symbols.specs.EdgeLaws.{OthersAreNoRedirects}
use Rattle.lk_own_symbols.specs.Redirects.{redirect_at}
use Rattle.lk_own_symbols.proofs.FilesOfSymbols.{is_by_file}
use Rattle.lk_own_symbols.proofs.laws.others_are_no_redirects.Goals as goal

others : OthersAreNoRedirects
others groups id file i there none inside =
    let x = at_index file.symbols i inside in
    let f : NumberedFile = record { id = id; file = file } in
    let s : ℕ = first_symbol groups id + i in
    is_by_file groups s (s, f, x.0) (ap (option_map (λ q. (s, q.0, q.1))) (stands groups id file i x.0 there x.1))
    ∙ ap (λ (b : Bool). is_some (if b && is_canonical s x.0 then redirect_at file.kind s x.0.at else None)) none

pub returns : goal.returns
returns c = others
