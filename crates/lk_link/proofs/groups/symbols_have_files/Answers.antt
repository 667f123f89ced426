use Rattle.lk_link.proofs.SymbolLemmas.{symbols_have_files}
use Rattle.lk_link.proofs.groups.symbols_have_files.Goals as goal

pub returns : goal.returns
returns c = symbols_have_files
