use Rattle.lk_link.proofs.SymbolLemmas.{files_have_numbers}
use Rattle.lk_link.proofs.groups.files_have_numbers.Goals as goal

pub returns : goal.returns
returns c = files_have_numbers
