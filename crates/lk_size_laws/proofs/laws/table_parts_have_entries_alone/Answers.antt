use Rattle.lk_size_laws.proofs.TableParts.{table_parts_have_entries_alone}
use Rattle.lk_size_laws.proofs.laws.table_parts_have_entries_alone.Goals as goal

pub returns : goal.returns
returns c = table_parts_have_entries_alone
