use Rattle.lk_tables.proofs.TableTiling.{entries_tile}
use Rattle.lk_tables.proofs.laws.entries_tile_their_table.Goals as goal

pub returns : goal.returns
returns c = entries_tile
