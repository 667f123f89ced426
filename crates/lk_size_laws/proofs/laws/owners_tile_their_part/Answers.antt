use Rattle.lk_size_laws.proofs.Tiling.{owners_tile}
use Rattle.lk_size_laws.proofs.laws.owners_tile_their_part.Goals as goal

pub returns : goal.returns
returns c = owners_tile
