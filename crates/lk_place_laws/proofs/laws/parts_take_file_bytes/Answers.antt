use Rattle.lk_place_laws.proofs.FileMass.{parts_take_file_bytes}
use Rattle.lk_place_laws.proofs.laws.parts_take_file_bytes.Goals as goal

pub returns : goal.returns
returns c = parts_take_file_bytes
