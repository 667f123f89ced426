use Rattle.lk_place_laws.proofs.PlainLaws.{one_load_segment_is_plain}
use Rattle.lk_place_laws.proofs.laws.one_load_segment_is_plain.Goals as goal

pub returns : goal.returns
returns c = one_load_segment_is_plain
