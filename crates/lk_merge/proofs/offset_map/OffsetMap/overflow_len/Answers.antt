use Rattle.lk_merge.proofs.Chosen.{all_of, few_kept}
use Rattle.lk_merge.proofs.offset_map.OffsetMap.overflow_len.Goals as goal

pub returns-clause-few : goal.returns-clause-few
returns-clause-few c = λ pieces b. few_kept b pieces

pub returns-clause-all : goal.returns-clause-all
returns-clause-all c = λ pieces. all_of pieces
