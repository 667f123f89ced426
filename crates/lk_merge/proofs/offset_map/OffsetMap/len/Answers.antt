use Rattle.std.proofs.Common.{arith}
use Rattle.lk_merge.proofs.Chosen.{all_of}
use Rattle.lk_merge.proofs.StartLemmas.{places_count}
use Rattle.lk_merge.proofs.offset_map.OffsetMap.len.Goals as goal

pub overflow_add-result : goal.overflow_add-result
overflow_add-result c = let a = c.args.self.now.kept.places.small in let b = c.args.self.now.rest.places.small in omega (arith, a, b, c.len.ensures, c.len-2.ensures)

pub returns : goal.returns
returns c = λ pieces h. let a = places_count _ _ h.kept in let b = places_count _ _ h.rest in let all = all_of pieces in omega (arith, a, b, all, c.len.ensures, c.len-2.ensures)
