use Rattle.std.proofs.Common.{arith}
use Rattle.lk_thunks.proofs.HomeNumbers.{numbers_few}
use Rattle.lk_thunks.proofs.homes.number_behind.Goals as goal

pub overflow_cast-result : goal.overflow_cast-result
overflow_cast-result c = omega (arith, numbers_few c.args.link.now c.args.file c.requires.good c.requires.there, c.in-Some.ensures)

pub overflow_add-result : goal.overflow_add-result
overflow_add-result c = omega (arith, numbers_few c.args.link.now c.args.file c.requires.good c.requires.there, c.in-Some.ensures)
