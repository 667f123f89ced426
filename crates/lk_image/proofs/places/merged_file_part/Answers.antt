use Rattle.std.proofs.Common.{arith}
use Rattle.lk_link.proofs.GoodLinks.{few}
use Rattle.lk_image.proofs.places.merged_file_part.Goals as goal

pub overflow_cast-section : goal.overflow_cast-section
overflow_cast-section c = omega (arith, c.requires.there, (few c.args.link.now c.requires.good).sections)
