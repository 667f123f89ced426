use Rattle.lk_image.proofs.Pieces.{output_there}
use Rattle.lk_image.proofs.merged.write_section.Goals as goal

pub merged_file_part-requires-clause-there : goal.merged_file_part-requires-clause-there
merged_file_part-requires-clause-there c = output_there c.args.link.now c.args.layout.now.merged_strings c.args.section c.args.merged.now c.requires.ready.outputs c.requires.there
