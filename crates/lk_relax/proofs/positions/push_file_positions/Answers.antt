use Rattle.std.specs.Option.{option_copied}
use Rattle.lk_relax.proofs.PositionRooms.{all_have}
use Rattle.lk_relax.proofs.positions.push_file_positions.Goals as goal

pub push_positions-requires-clause-room : goal.push_positions-requires-clause-room
push_positions-requires-clause-room c =
    all_have c.args.link.now c.args.deltas.now c.args.sections.now c.args.file.id c.args.file.file.now (option_copied c.map_of-entries.result) c.first_number-first.result c.as_slice-symbols.result.now
    c.requires.good c.requires.there c.requires.room c.map_of-entries.ensures c.first_number-first.ensures.number c.as_slice-symbols.ensures
