use Rattle.lk_image.proofs.RoomLemmas.{unrefused_have_room}
use Rattle.lk_image.proofs.image.image_bytes.Goals as goal

pub write_sections-requires-clause-room : goal.write_sections-requires-clause-room
write_sections-requires-clause-room c = unrefused_have_room c.args.link.now c.args.layout.now c.requires.unrefused
