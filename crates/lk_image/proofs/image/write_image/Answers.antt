use Rattle.lk_image.proofs.RoomLemmas.{unrefused_unrelaxed}
use Rattle.lk_image.proofs.Standing.{ready}
use Rattle.lk_image.proofs.image.write_image.Goals as goal

pub check_image-requires : goal.check_image-requires
check_image-requires c = record { good = c.laid_out_links_are_well_formed.ensures c.requires.laid.machine c.args.link.now c.args.layout.now c.requires.laid.defined }

pub image_bytes-requires-clause-ready : goal.image_bytes-requires-clause-ready
image_bytes-requires-clause-ready c =
    ready c.laid_out_links_are_well_formed.ensures c.laid_out_file_has_one_owner.ensures c.live_sections_are_owners.ensures c.args.link.now c.args.layout.now c.requires.laid
    (unrefused_unrelaxed c.args.link.now c.args.layout.now c.in_ok-check_image.ensures)
