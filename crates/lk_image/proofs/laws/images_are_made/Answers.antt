use Rattle.lk_image.proofs.Apart.{images_are_made}
use Rattle.lk_image.proofs.laws.images_are_made.Goals as goal

pub returns : goal.returns
returns c = images_are_made c.laid_out_links_are_well_formed.ensures c.laid_out_file_has_one_owner.ensures c.live_sections_are_owners.ensures
