use Rattle.lk_soundness.proofs.Soundness.{laid_out_apart}
use Rattle.lk_soundness.proofs.laws.laid_out_sections_are_apart.Goals as goal

pub returns : goal.returns
returns c =
    laid_out_apart c.laid_out_links_are_well_formed.ensures c.live_sections_are_owners.ensures c.defined_layouts_are_sound.ensures c.laid_out_memory_is_disjoint.ensures
