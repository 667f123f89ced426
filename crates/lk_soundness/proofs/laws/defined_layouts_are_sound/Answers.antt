use Rattle.lk_soundness.proofs.Soundness.{sound}
use Rattle.lk_soundness.proofs.laws.defined_layouts_are_sound.Goals as goal

pub returns : goal.returns
returns c =
    sound c.well_formed_exactly_unfaulted.ensures c.relaxed_stands.ensures c.relaxed_is_shrunk.ensures c.deletions_are_read.ensures c.deleted_sites_are_near.ensures
    c.owners_tile_their_part.ensures c.owners_are_aligned.ensures c.live_sections_are_owners.ensures c.parts_take_their_bytes.ensures
    c.refused_exactly_past.ensures c.file_ranges_are_disjoint.ensures c.plain_memory_is_disjoint.ensures c.plain_memory_is_congruent.ensures c.records_keep_alignments.ensures
    c.thunks_have_ranges.ensures c.branches_reach.ensures c.redirects_change_values_alone.ensures c.others_are_no_redirects.ensures
