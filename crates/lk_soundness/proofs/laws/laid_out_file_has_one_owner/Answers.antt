use Rattle.lk_soundness.proofs.FileOwners.{one_owner_each}
use Rattle.lk_soundness.proofs.laws.laid_out_file_has_one_owner.Goals as goal

pub returns : goal.returns
returns c =
    one_owner_each c.well_formed_exactly_unfaulted.ensures c.relaxed_stands.ensures c.live_sections_are_owners.ensures c.parts_take_their_bytes.ensures
    c.parts_take_file_bytes.ensures c.defined_layouts_are_sound.ensures
