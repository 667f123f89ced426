use Rattle.lk_layout.proofs.LaidOut.{links_are_well_formed}
use Rattle.lk_layout.proofs.laws.laid_out_links_are_well_formed.Goals as goal

pub returns : goal.returns
returns c = links_are_well_formed c.well_formed_exactly_unfaulted.ensures c.relaxed_stands.ensures
