use Rattle.lk_sizes.proofs.ImagePlaces.{images_stand_where_inputs_go}
use Rattle.lk_size_laws.proofs.laws.images_stand_where_inputs_go.Goals as goal

pub returns : goal.returns
returns c = images_stand_where_inputs_go
