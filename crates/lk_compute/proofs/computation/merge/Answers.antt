use Rattle.lk_compute.proofs.Reaching.{merged}
use Rattle.lk_compute.proofs.computation.merge.Goals as goal

pub returns : goal.returns
returns c machine =
    merged machine c.args.link.now c.merge_images.result c.requires.checked c.merge_images.ensures
