use Rattle.lk_compute.proofs.Reaching.{merged}
use Rattle.lk_compute.proofs.computation.merge_by_workers.Goals as goal

pub returns : goal.returns
returns g c machine =
    merged machine c.args.link.now c.merge_images_by_workers.result c.requires.checked c.merge_images_by_workers.ensures
