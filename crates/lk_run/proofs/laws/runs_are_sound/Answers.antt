use Rattle.lk_run.proofs.SoundRuns.{sound_run}
use Rattle.lk_run.proofs.laws.runs_are_sound.Goals as goal

pub returns : goal.returns
returns c = sound_run (c.defined_layouts_are_sound.ensures, c.small64_machine_is_lawful.ensures) c.images_are_made.ensures
