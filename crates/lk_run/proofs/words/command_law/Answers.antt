use Rattle.lk_run.proofs.Commands.{reads_command, command_is_read}
use Rattle.lk_run.proofs.words.command_law.Goals as goal

pub returns : goal.returns
returns c = λ words command. (command_is_read words command, reads_command words command)
