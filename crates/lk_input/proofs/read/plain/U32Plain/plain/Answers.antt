use Rattle.lk_input.proofs.Plain.{index-written}
use Rattle.lk_input.proofs.read.plain.U32Plain.plain.Goals as goal

pub returns-in_ok-plain_number-in-Number : goal.returns-in_ok-plain_number-in-Number
returns-in_ok-plain_number-in-Number c =
    rw c.in-Number.is
    (index-written c.in-Number.text.now c.in_ok-plain_number-in-Number.field-0 c.small.result c.in_ok-plain_number-in-Number.ensures c.small.ensures)
