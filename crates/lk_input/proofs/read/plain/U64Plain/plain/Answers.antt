use Rattle.std.proofs.Common.{refl}
use Rattle.serde_json.specs.Find.{as_u64}
use Rattle.lk_input.specs.ReadingSteps.{number_of}
use Rattle.lk_input.proofs.Plain.{plain-number-written}
use Rattle.lk_input.proofs.read.plain.U64Plain.plain.Goals as goal

pub returns-in-Number : goal.returns-in-Number
returns-in-Number c =
    rw c.in-Number.is (plain-number-written number_of as_u64 c.in-Number.text.now c.plain_number.result (λ n. refl) c.plain_number.ensures)
