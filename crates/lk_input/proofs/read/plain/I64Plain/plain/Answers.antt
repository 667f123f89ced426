use Rattle.std.proofs.Common.{refl}
use Rattle.serde_json.specs.Find.{as_i64}
use Rattle.lk_input.specs.ReadingSteps.{signed_of}
use Rattle.lk_input.proofs.Plain.{plain-number-written}
use Rattle.lk_input.proofs.read.plain.I64Plain.plain.Goals as goal

pub returns-in-Number : goal.returns-in-Number
returns-in-Number c =
    rw c.in-Number.is (plain-number-written signed_of as_i64 c.in-Number.text.now c.plain_signed.result (λ n. refl) c.plain_signed.ensures)
