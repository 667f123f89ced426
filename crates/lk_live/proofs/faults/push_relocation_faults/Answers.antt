use Rattle.std.proofs.Common.{◌++◌, refl, ap, ◌∙◌}
use Rattle.std.specs.Option.{option_to_list}
use Rattle.lk_link.specs.Walks.{file_of}
use Rattle.lk_live.specs.Faults.{relocation_fault}
use Rattle.lk_live.proofs.FaultLemmas.{fault_next}
use Rattle.lk_live.proofs.faults.push_relocation_faults.Goals as goal

pub loop-number-preserved : goal.loop-number-preserved
loop-number-preserved c =
    fault_next (relocation_fault c.args.undefined.now c.args.first (file_of c.args.file) c.args.section) c.loop-number.number c.args.relocs.now _ _ c.args.faults.now.items c.loop-number.faults.items
    c.push_fault.new.faults.items c.loop-number-test.true refl c.loop-number.invariant
    (c.in_ok-push_fault.ensures ∙ ap (λ o. c.loop-number.faults.items ++ option_to_list o) c.relocation_fault-fault.ensures)
