use Rattle.std.proofs.Common.{Some, ap, ◌∙◌}
use Rattle.lk_input.specs.Plain.{fixed_of}
use Rattle.lk_input.specs.ReadingRelocations.{relax_candidate_of}
use Rattle.lk_pieces.specs.Tokens.{data_at}
use Rattle.lk_input.proofs.Fixed.{fixed-made}
use Rattle.lk_input.proofs.Relocations.{relax_by, relax_elements, relax_from}
use Rattle.lk_input.proofs.read.relocation.RelaxCandidateStreamed.stream.Goals as goal

pub returns-in-Ok : goal.returns-in-Ok
returns-in-Ok c =
    let r = c.stream_fixed.new.reader in
    fixed-made relax_candidate_of (fixed_of relax_elements) relax_from relax_by (data_at c.args.depth c.args.reader.now) _ r
    (c.in_ok-at.ensures ∙ ap (λ y. Some (y, r)) c.in-Ok.is)

pub returns-in-Err : goal.returns-in-Err
returns-in-Err c =
    let r = c.stream_fixed.new.reader in
    fixed-made relax_candidate_of (fixed_of relax_elements) relax_from relax_by (data_at c.args.depth c.args.reader.now) _ r
    (c.in_ok-at.ensures ∙ ap (λ y. Some (y, r)) c.in-Err.is)
