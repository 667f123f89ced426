use Rattle.std.proofs.Common.{Some, ap, ◌∙◌, rules}
use Rattle.lk_input.specs.Plain.{fixed_of}
use Rattle.lk_input.specs.ReadingRelocations.{relocation_of}
use Rattle.lk_pieces.specs.Tokens.{data_at}
use Rattle.lk_input.proofs.Fixed.{fixed-made}
use Rattle.lk_input.proofs.Relocations.{relocation_by, relocation_elements, relocation_from}
use Rattle.lk_input.proofs.read.relocation.RelocationStreamed.stream.Goals as goal

pub returns-in-Ok : goal.returns-in-Ok
returns-in-Ok c =
    let r = c.stream_fixed.new.reader in
    fixed-made relocation_of (fixed_of relocation_elements) relocation_from relocation_by (data_at c.args.depth c.args.reader.now) _ r
    (c.in_ok-offset.ensures ∙ ap (λ y. Some (y, r)) c.in-Ok.is)
    ∙ search rules

pub returns-in-Err : goal.returns-in-Err
returns-in-Err c =
    let r = c.stream_fixed.new.reader in
    fixed-made relocation_of (fixed_of relocation_elements) relocation_from relocation_by (data_at c.args.depth c.args.reader.now) _ r
    (c.in_ok-offset.ensures ∙ ap (λ y. Some (y, r)) c.in-Err.is)
