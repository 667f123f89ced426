use Rattle.std.proofs.Common.{sym, ap, ◌∙◌}
use Rattle.std.specs.Prelude.{if◌then◌else◌, Some, None}
use Rattle.lk_link.specs.Walks.{file_of}
use Rattle.lk_sizes.proofs.BlockOnes.{first_left}
use Rattle.lk_sizes.proofs.blocks.split_block.Goals as goal

pub returns-in-Some-clause-own : goal.returns-in-Some-clause-own
returns-in-Some-clause-own c = λ link thunks h.
    sym (first_left link thunks (file_of c.args.file) c.args.left.now c.in-Some.first.now c.in-Some.behind.now h c.in-Some.ensures.cases.0
    ∙ ap (λ b. if b then Some c.in-Some.first.now.1 else None) (sym c.is_same_file.ensures ∙ c.if-is_same_file.true))
