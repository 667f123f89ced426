use Rattle.std.proofs.Common.{rules, ◌≡◌, ◌++◌, length, replicate, sym, ap, ◌∙◌}
use Rattle.lk_link.specs.Walks.{file_of}
use Rattle.lk_workers.proofs.Making.{one_group}
use Rattle.lk_workers.proofs.traversal.push_group.Goals as goal

pub returns : goal.returns
returns c =
    let symbols = c.args.file.file.now.symbols in
    let count : c.loop.index ≡ length symbols = search rules in
    c.loop.invariant
    ∙ ap (λ gs. c.args.groups.now.items ++ gs) (ap (λ n. replicate n c.args.file.id.group) count ∙ sym (one_group (file_of c.args.file) symbols))
