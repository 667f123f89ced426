use Rattle.std.proofs.Common.{sym, ap, ◌∙◌}
use Rattle.lk_link.specs.Walks.{file_of}
use Rattle.lk_tables.specs.ShareSteps.{plus, symbol_share}
use Rattle.lk_tables.proofs.NotCanonical.{brings_nothing}
use Rattle.lk_tables.proofs.ShareSums.{nothing_pushed, sum_pushed}
use Rattle.lk_tables.proofs.shares.with_symbol.Goals as goal

pub returns-then-is_canonical : goal.returns-then-is_canonical
returns-then-is_canonical g c = λ shares so_far.
    let own = symbol_share (g.P.Platform.table_sizes c.args.platform.now) c.args.given.link.now c.args.given.live.now c.args.given.told.now (file_of c.args.file)
    (c.args.number, c.args.symbol.now) in
    c.with_own.ensures ∙ ap (λ s. plus s own) so_far ∙ sym (sum_pushed shares own)

pub returns-else-is_canonical : goal.returns-else-is_canonical
returns-else-is_canonical g c = λ shares so_far.
    let another = sym c.is_canonical.ensures ∙ c.if-is_canonical.false in
    let own = symbol_share (g.P.Platform.table_sizes c.args.platform.now) c.args.given.link.now c.args.given.live.now c.args.given.told.now (file_of c.args.file)
    (c.args.number, c.args.symbol.now) in
    so_far
    ∙ sym (nothing_pushed shares own (brings_nothing (g.P.Platform.table_sizes c.args.platform.now) c.args.given.link.now c.args.given.live.now c.args.given.told.now
    (file_of c.args.file) c.args.number c.args.symbol.now another))
