use Rattle.std.proofs.Common.{sym, ◌∙◌}
use Rattle.lk_link.specs.TableSizes.{TableSizes}
use Rattle.lk_resolutions.proofs.NothingAsked.{bare, cursors_stay, nothing_allocated}
use Rattle.lk_resolutions.proofs.entries.take_entries.Goals as goal

pub returns-then-not-wants_table_entry-clause-made : goal.returns-then-not-wants_table_entry-clause-made
returns-then-not-wants_table_entry-clause-made g c =
    let sizes : TableSizes = g.P.Platform.table_sizes c.args.platform.now in
    let lawful = g.met.P.Platform.sizes_are_lawful c.args.platform.now in
    let none = nothing_allocated sizes c.args.flags.0 lawful (sym c.wants_table_entry.ensures ∙ c.if-not-wants_table_entry.true) in
    bare c.args.named.now c.args.cursors.now (sizes.allocation c.args.flags.0) c.args.flags 0 c.args.dynamic none

pub returns-then-not-wants_table_entry-clause-moved : goal.returns-then-not-wants_table_entry-clause-moved
returns-then-not-wants_table_entry-clause-moved g c =
    let sizes : TableSizes = g.P.Platform.table_sizes c.args.platform.now in
    let lawful = g.met.P.Platform.sizes_are_lawful c.args.platform.now in
    let none = nothing_allocated sizes c.args.flags.0 lawful (sym c.wants_table_entry.ensures ∙ c.if-not-wants_table_entry.true) in
    cursors_stay c.args.named.now c.args.cursors.now (sizes.allocation c.args.flags.0) none
