use Rattle.std.proofs.Common.{map, ap, ◌∙◌}
use Rattle.lk_tables.specs.TableLists.{first_tables}
use Rattle.lk_sizes.proofs.Fitting.{are_first, cap}
use Rattle.lk_sizes.proofs.owners.first_sizes.Goals as goal

pub returns : goal.returns
returns c = λ sizes live lens are shared.
    let link = c.args.link.now in
    let whole = c.in_ok-whole.ensures (first_tables sizes link live) (c.first_totals-tables.ensures sizes live shared) in
    are_first sizes link live lens c.args.totals.now c.in_ok-first.first.items are ((rw c.deref.ensures.value at c.in_ok-first.ensures) ∙ ap (map cap) whole)
