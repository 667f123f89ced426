use Rattle.std.proofs.Common.{arith}
use Rattle.lk_link.proofs.SymbolLemmas.{number_at}
use Rattle.lk_link.proofs.groups.InputGroups.number_of.Goals as goal

pub overflow_add-result : goal.overflow_add-result
overflow_add-result c =
    let index = rw c.self.view_is at c.self.invariant in
    let number = number_at c.args.self.now c.self.inside.file_ends.items c.self.inside.symbol_ends.items c.self.inside.section_ends.items c.args.id index (omega (arith, c.self.inside.symbol_ends.ok.0)) c.requires in
    let start = rw c.as_slice.ensures.value at c.start_at.ensures in
    omega (arith, number.number, number.within, start, index.by_file.count, c.self.inside.symbol_ends.ok.0)

pub returns-clause-number : goal.returns-clause-number
returns-clause-number c =
    let index = rw c.self.view_is at c.self.invariant in
    let number = number_at c.args.self.now c.self.inside.file_ends.items c.self.inside.symbol_ends.items c.self.inside.section_ends.items c.args.id index (omega (arith, c.self.inside.symbol_ends.ok.0)) c.requires in
    let start = rw c.as_slice.ensures.value at c.start_at.ensures in
    omega (arith, number.number, number.within, start)

pub returns-clause-within : goal.returns-clause-within
returns-clause-within c =
    let index = rw c.self.view_is at c.self.invariant in
    let number = number_at c.args.self.now c.self.inside.file_ends.items c.self.inside.symbol_ends.items c.self.inside.section_ends.items c.args.id index (omega (arith, c.self.inside.symbol_ends.ok.0)) c.requires in
    let start = rw c.as_slice.ensures.value at c.start_at.ensures in
    omega (arith, number.number, number.within, start)
