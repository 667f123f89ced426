use Rattle.std.proofs.Common.{sym, ap, ◌∙◌, arith}
use Rattle.lk_link.specs.Ends.{start_of}
use Rattle.lk_link.proofs.SymbolLemmas.{range_at, symbols_within}
use Rattle.lk_link.proofs.groups.InputGroups.symbol_id_range.Goals as goal

pub overflow_cast-count : goal.overflow_cast-count
overflow_cast-count c =
    let within = symbols_within c.args.self.now c.args.id c.in_ok-file.field-0.now (sym c.in_ok-file.ensures) in
    omega (arith, within)

pub new-requires : goal.new-requires
new-requires c =
    let index = rw c.self.view_is at c.self.invariant in
    let range = range_at c.args.self.now c.self.inside.file_ends.items c.self.inside.symbol_ends.items c.self.inside.section_ends.items c.args.id c.in_ok-file.field-0.now index c.requires (sym c.in_ok-file.ensures) in
    let start = rw c.as_slice.ensures.value at c.start_at-start.ensures in
    let number = ap (start_of c.self.inside.symbol_ends.items) c.number_of.ensures.number in
    omega (arith, range.0, range.1, start, number)

pub returns : goal.returns
returns c =
    let index = rw c.self.view_is at c.self.invariant in
    let range = range_at c.args.self.now c.self.inside.file_ends.items c.self.inside.symbol_ends.items c.self.inside.section_ends.items c.args.id c.in_ok-file.field-0.now index c.requires (sym c.in_ok-file.ensures) in
    let start = rw c.as_slice.ensures.value at c.start_at-start.ensures in
    let number = ap (start_of c.self.inside.symbol_ends.items) c.number_of.ensures.number in
    record {
      file = c.in_ok-file.field-0.now;
      there = sym c.in_ok-file.ensures;
      start = c.new.ensures.first ∙ c.from_u32.ensures ∙ start ∙ number ∙ range.0;
      count = c.new.ensures.length ∙ c.len-count.ensures;
      within = omega (arith, range.0, range.1, start, number, c.new.ensures.first, c.new.ensures.length);
    }
