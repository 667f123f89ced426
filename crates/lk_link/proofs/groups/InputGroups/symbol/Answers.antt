use Rattle.std.proofs.Common.{arith, sym}
use Rattle.lk_link.specs.Symbols.{all_files}
use Rattle.lk_link.proofs.EndsLemmas.{at_place, none_behind, past_none}
use Rattle.lk_link.proofs.groups.InputGroups.symbol.Goals as goal

pub returns-in_err-file : goal.returns-in_err-file
returns-in_err-file c =
    let index = rw c.self.view_is at c.self.invariant in
    let past = rw (c.as_slice.ensures.value, c.as_u32.ensures) at c.in_err-file.ensures in
    let none = none_behind (λ f. f.symbols) c.self.inside.symbol_ends.items (all_files c.args.self.now) c.args.id index.by_file past (omega arith) in
    cc

pub returns-in_err-file_at : goal.returns-in_err-file_at
returns-in_err-file_at c =
    let index = rw c.self.view_is at c.self.invariant in
    let place = rw (c.as_slice.ensures.value, c.as_u32.ensures) at c.in_ok-file.ensures in
    let past = past_none (all_files c.args.self.now) c.in_ok-file.file (sym c.in_err-file_at.ensures) in
    absurd (omega (arith, place.there, index.by_file.count, past))

pub returns : goal.returns
returns c =
    let index = rw c.self.view_is at c.self.invariant in
    let place = rw (c.as_slice.ensures.value, c.as_u32.ensures) at c.in_ok-file.ensures in
    let found = at_place (λ f. f.symbols) c.self.inside.symbol_ends.items (all_files c.args.self.now) c.args.id c.in_ok-file.file c.in_ok-file.index c.in_ok-file_at.field-0.now index.by_file place (sym c.in_ok-file_at.ensures) in
    cc
