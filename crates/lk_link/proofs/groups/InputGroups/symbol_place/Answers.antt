use Rattle.std.proofs.Common.{arith}
use Rattle.lk_link.specs.Symbols.{all_files}
use Rattle.lk_link.proofs.EndsLemmas.{none_behind, past_none}
use Rattle.lk_link.proofs.SymbolLemmas.{place_below}
use Rattle.lk_link.proofs.NumberedSymbolLemmas.{at_places}
use Rattle.lk_link.proofs.groups.InputGroups.symbol_place.Goals as goal

pub returns-in_err-group : goal.returns-in_err-group
returns-in_err-group c =
    let index = rw c.self.view_is at c.self.invariant in
    let place = rw (c.as_slice.ensures.value, c.as_u32.ensures) at c.in_ok-number.ensures in
    let past = rw c.as_slice-3.ensures.value at c.in_err-group.ensures in
    let none = none_behind (λ files. files) c.self.inside.file_ends.items c.args.self.now c.in_ok-number.number index.by_group past (omega (arith, place.there, c.self.inside.symbol_ends.ok.0)) in
    absurd (omega (arith, place.there, index.by_file.count, past_none (all_files c.args.self.now) c.in_ok-number.number none))

pub overflow_cast-file-2 : goal.overflow_cast-file-2
overflow_cast-file-2 c =
    let index = rw c.self.view_is at c.self.invariant in
    let group = rw c.as_slice-3.ensures.value at c.in_ok-group.ensures in
    let below = place_below c.args.self.now c.self.inside.file_ends.items c.in_ok-number.number c.in_ok-group.group c.in_ok-group.file index.by_group group in
    omega (arith, below, c.requires.few_files)

pub returns : goal.returns
returns c =
    let index = rw c.self.view_is at c.self.invariant in
    let file = rw (c.as_slice.ensures.value, c.as_u32.ensures) at c.in_ok-number.ensures in
    let group = rw c.as_slice-3.ensures.value at c.in_ok-group.ensures in
    at_places c.args.self.now c.self.inside.file_ends.items c.self.inside.symbol_ends.items c.args.id c.in_ok-number.number c.in_ok-number.index c.in_ok-group.group c.in_ok-group.file index.by_group index.by_file file group
