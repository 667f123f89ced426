use Rattle.std.proofs.lemmas.Option.{slice_get_read}
use Rattle.lk_link.proofs.EndsLemmas.{at_place, none_behind}
use Rattle.lk_link.proofs.groups.InputGroups.file_at.Goals as goal

pub returns-in_err-group : goal.returns-in_err-group
returns-in_err-group c =
    let index = rw c.self.view_is at c.self.invariant in
    let past = rw c.as_slice.ensures.value at c.in_err-group.ensures in
    let none = none_behind (λ files. files) c.self.inside.file_ends.items c.args.self.now c.args.number index.by_group past c.requires in
    cc

pub returns : goal.returns
returns c =
    let index = rw c.self.view_is at c.self.invariant in
    let place = rw c.as_slice.ensures.value at c.in_ok-group.ensures in
    let item = rw (c.as_slice-3.ensures, c.self.view_is) at c.index-as_slice-group.is in
    let group = slice_get_read c.args.self.now _ c.in_ok-group.group c.index-as_slice-group.result index.by_group.count place.there item in
    let found = at_place (λ files. files) c.self.inside.file_ends.items c.args.self.now c.args.number c.in_ok-group.group c.in_ok-group.file c.index-as_slice-group.result index.by_group place group in
    cc
