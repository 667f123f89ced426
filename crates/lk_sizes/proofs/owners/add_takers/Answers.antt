use Rattle.std.proofs.Common.{◌≡◌, List, length, drop, ap, subst, sym, ◌∙◌, arith, rules}
use Rattle.std.specs.List.{slice_get}
use Rattle.std.proofs.lemmas.List.{take_at}
use Rattle.lk_tables.specs.declared.commons.Common.{Common}
use Rattle.lk_sizes.specs.declared.owners.PartTotal.{PartTotal}
use Rattle.lk_sizes.specs.Owners.{all_commons}
use Rattle.lk_sizes.specs.Tables.{AreAdded, CommonsGo}
use Rattle.lk_sizes.proofs.CommonAdding.{added_at}
use Rattle.lk_sizes.proofs.CommonOnes.{all_go}
use Rattle.lk_sizes.proofs.owners.add_takers.Goals as goal

pub returns-clause-bytes : goal.returns-clause-bytes
returns-clause-bytes c = λ p total there.
    let link = c.args.link.now in
    let commons = all_commons link c.args.live.now in
    let old : List PartTotal = c.in_ok-totals.totals.items in
    let new : List PartTotal = c.add_commons.new.totals in
    let added : AreAdded link commons old new = subst (λ (cs : List Common). AreAdded link cs old new) c.requires.commons (rw c.deref_mut.ensures.value at c.add_commons.ensures) in
    let long : length new ≡ c.in_ok-totals.totals.len = search rules in
    let taken = take_at new (drop (length new) old) c.in_ok-totals.totals.len long in
    let at = added_at link commons old new p total added (ap (λ (ts : List PartTotal). slice_get ts p) (sym taken) ∙ there) in
    omega (arith, at.bytes, c.in_ok-totals.ensures.bytes p at.before at.there)

pub returns-clause-image : goal.returns-clause-image
returns-clause-image c = λ p total there.
    let link = c.args.link.now in
    let commons = all_commons link c.args.live.now in
    let old : List PartTotal = c.in_ok-totals.totals.items in
    let new : List PartTotal = c.add_commons.new.totals in
    let added : AreAdded link commons old new = subst (λ (cs : List Common). AreAdded link cs old new) c.requires.commons (rw c.deref_mut.ensures.value at c.add_commons.ensures) in
    let long : length new ≡ c.in_ok-totals.totals.len = search rules in
    let taken = take_at new (drop (length new) old) c.in_ok-totals.totals.len long in
    let at = added_at link commons old new p total added (ap (λ (ts : List PartTotal). slice_get ts p) (sym taken) ∙ there) in
    at.image ∙ c.in_ok-totals.ensures.image p at.before at.there

pub returns-clause-attrs : goal.returns-clause-attrs
returns-clause-attrs c = λ p total there.
    let link = c.args.link.now in
    let commons = all_commons link c.args.live.now in
    let old : List PartTotal = c.in_ok-totals.totals.items in
    let new : List PartTotal = c.add_commons.new.totals in
    let added : AreAdded link commons old new = subst (λ (cs : List Common). AreAdded link cs old new) c.requires.commons (rw c.deref_mut.ensures.value at c.add_commons.ensures) in
    let long : length new ≡ c.in_ok-totals.totals.len = search rules in
    let taken = take_at new (drop (length new) old) c.in_ok-totals.totals.len long in
    let at = added_at link commons old new p total added (ap (λ (ts : List PartTotal). slice_get ts p) (sym taken) ∙ there) in
    at.attrs ∙ c.in_ok-totals.ensures.attrs p at.before at.there

pub add_commons-requires-clause-goes : goal.add_commons-requires-clause-goes
add_commons-requires-clause-goes c =
    subst (CommonsGo c.args.link.now) (sym c.requires.commons) (all_go c.args.link.now c.args.live.now c.requires.good)
