use Rattle.std.proofs.Common.{◌≡◌, ◌+◌, length, ap, ◌∙◌, arith}
use Rattle.std.proofs.Math.Path.{fun_ext}
use Rattle.std.proofs.lemmas.Option.{slice_get-get_or}
use Rattle.std.specs.Prelude.{filter}
use Rattle.lk_link.specs.Marks.{is_marked}
use Rattle.lk_tables.specs.HeaderParts.{emitted_sections, event_sections, section_count}
use Rattle.lk_sizes.specs.Emitted.{emitted_marks}
use Rattle.lk_sizes.specs.Owners.{content_of}
use Rattle.lk_sizes.proofs.Emitting.{active_are, edges_are, emitted_at, indexes_are, same_info}
use Rattle.lk_link.proofs.GoodLinks.{few}
use Rattle.lk_sizes.proofs.header.determine_header_sizes.Goals as goal

pub index_emitted-requires-clause-each : goal.index_emitted-requires-clause-each
index_emitted-requires-clause-each c = ap length c.deref.ensures.value ∙ c.in_ok-emitted.ensures.count

pub index_emitted-requires-clause-few : goal.index_emitted-requires-clause-few
index_emitted-requires-clause-few c = (few c.args.link.now c.requires.good).events

pub index_emitted-requires-clause-events : goal.index_emitted-requires-clause-events
index_emitted-requires-clause-events c = λ k d below. c.requires.good.events.in_range k _ (slice_get-get_or c.args.link.now.plan.events k d below)

pub sections_of_segments-requires : goal.sections_of_segments-requires
sections_of_segments-requires c = (few c.args.link.now c.requires.good).segments

pub find_active-requires-clause-few : goal.find_active-requires-clause-few
find_active-requires-clause-few c = (few c.args.link.now c.requires.good).segments

pub mark_told-requires : goal.mark_told-requires
mark_told-requires c = let few_parts = (few c.args.link.now c.requires.good).parts in omega (arith, few_parts)

pub count_emitted-requires : goal.count_emitted-requires
count_emitted-requires c = let few_events = (few c.args.link.now c.requires.good).events in omega (arith, ap length c.as_slice.ensures, few_events)

pub returns-clause-header : goal.returns-clause-header
returns-clause-header c = λ sizes lens first.
    let link = c.args.link.now in
    let content = content_of c.args.link.now sizes c.args.live.now lens in
    let emitted = c.in_ok-emitted.ensures.emitted sizes lens first in
    let indexes = indexes_are content c.in_ok-emitted.emitted.items c.in_ok-indexes.indexes.items c.requires.good emitted c.in_ok-indexes.ensures.count
    (rw c.deref.ensures.value at c.in_ok-indexes.ensures.indexes) in
    let active = (rw c.deref-2.ensures.value at c.in_ok-active.ensures) ∙ active_are content c.in_ok-emitted.emitted.items c.requires.good emitted in
    let told = (rw c.deref-4.ensures.value at c.in_ok-told.ensures) ∙ edges_are content c.in_ok-emitted.emitted.items c.requires.good emitted in
    let placed : c.count_emitted.result ≡ length (emitted_sections link (emitted_marks content))
    = c.count_emitted.ensures.count
    ∙ ap (λ es. length (filter (is_marked c.deref-5.result.now) (event_sections es))) c.as_slice.ensures
    ∙ ap (λ ms. length (filter (is_marked ms) (event_sections link.plan.events))) (c.deref-5.ensures.value ∙ emitted) in
    let sections : c.count_emitted.result + c.singleton_sizes-singletons.result.0 ≡ section_count link c.args.live.now (emitted_marks content)
    = omega (arith, placed, c.singleton_sizes-singletons.ensures.count) in
    let names = c.singleton_sizes-singletons.ensures.names in
    same_info _ _ _ _ _ _ _ _ _ _ _ _ (c.from_vec.ensures ∙ emitted) (c.from_vec-2.ensures ∙ told) (c.from_vec-3.ensures ∙ indexes) (c.from_vec-4.ensures ∙ active) sections names

pub returns-clause-marks : goal.returns-clause-marks
returns-clause-marks c = λ sizes lens first.
    let emitted = c.from_vec.ensures ∙ c.in_ok-emitted.ensures.emitted sizes lens first in
    fun_ext (λ s. emitted_at (content_of c.args.link.now sizes c.args.live.now lens) c.from_vec.result s c.requires.good emitted)
