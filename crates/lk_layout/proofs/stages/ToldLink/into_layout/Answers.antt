use Rattle.std.proofs.Common.{Bool, List, ap, sym, ◌∙◌}
use Rattle.lk_link.specs.declared.flags.ValueFlags.{ValueFlags}
use Rattle.lk_tables.specs.declared.header_info.HeaderInfo.{HeaderInfo}
use Rattle.lk_thunk_plan.specs.ThunkPlans.{thunk_size}
use Rattle.lk_layout.specs.Flags.{all_flags}
use Rattle.lk_layout.specs.Redirects.{unless_refused}
use Rattle.lk_resolutions.specs.OutputContent.{output_content}
use Rattle.lk_layout.proofs.Answering.{same_layout}
use Rattle.lk_layout.proofs.CanMoves.{same_can_move, told_can_move}
use Rattle.lk_layout.proofs.DynsymStart.{dynsym_is, numbers_before}
use Rattle.lk_layout.proofs.PlacedSites.{sections_are}
use Rattle.lk_layout.proofs.UsersFound.{users_in_order}
use Rattle.lk_layout.proofs.stages.ToldLink.into_layout.Goals as goal

pub returns : goal.returns
returns c machine is =
    let addressed = is.reaching.branched.addressed in
    let spanned = addressed.spanned in
    let placed = spanned.placed in
    let flags : List ValueFlags = c.args.self.reaching.addressed.spanned.placed.kept.live.flags in
    same_layout c.args.link.now _ _ _ _ _ _ _ _ _ _ _ _ _ _ _ _ _ _ _ _ _ _ _ _ _ _ _ _ _ _ _ _ _ _ _ _ _ _ _ _ _ _ _ _ _ _ _ _ _ (c.into_vec.ensures ∙ sections_are machine c.args.link.now _ placed)
    spanned.joined
    (c.into_vec-2.ensures ∙ placed.records)
    is.attributes
    (ap (λ (h : HeaderInfo). h.output_section_indexes) (c.into_told-header.ensures.header ∙ placed.owners.header))
    spanned.segments
    spanned.thread_local
    (c.from_vec.ensures ∙ addressed.sections)
    placed.deltas
    placed.kept.merged.are.sections
    addressed.buckets
    (sym (ap unless_refused addressed.redirected))
    c.entry_symbol.ensures
    (c.into_told-header.ensures.sorted ∙ placed.owners.sorted)
    is.partial
    placed.thunks.sets
    is.owners
    is.reaching.branched.places
    (c.new.ensures ∙ placed.thunks.users)
    (c.size_of.ensures ∙ ap thunk_size placed.thunks.config)
    (c.into_told-header.ensures.header ∙ placed.owners.header)
    (c.first_export-dynsym_start_index.ensures
    ∙ numbers_before c.args.link.now c.numbers.result _ c.numbers.ensures
    ∙ dynsym_is (output_content machine.sizes c.args.link.now c.args.self.reaching.addressed.spanned.placed.kept.live) _ placed.owners.numbers)
    is.starts
    (c.with_late_marks.ensures
    ∙ ap (λ (told : List Bool). all_flags c.args.link.now told flags) (c.as_slice.ensures ∙ ap (λ (h : HeaderInfo). h.told) (c.into_told-header.ensures.header ∙ placed.owners.header)))

pub invariant_of-result : goal.invariant_of-result
invariant_of-result c =
    let told = c.requires.told in
    same_can_move c.args.link.now _ _ _ _ _ _ (told_can_move c.file_ranges_are_disjoint.ensures told.0 c.args.link.now c.args.self told.1) c.into_told-header.ensures.header c.into_vec.ensures c.into_vec-2.ensures

pub with_late_marks-requires : goal.with_late_marks-requires
with_late_marks-requires c = c.requires.told.1.reaching.branched.addressed.spanned.placed.kept.merged.checked.good

pub new-requires : goal.new-requires
new-requires c =
    users_in_order c.args.link.now c.args.self.reaching.addressed.spanned.placed.thunks.users c.requires.told.1.reaching.branched.addressed.spanned.placed.order.users
