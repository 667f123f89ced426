use Rattle.std.proofs.Common.{◌≡◌, Some, ap, subst, sym, ◌∙◌, arith}
use Rattle.std.specs.List.{slice_get}
use Rattle.std.proofs.lemmas.Option.{get_or_from_slice_get, slice_get_within}
use Rattle.lk_link.specs.Symbols.{file_number, first_symbol}
use Rattle.lk_resolutions.specs.declared.entries.NextEntries.{NextEntries}
use Rattle.lk_resolutions.specs.AtHand.{setting_at_hand}
use Rattle.lk_resolutions.specs.Entries.{EntrySetting}
use Rattle.lk_resolutions.specs.EntryWords.{AreNextAt}
use Rattle.lk_resolutions.proofs.GroupJoining.{IsStarted, few_files, started}
use Rattle.lk_resolutions.proofs.by_groups.resolve_file.Goals as goal

pub offset_bounds-starts-number : goal.offset_bounds-starts-number
offset_bounds-starts-number g c =
    omega (arith, few_files c.args.tables.now.merged.link.now c.args.file.id c.args.file.file.now c.requires.tables.belong.good c.requires.there, c.in-Some.ensures.1)

pub bounds-starts-number : goal.bounds-starts-number
bounds-starts-number g c =
    let by : EntrySetting = setting_at_hand (g.P.Platform.table_sizes c.args.platform.now) c.args.tables.now in
    let is : IsStarted by c.args.starts.now c.args.file.id = started by c.args.starts.now c.args.file.id c.args.file.file.now c.requires.starts c.requires.there in
    omega (arith, slice_get_within c.args.starts.now (file_number by.link.groups c.args.file.id) is.next is.there, c.in-Some.ensures.1)

pub push_file_resolutions-requires-clause-next : goal.push_file_resolutions-requires-clause-next
push_file_resolutions-requires-clause-next g c =
    let by : EntrySetting = setting_at_hand (g.P.Platform.table_sizes c.args.platform.now) c.args.tables.now in
    let is : IsStarted by c.args.starts.now c.args.file.id = started by c.args.starts.now c.args.file.id c.args.file.file.now c.requires.starts c.requires.there in
    let at : slice_get c.args.starts.now c.in-Some.number ≡ Some is.next = ap (slice_get c.args.starts.now) c.in-Some.ensures.1 ∙ is.there in
    subst (λ (n : NextEntries). AreNextAt by (first_symbol by.link.groups c.args.file.id) n) (sym (get_or_from_slice_get c.args.starts.now c.in-Some.number is.next _ at)) is.at
