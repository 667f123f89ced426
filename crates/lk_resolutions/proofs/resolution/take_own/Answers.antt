use Rattle.std.proofs.Common.{◌≡◌, ◌+◌, ◌<◌, ◌^◌, ℕ, Bool, true, false, List, Some, refl, sym, ap, subst, ◌∙◌}
use Rattle.lk_link.specs.declared.file.FileKind.{FileKind}
use Rattle.lk_link.specs.declared.flags.ValueFlags.{ValueFlags}
use Rattle.lk_link.specs.declared.resolution.Resolution.{Resolution}
use Rattle.lk_link.specs.declared.symbol.InputSymbol.{InputSymbol}
use Rattle.lk_link.specs.Inputs.{NumberedFile}
use Rattle.lk_link.specs.Symbols.{is_wanted}
use Rattle.lk_link.specs.Walks.{file_of}
use Rattle.lk_tables.specs.declared.numbers.DynamicNumbers.{DynamicNumbers}
use Rattle.lk_tables.specs.Dynamic.{dynamic_index, dynamic_table}
use Rattle.lk_tables.specs.DynamicCounters.{AreNumbersAt}
use Rattle.lk_tables.specs.Late.{flags_at, late_flags}
use Rattle.lk_resolutions.specs.AtHand.{setting_at_hand}
use Rattle.lk_resolutions.specs.Entries.{EntrySetting, told_flags}
use Rattle.lk_resolutions.proofs.EntriesTaken.{ComesNext, got_fits, made_is, next_kept, next_taken, plt_fits, unwanted_unplaced, wanted_unplaced}
use Rattle.lk_resolutions.proofs.resolution.take_own.Goals as goal

-- the flags that are read are those that are told
are_told : (by : EntrySetting) (k : FileKind) (s id : ℕ) (x : InputSymbol) (own flags : ValueFlags) → id ≡ s → own ≡ flags_at by.live.flags s → flags ≡ late_flags by.link by.told k id x own
    → flags ≡ told_flags by k (s, x)
are_told by k s id x own flags number found late =
    late ∙ ap (λ (n : ℕ). late_flags by.link by.told k n x own) number ∙ ap (late_flags by.link by.told k s x) found

-- what was tested, by number and flags
tested : (by : EntrySetting) (k : FileKind) (s id : ℕ) (x : InputSymbol) (flags : ValueFlags) (a b : Bool) → id ≡ s → flags ≡ told_flags by k (s, x) → a ≡ is_wanted k id x flags → a ≡ b
    → is_wanted k s x (told_flags by k (s, x)) ≡ b
tested by k s id x flags a b number told test is =
    ap (is_wanted k s x) (sym told) ∙ ap (λ (n : ℕ). is_wanted k n x flags) (sym number) ∙ sym test ∙ is

-- the numbers behind a symbol
behind : (by : EntrySetting) (s id : ℕ) (numbers : DynamicNumbers) → id ≡ s → AreNumbersAt by.link by.live by.told (id + 1) numbers → AreNumbersAt by.link by.live by.told (s + 1) numbers
behind by s id numbers same at = subst (λ (n : ℕ). AreNumbersAt by.link by.live by.told (n + 1) numbers) same at

pub returns-then-not-is_wanted-clause-moved : goal.returns-then-not-is_wanted-clause-moved
returns-then-not-is_wanted-clause-moved g c =
    let by : EntrySetting = setting_at_hand (g.P.Platform.table_sizes c.args.platform.now) c.args.tables.now in
    let f : NumberedFile = file_of c.args.file in
    let s : ℕ = c.args.numbered.number in
    let x : InputSymbol = c.args.numbered.symbol.now in
    let told = are_told by f.file.kind s c.from_u32-id.result x c.flags_at.result c.late_flags-flags.result c.from_u32-id.ensures c.flags_at.ensures c.late_flags-flags.ensures in
    let unwanted = tested by f.file.kind s c.from_u32-id.result x c.late_flags-flags.result _ false c.from_u32-id.ensures told c.is_wanted.ensures c.if-not-is_wanted.true in
    next_kept by s f x c.args.next.now _ c.requires.there unwanted c.requires.next
    (behind by s c.from_u32-id.result c.take-dynamic.new.self c.from_u32-id.ensures c.take-dynamic.ensures.moved) refl

pub take_entries-requires-clause-got : goal.take_entries-requires-clause-got
take_entries-requires-clause-got g c =
    let by : EntrySetting = setting_at_hand (g.P.Platform.table_sizes c.args.platform.now) c.args.tables.now in
    let f : NumberedFile = file_of c.args.file in
    let s : ℕ = c.args.numbered.number in
    let x : InputSymbol = c.args.numbered.symbol.now in
    let flags : ValueFlags = c.late_flags-flags.result in
    let told = are_told by f.file.kind s c.from_u32-id.result x c.flags_at.result flags c.from_u32-id.ensures c.flags_at.ensures c.late_flags-flags.ensures in
    let wanted = tested by f.file.kind s c.from_u32-id.result x flags _ true c.from_u32-id.ensures told c.is_wanted.ensures c.if-not-is_wanted.false in
    let comes : ComesNext by s f x c.args.next.now
    = record { there = c.requires.there; wanted = wanted; lawful = g.met.P.Platform.sizes_are_lawful c.args.platform.now; next = c.requires.next } in
    let fits = got_fits by s f x c.args.next.now comes c.requires.tables.fit in
    λ some. subst (λ (fl : ValueFlags). c.args.next.now.cursors.got + (by.sizes.allocation fl.0).got < 2 ^ 64) (sym told) (fits some)

pub take_entries-requires-clause-plt : goal.take_entries-requires-clause-plt
take_entries-requires-clause-plt g c =
    let by : EntrySetting = setting_at_hand (g.P.Platform.table_sizes c.args.platform.now) c.args.tables.now in
    let f : NumberedFile = file_of c.args.file in
    let s : ℕ = c.args.numbered.number in
    let x : InputSymbol = c.args.numbered.symbol.now in
    let flags : ValueFlags = c.late_flags-flags.result in
    let told = are_told by f.file.kind s c.from_u32-id.result x c.flags_at.result flags c.from_u32-id.ensures c.flags_at.ensures c.late_flags-flags.ensures in
    let wanted = tested by f.file.kind s c.from_u32-id.result x flags _ true c.from_u32-id.ensures told c.is_wanted.ensures c.if-not-is_wanted.false in
    let comes : ComesNext by s f x c.args.next.now
    = record { there = c.requires.there; wanted = wanted; lawful = g.met.P.Platform.sizes_are_lawful c.args.platform.now; next = c.requires.next } in
    let fits = plt_fits by s f x c.args.next.now comes c.requires.tables.fit in
    λ some. subst (λ (fl : ValueFlags). c.args.next.now.cursors.plt + (by.sizes.allocation fl.0).plt < 2 ^ 64) (sym told) (fits some)

pub returns-clause-moved : goal.returns-clause-moved
returns-clause-moved g c =
    let by : EntrySetting = setting_at_hand (g.P.Platform.table_sizes c.args.platform.now) c.args.tables.now in
    let f : NumberedFile = file_of c.args.file in
    let s : ℕ = c.args.numbered.number in
    let x : InputSymbol = c.args.numbered.symbol.now in
    let flags : ValueFlags = c.late_flags-flags.result in
    let told = are_told by f.file.kind s c.from_u32-id.result x c.flags_at.result flags c.from_u32-id.ensures c.flags_at.ensures c.late_flags-flags.ensures in
    let wanted = tested by f.file.kind s c.from_u32-id.result x flags _ true c.from_u32-id.ensures told c.is_wanted.ensures c.if-not-is_wanted.false in
    let comes : ComesNext by s f x c.args.next.now
    = record { there = c.requires.there; wanted = wanted; lawful = g.met.P.Platform.sizes_are_lawful c.args.platform.now; next = c.requires.next } in
    next_taken by s f x c.args.next.now _ flags comes
    (behind by s c.from_u32-id.result c.take-dynamic.new.self c.from_u32-id.ensures c.take-dynamic.ensures.moved) told c.take_entries.ensures.moved

pub returns-clause-taken : goal.returns-clause-taken
returns-clause-taken g c =
    let by : EntrySetting = setting_at_hand (g.P.Platform.table_sizes c.args.platform.now) c.args.tables.now in
    let f : NumberedFile = file_of c.args.file in
    let s : ℕ = c.args.numbered.number in
    let x : InputSymbol = c.args.numbered.symbol.now in
    let flags : ValueFlags = c.late_flags-flags.result in
    let told = are_told by f.file.kind s c.from_u32-id.result x c.flags_at.result flags c.from_u32-id.ensures c.flags_at.ensures c.late_flags-flags.ensures in
    let wanted = tested by f.file.kind s c.from_u32-id.result x flags _ true c.from_u32-id.ensures told c.is_wanted.ensures c.if-not-is_wanted.false in
    let comes : ComesNext by s f x c.args.next.now
    = record { there = c.requires.there; wanted = wanted; lawful = g.met.P.Platform.sizes_are_lawful c.args.platform.now; next = c.requires.next } in
    let table : List ℕ = dynamic_table by.link by.live by.told in
    let index : c.take-dynamic.result ≡ dynamic_index table s = c.take-dynamic.ensures.index ∙ ap (dynamic_index table) c.from_u32-id.ensures in
    ap (λ (r : Resolution). Some r) (c.take_entries.ensures.made ∙ made_is by s 0 f x c.args.next.now flags c.take-dynamic.result comes told index)
    ∙ sym (wanted_unplaced by f.file.kind (s, x) wanted)

pub returns-then-not-is_wanted-clause-taken : goal.returns-then-not-is_wanted-clause-taken
returns-then-not-is_wanted-clause-taken g c =
    let by : EntrySetting = setting_at_hand (g.P.Platform.table_sizes c.args.platform.now) c.args.tables.now in
    let f : NumberedFile = file_of c.args.file in
    let s : ℕ = c.args.numbered.number in
    let x : InputSymbol = c.args.numbered.symbol.now in
    let told = are_told by f.file.kind s c.from_u32-id.result x c.flags_at.result c.late_flags-flags.result c.from_u32-id.ensures c.flags_at.ensures c.late_flags-flags.ensures in
    let unwanted = tested by f.file.kind s c.from_u32-id.result x c.late_flags-flags.result _ false c.from_u32-id.ensures told c.is_wanted.ensures c.if-not-is_wanted.true in
    sym (unwanted_unplaced by f.file.kind (s, x) unwanted)
