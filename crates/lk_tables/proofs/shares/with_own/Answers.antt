use Rattle.std.proofs.Common.{◌≡◌, ◌&&◌, ◌||◌, not, ℕ, Bool, length, ap, ◌∙◌}
use Rattle.lk_link.specs.declared.flags.TheConstants.ValueFlags as flag
use Rattle.lk_link.specs.declared.flags.ValueFlags.{ValueFlags}
use Rattle.lk_link.specs.declared.symbol.InputSymbol.{InputSymbol}
use Rattle.lk_link.specs.Flags.{has_flag}
use Rattle.lk_link.specs.Walks.{file_of}
use Rattle.lk_link.specs.Symbols.{is_wanted}
use Rattle.lk_tables.specs.Copied.{is_copied, is_copied_undefined}
use Rattle.lk_tables.specs.Dynamic.{exports, is_dynamic_symbol, is_export}
use Rattle.lk_tables.specs.Late.{flags_at, late_flags}
use Rattle.lk_tables.specs.ShareSteps.{dynamic_share, entry_share, plus, plus_dynamic, plus_entries, plus_symtab, symbol_share, symtab_share}
use Rattle.lk_tables.specs.ShareWords.{has_entry_there}
use Rattle.lk_tables.specs.SymbolEntries.{allocated, is_resolved}
use Rattle.lk_tables.specs.SymbolTable.{is_local_entry}
use Rattle.lk_tables.proofs.ShareSums.{made_share}
use Rattle.lk_tables.proofs.shares.with_own.Goals as goal

pub returns : goal.returns
returns g c =
    let sizes = g.P.Platform.table_sizes c.args.platform.now in
    let link = c.args.given.link.now in
    let live = c.args.given.live.now in
    let told = c.args.given.told.now in
    let f = file_of c.args.file in
    let q : ℕ × InputSymbol = (c.args.number, c.args.symbol.now) in
    let len = length c.args.symbol.now.name in
    let entry = sizes.symbol_entry in
    let sum = c.args.sum in
    let there = has_entry_there link live told f q in
    let local = is_local_entry f.file.kind q in
    let dynamic = is_dynamic_symbol link live told f q in
    let flags : c.flags_at-flags.result ≡ flags_at live.flags c.args.number
    = c.flags_at-flags.ensures ∙ ap (λ xs. flags_at xs c.as_usize.result) c.as_slice.ensures ∙ ap (flags_at live.flags) c.as_usize.ensures in
    let late : c.late_flags-late.result ≡ late_flags link told f.file.kind q.0 q.1 (flags_at live.flags c.args.number)
    = c.late_flags-late.ensures ∙ ap (late_flags link told f.file.kind q.0 q.1) flags in
    let resolved : c.is_wanted-is_resolved.result ≡ is_resolved live f.file.kind q
    = c.is_wanted-is_resolved.ensures ∙ ap (is_wanted f.file.kind q.0 q.1) flags in
    let taken : c.allocate_resolution-taken.result ≡ allocated sizes.allocation live q
    = c.allocate_resolution-taken.ensures ∙ ap (λ (x : ValueFlags). sizes.allocation x.0) flags in
    let copied : c.has_entry_there-is_there.result ≡ there
    = c.has_entry_there-is_there.ensures
    ∙ ap (λ (x : ValueFlags). not link.options.strip_all && (is_copied link live f q.0 q.1 x || is_copied_undefined link f q.0 q.1 x)) late in
    let by_linker : c.is_dynamic_symbol-is_dynamic.result ≡ dynamic
    = c.is_dynamic_symbol-is_dynamic.ensures ∙ ap (λ (x : ValueFlags). is_wanted f.file.kind q.0 q.1 x && has_flag flag.DYNAMIC.0 x.0) late in
    let exported : c.exports-is_exported.result ≡ is_export live f q
    = c.exports-is_exported.ensures ∙ ap (λ (x : ValueFlags). exports f.file.kind q.0 q.1 x.0) flags in
    let all = plus sum (symbol_share sizes link live told f q) in
    made_share c.plus_if.result all.entries c.plus_if-2.result all.symtab c.plus_if-3.result all.dynamic c.plus_if-4.result all.exports
    (c.plus_if.ensures
    ∙ ap (λ (b : Bool). plus_entries sum.entries (entry_share b c.allocate_resolution-taken.result)) resolved
    ∙ ap (λ x. plus_entries sum.entries (entry_share (is_resolved live f.file.kind q) x)) taken)
    (c.plus_if-2.ensures
    ∙ ap (λ (b : Bool). plus_symtab sum.symtab (symtab_share b c.is_local_entry-is_local.result c.symbol_entry-entry.result c.len-name_len.result)) copied
    ∙ ap (λ (b : Bool). plus_symtab sum.symtab (symtab_share there b c.symbol_entry-entry.result c.len-name_len.result)) (c.is_local_entry-is_local.ensures c.args.number)
    ∙ ap (λ (n : ℕ). plus_symtab sum.symtab (symtab_share there local n c.len-name_len.result)) c.symbol_entry-entry.ensures
    ∙ ap (λ (n : ℕ). plus_symtab sum.symtab (symtab_share there local entry n)) c.len-name_len.ensures)
    (c.plus_if-3.ensures
    ∙ ap (λ (b : Bool). plus_dynamic sum.dynamic (dynamic_share b c.symbol_entry-entry.result c.len-name_len.result)) by_linker
    ∙ ap (λ (n : ℕ). plus_dynamic sum.dynamic (dynamic_share dynamic n c.len-name_len.result)) c.symbol_entry-entry.ensures
    ∙ ap (λ (n : ℕ). plus_dynamic sum.dynamic (dynamic_share dynamic entry n)) c.len-name_len.ensures)
    (c.plus_if-4.ensures
    ∙ ap (λ (b : Bool). plus_dynamic sum.exports (dynamic_share b c.symbol_entry-entry.result c.len-name_len.result)) exported
    ∙ ap (λ (n : ℕ). plus_dynamic sum.exports (dynamic_share (is_export live f q) n c.len-name_len.result)) c.symbol_entry-entry.ensures
    ∙ ap (λ (n : ℕ). plus_dynamic sum.exports (dynamic_share (is_export live f q) entry n)) c.len-name_len.ensures)
