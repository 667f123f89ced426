-- A symbol for which another one stands brings nothing to tables.
use Rattle.std.proofs.Common.{◌≡◌, ℕ, ◌&&◌, ◌||◌, not, Bool, true, false, if◌then◌else◌, List, length, refl, sym, ap, ◌∙◌}
use Rattle.lk_link.specs.declared.file.FileKind.{FileKind}
use Rattle.lk_link.specs.declared.file.FileKind.TheVariants as kind
use Rattle.lk_link.specs.declared.flags.TheConstants.ValueFlags as flag
use Rattle.lk_link.specs.declared.flags.ValueFlags.{ValueFlags}
use Rattle.lk_link.specs.declared.link.LinkInput.{LinkInput}
use Rattle.lk_link.specs.declared.symbol.InputSymbol.{InputSymbol}
use Rattle.lk_link.specs.FileKinds.{is_internal, is_object}
use Rattle.lk_link.specs.Flags.{has_flag, has_resolution}
use Rattle.lk_link.specs.Inputs.{NumberedFile}
use Rattle.lk_link.specs.OutputKinds.{is_partial}
use Rattle.lk_link.specs.SymbolPlacements.{is_common, is_undefined}
use Rattle.lk_link.specs.TableSizes.{TableSizes}
use Rattle.lk_live.specs.declared.live.Live.{Live}
use Rattle.lk_link.specs.Symbols.{can_resolve, is_canonical, is_named, is_wanted}
use Rattle.lk_tables.specs.Copied.{is_copied, is_copied_undefined, is_in_loaded, may_stay, stands_for_something}
use Rattle.lk_tables.specs.Dynamic.{exports, is_dynamic_symbol, is_redirect}
use Rattle.lk_tables.specs.Late.{flags_at, late_flags}
use Rattle.lk_tables.specs.ShareSteps.{dynamic_share, entry_share, no_share, symbol_share, symtab_share}
use Rattle.lk_tables.specs.ShareWords.{has_entry_there}
use Rattle.lk_tables.specs.SymbolEntries.{allocated}
use Rattle.lk_tables.specs.SymbolTable.{is_local_entry}
use Rattle.lk_tables.proofs.ShareSums.{made_share}

-- it isn't wanted
not_wanted : (k : FileKind) (s : ℕ) (x : InputSymbol) (flags : ValueFlags) → is_canonical s x ≡ false → is_wanted k s x flags ≡ false
not_wanted k s x flags h = ap (λ b. b && has_resolution flags.0 && can_resolve k x) h

-- ---- copies

by_kind : (b t m l i n w : Bool) → t ≡ false → w ≡ false → (if b then t && m && l else i && n && w) ≡ false
by_kind true t m l i n w h g = ap (λ b. b && m && l) h
by_kind false t m l true true w h g = g
by_kind false t m l true false w h g = refl
by_kind false t m l false n w h g = refl

without_place : (p n w r : Bool) → w ≡ false → (p && n && w && r) ≡ false
without_place true true w r h = ap (λ b. b && r) h
without_place true false w r h = refl
without_place false n w r h = refl

in_no_table : (b c u : Bool) → c ≡ false → u ≡ false → (not b && (c || u)) ≡ false
in_no_table true c u h g = refl
in_no_table false c u h g = ap (λ d. d || u) h ∙ g

not_there : (link : LinkInput) (live : Live) (told : List Bool) (f : NumberedFile) (s : ℕ) (x : InputSymbol) → is_canonical s x ≡ false
    → has_entry_there link live told f (s, x) ≡ false
not_there link live told f s x h =
    let flags = late_flags link told f.file.kind s x (flags_at live.flags s) in
    let here : stands_for_something f.file.kind s x flags ≡ false
    = ap (λ b. b && not (is_undefined x.at) && is_named x && (is_wanted f.file.kind s x flags || not (is_common x.at))) h in
    in_no_table link.options.strip_all (is_copied link live f s x flags) (is_copied_undefined link f s x flags)
    (by_kind (is_object f.file.kind) (stands_for_something f.file.kind s x flags) (may_stay link f.file.kind s x flags) (is_in_loaded link live f x.at) (is_internal f.file.kind) (is_named x) (is_wanted f.file.kind s x flags)
    here (not_wanted f.file.kind s x flags h))
    (without_place (is_partial link.options.output) (is_named x) (is_wanted f.file.kind s x flags) _ (not_wanted f.file.kind s x flags h))

-- ---- dynamic symbols

not_dynamic : (link : LinkInput) (live : Live) (told : List Bool) (f : NumberedFile) (s : ℕ) (x : InputSymbol) → is_canonical s x ≡ false
    → is_dynamic_symbol link live told f (s, x) ≡ false
not_dynamic link live told f s x h =
    let flags = late_flags link told f.file.kind s x (flags_at live.flags s) in
    ap (λ b. b && has_flag flag.DYNAMIC.0 flags.0) (not_wanted f.file.kind s x flags h)

not_exported : (k : FileKind) (s : ℕ) (x : InputSymbol) (flags : ℕ) → is_canonical s x ≡ false → exports k s x flags ≡ false
not_exported kind.Prelude s x flags h = ap (λ b. b && is_redirect x.at) h
not_exported kind.Object s x flags h = ap (λ b. b && has_flag flag.EXPORT_DYNAMIC.0 flags) h
not_exported kind.Dynamic s x flags h = refl
not_exported kind.SyntheticSymbols s x flags h = refl
not_exported kind.LinkerScript s x flags h = ap (λ b. b && has_flag flag.EXPORT_DYNAMIC.0 flags) h
not_exported kind.NotLoaded s x flags h = refl

-- ---- all of it

pub brings_nothing : (sizes : TableSizes) (link : LinkInput) (live : Live) (told : List Bool) (f : NumberedFile) (s : ℕ) (x : InputSymbol) → is_canonical s x ≡ false
    → no_share ≡ symbol_share sizes link live told f (s, x)
brings_nothing sizes link live told f s x h =
    let all = symbol_share sizes link live told f (s, x) in
    let entry = sizes.symbol_entry in
    made_share no_share.entries all.entries no_share.symtab all.symtab no_share.dynamic all.dynamic no_share.exports all.exports
    (sym (ap (λ b. entry_share b (allocated sizes.allocation live (s, x))) (not_wanted f.file.kind s x (flags_at live.flags s) h)))
    (sym (ap (λ b. symtab_share b (is_local_entry f.file.kind (s, x)) entry (length x.name)) (not_there link live told f s x h)))
    (sym (ap (λ b. dynamic_share b entry (length x.name)) (not_dynamic link live told f s x h)))
    (sym (ap (λ b. dynamic_share b entry (length x.name)) (not_exported f.file.kind s x (flags_at live.flags s).0 h)))
