-- Late marks that are set over the first flags are those of all symbols.
use Rattle.std.proofs.Common.{◌≡◌, ◌≢◌, ◌∙◌, ◌+◌, ◌<◌, ◌≤◌, ◌⊎◌, inl, inr, ℕ, zero, suc, Bool, true, false, get_or, List, [], ◌∷◌, length, take, Option, Some, None, refl, sym, ap, arith, ltb}
use Rattle.std.specs.List.{enumerate_from, flat_map, slice_get}
use Rattle.std.specs.Option.{option_map_or}
use Rattle.std.proofs.lemmas.Bool.{ltb-false, ltb-true}
use Rattle.std.proofs.lemmas.List.{get_or-map, get_or-set_other, get_or-set_same, get_or_default, length-map, length-set, same_lists}
use Rattle.std.proofs.lemmas.List.FromFn.{get_or-enumerate_from, length-enumerate_from}
use Rattle.std.proofs.lemmas.Option.{slice_get_within}
use Rattle.lk_link.specs.declared.file.FileKind.{FileKind}
use Rattle.lk_link.specs.declared.file.InputFile.{InputFile}
use Rattle.lk_link.specs.declared.flags.ValueFlags.{ValueFlags}
use Rattle.lk_link.specs.declared.ids.FileId.{FileId}
use Rattle.lk_link.specs.declared.link.LinkInput.{LinkInput}
use Rattle.lk_link.specs.declared.symbol.InputSymbol.{InputSymbol}
use Rattle.lk_link.specs.FileKinds.{is_prelude}
use Rattle.lk_link.specs.Files.{file_in}
use Rattle.lk_link.specs.Inputs.{NumberedFile, numbered_files}
use Rattle.lk_link.specs.NumberedSymbols.{numbered_symbol, numbered_symbols, symbols_of}
use Rattle.lk_link.specs.Rules.{begins_with_prelude}
use Rattle.lk_link.specs.Symbols.{first_symbol}
use Rattle.lk_link.specs.WellFormed.{IsWellFormed}
use Rattle.lk_link.proofs.Elements.{at_index, flat_map_at, map_at}
use Rattle.lk_link.proofs.InputLemmas.{file_stands}
use Rattle.lk_link.proofs.NumberedSymbolLemmas.{stands}
use Rattle.lk_reach.proofs.Numbered.{file_at, file_place}
use Rattle.lk_reach.specs.Units.{flags_from}
use Rattle.lk_tables.specs.Late.{flags_at, late_flags}
use Rattle.lk_layout.specs.Flags.{all_flags, marked_flags}
use Rattle.lk_layout.specs.LateWords.{marked_at, marked_from}

-- ---- marks, set one by one

pub length-marked : (link : LinkInput) (told : List Bool) (kind : FileKind) (s : ℕ) (xs : List InputSymbol) (fs : List ValueFlags) → length (marked_from link told kind s xs fs) ≡ length fs
length-marked link told kind s [] fs = refl
length-marked link told kind s (x ∷ xs) fs =
    length-marked link told kind (s + 1) xs (marked_at link told kind s x fs) ∙ length-set fs s (late_flags link told kind s x (flags_at fs s))

-- those before the first stay
stays_before : (link : LinkInput) (told : List Bool) (kind : FileKind) (s : ℕ) (xs : List InputSymbol) (fs : List ValueFlags) (k : ℕ) (d : ValueFlags) → k < s
    → get_or (marked_from link told kind s xs fs) k d ≡ get_or fs k d
stays_before link told kind s [] fs k d h = refl
stays_before link told kind s (x ∷ xs) fs k d h =
    let other : k ≢ s = λ e. omega (arith, e, h) in
    stays_before link told kind (s + 1) xs (marked_at link told kind s x fs) k d (omega (arith, h))
    ∙ get_or-set_other fs s k (late_flags link told kind s x (flags_at fs s)) d other

-- those behind the last stay
stays_behind : (link : LinkInput) (told : List Bool) (kind : FileKind) (s : ℕ) (xs : List InputSymbol) (fs : List ValueFlags) (k : ℕ) (d : ValueFlags) → s + length xs ≤ k
    → get_or (marked_from link told kind s xs fs) k d ≡ get_or fs k d
stays_behind link told kind s [] fs k d h = refl
stays_behind link told kind s (x ∷ xs) fs k d h =
    let other : k ≢ s = λ e. omega (arith, e, h) in
    stays_behind link told kind (s + 1) xs (marked_at link told kind s x fs) k d (omega (arith, h))
    ∙ get_or-set_other fs s k (late_flags link told kind s x (flags_at fs s)) d other

-- each of the symbols gets its own
is_marked_there : (link : LinkInput) (told : List Bool) (kind : FileKind) (s : ℕ) (xs : List InputSymbol) (fs : List ValueFlags) (i k : ℕ) (x : InputSymbol) (d : ValueFlags)
    → k ≡ s + i → k < length fs → slice_get xs i ≡ Some x → get_or (marked_from link told kind s xs fs) k d ≡ late_flags link told kind k x (flags_at fs k)
is_marked_there link told kind s [] fs i k x d e lt at = absurd (cc)
is_marked_there link told kind s (y ∷ xs) fs zero k x d e lt at =
    let same : y ≡ x = cc in
    let here : k ≡ s = omega (arith, e) in
    let all : List ValueFlags = marked_at link told kind s y fs in
    stays_before link told kind (s + 1) xs all k d (omega (arith, here))
    ∙ ap (λ j. get_or all j d) here
    ∙ get_or-set_same fs s (late_flags link told kind s y (flags_at fs s)) d (omega (arith, here, lt))
    ∙ ap (λ z. late_flags link told kind s z (flags_at fs s)) same
    ∙ ap (λ j. late_flags link told kind j x (flags_at fs j)) (sym here)
is_marked_there link told kind s (y ∷ xs) fs (suc i) k x d e lt at =
    let other : k ≢ s = λ same. omega (arith, e, same) in
    let all : List ValueFlags = marked_at link told kind s y fs in
    let many : length all ≡ length fs = length-set fs s (late_flags link told kind s y (flags_at fs s)) in
    is_marked_there link told kind (s + 1) xs all i k x d (omega (arith, e)) (omega (arith, lt, many)) at
    ∙ ap (late_flags link told kind k x) (get_or-set_other fs s k (late_flags link told kind s y (flags_at fs s)) (flags_from 0) other)

-- ---- the first file

abbrev pub zeroth : FileId
zeroth = record { group = 0; file = 0 }

-- there is one, and it is the prelude
pub first_file : (groups : List (List InputFile)) → begins_with_prelude groups ≡ true → (f : InputFile) × (file_in groups zeroth ≡ Some f)
first_file [] h = absurd (cc)
first_file ([] ∷ groups) h = absurd (cc)
first_file ((f ∷ files) ∷ groups) h = (f, refl)

same_id : (a b c d : ℕ) → a ≡ c → b ≡ d → ◌≡◌ {A = FileId} (record { group = a; file = b }) (record { group = c; file = d })
same_id a b c d e f = cc

-- its symbols have the first numbers
known_first : (link : LinkInput) (file : InputFile) (k : ℕ) (x : InputSymbol) → file_in link.groups zeroth ≡ Some file → slice_get file.symbols k ≡ Some x
    → numbered_symbol link.groups k ≡ Some (record { id = zeroth; file = file }, x)
known_first link file k x there at =
    let begins : first_symbol link.groups zeroth ≡ 0 = refl in
    ap (slice_get (numbered_symbols link.groups)) (omega (arith, begins)) ∙ stands link.groups zeroth file k x there at

-- a symbol behind them is in no prelude
none_behind : (link : LinkInput) (file : InputFile) (k : ℕ) (q : NumberedFile × InputSymbol) → IsWellFormed link → file_in link.groups zeroth ≡ Some file
    → length file.symbols ≤ k → numbered_symbol link.groups k ≡ Some q → is_prelude q.0.file.kind ≡ true → ⊥
none_behind link file k q good there behind at led =
    let groups : List (List InputFile) = link.groups in
    let first : NumberedFile = record { id = zeroth; file = file } in
    let from = flat_map_at symbols_of (numbered_files groups) k q at in
    let f : NumberedFile = from.from in
    let pair : InputSymbol → NumberedFile × InputSymbol = λ x. (f, x) in
    let x = map_at pair f.file.symbols from.inner q from.gives in
    let here = file_at groups from.outer f from.there in
    let is_led : is_prelude f.file.kind ≡ true = ap (λ (r : NumberedFile × InputSymbol). is_prelude r.0.file.kind) x.2 ∙ led in
    let place = good.prelude.only f.id f.file here.there is_led in
    let id : f.id ≡ zeroth = same_id f.id.group f.id.file 0 0 place.0 place.1 in
    let front = file_at groups 0 first (file_stands groups zeroth file there) in
    let outer : from.outer ≡ 0 = here.place ∙ ap (file_place groups) id ∙ sym front.place in
    let found : Some f.file ≡ Some file = sym here.there ∙ ap (file_in groups) id ∙ there in
    let same : f.file ≡ file = cc in
    let none : length (flat_map symbols_of (take from.outer (numbered_files groups))) ≡ 0 = ap (λ n. length (flat_map symbols_of (take n (numbered_files groups)))) outer in
    let many : length f.file.symbols ≡ length file.symbols = ap (λ (g : InputFile). length g.symbols) same in
    omega (arith, behind, from.place, none, many, slice_get_within f.file.symbols from.inner x.0 x.1)

-- ---- all symbols

-- of another file none is marked
unmarked : (link : LinkInput) (told : List Bool) (kind : FileKind) (s : ℕ) (x : InputSymbol) (flags : ValueFlags) → is_prelude kind ≡ false → late_flags link told kind s x flags ≡ flags
unmarked link told kind s x flags h = rw h refl

by_kind : (b : Bool) (P : Type 0) → (b ≡ true → P) → (b ≡ false → P) → P
by_kind true P hit miss = hit refl
by_kind false P hit miss = miss refl

-- behind the first file nothing changes
marked_behind : (link : LinkInput) (told : List Bool) (file : InputFile) (k : ℕ) (flags : ValueFlags) (o : Option (NumberedFile × InputSymbol)) → IsWellFormed link
    → file_in link.groups zeroth ≡ Some file → length file.symbols ≤ k → numbered_symbol link.groups k ≡ o
    → option_map_or (λ r. late_flags link told r.0.file.kind k r.1 flags) o flags ≡ flags
marked_behind link told file k flags None good there behind at = refl
marked_behind link told file k flags (Some q) good there behind at =
    by_kind (is_prelude q.0.file.kind) _ (λ led. absurd (none_behind link file k q good there behind at led)) (λ other. unmarked link told q.0.file.kind k q.1 flags other)

either : (a b : ℕ) → (a < b) ⊎ (b ≤ a)
either a b = by_kind (ltb a b) _ (λ h. inl (ltb-true a b h)) (λ h. inr (ltb-false a b h))

-- where those of the first file are marked, all are
pub marks_are_all : (link : LinkInput) (told : List Bool) (file : InputFile) (fs : List ValueFlags) → IsWellFormed link → file_in link.groups zeroth ≡ Some file
    → marked_from link told file.kind 0 file.symbols fs ≡ all_flags link told fs
marks_are_all link told file fs good there =
    let kind : FileKind = file.kind in
    let xs : List InputSymbol = file.symbols in
    let none : ValueFlags = flags_from 0 in
    let pairs : List (ℕ × ValueFlags) = enumerate_from 0 fs in
    let many : length pairs ≡ length fs = length-enumerate_from 0 fs in
    let all : (k : ℕ) (d : ValueFlags) → k < length fs → get_or (all_flags link told fs) k d ≡ marked_flags link told (k, get_or fs k none)
    = λ k d lt.
    get_or-map (marked_flags link told) pairs k (0, none) d (omega (arith, lt, many))
    ∙ ap (marked_flags link told) (get_or-enumerate_from 0 fs k (0, none) lt)
    ∙ ap (λ j. marked_flags link told (j, get_or fs k none)) (omega arith) in
    same_lists _ _ (length-marked link told kind 0 xs fs ∙ sym (length-map pairs (marked_flags link told) ∙ many)) (λ k d h.
    let lt : k < length fs = omega (arith, h, length-marked link told kind 0 xs fs) in
    elim (either k (length xs)) [
      | inl within ↦
          let x = at_index xs k within in
          let given : Option (NumberedFile × InputSymbol) → ValueFlags = λ o. option_map_or (λ r. late_flags link told r.0.file.kind k r.1 (get_or fs k none)) o (get_or fs k none) in
          is_marked_there link told kind 0 xs fs k k x.0 d (omega arith) lt x.1 ∙ sym (all k d lt ∙ ap given (known_first link file k x.0 there x.1))
      | inr behind ↦
          stays_behind link told kind 0 xs fs k d (omega (arith, behind)) ∙ get_or_default fs k d none lt
          ∙ sym (all k d lt ∙ marked_behind link told file k (get_or fs k none) (numbered_symbol link.groups k) good there behind refl)
    ])
