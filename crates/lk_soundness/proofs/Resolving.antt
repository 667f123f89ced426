-- What a symbol of a file stands for: by where it is placed, and behind redirects.
use Rattle.std.proofs.Common.{◌≡◌, ℕ, ◌+◌, ◌<◌, get_or, Bool, true, false, if◌then◌else◌, List, length, sum_by, take, Option, Some, None, refl, ap, sym, ◌∙◌, arith}
use Rattle.std.specs.Prelude.{option_map, slice_get}
use Rattle.std.specs.List.{enumerate_from, flat_map}
use Rattle.std.proofs.lemmas.List.{length-map}
use Rattle.std.proofs.lemmas.List.Concat.{get_or-flat_map, length-flat_map}
use Rattle.std.proofs.lemmas.List.FromFn.{length-enumerate_from}
use Rattle.std.proofs.lemmas.Option.{get_or_from_slice_get, slice_get_within}
use Rattle.lk_own_symbols.specs.Edges.{edge_value}
use Rattle.lk_own_symbols.specs.EdgeLaws.{OthersAreNoRedirects}
use Rattle.lk_own_symbols.specs.Redirects.{has_redirects}
use Rattle.lk_link.specs.declared.file.FileKind.{FileKind}
use Rattle.lk_link.specs.declared.file.FileKind.TheVariants as kind
use Rattle.lk_link.specs.declared.file.InputFile.{InputFile}
use Rattle.lk_link.specs.declared.flags.ValueFlags.{ValueFlags}
use Rattle.lk_link.specs.declared.ids.FileId.{FileId}
use Rattle.lk_link.specs.declared.resolution.Resolution.{Resolution}
use Rattle.lk_link.specs.declared.symbol.InputSymbol.{InputSymbol}
use Rattle.lk_link.specs.Files.{file_in}
use Rattle.lk_link.specs.FileKinds.{is_internal, is_object}
use Rattle.lk_link.specs.Inputs.{NumberedFile, first_input, numbered_files}
use Rattle.lk_link.specs.Symbols.{file_number, first_symbol, is_wanted, symbols_in}
use Rattle.lk_link.proofs.Elements.{map_in}
use Rattle.lk_link.proofs.InputLemmas.{file_stands, files_from_are, numbered_get, sum_taken}
use Rattle.lk_tables.specs.Late.{flags_at}
use Rattle.lk_tables.specs.SymbolEntries.{is_resolved}
use Rattle.lk_tables.specs.SymbolTable.{symbols_by_number}
use Rattle.lk_layout.specs.LayoutRecord.{LayoutRecord}
use Rattle.lk_layout.specs.Made.{Made, made_deletions, made_filling}
use Rattle.lk_layout.specs.Redirects.{made_edges, placed_resolutions}
use Rattle.lk_resolutions.specs.Entries.{EntrySetting, told_flags, with_entries}
use Rattle.lk_resolutions.specs.Resolutions.{ValueAddresses, entries_of, file_resolutions, placed_value, places_of, resolution_of}
use Rattle.lk_resolution_list.specs.Lists.{resolution_at}
use Rattle.lk_resolutions.specs.Starts.{starts_of}
use Rattle.lk_resolution_list.specs.StoreLaws.{ChangesValuesAlone}

-- what the values of a layout go by, and its entries
abbrev pub made_at : Made → ValueAddresses
made_at made = places_of (made_filling made) (made_deletions made) (made_edges made) (starts_of made.stage.records)

abbrev pub made_entries : Made → EntrySetting
made_entries made = entries_of (made_filling made) (starts_of made.stage.records)

-- ---- the resolution of a file's symbol

-- each symbol of a file has its place among the file's
pub as_many : (places : ValueAddresses) (by : EntrySetting) (f : NumberedFile) → length (file_resolutions places by f) ≡ symbols_in f.file
as_many places by f =
    length-map (symbols_by_number by.link f) (resolution_of places by f.file.kind (first_input by.link.groups f.id))
    ∙ length-enumerate_from (first_symbol by.link.groups f.id) f.file.symbols

-- it stands there behind those of the files before
pub placed_is : (made : Made) (id : FileId) (file : InputFile) (k : ℕ) (x : InputSymbol) → file_in made.link.groups id ≡ Some file
    → slice_get file.symbols k ≡ Some x → resolution_at (placed_resolutions made) (first_symbol made.link.groups id + k)
    ≡ resolution_of (made_at made) (made_entries made) file.kind (first_input made.link.groups id) (first_symbol made.link.groups id + k, x)
placed_is made id file k x there at_k =
    let groups = made.link.groups in
    let place : ValueAddresses = made_at made in
    let by : EntrySetting = made_entries made in
    let f : NumberedFile = record { id = id; file = file } in
    let n : ℕ = file_number groups id in
    let files : List NumberedFile = numbered_files groups in
    let of_file : NumberedFile → List (Option Resolution) = file_resolutions place by in
    let first : ℕ = first_symbol groups id in
    let one : ℕ × InputSymbol → Option Resolution = resolution_of place by file.kind (first_input groups id) in
    let before : length (flat_map of_file (take n files)) ≡ first
    = length-flat_map of_file (take n files)
    ∙ sum_taken (λ (g : NumberedFile). length (of_file g)) symbols_in (λ (g : NumberedFile). g.file) (as_many place by) n files
    ∙ ap (λ fs. sum_by symbols_in (take n fs)) (files_from_are 0 groups) in
    let few = slice_get_within file.symbols k x at_k in
    let at_f : slice_get files n ≡ Some f = file_stands groups id file there in
    let is_f : get_or files n f ≡ f = get_or_from_slice_get files n f f at_f in
    let within : k < length (of_file (get_or files n f)) = omega (arith, ap (λ (g : NumberedFile). length (of_file g)) is_f, as_many place by f, few) in
    let here : slice_get (of_file f) k ≡ Some (one (first + k, x))
    = map_in one (enumerate_from first file.symbols) k (first + k, x) (numbered_get first file.symbols k x at_k) in
    ap (λ (m : ℕ). resolution_at (placed_resolutions made) (m + k)) (sym before)
    ∙ get_or-flat_map of_file files n k f None (slice_get_within files n f at_f) within
    ∙ ap (λ (g : NumberedFile). get_or (of_file g) k None) is_f
    ∙ get_or_from_slice_get (of_file f) k (one (first + k, x)) None here

-- ---- its value

-- a resolution has its value
raw_value : (by : EntrySetting) (s : ℕ) (flags : ValueFlags) (value : Option ℕ) → option_map (λ (r : Resolution). r.raw_value) (option_map (with_entries by s flags) value) ≡ value
unfolding with_entries
raw_value by s flags None = refl
raw_value by s flags (Some n) = refl

raw_if : (b : Bool) (by : EntrySetting) (s : ℕ) (flags : ValueFlags) (value : Option ℕ)
    → option_map (λ (r : Resolution). r.raw_value) (if b then option_map (with_entries by s flags) value else None) ≡ (if b then value else None)
raw_if true by s flags value = raw_value by s flags value
raw_if false by s flags value = refl

-- what is resolved of an object has the value of where it is placed
pub object_value : (places : ValueAddresses) (by : EntrySetting) (k : FileKind) (first : ℕ) (q : ℕ × InputSymbol) → is_object k ≡ true → is_resolved by.live k q ≡ true
    → option_map (λ (r : Resolution). r.raw_value) (resolution_of places by k first q) ≡ Some (placed_value places first q.0 q.1.at)
object_value places by kind.Object first q h resolved =
    raw_if (is_resolved by.live kind.Object q) by q.0 (flags_at by.live.flags q.0) (Some (placed_value places first q.0 q.1.at))
    ∙ ap (λ (b : Bool). if b then Some (placed_value places first q.0 q.1.at) else None) resolved
object_value places by kind.Dynamic first q h resolved = absurd (cc)
object_value places by kind.NotLoaded first q h resolved = absurd (cc)
object_value places by kind.Prelude first q h resolved = absurd (cc)
object_value places by kind.SyntheticSymbols first q h resolved = absurd (cc)
object_value places by kind.LinkerScript first q h resolved = absurd (cc)

-- a symbol of the linker's own, where it is wanted, is worth what it stands at, if anything
pub internal_value : (places : ValueAddresses) (by : EntrySetting) (k : FileKind) (first : ℕ) (q : ℕ × InputSymbol) → is_internal k ≡ true
    → option_map (λ (r : Resolution). r.raw_value) (resolution_of places by k first q)
    ≡ (if is_wanted k q.0 q.1 (told_flags by k q) then edge_value places.edges q.1.at else None)
internal_value places by kind.Object first q h = absurd (cc)
internal_value places by kind.Dynamic first q h = absurd (cc)
internal_value places by kind.NotLoaded first q h = absurd (cc)
internal_value places by kind.Prelude first q h =
    raw_if (is_wanted kind.Prelude q.0 q.1 (told_flags by kind.Prelude q)) by q.0 (told_flags by kind.Prelude q) (edge_value places.edges q.1.at)
internal_value places by kind.SyntheticSymbols first q h =
    raw_if (is_wanted kind.SyntheticSymbols q.0 q.1 (told_flags by kind.SyntheticSymbols q)) by q.0 (told_flags by kind.SyntheticSymbols q) (edge_value places.edges q.1.at)
internal_value places by kind.LinkerScript first q h =
    raw_if (is_wanted kind.LinkerScript q.0 q.1 (told_flags by kind.LinkerScript q)) by q.0 (told_flags by kind.LinkerScript q) (edge_value places.edges q.1.at)

-- ---- behind redirects

-- a layout tells symbols of objects as they are placed
abbrev pub ObjectsAreTold : Made → LayoutRecord → Type 0
ObjectsAreTold made layout = (id : FileId) (file : InputFile) (k : ℕ) (x : InputSymbol) → file_in made.link.groups id ≡ Some file → slice_get file.symbols k ≡ Some x
    → is_object file.kind ≡ true → resolution_at layout.symbol_resolutions (first_symbol made.link.groups id + k)
    ≡ resolution_of (made_at made) (made_entries made) file.kind (first_input made.link.groups id) (first_symbol made.link.groups id + k, x)

-- objects have no redirects
none_in : (k : FileKind) → is_object k ≡ true → has_redirects k ≡ false
none_in kind.Object h = refl
none_in kind.Dynamic h = refl
none_in kind.NotLoaded h = refl
none_in kind.Prelude h = absurd (cc)
none_in kind.SyntheticSymbols h = refl
none_in kind.LinkerScript h = absurd (cc)

-- so it does where redirects change values of their own symbols alone
pub objects_told : OthersAreNoRedirects → (made : Made) (layout : LayoutRecord) → ChangesValuesAlone made.link.groups (placed_resolutions made) layout.symbol_resolutions
    → ObjectsAreTold made layout
objects_told others made layout changed id file k x there at_k object =
    changed.others (first_symbol made.link.groups id + k) (others made.link.groups id file k there (none_in file.kind object) (slice_get_within file.symbols k x at_k))
    ∙ placed_is made id file k x there at_k
