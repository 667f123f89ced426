-- What a layout tells of a symbol, by the symbol's number.
use Rattle.std.proofs.Common.{◌≡◌, ℕ, ◌+◌, ◌&&◌, ◌||◌, not, Bool, true, false, List, length, take, Option, Some, None, refl, sym, ap, subst, ◌∙◌, arith}
use Rattle.std.specs.Prelude.{if◌then◌else◌, is_some, option_map, slice_get}
use Rattle.std.specs.List.{enumerate_from, flat_map}
use Rattle.std.specs.Option.{option_map_or}
use Rattle.std.proofs.lemmas.List.{length-map}
use Rattle.std.proofs.lemmas.List.Concat.{length-flat_map}
use Rattle.std.proofs.lemmas.Option.{get_or_from_slice_get, slice_get_within}
use Rattle.lk_own_symbols.specs.Edges.{edge_value}
use Rattle.lk_own_symbols.specs.EdgeLaws.{OthersAreNoRedirects}
use Rattle.lk_own_symbols.specs.Redirects.{has_redirects}
use Rattle.lk_link.specs.declared.file.FileKind.{FileKind}
use Rattle.lk_link.specs.declared.file.FileKind.TheVariants as kind
use Rattle.lk_link.specs.declared.file.InputFile.{InputFile}
use Rattle.lk_link.specs.declared.flags.ValueFlags.{ValueFlags}
use Rattle.lk_link.specs.declared.resolution.Resolution.{Resolution}
use Rattle.lk_link.specs.declared.section.InputSection.{InputSection}
use Rattle.lk_link.specs.declared.symbol.InputSymbol.{InputSymbol}
use Rattle.lk_link.specs.FileKinds.{is_internal, is_object}
use Rattle.lk_link.specs.Files.{file_in}
use Rattle.lk_link.specs.Inputs.{NumberedFile, first_input, numbered_files}
use Rattle.lk_link.specs.NumberedSymbols.{numbered_symbol, symbols_of}
use Rattle.lk_link.specs.SymbolPlacements.{section_of}
use Rattle.lk_link.specs.Symbols.{all_symbols, first_symbol, is_canonical, is_wanted, symbol_at, symbols_in}
use Rattle.lk_link.specs.Flags.{has_resolution}
use Rattle.lk_link.proofs.Elements.{at_index, flat_map_at, map_at, map_in}
use Rattle.lk_link.proofs.InputLemmas.{numbered_get}
use Rattle.lk_link.proofs.SymbolLemmas.{symbols_follow}
use Rattle.lk_live.specs.Reach.{AreLive}
use Rattle.lk_reach.specs.Units.{flags_from}
use Rattle.lk_sizes.specs.Emitted.{told_marks}
use Rattle.lk_tables.specs.Late.{late_flags}
use Rattle.lk_tables.specs.SymbolEntries.{is_resolved}
use Rattle.lk_reach.proofs.Numbered.{file_at}
use Rattle.lk_tables.proofs.ShareSums.{sum_alike}
use Rattle.lk_resolutions.specs.Entries.{EntrySetting, told_flags, with_entries}
use Rattle.lk_resolutions.specs.Resolutions.{ValueAddresses, placed_value, resolution_of}
use Rattle.lk_resolution_list.specs.Lists.{resolution_at}
use Rattle.lk_resolution_list.specs.StoreLaws.{ChangesValuesAlone}
use Rattle.lk_resolution_list.specs.Stores.{valued}
use Rattle.lk_resolutions.proofs.Pushing.{first_is}
use Rattle.lk_layout.specs.Defined.{layout_of}
use Rattle.lk_layout.specs.Flags.{all_flags, marked_flags}
use Rattle.lk_layout.specs.Made.{Made, made_content}
use Rattle.lk_layout.specs.Redirects.{made_resolutions, placed_resolutions, value_at}
use Rattle.lk_soundness.specs.Laws.{IsResolvedIn}
use Rattle.lk_soundness.specs.Sound.{IsResolvedAt, told_edges}
use Rattle.lk_soundness.proofs.Resolving.{made_at, made_entries, placed_is}
use Rattle.lk_soundness.proofs.Stands.{FlagsStand, ResolutionsStand}

-- ---- the symbol

-- the symbol with this number is one of its file, behind as many as there are before it
pub record IsOfFile (groups : List (List InputFile)) (s : ℕ) (f : NumberedFile) (x : InputSymbol) : Type 0 where
  pub there : file_in groups f.id ≡ Some f.file
  pub index : ℕ
  pub at : slice_get f.file.symbols index ≡ Some x
  pub number : s ≡ first_symbol groups f.id + index

pub of_its_file : (groups : List (List InputFile)) (s : ℕ) (f : NumberedFile) (x : InputSymbol) → numbered_symbol groups s ≡ Some (f, x) → IsOfFile groups s f x
of_its_file groups s f x h =
    let files : List NumberedFile = numbered_files groups in
    let from = flat_map_at symbols_of files s (f, x) h in
    let g : NumberedFile = from.from in
    let pair : InputSymbol → NumberedFile × InputSymbol = λ y. (g, y) in
    let own = map_at pair g.file.symbols from.inner (f, x) from.gives in
    let many : (e : NumberedFile) → length (symbols_of e) ≡ symbols_in e.file = λ e. length-map e.file.symbols (λ (y : InputSymbol). (e, y)) in
    let before : length (flat_map symbols_of (take from.outer files)) ≡ first_symbol groups g.id
    = length-flat_map symbols_of (take from.outer files)
    ∙ sum_alike (λ (e : NumberedFile). length (symbols_of e)) (λ (e : NumberedFile). symbols_in e.file) (take from.outer files) many
    ∙ sym (first_is groups from.outer g from.there) in
    let is : IsOfFile groups s g own.0
    = record { there = (file_at groups from.outer g from.there).there; index = from.inner; at = own.1; number = omega (arith, from.place, before) } in
    let file : g ≡ f = ap (λ (q : NumberedFile × InputSymbol). q.0) own.2 in
    let symbol : own.0 ≡ x = ap (λ (q : NumberedFile × InputSymbol). q.1) own.2 in
    subst (λ (e : NumberedFile). IsOfFile groups s e x) file (subst (λ (y : InputSymbol). IsOfFile groups s g y) symbol is)

-- before redirects it stands for what it is placed at
pub placed_at_number : (made : Made) (s : ℕ) (f : NumberedFile) (x : InputSymbol) → IsOfFile made.link.groups s f x
    → resolution_at (placed_resolutions made) s ≡ resolution_of (made_at made) (made_entries made) f.file.kind (first_input made.link.groups f.id) (s, x)
placed_at_number made s f x is =
    subst (λ (n : ℕ). resolution_at (placed_resolutions made) n ≡ resolution_of (made_at made) (made_entries made) f.file.kind (first_input made.link.groups f.id) (n, x))
    (sym is.number) (placed_is made f.id f.file is.index x is.there is.at)

-- ---- whether it has a resolution, and its flags

abbrev IsAnswered : FileKind → (EntrySetting) → ℕ × InputSymbol → Bool → Option Resolution → Type 0
IsAnswered k by q worth o =
    (is_some o ≡ (is_wanted k q.0 q.1 (told_flags by k q) && worth)) × ((r : Resolution) → o ≡ Some r → r.flags ≡ told_flags by k q)

-- what is made where it is wanted, of what it is worth
made_of_value : (by : EntrySetting) (s : ℕ) (flags : ValueFlags) (wanted : Bool) (value : Option ℕ)
    → (is_some (if wanted then option_map (with_entries by s flags) value else None) ≡ (wanted && is_some value))
    × ((r : Resolution) → (if wanted then option_map (with_entries by s flags) value else None) ≡ Some r → r.flags ≡ flags)
unfolding with_entries
made_of_value by s flags true (Some n) = (refl, λ r is. let same : with_entries by s flags n ≡ r = cc in ap (λ (z : Resolution). z.flags) (sym same))
made_of_value by s flags true None = (refl, λ r is. absurd (cc))
made_of_value by s flags false value = (refl, λ r is. absurd (cc))

-- files that aren't loaded resolve nothing
never : (a b : Bool) → (a && b && false) ≡ false
never true true = refl
never true false = refl
never false b = refl

answered : (places : ValueAddresses) (by : EntrySetting) (k : FileKind) (first : ℕ) (q : ℕ × InputSymbol)
    → IsAnswered k by q (not (is_internal k) || is_some (edge_value places.edges q.1.at)) (resolution_of places by k first q)
answered places by kind.Object first q = made_of_value by q.0 (told_flags by kind.Object q) (is_wanted kind.Object q.0 q.1 (told_flags by kind.Object q)) (Some (placed_value places first q.0 q.1.at))
answered places by kind.Dynamic first q = made_of_value by q.0 (told_flags by kind.Dynamic q) (is_wanted kind.Dynamic q.0 q.1 (told_flags by kind.Dynamic q)) (Some (placed_value places first q.0 q.1.at))
answered places by kind.NotLoaded first q =
    let flags : ValueFlags = told_flags by kind.NotLoaded q in
    let none : is_wanted kind.NotLoaded q.0 q.1 flags ≡ false = never (is_canonical q.0 q.1) (has_resolution flags.0) in
    (sym (ap (λ (b : Bool). b && true) none), λ r is. absurd (cc))
answered places by kind.Prelude first q = made_of_value by q.0 (told_flags by kind.Prelude q) (is_wanted kind.Prelude q.0 q.1 (told_flags by kind.Prelude q)) (edge_value places.edges q.1.at)
answered places by kind.SyntheticSymbols first q =
    made_of_value by q.0 (told_flags by kind.SyntheticSymbols q) (is_wanted kind.SyntheticSymbols q.0 q.1 (told_flags by kind.SyntheticSymbols q)) (edge_value places.edges q.1.at)
answered places by kind.LinkerScript first q =
    made_of_value by q.0 (told_flags by kind.LinkerScript q) (is_wanted kind.LinkerScript q.0 q.1 (told_flags by kind.LinkerScript q)) (edge_value places.edges q.1.at)

-- behind redirects a resolution has its flags still, and none comes or goes
is_some_by : (value : ℕ) (o : Option Resolution) → is_some (option_map (valued value) o) ≡ is_some o
is_some_by value None = refl
is_some_by value (Some r) = refl

same_there : (o q : Option Resolution) → option_map (valued 0) o ≡ option_map (valued 0) q → is_some o ≡ is_some q
same_there o q same = sym (is_some_by 0 o) ∙ ap is_some same ∙ is_some_by 0 q

same_flags : (q : Option Resolution) (r : Resolution) → Some (valued 0 r) ≡ option_map (valued 0) q → (p : Resolution) × (q ≡ Some p) × (r.flags ≡ p.flags)
same_flags None r same = absurd (cc)
same_flags (Some p) r same = let is : valued 0 r ≡ valued 0 p = cc in (p, refl, ap (λ (z : Resolution). z.flags) is)

-- the flags that are told are its own
pub flags_stand : (made : Made) → AreLive made.link made.live → FlagsStand made (layout_of made)
flags_stand made are s f x named =
    let groups = made.link.groups in
    let told : List Bool = told_marks (made_content made) in
    let flags : List ValueFlags = made.live.flags in
    let is : IsOfFile groups s f x = of_its_file groups s f x named in
    let symbol : symbol_at groups s ≡ Some x
    = ap (symbol_at groups) is.number ∙ symbols_follow groups f.id f.file is.index is.there (slice_get_within f.file.symbols is.index x is.at) ∙ is.at in
    let own = at_index flags s (omega (arith, are.symbols, slice_get_within (all_symbols groups) s x symbol)) in
    let number : 0 + s ≡ s = omega arith in
    let numbered : slice_get (enumerate_from 0 flags) s ≡ Some (s, own.0) = numbered_get 0 flags s own.0 own.1 ∙ ap (λ (n : ℕ). Some (n, own.0)) number in
    get_or_from_slice_get (all_flags made.link told flags) s (marked_flags made.link told (s, own.0)) (flags_from 0) (map_in (marked_flags made.link told) (enumerate_from 0 flags) s (s, own.0) numbered)
    ∙ ap (λ (o : Option (NumberedFile × InputSymbol)). option_map_or (λ r. late_flags made.link told r.0.file.kind s r.1 own.0) o own.0) named
    ∙ ap (late_flags made.link told f.file.kind s x) (sym (get_or_from_slice_get flags s own.0 (flags_from 0) own.1))

pub resolutions_stand : (made : Made) → FlagsStand made (layout_of made) → ChangesValuesAlone made.link.groups (placed_resolutions made) (made_resolutions made) → ResolutionsStand made (layout_of made)
resolutions_stand made flags changed = record {
  given = λ s f x named.
      let is : IsOfFile made.link.groups s f x = of_its_file made.link.groups s f x named in
      let told = answered (made_at made) (made_entries made) f.file.kind (first_input made.link.groups f.id) (s, x) in
      same_there (resolution_at (made_resolutions made) s) (resolution_at (placed_resolutions made) s) (changed.rest s) ∙ ap is_some (placed_at_number made s f x is) ∙ told.0
      ∙ ap (λ (fl : ValueFlags). is_wanted f.file.kind s x fl && (not (is_internal f.file.kind) || is_some (edge_value (told_edges made (layout_of made)) x.at))) (sym (flags s f x named));
  flags = λ s f x r named there.
      let is : IsOfFile made.link.groups s f x = of_its_file made.link.groups s f x named in
      let told = answered (made_at made) (made_entries made) f.file.kind (first_input made.link.groups f.id) (s, x) in
      let before = same_flags (resolution_at (placed_resolutions made) s) r (sym (ap (option_map (valued 0)) there) ∙ changed.rest s) in
      before.2 ∙ told.1 before.0 (sym (placed_at_number made s f x is) ∙ before.1) ∙ sym (flags s f x named);
}

-- ---- its value, in an object or in a dynamic file

none_in : (k : FileKind) → is_internal k ≡ false → has_redirects k ≡ false
none_in kind.Object h = refl
none_in kind.Dynamic h = refl
none_in kind.NotLoaded h = refl
none_in kind.Prelude h = absurd (cc)
none_in kind.SyntheticSymbols h = absurd (cc)
none_in kind.LinkerScript h = absurd (cc)

value_if : (by : EntrySetting) (s : ℕ) (flags : ValueFlags) (wanted : Bool) (n value : ℕ)
    → option_map (λ (r : Resolution). r.raw_value) (if wanted then option_map (with_entries by s flags) (Some n) else None) ≡ Some value → value ≡ n
unfolding with_entries
value_if by s flags true n value is = cc
value_if by s flags false n value is = absurd (cc)

placed_worth : (places : ValueAddresses) (by : EntrySetting) (k : FileKind) (first value : ℕ) (q : ℕ × InputSymbol) → is_internal k ≡ false
    → option_map (λ (r : Resolution). r.raw_value) (resolution_of places by k first q) ≡ Some value → value ≡ placed_value places first q.0 q.1.at
placed_worth places by kind.Object first value q h is =
    value_if by q.0 (told_flags by kind.Object q) (is_wanted kind.Object q.0 q.1 (told_flags by kind.Object q)) (placed_value places first q.0 q.1.at) value is
placed_worth places by kind.Dynamic first value q h is =
    value_if by q.0 (told_flags by kind.Dynamic q) (is_wanted kind.Dynamic q.0 q.1 (told_flags by kind.Dynamic q)) (placed_value places first q.0 q.1.at) value is
placed_worth places by kind.NotLoaded first value q h is = absurd (cc)
placed_worth places by kind.Prelude first value q h is = absurd (cc)
placed_worth places by kind.SyntheticSymbols first value q h is = absurd (cc)
placed_worth places by kind.LinkerScript first value q h is = absurd (cc)

-- one of another file than the linker's own is told as it is placed
pub told_at_number : OthersAreNoRedirects → (made : Made) → ChangesValuesAlone made.link.groups (placed_resolutions made) (made_resolutions made) → (s : ℕ) (f : NumberedFile) (x : InputSymbol)
    → IsOfFile made.link.groups s f x → is_internal f.file.kind ≡ false
    → resolution_at (made_resolutions made) s ≡ resolution_of (made_at made) (made_entries made) f.file.kind (first_input made.link.groups f.id) (s, x)
told_at_number others made changed s f x is outside =
    subst (λ (n : ℕ). resolution_at (made_resolutions made) n ≡ resolution_at (placed_resolutions made) n) (sym is.number)
    (changed.others (first_symbol made.link.groups f.id + is.index)
    (others made.link.groups f.id f.file is.index is.there (none_in f.file.kind outside) (slice_get_within f.file.symbols is.index x is.at)))
    ∙ placed_at_number made s f x is

-- one that is told is worth what it is placed at
pub worth_by_place : OthersAreNoRedirects → (made : Made) → ChangesValuesAlone made.link.groups (placed_resolutions made) (made_resolutions made) → (s value : ℕ) (f : NumberedFile) (x : InputSymbol)
    → numbered_symbol made.link.groups s ≡ Some (f, x) → is_internal f.file.kind ≡ false → value_at (made_resolutions made) s ≡ Some value
    → value ≡ placed_value (made_at made) (first_input made.link.groups f.id) s x.at
worth_by_place others made changed s value f x named outside told =
    let is : IsOfFile made.link.groups s f x = of_its_file made.link.groups s f x named in
    placed_worth (made_at made) (made_entries made) f.file.kind (first_input made.link.groups f.id) value (s, x) outside
    (sym (ap (option_map (λ (r : Resolution). r.raw_value)) (told_at_number others made changed s f x is outside)) ∙ told)

-- ---- in an object

-- an object isn't the linker's own
pub object_outside : (k : FileKind) → is_object k ≡ true → is_internal k ≡ false
object_outside kind.Object h = refl
object_outside kind.Dynamic h = refl
object_outside kind.NotLoaded h = refl
object_outside kind.Prelude h = absurd (cc)
object_outside kind.SyntheticSymbols h = absurd (cc)
object_outside kind.LinkerScript h = absurd (cc)

-- one that is placed in a section, in its file
abbrev pub resolved_in : (made : Made) (s i offset : ℕ) (f : NumberedFile) (x : InputSymbol) (section : InputSection) → IsResolvedAt made s i offset f x section → IsOfFile made.link.groups s f x
    → IsResolvedIn made.link made.live f.id f.file i
resolved_in made s i offset f x section is of = record {
  index = of.index;
  symbol = x;
  object = is.object;
  there = of.at;
  at = ap section_of is.placed;
  resolved = subst (λ (n : ℕ). is_resolved made.live f.file.kind (n, x) ≡ true) of.number is.resolved;
}
