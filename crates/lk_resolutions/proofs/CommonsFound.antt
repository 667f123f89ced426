-- Commons are found by their symbols in a table that is in the order of these.
use Rattle.std.proofs.Common.{◌≡◌, ℕ, zero, suc, ◌+◌, ◌<◌, ◌≤◌, ◌==◌, ◌&&◌, Bool, true, false, cond, not, if◌then◌else◌, List, [], ◌∷◌, ◌++◌, length, map, Option, Some, None, refl, sym, ap, ◌∙◌, arith, get_or, inl, inr, ltb}
use Rattle.std.specs.Prelude.{find, option_map}
use Rattle.std.specs.List.{enumerate_from, flat_map, position_or_len, slice_get}
use Rattle.std.specs.List.Sorted.{IsNonDecreasingBy, IsPartitionPoint}
use Rattle.std.specs.Option.{option_map_or}
use Rattle.std.proofs.lemmas.Bool.{and_parts, cases_lt, eqb-true, false_from_ne_true, ltb-false, ltb-true}
use Rattle.std.proofs.lemmas.List.Folds.{find_at}
use Rattle.std.proofs.lemmas.Option.{get_or_from_slice_get, slice_get-get_or, slice_get_past, slice_get_within}
use Rattle.lk_link.specs.declared.flags.ValueFlags.{ValueFlags}
use Rattle.lk_link.specs.declared.symbol.InputSymbol.{InputSymbol}
use Rattle.lk_link.specs.declared.symbol.SymbolPlacement.{SymbolPlacement}
use Rattle.lk_link.specs.declared.symbol.SymbolPlacement.TheVariants as at
use Rattle.lk_link.specs.FileKinds.{is_internal}
use Rattle.lk_link.specs.Inputs.{NumberedFile, first_input, numbered_files}
use Rattle.lk_link.specs.Symbols.{file_number, first_symbol}
use Rattle.lk_link.proofs.Elements.{flat_map_in, map_at, map_in}
use Rattle.lk_link.proofs.InputLemmas.{file_stands}
use Rattle.lk_reach.proofs.Numbered.{file_at}
use Rattle.lk_link.specs.Symbols.{is_wanted}
use Rattle.lk_own_symbols.specs.Edges.{Edges, edge_value}
use Rattle.lk_deltas.specs.LinkDeletions.{Deletions}
use Rattle.lk_sizes.specs.declared.addresses.CommonAddress.{CommonAddress}
use Rattle.lk_sizes.specs.Addresses.{common_addresses, told_common}
use Rattle.lk_sizes.specs.Owners.{IsCommonIn, all_commons, commons_of, Filling}
use Rattle.lk_sizes.specs.PartOwners.{common_address}
use Rattle.lk_sizes.proofs.Addressing.{same_number}
use Rattle.lk_sizes.proofs.CommonOnes.{common_at_index, commons_rise}
use Rattle.lk_link.specs.declared.resolution.Resolution.{Resolution}
use Rattle.lk_resolutions.specs.Entries.{EntrySetting, told_flags, with_entries}
use Rattle.lk_resolutions.specs.Resolutions.{ValueAddresses, entries_of, file_resolutions, has_resolutions, placed_value, places_of, resolution_of, symbol_resolutions, value_of}
use Rattle.lk_resolutions.specs.Tables.{AreRising, common_in}
use Rattle.lk_resolutions.proofs.EntriesTaken.{plain_flags}

-- ---- the first that passes

first_place : {X : Type 0} (p : X → Bool) (xs : List X) (k : ℕ) (x : X) → slice_get xs k ≡ Some x → p x ≡ true → ((j : ℕ) (y : X) → j < k → slice_get xs j ≡ Some y → p y ≡ false) → position_or_len p xs ≡ k
first_place p [] k x there passes before = absurd (cc)
first_place p (y ∷ xs) zero x there passes before = let same : y ≡ x = cc in ap (λ b. cond (not b) (1 + position_or_len p xs) 0) (ap p same ∙ passes)
first_place p (y ∷ xs) (suc k) x there passes before =
    ap (λ b. cond (not b) (1 + position_or_len p xs) 0) (before 0 y (omega arith) refl)
    ∙ omega (arith, first_place p xs k x there passes (λ j z below at. before (suc j) z (omega arith) at))

first_found : {X : Type 0} (p : X → Bool) (xs : List X) (k : ℕ) (x : X) → slice_get xs k ≡ Some x → p x ≡ true → ((j : ℕ) (y : X) → j < k → slice_get xs j ≡ Some y → p y ≡ false) → find p xs ≡ Some x
first_found p xs k x there passes before = find_at p xs ∙ ap (slice_get xs) (first_place p xs k x there passes before) ∙ there

no_place : {X : Type 0} (p : X → Bool) (xs : List X) → ((j : ℕ) (y : X) → slice_get xs j ≡ Some y → p y ≡ false) → position_or_len p xs ≡ length xs
no_place p [] none = refl
no_place p (y ∷ xs) none = ap (λ b. cond (not b) (1 + position_or_len p xs) 0) (none 0 y refl) ∙ omega (arith, no_place p xs (λ j z at. none (suc j) z at))

none_found : {X : Type 0} (p : X → Bool) (xs : List X) → ((j : ℕ) (y : X) → slice_get xs j ≡ Some y → p y ≡ false) → find p xs ≡ None
none_found p xs none = find_at p xs ∙ ap (slice_get xs) (no_place p xs none) ∙ slice_get_past xs (length xs) (omega arith)

differ : (s t : ℕ) → (s ≡ t → ⊥) → (s == t) ≡ false
differ s t other = false_from_ne_true (s == t) (λ same. other (eqb-true s t same))

alike : (s t : ℕ) → s ≡ t → (s == t) ≡ true
alike s t same = ap (λ (n : ℕ). n == t) same ∙ same_number t

-- ---- what halving finds

-- of commons that rise, an earlier one is below a later one
rises_at : (commons : List CommonAddress) (j k : ℕ) (c d : CommonAddress) → AreRising commons → j < k → slice_get commons j ≡ Some c → slice_get commons k ≡ Some d → c.symbol < d.symbol
rises_at commons j k c d rising below at_j at_k =
    let symbol : CommonAddress → ℕ = λ x. x.symbol in
    let first : get_or commons j c ≡ c = get_or_from_slice_get commons j c c at_j in
    let second : get_or commons k c ≡ d = get_or_from_slice_get commons k d c at_k in
    omega (arith, rising j k c below (slice_get_within commons k d at_k), ap symbol first, ap symbol second)

-- so their symbols never fall
pub never_fall : (commons : List CommonAddress) → AreRising commons → IsNonDecreasingBy (λ (c : CommonAddress). c.symbol) commons
never_fall commons rising j k d order within = elim (cases_lt j k) [
  | inl below ↦ omega (arith, rising j k d below within)
  | inr here ↦
      let same : j ≡ k = omega arith in
      omega (arith, ap (λ (n : ℕ). (get_or commons n d).symbol) same)
]

-- the place up to which all are below the symbol, and from which on none is
pub record IsSeam (commons : List CommonAddress) (symbol place : ℕ) : Type 0 where
  pub front : (k : ℕ) (c : CommonAddress) → k < place → slice_get commons k ≡ Some c → c.symbol < symbol
  pub behind : (k : ℕ) (c : CommonAddress) → place ≤ k → slice_get commons k ≡ Some c → symbol ≤ c.symbol

-- where halving stops is one
pub seam_at : (commons : List CommonAddress) (symbol place : ℕ)
    → IsPartitionPoint (λ (c : CommonAddress). ltb c.symbol symbol ≡ true) (λ (c : CommonAddress). ltb c.symbol symbol ≡ false) commons place → IsSeam commons symbol place
seam_at commons symbol place point =
    let test : CommonAddress → Bool = λ c. ltb c.symbol symbol in
    record {
      front = λ k c below at.
          let here : get_or commons k c ≡ c = get_or_from_slice_get commons k c c at in
          ltb-true c.symbol symbol (ap test (sym here) ∙ point.0 k c (omega arith) below);
      behind = λ k c from at.
          let here : get_or commons k c ≡ c = get_or_from_slice_get commons k c c at in
          ltb-false c.symbol symbol (ap test (sym here) ∙ point.1 k c from (slice_get_within commons k c at));
    }

pub seam_found : (commons : List CommonAddress) (symbol place : ℕ) (c : CommonAddress) → IsSeam commons symbol place → slice_get commons place ≡ Some c → c.symbol ≡ symbol
    → c.address ≡ common_in commons symbol
seam_found commons symbol place c h there same =
    sym (ap (λ o. option_map_or (λ (d : CommonAddress). d.address) o 0)
    (first_found (λ (d : CommonAddress). d.symbol == symbol) commons place c there (alike c.symbol symbol same) (λ j d below at.
    differ d.symbol symbol (λ e. absurd (omega (arith, e, h.front j d below at))))))

pub seam_other : (commons : List CommonAddress) (symbol place : ℕ) (c : CommonAddress) → AreRising commons → IsSeam commons symbol place → slice_get commons place ≡ Some c → (c.symbol ≡ symbol → ⊥)
    → 0 ≡ common_in commons symbol
seam_other commons symbol place c rising h there other =
    sym (ap (λ o. option_map_or (λ (d : CommonAddress). d.address) o 0)
    (none_found (λ (d : CommonAddress). d.symbol == symbol) commons (λ j d at.
    differ d.symbol symbol (λ e. elim (cases_lt j place) [
      | inl before ↦ absurd (omega (arith, e, h.front j d before at))
      | inr past ↦ elim (cases_lt place j) [
        | inl later ↦ absurd (omega (arith, e, rises_at commons place j c d rising later there at, h.behind place c (omega arith) there))
        | inr here ↦
            let number : j ≡ place = omega arith in
            let both : Some d ≡ Some c = sym at ∙ ap (slice_get commons) number ∙ there in
            let same : d ≡ c = cc in
            absurd (other (ap (λ (x : CommonAddress). x.symbol) (sym same) ∙ e))
      ]
    ]))))

pub seam_none : (commons : List CommonAddress) (symbol place : ℕ) → IsSeam commons symbol place → length commons ≤ place → 0 ≡ common_in commons symbol
seam_none commons symbol place h past =
    sym (ap (λ o. option_map_or (λ (d : CommonAddress). d.address) o 0)
    (none_found (λ (d : CommonAddress). d.symbol == symbol) commons (λ j d at.
    differ d.symbol symbol (λ e. absurd (omega (arith, e, h.front j d (omega (arith, past, slice_get_within commons j d at)) at))))))

-- ---- the table of a link

pub table_rises : (filling : Filling) (starts : List ℕ) → AreRising (common_addresses filling starts)
table_rises filling starts j k d below within =
    let table : List CommonAddress = common_addresses filling starts in
    let from = map_at (told_common filling starts) (all_commons filling.content.link filling.content.live) j (get_or table j d) (slice_get-get_or table j d (omega (arith, below, within))) in
    let to = map_at (told_common filling starts) (all_commons filling.content.link filling.content.live) k (get_or table k d) (slice_get-get_or table k d within) in
    let symbol : CommonAddress → ℕ = λ x. x.symbol in
    omega (arith, commons_rise filling.content.link filling.content.live j k from.0 to.0 below from.1 to.1, ap symbol from.2, ap symbol to.2)

-- each common that gets a resolution is found in it
pub common_found : (filling : Filling) (starts : List ℕ) (p s size : ℕ) → IsCommonIn filling.content.link filling.content.live p s size
    → common_in (common_addresses filling starts) s ≡ common_address filling starts p s
common_found filling starts p s size h =
    let told : CommonAddress = record { symbol = s; address = common_address filling starts p s } in
    let at = common_at_index filling.content.link filling.content.live p s size h in
    let whole = flat_map_in (commons_of filling.content.link filling.content.live) (numbered_files filling.content.link.groups) (file_number filling.content.link.groups h.file.id) at.0 h.file _ (file_stands filling.content.link.groups h.file.id h.file.file h.there) at.1 in
    let there : slice_get (common_addresses filling starts) whole.0 ≡ Some told = map_in (told_common filling starts) (all_commons filling.content.link filling.content.live) whole.0 _ whole.1 in
    ap (λ o. option_map_or (λ (d : CommonAddress). d.address) o 0)
    (first_found (λ (d : CommonAddress). d.symbol == s) (common_addresses filling starts) whole.0 told there (same_number s) (λ j d below at_j.
    differ d.symbol s (λ e. absurd (omega (arith, e, rises_at (common_addresses filling starts) j whole.0 d told (table_rises filling starts) below at_j there)))))

-- ---- the same resolutions by the table

-- what values go by, with commons by the table
abbrev pub places_with : Filling → Deletions → Edges → List ℕ → ValueAddresses
places_with filling deletions edges starts = record (places_of filling deletions edges starts) { common = λ p s. common_in (common_addresses filling starts) s }

same_value : (filling : Filling) (deletions : Deletions) (edges : Edges) (starts : List ℕ) (first s : ℕ) (p : SymbolPlacement)
    → ((q size : ℕ) → p ≡ at.Common q size → common_in (common_addresses filling starts) s ≡ common_address filling starts q s)
    → placed_value (places_with filling deletions edges starts) first s p ≡ placed_value (places_of filling deletions edges starts) first s p
same_value filling deletions edges starts first s (at.Common q size) h = h q size refl
same_value filling deletions edges starts first s (at.Section i offset) h = refl
same_value filling deletions edges starts first s (at.Absolute n) h = refl
same_value filling deletions edges starts first s at.Undef h = refl
same_value filling deletions edges starts first s at.Dynamic h = refl
same_value filling deletions edges starts first s at.Undefined h = refl
same_value filling deletions edges starts first s at.ForceUndefined h = refl
same_value filling deletions edges starts first s (at.SectionStart o) h = refl
same_value filling deletions edges starts first s (at.SectionEnd o) h = refl
same_value filling deletions edges starts first s (at.SectionGroupEnd o) h = refl
same_value filling deletions edges starts first s at.TlsEnd h = refl
same_value filling deletions edges starts first s at.LoadBaseAddress h = refl
same_value filling deletions edges starts first s (at.Redirect e l provide) h = refl

map_alike : {X Y : Type 0} (g h : ℕ × X → Y) (n : ℕ) (xs : List X) → ((k : ℕ) (x : X) → slice_get xs k ≡ Some x → g (n + k, x) ≡ h (n + k, x)) → map g (enumerate_from n xs) ≡ map h (enumerate_from n xs)
map_alike g h n [] same = refl
map_alike {X} {Y} g h n (x ∷ xs) same =
    let number : n + 0 ≡ n = omega arith in
    ap (λ (y : Y). y ∷ map g (enumerate_from (n + 1) xs)) (ap (λ (m : ℕ). g (m, x)) (sym number) ∙ same 0 x refl ∙ ap (λ (m : ℕ). h (m, x)) number)
    ∙ ap (λ (ys : List Y). h (n, x) ∷ ys) (map_alike g h (n + 1) xs (λ k y there.
    let more : n + 1 + k ≡ n + suc k = omega arith in
    ap (λ (m : ℕ). g (m, y)) more ∙ same (suc k) y there ∙ ap (λ (m : ℕ). h (m, y)) (sym more)))

flat_alike : {X Y : Type 0} (g h : X → List Y) (xs : List X) → ((k : ℕ) (x : X) → slice_get xs k ≡ Some x → g x ≡ h x) → flat_map g xs ≡ flat_map h xs
flat_alike g h [] same = refl
flat_alike g h (x ∷ xs) same = ap (λ ys. ys ++ flat_map g xs) (same 0 x refl) ∙ ap (λ ys. h x ++ ys) (flat_alike g h xs (λ k y there. same (suc k) y there))

-- a symbol that is wanted is worth the same
value_alike : (filling : Filling) (deletions : Deletions) (edges : Edges) (starts : List ℕ) (f : NumberedFile) (i k : ℕ) (x : InputSymbol) → slice_get (numbered_files filling.content.link.groups) i ≡ Some f
    → slice_get f.file.symbols k ≡ Some x
    → is_wanted f.file.kind (first_symbol filling.content.link.groups f.id + k) x (told_flags (entries_of filling starts) f.file.kind (first_symbol filling.content.link.groups f.id + k, x)) ≡ true
    → value_of (places_with filling deletions edges starts) f.file.kind (first_input filling.content.link.groups f.id) (first_symbol filling.content.link.groups f.id + k) x.at
    ≡ value_of (places_of filling deletions edges starts) f.file.kind (first_input filling.content.link.groups f.id) (first_symbol filling.content.link.groups f.id + k) x.at
value_alike filling deletions edges starts f i k x at_f at_k wanted =
    let s : ℕ = first_symbol filling.content.link.groups f.id + k in
    let first : ℕ = first_input filling.content.link.groups f.id in
    let by : EntrySetting = entries_of filling starts in
    let edge : Option ℕ = edge_value edges x.at in
    elim (is_internal f.file.kind) as (λ b. is_internal f.file.kind ≡ b
    → (if b then edge else Some (placed_value (places_with filling deletions edges starts) first s x.at))
    ≡ (if b then edge else Some (placed_value (places_of filling deletions edges starts) first s x.at))) [
      | true ↦ λ given. refl
      | false ↦ λ given. ap (λ (n : ℕ). Some n) (same_value filling deletions edges starts first s x.at (λ q size placed.
          common_found filling starts q s size (record {
            file = f;
            there = (file_at filling.content.link.groups i f at_f).there;
            index = k;
            symbol = x;
            stands = at_k;
            number = refl;
            placed = placed;
            wanted = ap (is_wanted f.file.kind s x) (sym (plain_flags by f.file.kind (s, x) given)) ∙ wanted;
          })))
    ] refl

one_alike : (filling : Filling) (deletions : Deletions) (edges : Edges) (starts : List ℕ) (f : NumberedFile) (i k : ℕ) (x : InputSymbol) → slice_get (numbered_files filling.content.link.groups) i ≡ Some f
    → slice_get f.file.symbols k ≡ Some x
    → resolution_of (places_with filling deletions edges starts) (entries_of filling starts) f.file.kind (first_input filling.content.link.groups f.id) (first_symbol filling.content.link.groups f.id + k, x)
    ≡ resolution_of (places_of filling deletions edges starts) (entries_of filling starts) f.file.kind (first_input filling.content.link.groups f.id) (first_symbol filling.content.link.groups f.id + k, x)
one_alike filling deletions edges starts f i k x at_f at_k =
    let s : ℕ = first_symbol filling.content.link.groups f.id + k in
    let first : ℕ = first_input filling.content.link.groups f.id in
    let by : EntrySetting = entries_of filling starts in
    let flags : ValueFlags = told_flags by f.file.kind (s, x) in
    let told : Option ℕ → Option Resolution = option_map (with_entries by s flags) in
    let value : ValueAddresses → Option ℕ = λ places. value_of places f.file.kind first s x.at in
    let test : Bool = has_resolutions f.file.kind && is_wanted f.file.kind s x flags in
    elim test as (λ b. test ≡ b
    → (if b then told (value (places_with filling deletions edges starts)) else None) ≡ (if b then told (value (places_of filling deletions edges starts)) else None)) [
      | true ↦ λ given. ap told (value_alike filling deletions edges starts f i k x at_f at_k (and_parts (has_resolutions f.file.kind) (is_wanted f.file.kind s x flags) given).1)
      | false ↦ λ given. refl
    ] refl

pub resolutions_alike : (filling : Filling) (deletions : Deletions) (edges : Edges) (starts : List ℕ)
    → flat_map (file_resolutions (places_with filling deletions edges starts) (entries_of filling starts)) (numbered_files filling.content.link.groups)
    ≡ symbol_resolutions filling deletions edges starts
resolutions_alike filling deletions edges starts =
    let by : EntrySetting = entries_of filling starts in
    let theirs : ValueAddresses = places_with filling deletions edges starts in
    let own : ValueAddresses = places_of filling deletions edges starts in
    flat_alike (file_resolutions theirs by) (file_resolutions own by) (numbered_files filling.content.link.groups) (λ i f at_f.
    let one : ValueAddresses → ℕ × InputSymbol → Option Resolution = λ places. resolution_of places by f.file.kind (first_input filling.content.link.groups f.id) in
    map_alike (one theirs) (one own) (first_symbol filling.content.link.groups f.id) f.file.symbols (λ k x at_k. one_alike filling deletions edges starts f i k x at_f at_k))
