-- The commons of a link: each stands once, in the order of symbols, among the owners of its part.
use Rattle.std.proofs.Common.{◌≡◌, ℕ, zero, suc, ◌+◌, ◌<◌, ◌≤◌, true, false, List, [], ◌∷◌, ◌++◌, length, map, Option, Some, None, get_or, length-append, refl, sym, ap, ◌∙◌, subst, arith, append_assoc}
use Rattle.std.specs.Prelude.{Bool, cond, if◌then◌else◌, nat_le, nat_lt, position, unwrap_or}
use Rattle.std.specs.List.{cons_option, enumerate_from, filter_map, flat_map, position_or_len, slice_get}
use Rattle.std.proofs.Math.Seq.{get_or-append_seam}
use Rattle.std.proofs.lemmas.Bool.{le-leb, lt-leb, ltb-false}
use Rattle.std.proofs.lemmas.List.Quantifiers.{position-Some}
use Rattle.std.proofs.lemmas.Grind.{flat_map-append}
use Rattle.std.proofs.lemmas.List.{append-nil, append_cancel_left, get_or_append_left}
use Rattle.std.proofs.lemmas.List.Elements.{filter_map-append}
use Rattle.std.proofs.lemmas.List.Sums.{position_or_len_is}
use Rattle.std.proofs.lemmas.Option.{get_or_from_slice_get}
use Rattle.lk_link.specs.declared.file.FileKind.{FileKind}
use Rattle.lk_link.specs.declared.file.InputFile.{InputFile}
use Rattle.lk_link.specs.declared.link.LinkInput.{LinkInput}
use Rattle.lk_link.specs.declared.symbol.InputSymbol.{InputSymbol}
use Rattle.lk_link.specs.declared.symbol.SymbolPlacement.{SymbolPlacement}
use Rattle.lk_link.specs.declared.symbol.SymbolPlacement.TheVariants as at
use Rattle.lk_link.specs.declared.walks.FileRef.{FileRef}
use Rattle.lk_link.specs.Files.{file_in}
use Rattle.lk_link.specs.Inputs.{Input, NumberedFile, numbered_files}
use Rattle.lk_link.specs.Symbols.{all_files, file_number, first_symbol, symbols_before, symbols_in}
use Rattle.lk_link.proofs.Elements.{append_left, append_right, at_index, flat_map_at, flat_map_in, map_in, numbered_at}
use Rattle.lk_link.specs.PartRules.{is_table_part}
use Rattle.lk_link.specs.Parts.{all_parts}
use Rattle.lk_link.specs.SymbolRules.{IsPlacementThere}
use Rattle.lk_link.specs.Walks.{file_of}
use Rattle.lk_link.specs.WellFormed.{IsWellFormed}
use Rattle.lk_link.proofs.GoodSymbols.{symbol_of as symbols_are_good}
use Rattle.lk_link.proofs.InputLemmas.{file_stands, numbered_get}
use Rattle.lk_live.specs.declared.live.Live.{Live}
use Rattle.lk_reach.proofs.Numbered.{file_at}
use Rattle.lk_reach.proofs.WalkLemmas.{one_file_more}
use Rattle.lk_tables.specs.declared.commons.Common.{Common}
use Rattle.lk_sizes.specs.Addresses.{CommonsRise}
use Rattle.lk_tables.specs.Copied.{is_wanted}
use Rattle.lk_tables.specs.Late.{flags_at}
use Rattle.lk_sizes.specs.Owners.{Filling, IsCommonIn, Taker, all_commons, all_file_takers, common_at, common_of, common_taker, commons_of, file_takers, live_of, section_taker, sorted_takers, takers, thunk_takers}
use Rattle.lk_sizes.specs.PartOwners.{CommonsAreOwners, common_address, common_key, owners_of}
use Rattle.lk_sizes.specs.Tables.{AreLeft, CommonsGo, behind_leading, bytes_in, reach_from}
use Rattle.lk_sizes.proofs.Addressing.{IsAmong, StandsBehind, address_behind, among, stands_behind, stands_there}
use Rattle.lk_ranks.proofs.Rising.{IsRising, NoneTwice, rise_flat, rising_at, rising_below, rising_lower, rising_order}
use Rattle.lk_sizes.proofs.Keys.{all_keys, made_keys, no_keys}
use Rattle.lk_sizes.proofs.OwnerKeys.{FilesRise, file_more, files_rise, keys_once, once_in_part, place_is_number, taker_keys}
use Rattle.lk_sizes.proofs.Takers.{mapped_flat}
use Rattle.lk_sizes.proofs.ThunkTakers.{no_block_keys}

-- ---- the symbols of commons

abbrev pub symbols_told : List Common → List ℕ
symbols_told cs = map (λ (c : Common). c.symbol) cs

placed_number : (s : ℕ) (p : SymbolPlacement) (c : Common) → common_at s p ≡ Some c → c.symbol ≡ s
placed_number s (at.Common p size) c h = let shown : Common → ℕ = λ d. d.symbol in let same : (record { symbol = s; part = p; size = size }) ≡ c = cc in ap shown (sym same)
placed_number s (at.Section i offset) c h = absurd (cc)
placed_number s (at.Absolute n) c h = absurd (cc)
placed_number s at.Undef c h = absurd (cc)
placed_number s at.Dynamic c h = absurd (cc)
placed_number s at.Undefined c h = absurd (cc)
placed_number s at.ForceUndefined c h = absurd (cc)
placed_number s (at.SectionStart o) c h = absurd (cc)
placed_number s (at.SectionEnd o) c h = absurd (cc)
placed_number s (at.SectionGroupEnd o) c h = absurd (cc)
placed_number s at.TlsEnd c h = absurd (cc)
placed_number s at.LoadBaseAddress c h = absurd (cc)
placed_number s (at.Redirect e l provide) c h = absurd (cc)

-- what a common is told of
pub record IsCommonOf (live : Live) (kind : FileKind) (q : ℕ × InputSymbol) (c : Common) : Type 0 where
  pub wanted : is_wanted kind q.0 q.1 (flags_at live.flags q.0) ≡ true
  pub placed : common_at q.0 q.1.at ≡ Some c

pub is_common : (live : Live) (kind : FileKind) (q : ℕ × InputSymbol) (c : Common) → common_of live kind q ≡ Some c → IsCommonOf live kind q c
is_common live kind q c h =
    (elim (is_wanted kind q.0 q.1 (flags_at live.flags q.0)) as (λ b. is_wanted kind q.0 q.1 (flags_at live.flags q.0) ≡ b → (if b then common_at q.0 q.1.at else None) ≡ Some c → IsCommonOf live kind q c) [
      | true ↦ λ wanted placed. record { wanted = wanted; placed = placed }
      | false ↦ λ wanted placed. absurd (cc)
    ]) refl h

-- those of a file's symbols rise
rising_step : (o : Option Common) (n high : ℕ) (rest : List Common) → ((c : Common) → o ≡ Some c → c.symbol ≡ n) → IsRising (n + 1) (symbols_told rest) high
    → IsRising n (symbols_told (cons_option o rest)) high
rising_step None n high rest number h = rising_lower (n + 1) n (symbols_told rest) high (omega arith) h
rising_step (Some c) n high rest number h =
    let is : c.symbol ≡ n = number c refl in
    (omega (arith, is), subst (λ (m : ℕ). IsRising (m + 1) (symbols_told rest) high) (sym is) h)

rising_file : (live : Live) (kind : FileKind) (n : ℕ) (symbols : List InputSymbol)
    → IsRising n (symbols_told (filter_map (common_of live kind) (enumerate_from n symbols))) (n + length symbols)
rising_file live kind n [] = omega arith
rising_file live kind n (x ∷ symbols) =
    let more : n + 1 + length symbols ≡ n + length (x ∷ symbols) = omega arith in
    rising_step (common_of live kind (n, x)) n (n + length (x ∷ symbols)) (filter_map (common_of live kind) (enumerate_from (n + 1) symbols))
    (λ c is. placed_number n x.at c (is_common live kind (n, x) c is).placed)
    (subst (λ (m : ℕ). IsRising (n + 1) (symbols_told (filter_map (common_of live kind) (enumerate_from (n + 1) symbols))) m) more (rising_file live kind (n + 1) symbols))

-- a file's rise from its first symbol's number to the one behind its last
one_rising : (link : LinkInput) (live : Live) → FilesRise link symbols_in (λ f. symbols_told (commons_of link live f))
one_rising link live k f at =
    let all : List InputFile = all_files link.groups in
    let first : first_symbol link.groups f.id ≡ symbols_before k all = ap (λ (n : ℕ). symbols_before n all) (sym (place_is_number link k f at)) in
    subst (λ (n : ℕ). IsRising n (symbols_told (commons_of link live f)) (n + length f.file.symbols)) first (rising_file live f.file.kind (first_symbol link.groups f.id) f.file.symbols)

-- all rise
all_rising : (link : LinkInput) (live : Live) → IsRising 0 (symbols_told (all_commons link live)) (symbols_before (0 + length (numbered_files link.groups)) (all_files link.groups))
all_rising link live =
    let files : List NumberedFile = numbered_files link.groups in
    subst (λ (ns : List ℕ). IsRising 0 ns (symbols_before (0 + length files) (all_files link.groups))) (mapped_flat (λ (c : Common). c.symbol) (commons_of link live) files)
    (files_rise link symbols_in (λ f. symbols_told (commons_of link live f)) (one_rising link live))

pub commons_rise : CommonsRise
commons_rise link live j k c d below at_j at_k =
    let symbol : Common → ℕ = λ e. e.symbol in
    rising_order 0 (symbols_before (0 + length (numbered_files link.groups)) (all_files link.groups)) (symbols_told (all_commons link live)) j k c.symbol d.symbol (all_rising link live) below
    (map_in symbol (all_commons link live) j c at_j) (map_in symbol (all_commons link live) k d at_k)

-- ---- commons among the owners of a part

-- of a file's takers, its commons have such keys
commons_told : (filling : Filling) (f : NumberedFile) → taker_keys common_key (file_takers filling f)
    ≡ symbols_told (commons_of filling.content.link filling.content.live f)
commons_told filling f =
    let link : LinkInput = filling.content.link in
    let live : Live = filling.content.live in
    let key : Taker → Option ℕ = λ t. common_key t.owner in
    let xs : List Input = live_of link live f in
    let cs : List Common = commons_of link live f in
    filter_map-append key (map (section_taker filling) xs) (map common_taker cs ++ thunk_takers filling f)
    ∙ ap (λ (ns : List ℕ). ns ++ filter_map key (map common_taker cs ++ thunk_takers filling f))
    (made_keys key (section_taker filling) xs ∙ no_keys (λ x. key (section_taker filling x)) xs (λ x. refl))
    ∙ filter_map-append key (map common_taker cs) (thunk_takers filling f)
    ∙ ap (λ (ns : List ℕ). filter_map key (map common_taker cs) ++ ns) (no_block_keys key filling f (λ p size. refl))
    ∙ append-nil (filter_map key (map common_taker cs))
    ∙ made_keys key common_taker cs
    ∙ all_keys (λ (c : Common). c.symbol) cs

-- the symbol of none stands twice among the owners of a part
pub commons_once : (filling : Filling) (p : ℕ) → NoneTwice (filter_map common_key (owners_of filling p))
commons_once filling p =
    let link : LinkInput = filling.content.link in
    let live : Live = filling.content.live in
    let all : List InputFile = all_files link.groups in
    once_in_part common_key filling p (record { image = λ section len. refl; identity = λ size. refl; entry = λ e. refl })
    (keys_once common_key filling symbols_in (λ x n. refl) (λ k f at.
    subst (λ (ns : List ℕ). IsRising (symbols_before k all) ns (symbols_before k all + length f.file.symbols)) (sym (commons_told filling f)) (one_rising link live k f at)))

pub common_stands : (filling : Filling) (front : List Taker) (c : Common) (rest : List Taker) → takers filling ≡ front ++ common_taker c ∷ rest
    → StandsBehind common_key c.symbol filling front (common_taker c)
common_stands filling front c rest all = stands_behind common_key c.symbol filling front (common_taker c) rest all refl (commons_once filling c.part)

-- its address
pub common_behind : (filling : Filling) (starts : List ℕ) (front : List Taker) (c : Common) (rest : List Taker) → takers filling ≡ front ++ common_taker c ∷ rest
    → common_address filling starts c.part c.symbol ≡ behind_leading filling.content.link filling.content.merged_lens starts c.part + bytes_in filling.content.link c.part front
common_behind filling starts front c rest all =
    address_behind common_key c.symbol filling starts front (common_taker c) (common_stands filling front c rest all)

-- ---- each common stands among the takers

filter_map_in : {X Y : Type 0} (h : X → Option Y) (xs : List X) (k : ℕ) (x : X) (y : Y) → slice_get xs k ≡ Some x → h x ≡ Some y → (j : ℕ) × (slice_get (filter_map h xs) j ≡ Some y)
filter_map_in h [] k x y there is = absurd (cc)
filter_map_in h (z ∷ xs) zero x y there is =
    let same : z ≡ x = cc in
    (0, ap (λ o. slice_get (cons_option o (filter_map h xs)) 0) (ap h same ∙ is))
filter_map_in h (z ∷ xs) (suc k) x y there is =
    let r = filter_map_in h xs k x y there is in
    elim (h z) as (λ o. (j : ℕ) × (slice_get (cons_option o (filter_map h xs)) j ≡ Some y)) [
      | None ↦ r
      | Some w ↦ (suc r.0, r.1)
    ]

pub common_at_index : (link : LinkInput) (live : Live) (p s size : ℕ) (h : IsCommonIn link live p s size) → (k : ℕ)
    × (slice_get (commons_of link live h.file) k ≡ Some (record { symbol = s; part = p; size = size }))
common_at_index link live p s size h =
    let first : ℕ = first_symbol link.groups h.file.id in
    let c : Common = record { symbol = s; part = p; size = size } in
    let numbered : slice_get (enumerate_from first h.file.file.symbols) h.index ≡ Some (s, h.symbol)
    = numbered_get first h.file.file.symbols h.index h.symbol h.stands ∙ ap (λ (n : ℕ). Some (n, h.symbol)) (sym h.number) in
    let placed : common_at s h.symbol.at ≡ Some c = ap (common_at s) h.placed in
    let told : common_of live h.file.file.kind (s, h.symbol) ≡ Some c = ap (λ b. if b then common_at s h.symbol.at else None) h.wanted ∙ placed in
    filter_map_in (common_of live h.file.file.kind) (enumerate_from first h.file.file.symbols) h.index (s, h.symbol) c numbered told

pub common_among : (filling : Filling) (p s size : ℕ) → IsCommonIn filling.content.link filling.content.live p s size
    → IsAmong (takers filling) (common_taker (record { symbol = s; part = p; size = size }))
common_among filling p s size h =
    let c : Common = record { symbol = s; part = p; size = size } in
    let at = common_at_index filling.content.link filling.content.live p s size h in
    let cs : List Common = commons_of filling.content.link filling.content.live h.file in
    let sections : List Taker = map (section_taker filling) (live_of filling.content.link filling.content.live h.file) in
    let own = append_left (map common_taker cs) (thunk_takers filling h.file) at.0 (common_taker c) (map_in common_taker cs at.0 c at.1) in
    let in_file = append_right sections (map common_taker cs ++ thunk_takers filling h.file) at.0 (length sections + at.0) (common_taker c) refl own in
    let there : slice_get (numbered_files filling.content.link.groups) (file_number filling.content.link.groups h.file.id) ≡ Some h.file = file_stands filling.content.link.groups h.file.id h.file.file h.there in
    let whole = flat_map_in (file_takers filling) (numbered_files filling.content.link.groups) (file_number filling.content.link.groups h.file.id) (length sections + at.0) h.file (common_taker c) there in_file in
    among (takers filling) whole.0 (common_taker c) (append_left (all_file_takers filling) (sorted_takers filling) whole.0 (common_taker c) whole.1)

pub commons_are_owners : CommonsAreOwners
commons_are_owners filling p s size h =
    let c : Common = record { symbol = s; part = p; size = size } in
    let split = common_among filling p s size h in
    stands_there common_key s filling split.front (common_taker c) (common_stands filling split.front c split.rest split.splits)

-- ---- what a common that takes bytes is

filter_map_at : {X Y : Type 0} (h : X → Option Y) (xs : List X) (j : ℕ) (y : Y) → slice_get (filter_map h xs) j ≡ Some y → (k : ℕ) × (x : X) × (slice_get xs k ≡ Some x) × (h x ≡ Some y)
filter_map_at h [] j y there = absurd (cc)
filter_map_at {X} {Y} h (x ∷ xs) j y there =
    let later : (i : ℕ) → slice_get (filter_map h xs) i ≡ Some y → (k : ℕ) × (z : X) × (slice_get (x ∷ xs) k ≡ Some z) × (h z ≡ Some y)
    = λ i is. let r = filter_map_at h xs i y is in (suc r.0, r.1, r.2, r.3) in
    first (h x) refl j there later
  where
    first : (o : Option Y) → h x ≡ o → (i : ℕ) → slice_get (cons_option o (filter_map h xs)) i ≡ Some y
        → ((i : ℕ) → slice_get (filter_map h xs) i ≡ Some y → (k : ℕ) × (z : X) × (slice_get (x ∷ xs) k ≡ Some z) × (h z ≡ Some y))
        → (k : ℕ) × (z : X) × (slice_get (x ∷ xs) k ≡ Some z) × (h z ≡ Some y)
    first None is i there later = later i there
    first (Some w) is zero there later = let same : w ≡ y = cc in (0, x, refl, is ∙ ap Some same)
    first (Some w) is (suc i) there later = later i there

placed_at : (s : ℕ) (p : SymbolPlacement) (c : Common) → common_at s p ≡ Some c → p ≡ at.Common c.part c.size
placed_at s (at.Common p size) c h =
    let same : (record { symbol = s; part = p; size = size }) ≡ c = cc in
    ap (λ (d : Common). at.Common d.part d.size) same
placed_at s (at.Section i offset) c h = absurd (cc)
placed_at s (at.Absolute n) c h = absurd (cc)
placed_at s at.Undef c h = absurd (cc)
placed_at s at.Dynamic c h = absurd (cc)
placed_at s at.Undefined c h = absurd (cc)
placed_at s at.ForceUndefined c h = absurd (cc)
placed_at s (at.SectionStart o) c h = absurd (cc)
placed_at s (at.SectionEnd o) c h = absurd (cc)
placed_at s (at.SectionGroupEnd o) c h = absurd (cc)
placed_at s at.TlsEnd c h = absurd (cc)
placed_at s at.LoadBaseAddress c h = absurd (cc)
placed_at s (at.Redirect e l provide) c h = absurd (cc)

pub is_common_in : (link : LinkInput) (live : Live) (f : NumberedFile) (j : ℕ) (c : Common) → file_in link.groups f.id ≡ Some f.file
    → slice_get (commons_of link live f) j ≡ Some c → IsCommonIn link live c.part c.symbol c.size
is_common_in link live f j c there at_j =
    let first : ℕ = first_symbol link.groups f.id in
    let from = filter_map_at (common_of live f.file.kind) (enumerate_from first f.file.symbols) j c at_j in
    let q : ℕ × InputSymbol = from.1 in
    let at = numbered_at first f.file.symbols from.0 q from.2 in
    let is = is_common live f.file.kind q c from.3 in
    let symbol : c.symbol ≡ q.0 = placed_number q.0 q.1.at c is.placed in
    record {
      file = f;
      there = there;
      index = from.0;
      symbol = q.1;
      stands = at.1;
      number = symbol ∙ at.0;
      placed = placed_at q.0 q.1.at c is.placed;
      wanted = subst (λ (n : ℕ). is_wanted f.file.kind n q.1 (flags_at live.flags n) ≡ true) (sym symbol) is.wanted;
    }

-- it goes to a part, which is no table part
pub common_is_placed : (link : LinkInput) (live : Live) (p s size : ℕ) → IsWellFormed link → IsCommonIn link live p s size
    → (p < length (all_parts link.plan.sections)) × (is_table_part link.plan.named p ≡ false)
common_is_placed link live p s size good h =
    let symbol = symbols_are_good link h.file.id h.index h.file.file h.symbol good h.there h.stands in
    subst (IsPlacementThere link.plan h.file.file.sections) h.placed symbol.there

pub common_goes : (link : LinkInput) (live : Live) (f : NumberedFile) (front : List Common) (c : Common) (rest : List Common) → IsWellFormed link → file_in link.groups f.id ≡ Some f.file
    → commons_of link live f ≡ front ++ c ∷ rest → c.part < length (all_parts link.plan.sections)
common_goes link live f front c rest good there splits =
    let at : slice_get (commons_of link live f) (length front) ≡ Some c = ap (λ (cs : List Common). slice_get cs (length front)) splits ∙ seam front in
    (common_is_placed link live c.part c.symbol c.size good (is_common_in link live f (length front) c there at)).0
  where
    seam : (xs : List Common) → slice_get (xs ++ c ∷ rest) (length xs) ≡ Some c
    seam [] = refl
    seam (x ∷ xs) = seam xs

-- so does each of a file, and each of all files
pub file_goes : (link : LinkInput) (live : Live) (f : NumberedFile) → IsWellFormed link → file_in link.groups f.id ≡ Some f.file → CommonsGo link (commons_of link live f)
file_goes link live f good there k c at =
    (common_is_placed link live c.part c.symbol c.size good (is_common_in link live f k c there at)).0

pub all_go : (link : LinkInput) (live : Live) → IsWellFormed link → CommonsGo link (all_commons link live)
all_go link live good k c at =
    let from = flat_map_at (commons_of link live) (numbered_files link.groups) k c at in
    file_goes link live from.from good (file_at link.groups from.outer from.from from.there).there from.inner c from.gives

-- ---- the commons of a file, and those behind it

-- a file's rise to the first symbol of the next
to_next : (link : LinkInput) (live : Live) (k : ℕ) (f : NumberedFile) → slice_get (numbered_files link.groups) k ≡ Some f
    → IsRising (symbols_before k (all_files link.groups)) (symbols_told (commons_of link live f)) (symbols_before (k + 1) (all_files link.groups))
to_next link live k f at =
    subst (λ (n : ℕ). IsRising (symbols_before k (all_files link.groups)) (symbols_told (commons_of link live f)) n) (sym (file_more symbols_in link k f at)) (one_rising link live k f at)

-- those of the files from a place on
rising_behind : (link : LinkInput) (live : Live) (k : ℕ) (files : List NumberedFile) → ((j : ℕ) (g : NumberedFile) → slice_get files j ≡ Some g → slice_get (numbered_files link.groups) (k + j) ≡ Some g)
    → IsRising (symbols_before k (all_files link.groups)) (symbols_told (flat_map (commons_of link live) files)) (symbols_before (k + length files) (all_files link.groups))
rising_behind link live k files at =
    let before : ℕ → ℕ = λ n. symbols_before n (all_files link.groups) in
    subst (λ (ns : List ℕ). IsRising (before k) ns (before (k + length files))) (mapped_flat (λ (c : Common). c.symbol) (commons_of link live) files)
    (rise_flat (λ f. symbols_told (commons_of link live f)) before k files (λ j g there. to_next link live (k + j) g (at j g there)))

-- where commons reach a number
no_common : Common
no_common = record { symbol = 0; part = 0; size = 0 }

below_at : (low high : ℕ) (cs : List Common) (k : ℕ) → IsRising low (symbols_told cs) high → k < length cs → nat_le high (get_or cs k no_common).symbol ≡ false
below_at low high cs k h lt =
    let at = at_index cs k lt in
    let symbol : Common → ℕ = λ c. c.symbol in
    let read : get_or cs k no_common ≡ at.0 = get_or_from_slice_get cs k at.0 no_common at.1 in
    ap (λ (c : Common). nat_le high c.symbol) read
    ∙ lt-leb high at.0.symbol (rising_below low high (symbols_told cs) k at.0.symbol h (map_in symbol cs k at.0 at.1))

pub reach_within : (end : ℕ) (cs : List Common) → reach_from end cs ≤ length cs
reach_within end cs = by (position (λ (c : Common). nat_le end c.symbol) cs) refl
  where
    by : (o : Option ℕ) → position (λ (c : Common). nat_le end c.symbol) cs ≡ o → unwrap_or o (length cs) ≤ length cs
    by None h = omega arith
    by (Some i) h = omega (arith, (position-Some (λ (c : Common). nat_le end c.symbol) cs i no_common h).0)

reach_split : (low high : ℕ) (cs ds : List Common) → IsRising low (symbols_told cs) high → ((d : Common) → slice_get ds 0 ≡ Some d → nat_le high d.symbol ≡ true)
    → reach_from high (cs ++ ds) ≡ length cs
reach_split low high cs ds h first =
    let p : Common → Bool = λ c. nat_le high c.symbol in
    let xs : List Common = cs ++ ds in
    let n : ℕ = length cs in
    let long : length xs ≡ n + length ds = length-append cs ds in
    let front : (k : ℕ) → k < n → p (get_or xs k no_common) ≡ false
    = λ k lt. ap p (get_or_append_left cs ds no_common k lt) ∙ below_at low high cs k h lt in
    let seam : n < length xs → p (get_or xs n no_common) ≡ true = λ lt. seam_of ds first (omega (arith, lt, long)) in
    let at : position_or_len p xs ≡ n = position_or_len_is p xs n no_common (omega (arith, long)) front seam in
    ap (λ (m : ℕ). unwrap_or (cond (nat_lt m (length xs)) (Some m) None) (length xs)) at ∙ told n (length xs) (nat_lt n (length xs)) refl (omega (arith, long))
  where
    told : (m len : ℕ) (b : Bool) → nat_lt m len ≡ b → m ≤ len → unwrap_or (cond (nat_lt m len) (Some m) None) len ≡ m
    told m len true h within = ap (λ c. unwrap_or (cond c (Some m) None) len) h
    told m len false h within =
        let end : len ≡ m = omega (arith, within, ltb-false m len h) in
        ap (λ c. unwrap_or (cond c (Some m) None) len) h ∙ end

    seam_of : (es : List Common) → ((d : Common) → slice_get es 0 ≡ Some d → nat_le high d.symbol ≡ true) → 0 < length es
        → nat_le high (get_or (cs ++ es) (length cs) no_common).symbol ≡ true
    seam_of [] one lt = absurd (omega (arith, lt))
    seam_of (x ∷ es) one lt = ap (λ (c : Common). nat_le high c.symbol) (get_or-append_seam cs x es no_common) ∙ one x refl

pub left_split : (link : LinkInput) (live : Live) (f : NumberedFile) (left : List Common) (h : AreLeft link live f left)
    → reach_from (first_symbol link.groups f.id + length f.file.symbols) left ≡ length (commons_of link live f)
left_split link live f left h =
    let all : List InputFile = all_files link.groups in
    let k : ℕ = length h.done in
    let own : List Common = commons_of link live f in
    let behind : List Common = flat_map (commons_of link live) h.rest in
    let at : slice_get (numbered_files link.groups) k ≡ Some f = ap (λ (fs : List NumberedFile). slice_get fs k) h.files ∙ append_seam h.done in
    let first : first_symbol link.groups f.id ≡ symbols_before k all = ap (λ (n : ℕ). symbols_before n all) (sym (place_is_number link k f at)) in
    let end : symbols_before (k + 1) all ≡ first_symbol link.groups f.id + length f.file.symbols = omega (arith, first, file_more symbols_in link k f at) in
    let rest = rising_behind link live (k + 1) h.rest (λ j g there. ap (λ (fs : List NumberedFile). slice_get fs (k + 1 + j)) h.files ∙ append_right h.done (f ∷ h.rest) (suc j) (k + 1 + j) g (omega arith) there) in
    ap (λ (n : ℕ). reach_from n left) (sym end)
    ∙ ap (reach_from (symbols_before (k + 1) all)) h.commons
    ∙ reach_split (symbols_before k all) (symbols_before (k + 1) all) own behind (to_next link live k f at)
    (λ d there. le-leb (symbols_before (k + 1) all) d.symbol (rising_at (symbols_before (k + 1) all) (symbols_before (k + 1 + length h.rest) all) (symbols_told behind) 0 d.symbol rest
    (map_in (λ (c : Common). c.symbol) behind 0 d there)))
  where
    append_seam : (gs : List NumberedFile) → slice_get (gs ++ f ∷ h.rest) (length gs) ≡ Some f
    append_seam [] = refl
    append_seam (g ∷ gs) = append_seam gs

-- those that are left when files are done
pub next_left : (link : LinkInput) (live : Live) (done : List NumberedFile) (f : NumberedFile) (rest : List NumberedFile) (left : List Common)
    → numbered_files link.groups ≡ done ++ f ∷ rest → flat_map (commons_of link live) done ++ left ≡ all_commons link live → AreLeft link live f left
next_left link live done f rest left files all =
    let split : all_commons link live ≡ flat_map (commons_of link live) done ++ (commons_of link live f ++ flat_map (commons_of link live) rest)
    = ap (flat_map (commons_of link live)) files ∙ flat_map-append (commons_of link live) done (f ∷ rest) in
    record {
      done = done;
      rest = rest;
      files = files;
      commons = append_cancel_left (flat_map (commons_of link live) done) left (commons_of link live f ++ flat_map (commons_of link live) rest) (all ∙ split);
    }

-- and when the next one is
pub still_left : (link : LinkInput) (live : Live) (yielded : List FileRef) (file : FileRef) (own behind left : List Common) → own ≡ commons_of link live (file_of file)
    → own ++ behind ≡ left → flat_map (commons_of link live) (map file_of yielded) ++ left ≡ all_commons link live
    → flat_map (commons_of link live) (map file_of (yielded ++ file ∷ [])) ++ behind ≡ all_commons link live
still_left link live yielded file own behind left is joined all =
    let done : List Common = flat_map (commons_of link live) (map file_of yielded) in
    ap (λ (cs : List Common). cs ++ behind) (one_file_more (commons_of link live) yielded file)
    ∙ append_assoc done (commons_of link live (file_of file)) behind
    ∙ ap (λ (cs : List Common). done ++ (cs ++ behind)) (sym is)
    ∙ ap (λ (cs : List Common). done ++ cs) joined
    ∙ all
