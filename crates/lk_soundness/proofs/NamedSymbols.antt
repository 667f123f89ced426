-- A named symbol in a merged section has the address at which the image shows what stands there.
use Rattle.std.proofs.Common.{◌≡◌, ℕ, ◌+◌, ◌<◌, ◌≤◌, Bool, true, false, cond, if◌then◌else◌, List, [], ◌∷◌, length, ltb, not, Option, Some, None, Result, Ok, Err, sym, ap, subst, ◌∙◌, inl, inr, arith}
use Rattle.std.specs.Prelude.{◌&&◌, ◌==◌, option_and_then, option_map, pos, unwrap_or}
use Rattle.std.specs.List.{enumerate_from, flat_map, slice_get}
use Rattle.std.specs.Option.{option_map_or}
use Rattle.std.proofs.lemmas.Bool.{cases_lt, false_from_ne_true, lt-ltb}
use Rattle.std.proofs.lemmas.Bool.Decides.{nat_tests}
use Rattle.std.proofs.lemmas.Option.{slice_get_within}
use Rattle.lk_link.specs.declared.file.InputFile.{InputFile}
use Rattle.lk_link.specs.declared.ids.FileId.{FileId}
use Rattle.lk_link.specs.declared.link.LinkInput.{LinkInput}
use Rattle.lk_link.specs.declared.section.InputSection.{InputSection}
use Rattle.lk_link.specs.declared.symbol.InputSymbol.{InputSymbol}
use Rattle.lk_link.specs.declared.symbol.SymbolPlacement.TheVariants as at
use Rattle.lk_link.specs.Files.{file_in}
use Rattle.lk_link.specs.InputSlots.{is_merge}
use Rattle.lk_link.specs.Inputs.{Input, NumberedFile, all_inputs, first_input, input_number, numbered_files}
use Rattle.lk_link.specs.Marks.{is_marked}
use Rattle.lk_link.specs.Symbols.{file_number, first_symbol, symbol_at}
use Rattle.lk_deltas.specs.LinkDeletions.{output_offset}
use Rattle.lk_layout.specs.Made.{made_deletions, made_filling}
use Rattle.lk_layout.specs.Machines.{Machine}
use Rattle.lk_layout.specs.Redirects.{value_at}
use Rattle.lk_link.proofs.Elements.{append_left, flat_map_in}
use Rattle.lk_link.proofs.InputLemmas.{file_stands, inputs_follow, numbered_get}
use Rattle.lk_link.proofs.SymbolLemmas.{symbols_follow}
use Rattle.lk_live.specs.declared.live.Live.{Live}
use Rattle.lk_live.specs.Reach.{AreLive, IsLive}
use Rattle.lk_link.specs.NumberedSymbols.{numbered_symbols}
use Rattle.lk_merge.specs.Addresses.{image_start}
use Rattle.lk_merge.specs.Hash.{fnv64}
use Rattle.lk_merge.specs.LinkInputs.{link_inputs, merge_input, merge_inputs}
use Rattle.lk_merge.specs.OffsetsOutside.{is_symbol_outside, stands_outside}
use Rattle.lk_merge.specs.OutputAddresses.{MergePlace, merge_place, merged_address, offset_place, output_of, past_end, place_address, placed_in, plus_addend, symbol_place}
use Rattle.lk_merge.specs.declared.output_address.OffsetPastEnd.{OffsetPastEnd}
use Rattle.lk_merge.specs.MergedReferences.{IsShownAt}
use Rattle.lk_merge.proofs.AddressLemmas.{starts_at}
use Rattle.lk_merge.proofs.MergedReferences.{merged_references_show, output_there, symbol_place_is}
use Rattle.lk_merge.proofs.SymbolPlaces.{output_at, symbol_numbered}
use Rattle.lk_tables.specs.SymbolEntries.{is_resolved}
use Rattle.lk_sizes.specs.Images.{image_addresses}
use Rattle.lk_sizes.specs.PartOwners.{live_address}
use Rattle.lk_layout.specs.LayoutRecord.{LayoutRecord}
use Rattle.lk_resolutions.specs.declared.outside.MergeOffsetPlace.{MergeOffsetPlace}
use Rattle.lk_resolutions.specs.declared.outside.MergeOffsetPlace.TheVariants.{OfSymbol}
use Rattle.lk_link.specs.declared.resolution.Resolution.{Resolution}
use Rattle.lk_resolutions.specs.Starts.{starts_of}
use Rattle.lk_resolutions.specs.Outside.{merge_offsets, relocations_outside, symbol_outside, symbols_outside}
use Rattle.lk_resolutions.specs.Entries.{EntrySetting}
use Rattle.lk_resolutions.specs.Resolutions.{ValueAddresses, found_or_0, images_at, placed_value}
use Rattle.lk_soundness.specs.Laws.{IsResolvedIn}
use Rattle.lk_layout.proofs.LaidOut.{IsLaidOut, made_by}
use Rattle.lk_resolutions.proofs.Placing.{unmerged}
use Rattle.lk_soundness.proofs.Resolved.{in_file}
use Rattle.lk_soundness.proofs.BySymbol.{IsOfFile, of_its_file, resolved_in}
use Rattle.lk_soundness.proofs.Resolving.{ObjectsAreTold, made_at, made_entries, object_value}
use Rattle.lk_soundness.proofs.Stands.{NamedSymbolsShow}

-- ---- what the symbol names

-- a symbol of a file that is placed in a merged section, with a name or without one
pub record Stands (link : LinkInput) (id : FileId) (file : InputFile) (i offset k : ℕ) (x : InputSymbol) (section : InputSection) (unnamed : Bool) : Type 0 where
  pub there : file_in link.groups id ≡ Some file
  pub at_k : slice_get file.symbols k ≡ Some x
  pub placed : x.at ≡ at.Section i offset
  pub at_i : slice_get file.sections i ≡ Some section
  pub merged : is_merge section.slot ≡ true
  pub named : (length x.name == 0) ≡ unnamed

abbrev pub place_of : LinkInput → FileId → ℕ → ℕ → InputSection → Bool → MergePlace
place_of link id i offset section unnamed = record { number = input_number link.groups id i; section = section; offset = offset; named = not unnamed }

pub names : (link : LinkInput) (id : FileId) (file : InputFile) (i offset k : ℕ) (x : InputSymbol) (section : InputSection) (unnamed : Bool) → Stands link id file i offset k x section unnamed
    → symbol_place link.groups (first_symbol link.groups id + k) ≡ Some (place_of link id i offset section unnamed)
names link id file i offset k x section unnamed s =
    let groups = link.groups in
    let number : ℕ = first_symbol groups id + k in
    let f : NumberedFile = record { id = id; file = file } in
    let lt = slice_get_within file.symbols k x s.at_k in
    let at_s : symbol_at groups number ≡ Some x = symbols_follow groups id file k s.there lt ∙ s.at_k in
    let numbered : slice_get (numbered_symbols groups) number ≡ Some (f, x) = symbol_numbered groups id number file x (in_file groups id file k s.there lt) s.there at_s in
    let here : Bool → InputSection → MergePlace = λ b y. record { number = input_number groups id i; section = y; offset = offset; named = b } in
    let made : Bool → InputSection → Option MergePlace = λ b y. if is_merge y.slot then Some (here b y) else None in
    ap (λ (o : Option (NumberedFile × InputSymbol)). option_and_then (merge_place groups) o) numbered
    ∙ ap (placed_in groups f (not (length x.name == 0))) s.placed
    ∙ ap (λ (b : Bool). placed_in groups f (not b) (at.Section i offset)) s.named
    ∙ ap (λ (o : Option InputSection). option_and_then (made (not unnamed)) o) s.at_i
    ∙ ap (λ (b : Bool). if b then Some (here (not unnamed) section) else None) s.merged

-- ---- it stands inside the data

pub past_tells : (m n : ℕ) → n ≤ m → ltb m n ≡ false
past_tells m n h = grind (arith, nat_tests)

-- a list that is empty has no element
pub has_none : (places : List MergeOffsetPlace) (n : ℕ) (place : MergeOffsetPlace) → places ≡ [] → slice_get places n ≡ Some place → ⊥
has_none [] n place is h = absurd (cc)
has_none (x ∷ places) n place is h = absurd (cc)

stands_inside : (link : LinkInput) (live : Live) (id : FileId) (file : InputFile) (i offset k : ℕ) (x : InputSymbol) (section : InputSection) → Stands link id file i offset k x section false
    → is_resolved live file.kind (first_symbol link.groups id + k, x) ≡ true → merge_offsets link live ≡ [] → offset < length section.bytes
stands_inside link live id file i offset k x section s resolved inside =
    elim (cases_lt offset (length section.bytes)) [
      | inl below ↦ below
      | inr past ↦
          let groups = link.groups in
          let first : ℕ = first_symbol groups id in
          let number : ℕ = first + k in
          let f : NumberedFile = record { id = id; file = file } in
          let outside : stands_outside link number ≡ true
          = ap is_symbol_outside (names link id file i offset k x section false s)
          ∙ ap not (past_tells offset (length section.bytes) past) in
          let one : slice_get (symbol_outside link live file.kind (number, x)) 0 ≡ Some (OfSymbol number)
          = ap (λ b. slice_get (if b && stands_outside link number then OfSymbol number ∷ [] else []) 0) resolved
          ∙ ap (λ b. slice_get (if b then OfSymbol number ∷ [] else []) 0) outside in
          let of_file = flat_map_in (symbol_outside link live file.kind) (enumerate_from first file.symbols) k 0 (number, x) (OfSymbol number) (numbered_get first file.symbols k x s.at_k) one in
          let of_all = flat_map_in (symbols_outside link live) (numbered_files groups) (file_number groups id) of_file.0 f (OfSymbol number) (file_stands groups id file s.there) of_file.1 in
          let there = append_left (flat_map (symbols_outside link live) (numbered_files groups)) (flat_map (relocations_outside link live) (numbered_files groups)) of_all.0 (OfSymbol number) of_all.1 in
          absurd (has_none (merge_offsets link live) of_all.0 (OfSymbol number) inside there)
    ]

-- ---- its value

-- a merged section isn't live
pub not_live : (link : LinkInput) (live : Live) (k : ℕ) (x : Input) → AreLive link live → slice_get (all_inputs link.groups) k ≡ Some x → is_merge x.section.slot ≡ true → is_marked live.marks k ≡ false
not_live link live k x are there merged =
    false_from_ne_true (is_marked live.marks k) (λ set.
    let lives : IsLive link x = (are.marks k x there).0 set in
    let no : is_merge x.section.slot ≡ false = unmerged x.section.slot lives.slot in
    absurd (cc))

-- the image shows it at its value, by its place in its file
shown_in_file : (machine : Machine) (link : LinkInput) (layout : LayoutRecord) (laid : IsLaidOut machine link layout) → ObjectsAreTold (made_by laid) layout
    → (id : FileId) (file : InputFile) (i offset : ℕ) (section : InputSection) → file_in link.groups id ≡ Some file → (r : IsResolvedIn link laid.live id file i)
    → r.symbol.at ≡ at.Section i offset → slice_get file.sections i ≡ Some section → is_merge section.slot ≡ true → (length r.symbol.name == 0) ≡ false
    → (address : ℕ) × (value_at layout.symbol_resolutions (first_symbol link.groups id + r.index) ≡ Some address)
    × IsShownAt link (image_start layout.merged_string_start_addresses) (place_of link id i offset section false) (pos 0) address
shown_in_file machine link layout laid objects id file i offset section there r placed at_i merged named =
    let groups = link.groups in
    let live : Live = laid.live in
    let starts : List ℕ = starts_of laid.stage.records in
    let first : ℕ = first_input groups id in
    let number : ℕ = first_symbol groups id + r.index in
    let x : InputSymbol = r.symbol in
    let s : Stands link id file i offset r.index x section false = record { there = there; at_k = r.there; placed = placed; at_i = at_i; merged = merged; named = named } in
    let place : MergePlace = place_of link id i offset section false in
    let is : symbol_place groups number ≡ Some place = names link id file i offset r.index x section false s in
    let t : ℕ = output_of link section in
    let at_t = output_at link t (output_there link place laid.good (symbol_place_is link number place is)).1 in
    let inside : offset < length section.bytes = stands_inside link live id file i offset r.index x section s r.resolved laid.inside in
    let input : Input = record { file = id; index = i; section = section } in
    let at_input : slice_get (all_inputs groups) place.number ≡ Some input = inputs_follow.at groups id file i section there at_i in
    let told : ℕ → ℕ = image_start layout.merged_string_start_addresses in
    let images : ℕ → ℕ = images_at (made_filling (made_by laid)) starts in
    let image_is : told t ≡ images t
    = ap (λ (l : LayoutRecord). image_start l.merged_string_start_addresses t) laid.same
    ∙ starts_at (link_inputs link).outputs (image_addresses (made_filling (made_by laid)) starts) t (merge_inputs link t) at_t in
    let n : ℕ = offset_place fnv64 (merge_inputs link t) (merge_input place.number section) offset in
    let address : ℕ = plus_addend (images t + n) (pos 0) in
    let answer : (ℕ → ℕ) → Bool → Result (Option ℕ) OffsetPastEnd = λ from zero_unnamed. place_address link from (pos 0) zero_unnamed (Some place) in
    let found : (from : ℕ → ℕ) (zero_unnamed : Bool) → answer from zero_unnamed ≡ Ok (Some (plus_addend (from t + n) (pos 0)))
    = λ from zero_unnamed. ap (λ b. option_map_or (λ a. Ok (Some (plus_addend a (pos 0)))) (cond b (Some (from t + n)) None) (Err past_end)) (lt-ltb offset (length section.bytes) inside) in
    let places : ValueAddresses = made_at (made_by laid) in
    let by : EntrySetting = made_entries (made_by laid) in
    let none : places.live (first + i) offset ≡ None
    = ap (λ b. if b then option_map (λ z. live_address (made_filling (made_by laid)) starts z + output_offset groups (made_deletions (made_by laid)) z.file z.index offset) (slice_get (all_inputs groups) (first + i)) else None) (not_live link live (first + i) input laid.are_live at_input merged) in
    let value : unwrap_or (places.live (first + i) offset) (places.merged number) ≡ address
    = ap (λ (o : Option ℕ). unwrap_or o (places.merged number)) none
    ∙ ap (λ (o : Option MergePlace). found_or_0 (place_address link images (pos 0) true o)) is
    ∙ ap found_or_0 (found images true) in
    let valued : placed_value places first number x.at ≡ address = ap (placed_value places first number) placed ∙ value in
    let referred : merged_address link told number (pos 0) false ≡ Ok (Some address)
    = ap (place_address link told (pos 0) false) is ∙ found told false ∙ ap (λ m. Ok (Some (plus_addend (m + n) (pos 0)))) image_is in (
      address,
      ap (option_map (λ (z : Resolution). z.raw_value)) (objects id file r.index x there r.there r.object)
          ∙ object_value places by file.kind first (number, x) r.object r.resolved
          ∙ ap (λ (n : ℕ). Some n) valued,
      merged_references_show.shown link told number place (pos 0) address laid.good laid.merged is referred,
    )

pub named_symbols_show : (machine : Machine) (link : LinkInput) (layout : LayoutRecord) (laid : IsLaidOut machine link layout) → ObjectsAreTold (made_by laid) layout
    → NamedSymbolsShow (made_by laid) layout
named_symbols_show machine link layout laid objects s i offset f x section is merged named =
    let of : IsOfFile link.groups s f x = of_its_file link.groups s f x is.named in
    let found = shown_in_file machine link layout laid objects f.id f.file i offset section of.there (resolved_in (made_by laid) s i offset f x section is of) is.placed is.there merged named in
    (found.0, subst (λ (n : ℕ). value_at layout.symbol_resolutions n ≡ Some found.0) (sym of.number) found.1, found.2)
