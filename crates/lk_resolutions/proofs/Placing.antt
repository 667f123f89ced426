-- Places in live input sections: their addresses by a table, and the room behind them.
use Rattle.std.proofs.Common.{◌≡◌, ℕ, zero, suc, ◌+◌, ◌<◌, ◌≤◌, ◌^◌, Bool, true, false, List, [], ◌∷◌, length, map, Option, Some, None, refl, ap, ◌∙◌, arith, get_or}
use Rattle.std.specs.Prelude.{if◌then◌else◌, option_map, slice_get}
use Rattle.std.specs.List.{flat_map, slice_index, slice_index_or}
use Rattle.std.proofs.Math.Path.{fun_ext}
use Rattle.std.proofs.lemmas.List.{length-map}
use Rattle.std.proofs.lemmas.Option.{get_or_from_slice_get, slice_get-get_or}
use Rattle.lk_link.specs.declared.file.InputFile.{InputFile}
use Rattle.lk_link.specs.declared.ids.FileId.{FileId}
use Rattle.lk_link.specs.declared.link.LinkInput.{LinkInput}
use Rattle.lk_link.specs.declared.section.InputSection.{InputSection}
use Rattle.lk_link.specs.declared.section.InputSlot.{InputSlot}
use Rattle.lk_link.specs.declared.section.InputSlot.TheVariants as slot
use Rattle.lk_link.specs.declared.symbol.InputSymbol.{InputSymbol}
use Rattle.lk_link.specs.declared.symbol.SymbolPlacement.{SymbolPlacement}
use Rattle.lk_link.specs.declared.symbol.SymbolPlacement.TheVariants as at
use Rattle.lk_link.specs.Files.{file_in}
use Rattle.lk_link.specs.declared.resolution.Resolution.{Resolution}
use Rattle.lk_link.specs.Inputs.{Input, all_inputs, input_number, numbered_files}
use Rattle.lk_link.specs.InputSlots.{can_be_kept, is_merge}
use Rattle.lk_link.specs.Marks.{is_marked}
use Rattle.lk_link.specs.Parts.{all_parts}
use Rattle.lk_link.specs.SymbolRules.{IsPlacementThere}
use Rattle.lk_link.specs.WellFormed.{IsWellFormed}
use Rattle.lk_link.proofs.Elements.{map_in}
use Rattle.lk_link.proofs.GoodSymbols.{symbol_of}
use Rattle.lk_link.proofs.InputLemmas.{inputs_follow}
use Rattle.lk_live.specs.Reach.{AreLive, IsLive, marked}
use Rattle.lk_expressions.specs.Records.{Record, record_at}
use Rattle.lk_own_symbols.specs.Edges.{Edges}
use Rattle.lk_merge.specs.Addresses.{image_start}
use Rattle.lk_sizes.specs.declared.addresses.CommonAddress.{CommonAddress}
use Rattle.lk_sizes.specs.Addresses.{common_addresses, section_addresses}
use Rattle.lk_sizes.specs.Header.{header_info}
use Rattle.lk_sizes.specs.Owners.{Filling, size_of}
use Rattle.lk_sizes.specs.PartOwners.{EndsFit, live_address}
use Rattle.lk_sizes.proofs.LiveOnes.{live_goes}
use Rattle.lk_sizes.proofs.Numbering.{table_at}
use Rattle.lk_deltas.specs.LinkDeletions.{Deletions, output_offset, size_after, sizes_after}
use Rattle.lk_sizes.proofs.Placed.{ends_within}
use Rattle.lk_resolutions.specs.Starts.{TakeTheirBytes, starts_of}
use Rattle.lk_resolutions.specs.Entries.{entry_setting}
use Rattle.lk_resolutions.specs.Resolutions.{ValueAddresses, address_at, file_resolutions, images_at, merged_value, symbol_resolutions}
use Rattle.lk_resolutions.specs.Tables.{AllStandInside, StandsInside, common_in, place_in}
use Rattle.lk_resolutions.proofs.CommonsFound.{places_with, resolutions_alike}

-- ---- the table

place_at : (filling : Filling) (deletions : Deletions) (starts : List ℕ) (k offset : ℕ)
    → place_in filling.content.link.groups deletions filling.content.live.marks (section_addresses filling starts) k offset ≡ address_at filling deletions starts k offset
place_at filling deletions starts k offset =
    let groups = filling.content.link.groups in
    let told : ℕ = slice_index_or (section_addresses filling starts) k 0 in
    let moved : Input → ℕ = λ x. output_offset groups deletions x.file x.index offset in
    elim (is_marked filling.content.live.marks k) as (λ b. is_marked filling.content.live.marks k ≡ b
    → (if b then option_map (λ x. told + moved x) (slice_get (all_inputs groups) k) else None)
    ≡ (if b then option_map (λ x. live_address filling starts x + moved x) (slice_get (all_inputs groups) k) else None)) [
      | true ↦ λ set. elim (slice_get (all_inputs groups) k) as (λ o. slice_get (all_inputs groups) k ≡ o
          → option_map (λ x. told + moved x) o ≡ option_map (λ x. live_address filling starts x + moved x) o) [
            | None ↦ λ none. refl
            | Some x ↦ λ there. ap (λ n. Some (n + moved x)) (table_at filling starts k x there set)
          ] refl
      | false ↦ λ set. refl
    ] refl

-- by the table, places are where they are defined to be
pub places_are : (filling : Filling) (deletions : Deletions) (starts : List ℕ)
    → place_in filling.content.link.groups deletions filling.content.live.marks (section_addresses filling starts) ≡ address_at filling deletions starts
places_are filling deletions starts = fun_ext (λ k. fun_ext (λ offset. place_at filling deletions starts k offset))

-- ---- room

pub marked_in : {X : Type 0} (marks : List Bool) (xs : List X) (k : ℕ) (x : X) → slice_get xs k ≡ Some x → slice_index_or marks k false ≡ true → (j : ℕ) × (slice_get (marked marks xs) j ≡ Some x)
marked_in [] xs k x there set = absurd (cc)
marked_in (m ∷ marks) [] k x there set = absurd (cc)
marked_in (true ∷ marks) (y ∷ xs) zero x there set = (0, there)
marked_in (true ∷ marks) (y ∷ xs) (suc k) x there set = let r = marked_in marks xs k x there set in (suc r.0, r.1)
marked_in (false ∷ marks) (y ∷ xs) zero x there set = absurd (cc)
marked_in (false ∷ marks) (y ∷ xs) (suc k) x there set = marked_in marks xs k x there set

-- what can be kept isn't merged
pub unmerged : (s : InputSlot) → can_be_kept s ≡ true → is_merge s ≡ false
unmerged slot.Discard h = refl
unmerged slot.Unloaded h = refl
unmerged slot.MustLoad h = refl
unmerged slot.DebugInfo h = refl
unmerged slot.MustLoadDebugInfo h = refl
unmerged slot.Merge h = absurd (cc)

-- what is filled, with parts that end below 2^64
record IsSetting (filling : Filling) (starts : List ℕ) : Type 0 where
  good : IsWellFormed filling.content.link
  are_live : AreLive filling.content.link filling.content.live
  count : length starts ≡ length (all_parts filling.content.link.plan.sections)
  fit : EndsFit filling starts

-- a live section of a file stands among all, keeps an offset that it is said to have inside, and ends below 2^64
record IsLiveAt (filling : Filling) (starts : List ℕ) (id : FileId) (i offset : ℕ) (s : InputSection) : Type 0 where
  there : slice_get (all_inputs filling.content.link.groups) (input_number filling.content.link.groups id i) ≡ Some (record { file = id; index = i; section = s })
  inside : offset ≤ s.size
  room : slice_index_or (section_addresses filling starts) (input_number filling.content.link.groups id i) 0 + size_of filling (record { file = id; index = i; section = s }) < 2 ^ 64

live_at : (filling : Filling) (starts : List ℕ) (id : FileId) (file : InputFile) (i offset : ℕ) → IsSetting filling starts → file_in filling.content.link.groups id ≡ Some file
    → (h : IsPlacementThere filling.content.link.plan file.sections (at.Section i offset)) → is_marked filling.content.live.marks (input_number filling.content.link.groups id i) ≡ true
    → IsLiveAt filling starts id i offset h.0
live_at filling starts id file i offset is there h set =
    let link : LinkInput = filling.content.link in
    let x : Input = record { file = id; index = i; section = h.0 } in
    let k : ℕ = input_number link.groups id i in
    let at_k : slice_get (all_inputs link.groups) k ≡ Some x = inputs_follow.at link.groups id file i h.0 there h.1 in
    let among = marked_in filling.content.live.marks (all_inputs link.groups) k x at_k set in
    let goes : x.section.part < length (all_parts link.plan.sections) = live_goes link filling.content.live among.0 x is.good is.are_live among.1 in
    let end = ends_within filling starts among.0 x among.1 is.fit (omega (arith, goes, is.count)) in
    let lives : IsLive link x = (is.are_live.marks k x at_k).0 set in
    record {
      there = at_k;
      inside = h.2 (unmerged x.section.slot lives.slot);
      room = omega (arith, table_at filling starts k x at_k set, end);
    }

-- a size in the filling, where its sizes are made of sections
made_size : (filling : Filling) (size : Input → ℕ) (k : ℕ) (x : Input) → slice_get (all_inputs filling.content.link.groups) k ≡ Some x
    → filling.sizes ≡ map size (all_inputs filling.content.link.groups) → slice_index filling.sizes k ≡ size x
made_size filling size k x there sizes =
    let inputs : List Input = all_inputs filling.content.link.groups in
    ap (λ (ns : List ℕ). slice_index ns k) sizes ∙ get_or_from_slice_get (map size inputs) k (size x) 0 (map_in size inputs k x there)

placement_inside : (filling : Filling) (deletions : Deletions) (starts : List ℕ) (id : FileId) (file : InputFile) (p : SymbolPlacement) → IsSetting filling starts
    → filling.sizes ≡ sizes_after filling.content.link.groups deletions → file_in filling.content.link.groups id ≡ Some file → IsPlacementThere filling.content.link.plan file.sections p
    → StandsInside filling.content.link.groups deletions filling.content.live.marks (section_addresses filling starts) id p
placement_inside filling deletions starts id file (at.Section i offset) is sizes there h = λ set.
    let groups = filling.content.link.groups in
    let x : Input = record { file = id; index = i; section = h.0 } in
    let r = live_at filling starts id file i offset is there h set in
    let size = made_size filling (size_after groups deletions) (input_number groups id i) x r.there sizes in
    record { section = h.0; there = r.there; inside = r.inside; room = omega (arith, r.room, size) }
placement_inside filling deletions starts id file (at.Common p n) is sizes there h = tt
placement_inside filling deletions starts id file (at.Absolute n) is sizes there h = tt
placement_inside filling deletions starts id file at.Undef is sizes there h = tt
placement_inside filling deletions starts id file at.Dynamic is sizes there h = tt
placement_inside filling deletions starts id file at.Undefined is sizes there h = tt
placement_inside filling deletions starts id file at.ForceUndefined is sizes there h = tt
placement_inside filling deletions starts id file (at.SectionStart s) is sizes there h = tt
placement_inside filling deletions starts id file (at.SectionEnd s) is sizes there h = tt
placement_inside filling deletions starts id file (at.SectionGroupEnd s) is sizes there h = tt
placement_inside filling deletions starts id file at.TlsEnd is sizes there h = tt
placement_inside filling deletions starts id file at.LoadBaseAddress is sizes there h = tt
placement_inside filling deletions starts id file (at.Redirect e l provide) is sizes there h = tt

-- the places of all symbols lie inside their sections
pub all_inside : (filling : Filling) (deletions : Deletions) (starts : List ℕ) → filling.sizes ≡ sizes_after filling.content.link.groups deletions → IsWellFormed filling.content.link
    → AreLive filling.content.link filling.content.live → length starts ≡ length (all_parts filling.content.link.plan.sections) → EndsFit filling starts
    → AllStandInside filling.content.link.groups deletions filling.content.live.marks (section_addresses filling starts)
all_inside filling deletions starts sizes good are count fit = λ id file there k d lt.
    let link : LinkInput = filling.content.link in
    let x : InputSymbol = get_or file.symbols k d in
    let is : IsSetting filling starts = record { good = good; are_live = are; count = count; fit = fit } in
    placement_inside filling deletions starts id file x.at is sizes there (symbol_of link id k file x good there (slice_get-get_or file.symbols k d lt)).there

-- ---- what a computation of them has

-- parts that take the bytes of their owners, and end below 2^64, have owners that do
pub ends_fit : (filling : Filling) (records : List Record) (starts : List ℕ) → starts ≡ starts_of records
    → ((p : ℕ) → p < length records → slice_index starts p + (record_at records p).mem_size < 2 ^ 64)
    → TakeTheirBytes filling records → EndsFit filling starts
ends_fit filling records starts is fit takes p below =
    let within : p < length records = omega (arith, below, ap length is, length-map records (λ (r : Record). r.mem_offset)) in
    omega (arith, fit p within, takes p within)

pub starts_count : (link : LinkInput) (records : List Record) (starts : List ℕ) → starts ≡ starts_of records → length records ≡ length (all_parts link.plan.sections)
    → length starts ≡ length (all_parts link.plan.sections)
starts_count link records starts is each = ap length is ∙ length-map records (λ (r : Record). r.mem_offset) ∙ each

-- resolutions by tables that are read are those that are defined
pub resolutions_by : (filling : Filling) (deletions : Deletions) (edges : Edges) (starts own addresses buckets : List ℕ) (commons : List CommonAddress) (told : List Bool) (items : List (Option Resolution))
    → addresses ≡ section_addresses filling starts → commons ≡ common_addresses filling starts → told ≡ (header_info filling.content).told → own ≡ starts
    → merged_value filling.content.link (image_start buckets) ≡ merged_value filling.content.link (images_at filling starts)
    → items ≡ flat_map (file_resolutions (record {
      live = place_in filling.content.link.groups deletions filling.content.live.marks addresses;
      common = λ p s. common_in commons s;
      merged = merged_value filling.content.link (image_start buckets);
      edges = edges;
    }) (entry_setting filling.content.sizes filling.content.link filling.content.live told own)) (numbered_files filling.content.link.groups)
    → items ≡ symbol_resolutions filling deletions edges starts
resolutions_by filling deletions edges starts own addresses buckets commons told items is_table is_commons is_told is_own is_merged made =
    let link : LinkInput = filling.content.link in
    let all : ValueAddresses → List Bool → List ℕ → List (Option Resolution)
    = λ places ts ss. flat_map (file_resolutions places (entry_setting filling.content.sizes link filling.content.live ts ss)) (numbered_files link.groups) in
    let both : (ℕ → ℕ → Option ℕ) → List CommonAddress → (ℕ → ℕ) → ValueAddresses = λ place cs values. record { live = place; common = λ p s. common_in cs s; merged = values; edges = edges } in
    let place : place_in link.groups deletions filling.content.live.marks addresses ≡ address_at filling deletions starts
    = ap (place_in link.groups deletions filling.content.live.marks) is_table ∙ places_are filling deletions starts in
    let values : ℕ → ℕ = merged_value link (image_start buckets) in
    made ∙ ap (λ at. all (both at commons values) told own) place
    ∙ ap (λ cs. all (both (address_at filling deletions starts) cs values) told own) is_commons
    ∙ ap (λ vs. all (both (address_at filling deletions starts) (common_addresses filling starts) vs) told own) is_merged
    ∙ ap (λ (ts : List Bool). all (places_with filling deletions edges starts) ts own) is_told
    ∙ ap (all (places_with filling deletions edges starts) (header_info filling.content).told) is_own
    ∙ resolutions_alike filling deletions edges starts
