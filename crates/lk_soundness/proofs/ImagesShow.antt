-- Where images stand in a layout, and what they show.
use Rattle.std.proofs.Common.{◌≡◌, ℕ, ◌+◌, ◌<◌, true, cond, List, [], ◌∷◌, length, Some, None, sym, ap, ◌∙◌, subst, arith}
use Rattle.std.specs.List.{list_all, slice_get, slice_index}
use Rattle.std.proofs.Math.ListN as lists
use Rattle.std.proofs.lemmas.Bool.{lt-ltb}
use Rattle.std.proofs.lemmas.Option.{get_or_from_slice_get}
use Rattle.lk_link.specs.declared.link.LinkInput.{LinkInput}
use Rattle.lk_link.specs.declared.section.InputSection.{InputSection}
use Rattle.lk_layout.specs.Made.{made_filling}
use Rattle.lk_layout.specs.Machines.{Machine}
use Rattle.lk_link.specs.WellFormed.{IsWellFormed}
use Rattle.lk_live.specs.declared.live.Live.{Live}
use Rattle.lk_link.specs.Parts.{part_sections}
use Rattle.lk_link.proofs.PartNumbers.{first_part-le}
use Rattle.lk_merge.specs.Addresses.{image_start}
use Rattle.lk_merge.specs.Hash.{fnv64}
use Rattle.lk_merge.specs.Image.{all_pieces}
use Rattle.lk_merge.specs.LinkInputs.{link_inputs, merge_input, merge_inputs}
use Rattle.lk_merge.specs.OutputAddresses.{MergePlace, Shows, address_in, offset_place, output_of}
use Rattle.lk_merge.specs.Pieces.{MergeInput, is_terminated}
use Rattle.lk_merge.proofs.AddressLemmas.{starts_at}
use Rattle.lk_merge.proofs.MergedReferences.{all_terminated}
use Rattle.lk_merge.proofs.PlaceLemmas.{pieces_have_places}
use Rattle.lk_merge.proofs.Showing.{merged_addresses_show}
use Rattle.lk_expressions.specs.Records.{Record, nowhere, record_at}
use Rattle.lk_sizes.specs.Images.{image_addresses}
use Rattle.lk_sizes.specs.Owners.{ImageOwner, Filling}
use Rattle.lk_sizes.proofs.ImageLemmas.{its_section}
use Rattle.lk_layout.specs.LayoutRecord.{LayoutRecord}
use Rattle.lk_resolutions.specs.Starts.{starts_of}
use Rattle.lk_soundness.specs.Sound.{IsImageAt, part_record}
use Rattle.lk_soundness.proofs.Stands.{ImagesStand}
use Rattle.lk_resolutions.proofs.Imaging.{comes_from, has_part, inputs_at, len_at, stands_at}
use Rattle.lk_layout.proofs.LaidOut.{IsLaidOut, made_by}

-- ---- what an image shows

pub shows : (link : LinkInput) (s k offset : ℕ) (x : MergeInput) → IsWellFormed link → list_all is_terminated (merge_inputs link s) ≡ true → slice_get (merge_inputs link s) k ≡ Some x
    → offset < length x.bytes → Shows (merge_inputs link s) x offset (offset_place fnv64 (merge_inputs link s) x offset)
shows link s k offset x good terminated there short =
    let from = comes_from link s k x there in
    let section : InputSection = from.input.section in
    let place : MergePlace = record { number = from.number; section = section; offset = offset; named = true } in
    let output : output_of link section ≡ s = get_or_from_slice_get (part_sections link.plan.sections) section.part s 0 from.goes in
    let inputs : ℕ → List MergeInput = merge_inputs link in
    let at : slice_get (inputs (output_of link section)) k ≡ Some (merge_input from.number section)
    = ap (λ n. slice_get (inputs n) k) output ∙ there ∙ ap (λ (y : MergeInput). Some y) (sym from.is) in
    let inside : offset < length section.bytes = omega (arith, short, ap (λ (y : MergeInput). length y.bytes) from.is) in
    let n : ℕ = offset_place fnv64 (inputs (output_of link section)) (merge_input from.number section) offset in
    let zero_more : 0 + n ≡ n = omega arith in
    let address : address_in link (λ _. 0) place offset ≡ Some n
    = ap (λ b. cond b (Some (0 + n)) None) (lt-ltb offset (length section.bytes) inside) ∙ ap (λ (m : ℕ). Some m) zero_more in
    let found = merged_addresses_show link (λ _. 0) place k offset n at (ap (λ m. list_all is_terminated (inputs m)) output ∙ terminated) address in
    let same : found.0 ≡ n = omega (arith, found.1) in
    let here : Shows (inputs (output_of link section)) (merge_input from.number section) offset n = subst (Shows (inputs (output_of link section)) (merge_input from.number section) offset) same found.2 in
    let Shown : ℕ → MergeInput → Type 0 = λ t y. Shows (inputs t) y offset (offset_place fnv64 (inputs t) y offset) in
    subst (Shown s) from.is (subst (λ t. Shown t (merge_input from.number section)) output here)

-- ---- where it stands

image_at : (machine : Machine) (link : LinkInput) (layout : LayoutRecord) (laid : IsLaidOut machine link layout) (s : ℕ) (inputs : List MergeInput) → slice_get (link_inputs link).outputs s ≡ Some inputs
    → 0 < length inputs → IsImageAt (made_by laid) layout s inputs
image_at machine link layout laid s [] there some = absurd (omega (arith, some))
image_at machine link layout laid s (y ∷ ys) there some =
    let live : Live = laid.live in
    let filling : Filling = made_filling (made_by laid) in
    let inputs : List MergeInput = y ∷ ys in
    let records : List Record = laid.stage.records in
    let at = inputs_at link s inputs there in
    let has = has_part link s 0 y laid.good (ap (λ (xs : List MergeInput). slice_get xs 0) (sym at.1)) in
    let p : ℕ = has.part in
    let stands = stands_at filling (starts_of records) s p at.0 has.is in
    let image_is : image_start layout.merged_string_start_addresses s ≡ slice_index (image_addresses filling (starts_of records)) s
    = ap (λ (l : LayoutRecord). image_start l.merged_string_start_addresses s) laid.same ∙ starts_at (link_inputs link).outputs (image_addresses filling (starts_of records)) s inputs there in
    let record_is : slice_index (starts_of records) p ≡ (record_at records p).mem_offset = lists.get_or-map (λ (r : Record). r.mem_offset) records p nowhere in
    let told : (record_at records p).mem_offset ≡ (part_record layout p).mem_offset = ap (λ (l : LayoutRecord). (record_at l.section_part_layouts p).mem_offset) (sym laid.same) in
    let terminated : list_all is_terminated inputs ≡ true = all_terminated link.options.bucket_limit 0 (link_inputs link).outputs s inputs laid.merged there in
    record {
      part = p;
      there = omega (arith, stands.first.below, first_part-le link.plan.sections (s + 1));
      belongs = its_section link.plan.sections s p at.0 stands.first.from stands.first.below;
      alignment = has.alignment;
      owner = stands.first.owner ∙ ap (λ n. Some (ImageOwner s n)) (len_at link s inputs there);
      start = image_is ∙ stands.address ∙ record_is ∙ told;
      within = pieces_have_places.within fnv64 (all_pieces inputs);
      apart = pieces_have_places.apart fnv64 (all_pieces inputs);
      shown = λ k offset x at_k short.
          let Shown : List MergeInput → Type 0 = λ xs. Shows xs x offset (offset_place fnv64 xs x offset) in
          subst Shown (sym at.1) (shows link s k offset x laid.good (ap (list_all is_terminated) (sym at.1) ∙ terminated) (ap (λ (xs : List MergeInput). slice_get xs k) (sym at.1) ∙ at_k) short);
    }

pub images_stand : (machine : Machine) (link : LinkInput) (layout : LayoutRecord) (laid : IsLaidOut machine link layout) → ImagesStand (made_by laid) layout
images_stand machine link layout laid s inputs there some =
    image_at machine link layout laid s inputs (ap (λ (l : LayoutRecord). slice_get l.merged_strings s) (sym laid.same) ∙ there) some
