-- Where an offset of an input stands in the buckets.
use Rattle.std.proofs.Common.{◌≡◌, ℕ, ◌+◌, ◌*◌, ◌%◌, ◌/◌, ◌^◌, ◌<◌, List, length, map, take, get_or, Option, Some, true, option_and_then, option_map, sym, ap, ◌∙◌, subst, arith, inl, inr, ⊎_elim}
use Rattle.std.specs.List.{concat, slice_get}
use Rattle.std.specs.Option.{MatchOption, option_map_or}
use Rattle.std.proofs.lemmas.Bool.{cases_lt}
use Rattle.std.proofs.lemmas.Option.{get_or_from_slice_get}
use Rattle.lk_link.specs.declared.link.LinkInput.{LinkInput}
use Rattle.lk_link.specs.declared.section.InputSection.{InputSection}
use Rattle.lk_link.specs.InputSlots.{is_merge}
use Rattle.lk_link.specs.Parts.{all_parts, part_sections}
use Rattle.lk_link.specs.WellFormed.{IsWellFormed}
use Rattle.lk_link.proofs.Elements.{map_at}
use Rattle.lk_merge.specs.declared.inputs.StringMergeInputSection.{StringMergeInputSection}
use Rattle.lk_merge.specs.declared.offset_map.OffsetMap.{OffsetMap}
use Rattle.lk_merge.specs.Addresses.{AreStartsOf, image_start}
use Rattle.lk_merge.specs.Buckets.{Bucket}
use Rattle.lk_merge.specs.Hash.{fnv64}
use Rattle.lk_merge.specs.Image.{all_pieces, bucket_list, image_place, is_among, place_in}
use Rattle.lk_merge.specs.Inputs.{AreInputs, input_of, input_start, padded_total}
use Rattle.lk_merge.specs.LinkInputs.{link_inputs, merge_input, merge_inputs}
use Rattle.lk_merge.specs.MergedTables.{IsMerged}
use Rattle.lk_merge.specs.Merging.{found_place, last_from, place_at, place_of}
use Rattle.lk_merge.specs.OutputAddresses.{MergePlace, offset_place}
use Rattle.lk_merge.specs.OutputAddressTables.{IsMergePlace}
use Rattle.lk_merge.specs.Pieces.{Piece, MergeInput, pieces_of}
use Rattle.lk_merge.specs.Places.{IsPlaceAt, bucket_start}
use Rattle.lk_merge.proofs.AmongLemmas.{place_within}
use Rattle.lk_merge.proofs.Finding.{last_found, starts_behind}
use Rattle.lk_merge.proofs.GoodPieces.{concat_pieces, piece_at_some, terminated_at}
use Rattle.lk_merge.proofs.Growing.{among_bucket_list}
use Rattle.lk_merge.proofs.LaidOut.{data_fits}
use Rattle.lk_merge.proofs.LocatedLemmas.{slice_within}
use Rattle.lk_merge.proofs.MergeBytes.{merge_part}
use Rattle.lk_merge.proofs.PlaceLemmas.{among_all, buckets_start, holds_at, pieces_have_places}
use Rattle.lk_merge.proofs.SymbolPlaces.{is_input, output_at, output_within, outputs_count, some_one}

-- ---- the input

-- two of some inputs with one number are one
pub one_number : (total : ℕ) (ss : List StringMergeInputSection) → AreInputs total ss → (j k : ℕ) (x y : MergeInput)
    → slice_get (map input_of ss) j ≡ Some x → slice_get (map input_of ss) k ≡ Some y → x.number ≡ y.number → j ≡ k
one_number total ss h j k x y x_at y_at same =
    let from = map_at input_of ss j x x_at in
    let to = map_at input_of ss k y y_at in
    let left : from.0.number ≡ x.number = ap (λ (z : MergeInput). z.number) from.2 in
    let right : to.0.number ≡ y.number = ap (λ (z : MergeInput). z.number) to.2 in
    ⊎_elim
    (λ before. absurd (let rise = h.rise j k from.0 to.0 before from.1 to.1 in omega (arith, rise, left, right, same)))
    (λ behind. ⊎_elim
    (λ after. absurd (let rise = h.rise k j to.0 from.0 after to.1 from.1 in omega (arith, rise, left, right, same)))
    (λ back. omega (arith, behind, back)) (cases_lt k j)) (cases_lt j k)

-- an input that has bytes is the last one at its start
last_is : (xs : List MergeInput) (k : ℕ) (x : MergeInput) → slice_get xs k ≡ Some x → 0 < length x.bytes → last_from 0 xs (padded_total (take k xs)) ≡ Some x
last_is xs k x there some = elim (last_found 0 xs (padded_total (take k xs))) [
  | inl n ↦ absurd (n.apart k x there (omega arith))
  | inr o ↦
      let fit = data_fits x in
      let starts = o.starts in
      o.found ∙ ap (λ (z : MergeInput). Some z) (⊎_elim
      (λ before. absurd (o.apart k x before there (omega arith)))
      (λ behind. ⊎_elim
      (λ after.
      let far = starts_behind xs k o.index x after (let within = slice_within xs o.index o.input o.there in omega (arith, within)) there in
      absurd (omega (arith, far, fit, some, starts)))
      (λ back.
      let same : o.index ≡ k = omega (arith, behind, back) in
      some_one o.input x (sym o.there ∙ ap (slice_get xs) same ∙ there)) (cases_lt k o.index)) (cases_lt o.index k))
]

-- ---- the place

module _ (xs : List MergeInput) (buckets : List Bucket) (entries : OffsetMap) (m : IsMerged xs buckets entries) where
  pub is_place : (k : ℕ) (x : MergeInput) (offset : ℕ) → slice_get xs k ≡ Some x → offset < length x.bytes
      → (n : ℕ) × (place_at fnv64 xs x offset ≡ Some n) × IsPlaceAt xs x offset n
  is_place k x offset there short =
      let terminated = terminated_at xs k x m.terminated there in
      let all : length (concat (pieces_of x)) ≡ length x.bytes = ap length (concat_pieces x terminated) in
      let found = piece_at_some (pieces_of x) offset (omega (arith, all, short)) in
      let p : Piece = found.0 in
      let d : ℕ = found.1 in
      let holds = holds_at (pieces_of x) offset p d found.2 in
      let b : ℕ = fnv64 p % 16 in
      let among : is_among (all_pieces xs) p ≡ true = among_all xs k x p there holds.among in
      let kept : List Piece = bucket_list fnv64 (all_pieces xs) b in
      let within = place_within kept p (among_bucket_list fnv64 (all_pieces xs) p ∙ among) in
      let below : b < 16 = omega arith in
      let small = m.small b below in
      let fits : place_in kept p + d < 2 ^ 28 = omega (arith, within, small, holds.inside) in (
        place_of fnv64 (all_pieces xs) p + d,
        ap (option_map (λ (q : Piece × ℕ). place_of fnv64 (all_pieces xs) q.0 + q.1)) found.2,
        record {
          piece = p;
          distance = d;
          at = found.2;
          inside = holds.inside;
          among = among;
          bucket = quotient b (place_in kept p) d fits;
          behind = rest b (place_in kept p) d fits;
        },
      )
    where
      quotient : (b o d : ℕ) → o + d < 2 ^ 28 → (b * 2 ^ 28 + o + d) / 2 ^ 28 ≡ b
      quotient b o d h = omega arith

      rest : (b o d : ℕ) → o + d < 2 ^ 28 → (b * 2 ^ 28 + o + d) % 2 ^ 28 ≡ o + d
      rest b o d h = omega arith

  pub found_in : (k : ℕ) (x : MergeInput) (start offset : ℕ) (result : Option ℕ) → slice_get xs k ≡ Some x → offset < length x.bytes → start ≡ padded_total (take k xs)
      → result ≡ found_place fnv64 xs start offset → MatchOption result ⊥ (IsPlaceAt xs x offset)
  found_in k x start offset result there short begins is =
      let place = is_place k x offset there short in
      let last : last_from 0 xs start ≡ Some x = ap (last_from 0 xs) begins ∙ last_is xs k x there (omega (arith, short)) in
      let found : result ≡ Some place.0 = is ∙ ap (λ o. option_and_then (λ (y : MergeInput). place_at fnv64 xs y offset) o) last ∙ place.1 in
      subst (λ o. MatchOption o ⊥ (IsPlaceAt xs x offset)) (sym found) place.2

-- what is found for an input that has the offset can be taken apart
pub apart : (xs ys : List MergeInput) (buckets : List Bucket) (entries : OffsetMap) → IsMerged xs buckets entries → xs ≡ ys → (start offset : ℕ) (result : Option ℕ)
    → result ≡ found_place fnv64 ys start offset → (k : ℕ) (x : MergeInput) → slice_get ys k ≡ Some x → input_start ys k ≡ start → offset < length x.bytes
    → MatchOption result ⊥ (IsPlaceAt ys x offset)
apart xs ys buckets entries m same start offset result is k x there begins short =
    found_in ys buckets entries (subst (λ (zs : List MergeInput). IsMerged zs buckets entries) same m) k x start offset result there short (sym begins) is

-- ---- the address

pub address_is : (merged : List (List MergeInput)) (starts : List ℕ) (s : ℕ) (xs : List MergeInput) (x : MergeInput) (offset place b o base : ℕ) → AreStartsOf merged starts
    → slice_get merged s ≡ Some xs → IsPlaceAt xs x offset place → b ≡ place / 2 ^ 28 → o ≡ place % 2 ^ 28 → base ≡ get_or starts (16 * s + b) 0
    → (base + o ≡ image_start starts s + offset_place fnv64 xs x offset) × (base + o < 2 ^ 64)
address_is merged starts s xs x offset place b o base are there h bucket behind is =
    let c : ℕ = fnv64 h.piece % 16 in
    let pieces : List Piece = all_pieces xs in
    let same : b ≡ c = bucket ∙ h.bucket in
    let each = are.each s c xs there (omega arith) in
    let at : base ≡ image_start starts s + bucket_start fnv64 pieces c = is ∙ ap (λ k. get_or starts (16 * s + k) 0) same ∙ each in
    let far : o ≡ place_in (bucket_list fnv64 pieces c) h.piece + h.distance = behind ∙ h.behind in
    let split = buckets_start fnv64 pieces h.piece h.among in
    let map_is : offset_place fnv64 xs x offset ≡ image_place fnv64 pieces h.piece + h.distance
    = ap (λ (q : Option (Piece × ℕ)). option_map_or (λ r. image_place fnv64 pieces r.0 + r.1) q 0) h.at in
    let within = pieces_have_places.within fnv64 pieces h.piece h.among in
    let end = are.ends s xs there in
    let inside = h.inside in (
      omega (arith, at, far, split, map_is),
      omega (arith, at, far, split, within, end, inside),
    )

-- ---- in a link

-- what is merged of a link, for a place there
pub record IsInside (link : LinkInput) (merged : List (List MergeInput)) (place : MergePlace) (output : ℕ) (inputs : List MergeInput) : Type 0 where
  pub within : output < length merged
  pub there : slice_get merged output ≡ Some inputs
  pub inputs_are : inputs ≡ merge_inputs link output
  pub index : ℕ
  pub at : slice_get inputs index ≡ Some (merge_input place.number place.section)

pub part_within : (link : LinkInput) (place : MergePlace) → IsWellFormed link → IsMergePlace link place → place.section.part < length (all_parts link.plan.sections)
part_within link place wf p =
    let below = merge_part link place.number p.input wf p.there (ap (λ (s : InputSection). is_merge s.slot) p.section ∙ p.merged) in
    let same : p.input.section.part ≡ place.section.part = ap (λ (s : InputSection). s.part) p.section in
    omega (arith, below, same)

pub goes_within : (link : LinkInput) (place : MergePlace) (output : ℕ) → IsWellFormed link → IsMergePlace link place
    → slice_get (part_sections link.plan.sections) place.section.part ≡ Some output → output < length link.plan.sections
goes_within link place output wf p goes = output_within link place.section.part output (part_within link place wf p) goes

pub is_inside : (link : LinkInput) (merged : List (List MergeInput)) (place : MergePlace) (output : ℕ) (inputs : List MergeInput) → IsWellFormed link
    → merged ≡ (link_inputs link).outputs → IsMergePlace link place → slice_get (part_sections link.plan.sections) place.section.part ≡ Some output
    → inputs ≡ get_or merged output inputs → IsInside link merged place output inputs
is_inside link merged place output inputs wf are p goes is =
    let below = goes_within link place output wf p goes in
    let count : length merged ≡ length (link_inputs link).outputs = ap (λ (xs : List (List MergeInput)). length xs) are in
    let at : slice_get merged output ≡ Some (merge_inputs link output) = ap (λ (xs : List (List MergeInput)). slice_get xs output) are ∙ output_at link output below in
    let same : inputs ≡ merge_inputs link output = is ∙ get_or_from_slice_get merged output (merge_inputs link output) inputs at in
    let goes_there : slice_get (part_sections link.plan.sections) p.input.section.part ≡ Some output
    = ap (λ (s : InputSection). slice_get (part_sections link.plan.sections) s.part) p.section ∙ goes in
    let member = is_input link place.number output p.input p.there (ap (λ (s : InputSection). is_merge s.slot) p.section ∙ p.merged) goes_there in
    record {
      within = omega (arith, below, count, outputs_count link);
      there = at ∙ ap (λ (xs : List MergeInput). Some xs) (sym same);
      inputs_are = same;
      index = member.0;
      at = ap (λ (xs : List MergeInput). slice_get xs member.0) same ∙ member.1 ∙ ap (λ (s : InputSection). Some (merge_input place.number s)) p.section;
    }
