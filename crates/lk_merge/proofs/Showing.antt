-- What stands at the addresses of merged sections.
use Rattle.std.proofs.Common.{◌≡◌, ℕ, ◌+◌, ◌-◌, ◌<◌, Bool, true, false, cond, List, Option, None, Some, length, take, drop, ltb, refl, sym, ap, ◌∙◌, arith}
use Rattle.std.specs.List.{list_all, slice_get}
use Rattle.std.specs.Option.{option_map_or}
use Rattle.std.proofs.lemmas.Bool.{ltb-true}
use Rattle.lk_merge.specs.Hash.{fnv64}
use Rattle.lk_merge.specs.Image.{all_pieces, image, image_place}
use Rattle.lk_merge.specs.LinkInputs.{merge_input, merge_inputs}
use Rattle.lk_merge.specs.OutputAddresses.{MergedAddressesShow, Shows, address_in, offset_place, output_of}
use Rattle.lk_merge.specs.Pieces.{Piece, MergeInput, is_terminated, pieces_of}
use Rattle.lk_merge.proofs.GoodPieces.{terminated_at}
use Rattle.lk_merge.proofs.PlaceLemmas.{among_all, holds_at, offsets_have_places, pieces_have_places}
use Rattle.lk_merge.proofs.SymbolPlaces.{some_one}

shows : (xs : List MergeInput) (k : ℕ) (x : MergeInput) (offset : ℕ) → slice_get xs k ≡ Some x → list_all is_terminated xs ≡ true → offset < length x.bytes
    → Shows xs x offset (offset_place fnv64 xs x offset)
shows xs k x offset there terminated short =
    let good = terminated_at xs k x terminated there in
    let found = offsets_have_places.inside x offset good short in
    let p : Piece = found.0 in
    let d : ℕ = found.1 in
    let holds = holds_at (pieces_of x) offset p d found.2 in
    let place : offset_place fnv64 xs x offset ≡ image_place fnv64 (all_pieces xs) p + d
    = ap (λ (q : Option (Piece × ℕ)). option_map_or (λ r. image_place fnv64 (all_pieces xs) r.0 + r.1) q 0) found.2 in
    let within = pieces_have_places.within fnv64 (all_pieces xs) p (among_all xs k x p there holds.among) in
    let inside = holds.inside in
    record {
      piece = p;
      distance = d;
      covers = found.2;
      inside = inside;
      within = omega (arith, place, within, inside);
      bytes = ap (λ n. take (length p - d) (drop n (image fnv64 (all_pieces xs)))) place ∙ offsets_have_places.shown fnv64 xs k x offset p d there good found.2;
    }

pub merged_addresses_show : MergedAddressesShow
merged_addresses_show link starts place k offset address there terminated is = by (ltb offset (length place.section.bytes)) refl
  where
    xs : List MergeInput
    xs = merge_inputs link (output_of link place.section)

    x : MergeInput
    x = merge_input place.number place.section

    step : (t : Bool) → ltb offset (length place.section.bytes) ≡ t → address_in link starts place offset
        ≡ cond t (Some (starts (output_of link place.section) + offset_place fnv64 xs x offset)) None
    step t e = ap (λ b. cond b (Some (starts (output_of link place.section) + offset_place fnv64 xs x offset)) None) e

    by : (t : Bool) → ltb offset (length place.section.bytes) ≡ t → (n : ℕ) × (address ≡ starts (output_of link place.section) + n) × Shows xs x offset n
    by true e = (
      offset_place fnv64 xs x offset,
      some_one _ _ (sym is ∙ step true e),
      shows xs k x offset there terminated (ltb-true offset (length place.section.bytes) e),
    )
    by false e = absurd (let none : None ≡ Some address = sym (step false e) ∙ is in cc)
