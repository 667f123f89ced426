-- What refers outside has no address, and what stands outside no value.
use Rattle.std.proofs.Common.{◌≡◌, ℕ, Bool, true, false, cond, ltb, length, Option, Some, None, Result, Ok, Err, refl}
use Rattle.std.specs.Prelude.{ℤ, ◌&&◌, not, pos}
use Rattle.std.specs.Option.{option_map_or}
use Rattle.lk_link.specs.declared.link.LinkInput.{LinkInput}
use Rattle.lk_merge.specs.declared.output_address.OffsetPastEnd.{OffsetPastEnd}
use Rattle.lk_merge.specs.OffsetsOutside.{OutsideIsRefused, is_reference_outside, is_symbol_outside}
use Rattle.lk_merge.specs.OutputAddresses.{MergePlace, chosen_offset, past_end, plus_addend, reference_address, symbol_place}

-- the address at n of a reference, by whether it chooses an offset inside
abbrev answered : ℕ → ℤ → Bool → Bool → Result (Option ℕ) OffsetPastEnd
answered n addend named inside =
    cond named (option_map_or (λ a. Ok (Some (plus_addend a addend))) (cond inside (Some n) None) (Err past_end))
    (option_map_or (λ a. Ok (Some a)) (cond inside (Some n) None) (Err past_end))

refused_by : (n : ℕ) (addend : ℤ) (named inside : Bool) → not inside ≡ true → answered n addend named inside ≡ Err past_end
refused_by n addend named true h = absurd (cc)
refused_by n addend true false h = refl
refused_by n addend false false h = refl

outside_by : (n : ℕ) (addend : ℤ) (named inside : Bool) → answered n addend named inside ≡ Err past_end → not inside ≡ true
outside_by n addend named false h = refl
outside_by n addend true true h = absurd (cc)
outside_by n addend false true h = absurd (cc)

-- the value at n of a symbol
abbrev valued : ℕ → Bool → Bool → Result (Option ℕ) OffsetPastEnd
valued n named inside = cond named (option_map_or (λ a. Ok (Some (plus_addend a (pos 0)))) (cond inside (Some n) None) (Err past_end)) (Ok (Some 0))

valueless_by : (n : ℕ) (named inside : Bool) → (named && not inside) ≡ true → valued n named inside ≡ Err past_end
valueless_by n true true h = absurd (cc)
valueless_by n true false h = refl
valueless_by n false inside h = absurd (cc)

stands_by : (n : ℕ) (named inside : Bool) → valued n named inside ≡ Err past_end → (named && not inside) ≡ true
stands_by n true true h = absurd (cc)
stands_by n true false h = refl
stands_by n false inside h = absurd (cc)

module _ (link : LinkInput) (starts : ℕ → ℕ) where
  abbrev is_inside : MergePlace → ℤ → Bool
  is_inside place addend = ltb (chosen_offset place addend) (length place.section.bytes)

  refers : (addend : ℤ) (o : Option MergePlace) → is_reference_outside addend o ≡ true → option_map_or (reference_address link starts addend false) o (Ok None) ≡ Err past_end
  refers addend None h = absurd (cc)
  refers addend (Some place) h = refused_by _ addend place.named (is_inside place addend) h

  refused : (addend : ℤ) (o : Option MergePlace) → option_map_or (reference_address link starts addend false) o (Ok None) ≡ Err past_end → is_reference_outside addend o ≡ true
  refused addend None h = absurd (cc)
  refused addend (Some place) h = outside_by _ addend place.named (is_inside place addend) h

  stands : (o : Option MergePlace) → is_symbol_outside o ≡ true → option_map_or (reference_address link starts (pos 0) true) o (Ok None) ≡ Err past_end
  stands None h = absurd (cc)
  stands (Some place) h = valueless_by _ place.named (is_inside place (pos 0)) h

  valueless : (o : Option MergePlace) → option_map_or (reference_address link starts (pos 0) true) o (Ok None) ≡ Err past_end → is_symbol_outside o ≡ true
  valueless None h = absurd (cc)
  valueless (Some place) h = stands_by _ place.named (is_inside place (pos 0)) h

pub outside_is_refused : OutsideIsRefused
outside_is_refused = record {
  refers = λ link starts s addend. refers link starts addend (symbol_place link.groups s);
  refused = λ link starts s addend. refused link starts addend (symbol_place link.groups s);
  stands = λ link starts s. stands link starts (symbol_place link.groups s);
  valueless = λ link starts s. valueless link starts (symbol_place link.groups s);
}
