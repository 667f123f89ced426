-- Offsets that are chosen outside the data of merged sections: at its end, or past it.
use Rattle.std.specs.Prelude.{◌≡◌, ℕ, ℤ, ◌&&◌, not, Bool, true, false, Option, Err, length, nat_lt, pos}
use Rattle.std.specs.Option.{option_map_or}
use Rattle.lk_link.specs.declared.link.LinkInput.{LinkInput}
use Rattle.lk_merge.specs.OutputAddresses.{MergePlace, chosen_offset, merged_address, past_end, symbol_place}

-- whether a reference to a place in a merged section, with an addend, chooses an offset that isn't inside the section's data
abbrev pub chooses_outside : ℤ → MergePlace → Bool
chooses_outside addend place = not (nat_lt (chosen_offset place addend) (length place.section.bytes))

-- whether one to a symbol does, if it names such a place
abbrev pub is_reference_outside : ℤ → Option MergePlace → Bool
is_reference_outside addend place = option_map_or (chooses_outside addend) place false

-- whether a symbol itself is placed so, if it names such a place: a named one; an unnamed one's value is 0
abbrev pub is_symbol_outside : Option MergePlace → Bool
is_symbol_outside place = option_map_or (λ p. p.named && chooses_outside (pos 0) p) place false

-- whether a reference to the symbol with this number, with an addend, chooses an offset outside the data of a merged section
abbrev pub refers_outside : LinkInput → ℕ → ℤ → Bool
refers_outside link s addend = is_reference_outside addend (symbol_place link.groups s)

-- whether the symbol with this number has a name, and is placed outside the data of a merged section
abbrev pub stands_outside : LinkInput → ℕ → Bool
stands_outside link s = is_symbol_outside (symbol_place link.groups s)

-- ---- a law

-- exactly what refers outside has no address, and exactly what stands outside no value
pub record OutsideIsRefused : Type 0 where
  pub refers : (link : LinkInput) (starts : ℕ → ℕ) (s : ℕ) (addend : ℤ) → refers_outside link s addend ≡ true → merged_address link starts s addend false ≡ Err past_end
  pub refused : (link : LinkInput) (starts : ℕ → ℕ) (s : ℕ) (addend : ℤ) → merged_address link starts s addend false ≡ Err past_end → refers_outside link s addend ≡ true
  pub stands : (link : LinkInput) (starts : ℕ → ℕ) (s : ℕ) → stands_outside link s ≡ true → merged_address link starts s (pos 0) true ≡ Err past_end
  pub valueless : (link : LinkInput) (starts : ℕ → ℕ) (s : ℕ) → merged_address link starts s (pos 0) true ≡ Err past_end → stands_outside link s ≡ true
