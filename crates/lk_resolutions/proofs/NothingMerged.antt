-- Where nothing is merged, no offset is chosen outside merged data.
use Rattle.std.proofs.Common.{◌≡◌, ℕ, Bool, true, false, if◌then◌else◌, List, [], ◌∷◌, ◌++◌, length, not, Option, Some, None, refl, ap, ◌∙◌, inl, inr, arith}
use Rattle.std.specs.Prelude.{◌&&◌, ◌==◌, ℤ}
use Rattle.std.specs.List.{enumerate_from, flat_map, list_any, slice_get}
use Rattle.std.proofs.lemmas.Bool.Decides.{eqb_tells}
use Rattle.std.proofs.lemmas.List.Folds.{list_any_at}
use Rattle.std.proofs.lemmas.Option.{get_or_from_slice_get, slice_get_within}
use Rattle.lk_link.specs.declared.file.FileKind.{FileKind}
use Rattle.lk_link.specs.declared.link.LinkInput.{LinkInput}
use Rattle.lk_link.specs.declared.relocation.Relocation.{Relocation}
use Rattle.lk_link.specs.declared.section.InputSection.{InputSection}
use Rattle.lk_link.specs.declared.symbol.InputSymbol.{InputSymbol}
use Rattle.lk_link.specs.InputSlots.{is_merge, is_regular}
use Rattle.lk_link.specs.Inputs.{NumberedFile, input_number, numbered_files}
use Rattle.lk_link.specs.Marks.{is_marked}
use Rattle.lk_link.specs.Relocations.{resolution_flags}
use Rattle.lk_link.specs.Symbols.{first_symbol}
use Rattle.lk_link.specs.WellFormed.{IsWellFormed}
use Rattle.lk_live.specs.declared.live.Live.{Live}
use Rattle.lk_reach.specs.Units.{local_definition}
use Rattle.lk_link.specs.Parts.{part_sections}
use Rattle.lk_merge.specs.LinkInputs.{link_inputs, merge_inputs}
use Rattle.lk_merge.specs.OffsetsOutside.{is_reference_outside, is_symbol_outside, refers_outside, stands_outside}
use Rattle.lk_merge.specs.OutputAddresses.{MergePlace, output_of, symbol_place}
use Rattle.lk_merge.specs.Pieces.{MergeInput}
use Rattle.lk_merge.proofs.SymbolPlaces.{is_input, output_at}
use Rattle.lk_tables.specs.SymbolEntries.{is_resolved}
use Rattle.lk_resolutions.specs.declared.outside.MergeOffsetPlace.TheVariants.{OfRelocation, OfSymbol}
use Rattle.lk_resolutions.specs.Outside.{merge_offsets, relocation_outside, relocations_outside, section_outside, symbol_outside, symbols_outside}
use Rattle.lk_merge.proofs.MergedReferences.{output_there, symbol_place_is}

-- where nothing comes of any, nothing comes of all
nothing : {X Y : Type 0} (f : X → List Y) (xs : List X) → ((x : X) → f x ≡ []) → flat_map f xs ≡ []
nothing f [] h = λ i. []
nothing f (x ∷ xs) h = ap (λ ys. ys ++ flat_map f xs) (h x) ∙ nothing f xs h

abbrev any_merged : List MergeInput → Bool
any_merged xs = not (length xs == 0)

some_input : (xs : List MergeInput) (k : ℕ) (x : MergeInput) → slice_get xs k ≡ Some x → any_merged xs ≡ true
some_input [] k x there = absurd (cc)
some_input (y ∷ ys) k x there = elim (eqb_tells (length (y ∷ ys)) 0) [
  | inl hit ↦ absurd (omega (arith, hit.1))
  | inr miss ↦ ap not miss.0
]

module _ (link : LinkInput) (good : IsWellFormed link) (none : list_any (λ xs. not (length xs == 0)) (link_inputs link).outputs ≡ false) where
  -- then no symbol names a place in a merged section
  elsewhere : (s : ℕ) (o : Option MergePlace) → symbol_place link.groups s ≡ o → o ≡ None
  elsewhere s None is = refl
  elsewhere s (Some place) is =
      let there = symbol_place_is link s place is in
      let output = output_there link place good there in
      let t : ℕ = output_of link place.section in
      let goes : slice_get (part_sections link.plan.sections) there.input.section.part ≡ Some t
      = ap (λ (x : InputSection). slice_get (part_sections link.plan.sections) x.part) there.section ∙ output.0 in
      let merged : is_merge there.input.section.slot ≡ true = ap (λ (x : InputSection). is_merge x.slot) there.section ∙ there.merged in
      let input = is_input link place.number t there.input there.there merged goes in
      let at_t = output_at link t output.1 in
      let all : List (List MergeInput) = (link_inputs link).outputs in
      let yes : list_any (λ (xs : List MergeInput). not (length xs == 0)) all ≡ true
      = list_any_at (λ (xs : List MergeInput). not (length xs == 0)) all t (merge_inputs link t) (slice_get_within all t (merge_inputs link t) at_t)
      (ap any_merged (get_or_from_slice_get all t (merge_inputs link t) (merge_inputs link t) at_t) ∙ some_input (merge_inputs link t) input.0 _ input.1) in
      absurd (cc)

  no_place : (s : ℕ) → symbol_place link.groups s ≡ None
  no_place s = elsewhere s (symbol_place link.groups s) refl

  stands_nowhere : (s : ℕ) → stands_outside link s ≡ false
  stands_nowhere s = ap is_symbol_outside (no_place s)

  refers_nowhere : (s : ℕ) (addend : ℤ) → refers_outside link s addend ≡ false
  refers_nowhere s addend = ap (is_reference_outside addend) (no_place s)

  -- what also asks for it isn't so
  not_both : {X : Type 0} (a b : Bool) (xs : List X) → b ≡ false → (if a && b then xs else []) ≡ []
  not_both true b xs h = ap (λ c. if c then xs else []) h
  not_both false b xs h = refl

  symbol_none : (live : Live) (k : FileKind) (q : ℕ × InputSymbol) → symbol_outside link live k q ≡ []
  symbol_none live k q = not_both (is_resolved live k q) (stands_outside link q.0) (OfSymbol q.0 ∷ []) (stands_nowhere q.0)

  relocation_none : (f : NumberedFile) (section : ℕ) (q : ℕ × Relocation) → relocation_outside link f section q ≡ []
  relocation_none f section q =
      let symbol : ℕ = local_definition (first_symbol link.groups f.id) f.file.symbols q.1.symbol in
      not_both (not (resolution_flags q.1.kind == 0)) (refers_outside link symbol q.1.addend) (OfRelocation f.id section q.0 ∷ []) (refers_nowhere symbol q.1.addend)

  section_none : (live : Live) (f : NumberedFile) (q : ℕ × InputSection) → section_outside link live f q ≡ []
  section_none live f q =
      elim (is_marked live.marks (input_number link.groups f.id q.0) && is_regular q.1.slot) as (λ b. (if b then flat_map (relocation_outside link f q.0) (enumerate_from 0 q.1.relocs) else []) ≡ []) [
        | true ↦ nothing (relocation_outside link f q.0) (enumerate_from 0 q.1.relocs) (relocation_none f q.0)
        | false ↦ refl
      ]

  pub no_offsets : (live : Live) → merge_offsets link live ≡ []
  no_offsets live =
      ap (λ ys. ys ++ flat_map (relocations_outside link live) (numbered_files link.groups))
      (nothing (symbols_outside link live) (numbered_files link.groups) (λ f. nothing (symbol_outside link live f.file.kind) (enumerate_from (first_symbol link.groups f.id) f.file.symbols) (symbol_none live f.file.kind)))
      ∙ nothing (relocations_outside link live) (numbered_files link.groups) (λ f. nothing (section_outside link live f) (enumerate_from 0 f.file.sections) (section_none live f))
