-- Placements of symbols, by their items.
use Rattle.std.proofs.Common.{◌≡◌, ℕ, [], ◌∷◌, ◌++◌, Result, Ok, Err, refl, sym, ap, ◌∙◌}
use Rattle.std.specs.Bool.{⊤}
use Rattle.std.specs.Fmt.{decimal}
use Rattle.serde_json.specs.Data.{Data, null, boolean, number, string, array, object, Items, no_items, item}
use Rattle.lk_link.specs.declared.symbol.SymbolPlacement.{SymbolPlacement}
use Rattle.lk_link.specs.declared.symbol.SymbolPlacement.TheVariants as placed
use Rattle.lk_input.specs.declared.read.symbol.PlacementForm.{PlacementForm}
use Rattle.lk_input.specs.declared.read.symbol.PlacementForm.TheVariants as form
use Rattle.lk_input.specs.Plain.{elements_with, fixed_of, led_by, no_elements, placed_behind, placement_elements}
use Rattle.lk_input.specs.ReadingSteps.{Path, ◌>>=◌, alone, double, index_of, number_of, single}
use Rattle.lk_input.specs.ReadingSymbols.{placement_in, redirect_of, symbol_placement_of}
use Rattle.lk_input.proofs.Known.{bind_same}
use Rattle.lk_input.proofs.Relocations.{element_end, element_same, element_then}

-- ---- the word

pub led-missing : {A B : Type 0} (f : Data → Result A Path) (g : A → Items → Result B Path) (i : ℕ) → led_by f g i no_items ≡ Err (47 ∷ decimal i ++ [])
unfolding led_by
led-missing f g i = refl

pub led-read : {A B : Type 0} (f : Data → Result A Path) (g : A → Items → Result B Path) (i : ℕ) (x : A) (d : Data) → f d ≡ Ok x → (ds : Items) → led_by f g i (item d ds) ≡ g x ds
unfolding led_by
led-read f g i x d e ds = rw e refl

pub led-fault : {A B : Type 0} (f : Data → Result A Path) (g : A → Items → Result B Path) (i : ℕ) (path : Path) (d : Data) → f d ≡ Err path → (ds : Items)
    → led_by f g i (item d ds) ≡ Err (47 ∷ decimal i ++ path)
unfolding led_by
led-fault f g i path d e ds = rw e refl

-- ---- what stands behind it isn't told by what it is

not_again : (f : PlacementForm) (d : Data) (ds : Items) → placement_in f (array (item d ds)) ≡ placed_behind f ds
unfolding placement_in redirect_of double single alone
not_again form.Section d ds = refl
not_again form.Common d ds = refl
not_again form.Absolute d ds = refl
not_again form.Undef d ds = refl
not_again form.Dynamic d ds = refl
not_again form.Undefined d ds = refl
not_again form.ForceUndefined d ds = refl
not_again form.SectionStart d ds = refl
not_again form.SectionEnd d ds = refl
not_again form.SectionGroupEnd d ds = refl
not_again form.TlsEnd d ds = refl
not_again form.LoadBaseAddress d ds = refl
not_again form.Redirect d ds = refl

pub placement_by : (d : Data) → fixed_of placement_elements d ≡ symbol_placement_of d
unfolding symbol_placement_of led_by
placement_by null = refl
placement_by (boolean b) = refl
placement_by (number n) = refl
placement_by (string s) = refl
placement_by (object ms) = refl
placement_by (array no_items) = refl
placement_by (array (item d ds)) = bind_same _ _ _ _ refl (λ f. sym (not_again f d ds))

-- ---- the items behind it

then_then : {A B C : Type 0} (r : Result A Path) (h : A → B) (k : B → Result C Path) → ((r >>= λ a. Ok (h a)) >>= k) ≡ (r >>= λ a. k (h a))
then_then (Ok a) h k = refl
then_then (Err path) h k = refl

abbrev pub section_from : ℕ × (ℕ × ⊤) → Result SymbolPlacement Path
section_from p = Ok (placed.Section p.0 p.1.0)

abbrev pub section_elements : ℕ → Items → Result (ℕ × (ℕ × ⊤)) Path
section_elements = elements_with index_of (elements_with number_of (λ _. no_elements))

pub section_by : (ds : Items) → placed_behind form.Section ds ≡ (section_elements 1 ds >>= section_from)
unfolding placement_in double elements_with
section_by ds =
    let es = item null ds in
    ap (λ r. r >>= λ (i, offset). Ok (placed.Section i offset))
    (element_then _ _ _ _ (λ p. Ok (p.0, p.1.0)) (element_same index_of 1 es) (λ i.
    element_then _ _ _ _ (λ p. Ok (i, p.0)) (element_same number_of 2 es) (λ offset. element_end 3 es (i, offset))))
    ∙ then_then (section_elements 1 ds) (λ p. (p.0, p.1.0)) (λ (i, offset). Ok (placed.Section i offset))

abbrev pub absolute_from : ℕ × ⊤ → Result SymbolPlacement Path
absolute_from p = Ok (placed.Absolute p.0)

abbrev pub absolute_elements : ℕ → Items → Result (ℕ × ⊤) Path
absolute_elements = elements_with number_of (λ _. no_elements)

pub absolute_by : (ds : Items) → placed_behind form.Absolute ds ≡ (absolute_elements 1 ds >>= absolute_from)
unfolding placement_in single elements_with
absolute_by ds =
    let es = item null ds in
    ap (λ r. r >>= λ n. Ok (placed.Absolute n)) (element_then _ _ _ _ (λ p. Ok p.0) (element_same number_of 1 es) (λ n. element_end 2 es n))
    ∙ then_then (absolute_elements 1 ds) (λ p. p.0) (λ n. Ok (placed.Absolute n))

abbrev pub undef_from : ⊤ → Result SymbolPlacement Path
undef_from _ = Ok placed.Undef

pub undef_by : (ds : Items) → placed_behind form.Undef ds ≡ (no_elements ds >>= undef_from)
unfolding placement_in alone
undef_by ds = element_end 1 (item null ds) placed.Undef
