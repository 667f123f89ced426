-- Relocations and relaxation candidates, by their items.
use Rattle.std.proofs.Common.{◌≡◌, ℕ, zero, suc, ℤ, Bool, [], None, is_some, if◌then◌else◌, Result, Ok, Err, refl, ap, ◌∙◌}
use Rattle.std.specs.Bool.{⊤}
use Rattle.std.specs.Fmt.{decimal}
use Rattle.serde_json.specs.Data.{Data, null, boolean, number, string, array, object, Items, no_items, item}
use Rattle.serde_json.specs.Find.{get_item}
use Rattle.lk_link.specs.declared.relocation.RelaxCandidate.{RelaxCandidate}
use Rattle.lk_link.specs.declared.relocation.Relocation.{Relocation}
use Rattle.lk_link.specs.declared.relocation.RelocationKind.{RelocationKind}
use Rattle.lk_input.specs.Plain.{elements_with, first_item, fixed_of, no_elements, other_items}
use Rattle.lk_input.specs.ReadingRelocations.{kinds, relax_candidate_of, relocation_of}
use Rattle.lk_input.specs.ReadingSteps.{Path, ◌>>=◌, below, found_by, index_of, number_of, one_of, signed_of, truth_of}

-- ---- items by number

-- the items from one on
abbrev pub others : ℕ → Items → Items
others zero ds = ds
others (suc n) ds = others n (other_items ds)

-- an item of a list is the first from its number on
pub item_at : (n : ℕ) (ds : Items) → get_item n ds ≡ first_item (others n ds)
item_at zero no_items = refl
item_at zero (item d ds) = refl
item_at (suc n) no_items = none n
  where
    none : (n : ℕ) → None ≡ first_item (others n no_items)
    none zero = refl
    none (suc n) = none n
item_at (suc n) (item d ds) = item_at n ds

-- read by number, or from the front
pub element_same : {A : Type 0} (f : Data → Result A Path) (n : ℕ) (ds : Items)
    → below (decimal n) (found_by f (get_item n ds)) ≡ below (decimal n) (found_by f (first_item (others n ds)))
element_same f n ds = ap (λ o. below (decimal n) (found_by f o)) (item_at n ds)

-- ---- one item after the other

through : {A B C : Type 0} (x : A) (g : Result B Path) (make : A × B → Result C Path) → (g >>= λ xs. make (x, xs)) ≡ ((g >>= λ xs. Ok (x, xs)) >>= make)
through x (Ok xs) make = refl
through x (Err path) make = refl

pub element_then : {A B C : Type 0} (r s : Result A Path) (g : Result B Path) (next : A → Result C Path) (make : A × B → Result C Path) → r ≡ s
    → ((x : A) → next x ≡ (g >>= λ xs. make (x, xs))) → (r >>= next) ≡ ((s >>= λ x. g >>= λ xs. Ok (x, xs)) >>= make)
element_then {A} {B} {C} r s g next make same h = ap (λ t. t >>= next) same ∙ by s
  where
    by : (s : Result A Path) → (s >>= next) ≡ ((s >>= λ x. g >>= λ xs. Ok (x, xs)) >>= make)
    by (Ok x) = h x ∙ through x g make
    by (Err path) = refl

pub element_end : {C : Type 0} (n : ℕ) (ds : Items) (made : C)
    → ((if is_some (get_item n ds) then Err [] else Ok tt) >>= λ (_ : ⊤). Ok made) ≡ (no_elements (others n ds) >>= λ _. Ok made)
unfolding no_elements
element_end n ds made = ap (λ o. (if is_some o then Err [] else Ok tt) >>= λ (_ : ⊤). Ok made) (item_at n ds) ∙ by (others n ds)
  where
    by : (es : Items) → ((if is_some (first_item es) then Err [] else Ok tt) >>= λ (_ : ⊤). Ok made) ≡ (no_elements es >>= λ _. Ok made)
    by no_items = refl
    by (item e es) = refl

-- ---- the items of a relocation

abbrev pub RelocationItems : Type 0
RelocationItems = ℕ × (RelocationKind × (ℕ × (ℤ × (Bool × ⊤))))

abbrev pub relocation_elements : ℕ → Items → Result RelocationItems Path
relocation_elements =
    elements_with number_of (elements_with (one_of kinds) (elements_with index_of (elements_with signed_of (elements_with truth_of (λ _. no_elements)))))

abbrev pub relocation_from : RelocationItems → Result Relocation Path
relocation_from p = Ok (record { offset = p.0; addend = p.1.1.1.0; symbol = p.1.1.0; kind = p.1.0; thunkable = p.1.1.1.1.0 })

pub relocation_by : (d : Data) → relocation_of d ≡ (fixed_of relocation_elements d >>= relocation_from)
unfolding relocation_of elements_with
relocation_by null = refl
relocation_by (boolean b) = refl
relocation_by (number n) = refl
relocation_by (string s) = refl
relocation_by (object ms) = refl
relocation_by (array ds) =
    element_then _ _ _ _ relocation_from (element_same number_of 0 ds) (λ offset.
    element_then _ _ _ _ (λ p. relocation_from (offset, p)) (element_same (one_of kinds) 1 ds) (λ k.
    element_then _ _ _ _ (λ p. relocation_from (offset, (k, p))) (element_same index_of 2 ds) (λ symbol.
    element_then _ _ _ _ (λ p. relocation_from (offset, (k, (symbol, p)))) (element_same signed_of 3 ds) (λ addend.
    element_then _ _ _ _ (λ p. relocation_from (offset, (k, (symbol, (addend, p))))) (element_same truth_of 4 ds) (λ thunkable.
    element_end 5 ds (record { offset = offset; addend = addend; symbol = symbol; kind = k; thunkable = thunkable }))))))

-- ---- the items of a relaxation candidate

abbrev pub RelaxItems : Type 0
RelaxItems = ℕ × (ℕ × (ℕ × (ℕ × ⊤)))

abbrev pub relax_elements : ℕ → Items → Result RelaxItems Path
relax_elements = elements_with number_of (elements_with index_of (elements_with number_of (elements_with number_of (λ _. no_elements))))

abbrev pub relax_from : RelaxItems → Result RelaxCandidate Path
relax_from p = Ok (record { at = p.0; limit = p.1.1.0; del = p.1.1.1.0; symbol = p.1.0 })

pub relax_by : (d : Data) → relax_candidate_of d ≡ (fixed_of relax_elements d >>= relax_from)
unfolding relax_candidate_of elements_with
relax_by null = refl
relax_by (boolean b) = refl
relax_by (number n) = refl
relax_by (string s) = refl
relax_by (object ms) = refl
relax_by (array ds) =
    element_then _ _ _ _ relax_from (element_same number_of 0 ds) (λ at.
    element_then _ _ _ _ (λ p. relax_from (at, p)) (element_same index_of 1 ds) (λ symbol.
    element_then _ _ _ _ (λ p. relax_from (at, (symbol, p))) (element_same number_of 2 ds) (λ limit.
    element_then _ _ _ _ (λ p. relax_from (at, (symbol, (limit, p)))) (element_same number_of 3 ds) (λ del.
    element_end 4 ds (record { at = at; limit = limit; del = del; symbol = symbol })))))
