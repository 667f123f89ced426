-- Symbols by their numbers, each with its file, and the places that they name in merged sections.
use Rattle.std.proofs.Common.{◌≡◌, ℕ, ◌+◌, ◌-◌, ◌<◌, Bool, true, List, [], length, filter, Option, Some, None, option_and_then, option_map, refl, sym, ap, ◌∙◌, subst, arith}
use Rattle.std.specs.List.{enumerate_from, slice_get}
use Rattle.std.proofs.lemmas.Bool.{eq-eqb}
use Rattle.std.proofs.lemmas.List.FromFn.{get_or-map-range_with_len, length-map-range_with_len}
use Rattle.std.proofs.lemmas.Option.{slice_get-get_or}
use Rattle.lk_link.specs.declared.file.InputFile.{InputFile}
use Rattle.lk_link.specs.declared.ids.FileId.{FileId}
use Rattle.lk_link.specs.declared.link.LinkInput.{LinkInput}
use Rattle.lk_link.specs.declared.symbol.InputSymbol.{InputSymbol}
use Rattle.lk_link.specs.Files.{file_in}
use Rattle.lk_link.specs.InputSlots.{is_merge}
use Rattle.lk_link.specs.Inputs.{Input, NumberedFile, all_inputs, group_files, numbered_file, numbered_files}
use Rattle.lk_link.specs.NumberedSymbols.{known_symbol, numbered_symbols, symbols_of}
use Rattle.lk_link.specs.Parts.{all_parts, part_sections}
use Rattle.lk_link.specs.Symbols.{IsSymbolIn, first_symbol, symbol_at}
use Rattle.lk_link.proofs.Elements.{filter_in, flat_map_at, map_at, map_in, numbered_at}
use Rattle.lk_link.proofs.InputLemmas.{numbered_get}
use Rattle.lk_link.proofs.NumberedSymbolLemmas.{stands}
use Rattle.lk_link.proofs.SymbolLemmas.{symbols_have_files}
use Rattle.lk_merge.specs.LinkInputs.{is_merged_into, link_inputs, merge_input, merge_inputs}
use Rattle.lk_merge.specs.Pieces.{MergeInput}
use Rattle.lk_merge.proofs.Gathering.{goes_to}
use Rattle.lk_merge.proofs.MergeBytes.{part_goes}

pub some_one : {X : Type 0} (a b : X) → Some a ≡ Some b → a ≡ b
some_one a b e = cc

-- ---- symbols

-- the symbol of a file stands under its number, with the file
pub symbol_numbered : (groups : List (List InputFile)) (id : FileId) (s : ℕ) (file : InputFile) (x : InputSymbol) → IsSymbolIn groups id s → file_in groups id ≡ Some file → symbol_at groups s ≡ Some x
    → slice_get (numbered_symbols groups) s ≡ Some (record { id = id; file = file }, x)
symbol_numbered groups id s file x h there is =
    let i : ℕ = s - first_symbol groups id in
    let at = symbols_have_files.at groups id s h in
    let same : h.file ≡ file = some_one h.file file (sym h.there ∙ there) in
    let inner : slice_get file.symbols i ≡ Some x = ap (λ (g : InputFile). slice_get g.symbols i) (sym same) ∙ sym at.2 ∙ is in
    let place : first_symbol groups id + i ≡ s = omega (arith, at.0) in
    ap (slice_get (numbered_symbols groups)) (sym place) ∙ stands groups id file i x there inner

-- a symbol with its number and its file
abbrev told : ℕ → Option (NumberedFile × InputSymbol) → Option (ℕ × NumberedFile × InputSymbol)
told s o = option_map (λ q. (s, q.0, q.1)) o

-- a symbol that is known stands under its number
pub known_symbol_is : (groups : List (List InputFile)) (s n : ℕ) (f : NumberedFile) (x : InputSymbol) (r : ℕ × NumberedFile × InputSymbol) → r ≡ (n, f, x)
    → Some r ≡ known_symbol groups s → slice_get (numbered_symbols groups) s ≡ Some (f, x)
known_symbol_is groups s n f x r same is = by (slice_get (numbered_symbols groups) s) refl is
  where
    by : (o : Option (NumberedFile × InputSymbol)) → slice_get (numbered_symbols groups) s ≡ o → Some r ≡ told s o → slice_get (numbered_symbols groups) s ≡ Some (f, x)
    by None at e = absurd (cc)
    by (Some q) at e =
        let t : ℕ × NumberedFile × InputSymbol = (s, q.0, q.1) in
        let triple : t ≡ (n, f, x) = sym (some_one r t e) ∙ same in
        at ∙ (λ i. Some ((triple i).1, (triple i).2))

abbrev files_of : ℕ × List InputFile → List NumberedFile
files_of q = group_files q.0 0 q.1

file_there : (groups : List (List InputFile)) (k : ℕ) (f : NumberedFile) → slice_get (numbered_files groups) k ≡ Some f → file_in groups f.id ≡ Some f.file
file_there groups k f h =
    let at = flat_map_at files_of (enumerate_from 0 groups) k f h in
    let group = numbered_at 0 groups at.outer at.from at.there in
    let file = map_at (numbered_file at.from.0) (enumerate_from 0 at.from.1) at.inner f at.gives in
    let index = numbered_at 0 at.from.1 at.inner file.0 file.1 in
    let in_group : slice_get at.from.1 file.0.0 ≡ Some file.0.1 = ap (slice_get at.from.1) (omega (arith, index.0)) ∙ index.1 in
    let found : slice_get groups at.from.0 ≡ Some at.from.1 = ap (slice_get groups) (omega (arith, group.0)) ∙ group.1 in
    let there : file_in groups (numbered_file at.from.0 file.0).id ≡ Some file.0.1 = ap (option_and_then (λ files. slice_get files file.0.0)) found ∙ in_group in
    subst (λ (g : NumberedFile). file_in groups g.id ≡ Some g.file) file.2 there

-- a symbol that stands under a number is in the file that is told with it
pub file_of_symbol : (groups : List (List InputFile)) (s : ℕ) (f : NumberedFile) (x : InputSymbol) → slice_get (numbered_symbols groups) s ≡ Some (f, x)
    → file_in groups f.id ≡ Some f.file
file_of_symbol groups s f x h =
    let at = flat_map_at symbols_of (numbered_files groups) s (f, x) h in
    let pair : InputSymbol → NumberedFile × InputSymbol = λ y. (at.from, y) in
    let own = map_at pair at.from.file.symbols at.inner (f, x) at.gives in
    let same : at.from ≡ f = ap (λ (q : NumberedFile × InputSymbol). q.0) own.2 in
    subst (λ (g : NumberedFile). file_in groups g.id ≡ Some g.file) same (file_there groups at.outer at.from at.there)

-- ---- what is merged of a link

-- the output section of a part is one of the plan's
pub output_within : (link : LinkInput) (p t : ℕ) → p < length (all_parts link.plan.sections) → slice_get (part_sections link.plan.sections) p ≡ Some t → t < length link.plan.sections
output_within link p t below there =
    let goes = part_goes 0 link.plan.sections p below in
    let same : goes.0 ≡ t = some_one goes.0 t (sym goes.1 ∙ there) in
    omega (arith, goes.2, same)

pub outputs_count : (link : LinkInput) → length (link_inputs link).outputs ≡ length link.plan.sections
outputs_count link = length-map-range_with_len (merge_inputs link) 0 (length link.plan.sections)

pub output_at : (link : LinkInput) (t : ℕ) → t < length link.plan.sections → slice_get (link_inputs link).outputs t ≡ Some (merge_inputs link t)
output_at link t below =
    let all : List (List MergeInput) = (link_inputs link).outputs in
    slice_get-get_or all t [] (omega (arith, outputs_count link, below))
    ∙ ap (λ (xs : List MergeInput). Some xs) (get_or-map-range_with_len (merge_inputs link) 0 (length link.plan.sections) t t [] below (omega arith))

-- an input section that is merged is among the inputs of its output section
pub is_input : (link : LinkInput) (n t : ℕ) (x : Input) → slice_get (all_inputs link.groups) n ≡ Some x → is_merge x.section.slot ≡ true
    → slice_get (part_sections link.plan.sections) x.section.part ≡ Some t → (k : ℕ) × (slice_get (merge_inputs link t) k ≡ Some (merge_input n x.section))
is_input link n t x there merged goes =
    let all : List Input = all_inputs link.groups in
    let test : ℕ × Input → Bool = λ q. is_merged_into (part_sections link.plan.sections) t q.1.section in
    let made : ℕ × Input → MergeInput = λ q. merge_input q.0 q.1.section in
    let first : 0 + n ≡ n = omega arith in
    let numbered : slice_get (enumerate_from 0 all) n ≡ Some (n, x) = numbered_get 0 all n x there ∙ ap (λ (i : ℕ). Some (i, x)) first in
    let into : test (n, x) ≡ true = goes_to (part_sections link.plan.sections) t t x.section merged goes ∙ eq-eqb t t refl in
    let found = filter_in test (enumerate_from 0 all) n (n, x) numbered into in
    (found.0, map_in made (filter test (enumerate_from 0 all)) found.0 (n, x) found.1)
