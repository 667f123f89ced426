-- Which symbols of the primary part are named, one section more at a time.
use Rattle.std.proofs.Common.{◌≡◌, ℕ, zero, suc, ◌||◌, Bool, true, false, List, [], ◌∷◌, ◌++◌, length, map, replicate, Some, refl, sym, ap, ◌∙◌}
use Rattle.std.specs.Iterator.{Yields, YieldsFirstBy}
use Rattle.std.specs.List.{flat_map, list_any, slice_get}
use Rattle.std.proofs.lemmas.List.{length-map, map-append, map_push}
use Rattle.std.proofs.lemmas.List.Folds.{list_any-append}
use Rattle.lk_link.specs.declared.link.LinkInput.{LinkInput}
use Rattle.lk_link.specs.declared.symbol.InputSymbol.{InputSymbol}
use Rattle.lk_link.specs.declared.walks.InputRef.{InputRef}
use Rattle.lk_link.specs.Inputs.{Input, NumberedFile, all_inputs}
use Rattle.lk_link.specs.Marks.{is_marked}
use Rattle.lk_link.specs.Symbols.{all_symbols}
use Rattle.lk_link.specs.Walks.{input_of}
use Rattle.lk_live.specs.declared.live.Live.{Live}
use Rattle.lk_live.specs.PrimaryMarks.{IsInputOf, is_primary_symbol, primary_symbols}
use Rattle.lk_live.specs.Reach.{live_inputs, marked}
use Rattle.lk_reach.specs.Units.{numbered_symbols, symbols_of}
use Rattle.lk_reach.proofs.LiveWalk.{turn}
use Rattle.lk_reach.proofs.Numbered.{file_of_input}
use Rattle.lk_reach.proofs.SymbolNumbers.{numbered_count}
use Rattle.lk_reach.proofs.UnitLemmas.{symbols_length}

abbrev told : LinkInput → NumberedFile × InputSymbol → Bool
told link q = is_primary_symbol link q.0.file q.1

paired : (link : LinkInput) (f : NumberedFile) (xs : List InputSymbol) → map (is_primary_symbol link f.file) xs ≡ map (told link) (map (λ s. (f, s)) xs)
paired link f [] = refl
paired link f (x ∷ xs) = ap (λ ys. is_primary_symbol link f.file x ∷ ys) (paired link f xs)

-- file by file, and over all numbered symbols
pub primary_whole : (link : LinkInput) (fs : List NumberedFile) → flat_map (λ f. map (is_primary_symbol link f.file) f.file.symbols) fs ≡ map (λ q. is_primary_symbol link q.0.file q.1) (flat_map symbols_of fs)
primary_whole link [] = refl
primary_whole link (f ∷ fs) =
    ap (λ xs. map (is_primary_symbol link f.file) f.file.symbols ++ xs) (primary_whole link fs)
    ∙ ap (λ xs. xs ++ map (told link) (flat_map symbols_of fs)) (paired link f f.file.symbols)
    ∙ sym (map-append (told link) (symbols_of f) (flat_map symbols_of fs))

-- as many as there are symbols
pub primary_count : (link : LinkInput) → length (primary_symbols link) ≡ length (all_symbols link.groups)
primary_count link = length-map (numbered_symbols link.groups) (told link) ∙ numbered_count link.groups ∙ sym (symbols_length link.groups)

pub none_named : (n s : ℕ) → is_marked (replicate n false) s ≡ false
none_named zero s = refl
none_named (suc n) zero = refl
none_named (suc n) (suc s) = none_named n s

or_last : (b : Bool) → (b || false) ≡ b
or_last true = refl
or_last false = refl

-- one section more that may name a symbol
pub named_next : (test : Input → Bool) (done : List InputRef) (x : InputRef) (old new : Bool) → old ≡ list_any test (map input_of done) → new ≡ (old || test (input_of x)) → new ≡ list_any test (map input_of (done ++ x ∷ []))
named_next test done x old new so_far step =
    step ∙ ap (λ b. b || test (input_of x)) so_far
    ∙ ap (λ b. list_any test (map input_of done) || b) (sym (or_last (test (input_of x))))
    ∙ sym (list_any-append test (map input_of done) (input_of x ∷ [])) ∙ ap (list_any test) (sym (map_push input_of done x))

marked_at : {X : Type 0} (marks : List Bool) (xs : List X) (j : ℕ) (x : X) → slice_get (marked marks xs) j ≡ Some x → (k : ℕ) × (slice_get xs k ≡ Some x)
marked_at [] xs j x h = absurd (cc)
marked_at (m ∷ marks) [] j x h = absurd (cc)
marked_at (true ∷ marks) (y ∷ xs) zero x h = (0, h)
marked_at (true ∷ marks) (y ∷ xs) (suc j) x h = let r = marked_at marks xs j x h in (suc r.0, r.1)
marked_at (false ∷ marks) (y ∷ xs) j x h = let r = marked_at marks xs j x h in (suc r.0, r.1)

-- the live section that comes next is one of the link's
pub input_turn : (link : LinkInput) (live : Live) (s t u : List Input) (done : List InputRef) (x : InputRef) → s ≡ live_inputs link live → Yields (YieldsFirstBy {S = List Input} input_of (λ left. left)) s done t
    → YieldsFirstBy {S = List Input} input_of (λ left. left) t (Some x) u → IsInputOf link (input_of x)
input_turn link live s t u done x begins yielded next =
    let here = turn (live_inputs link live) s t u done x begins yielded next in
    let at = marked_at live.marks (all_inputs link.groups) here.place (input_of x) here.there in
    let from = file_of_input link.groups at.0 (input_of x) at.1 in
    record { file = from.0; there = from.1; section = from.2 }
