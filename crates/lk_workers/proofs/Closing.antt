-- Whether asks are met, one after the other.
use Rattle.std.proofs.Common.{◌≡◌, ℕ, ◌+◌, ◌<◌, ◌&&◌, Bool, true, false, List, [], ◌∷◌, ◌++◌, length, map, take, None, Some, get_or, ltb, option_and_then, refl, sym, ap, ◌∙◌, subst, arith}
use Rattle.std.specs.Iterator.{Yields, YieldsFirst}
use Rattle.std.specs.List.{enumerate_from, list_all, range_with_len, slice_get}
use Rattle.std.specs.Option.{option_map_or}
use Rattle.std.proofs.lemmas.Bool.{ltb-true}
use Rattle.std.proofs.lemmas.Iterator.Consumers.{YieldsList-end, YieldsList-from_first, YieldsList-turn}
use Rattle.std.proofs.lemmas.List.{length-map, map-id}
use Rattle.std.proofs.lemmas.List.Folds.{list_all-append, list_all_at, list_all_more}
use Rattle.std.proofs.lemmas.List.FromFn.{get_or-range_with_len, length-enumerate_from, length-map-range_with_len, length-range_with_len}
use Rattle.std.proofs.lemmas.Option.{get_or_from_slice_get, slice_get-get_or, slice_get_within}
use Rattle.std.proofs.Math.Seq.{take-length}
use Rattle.lk_flags.specs.Lists.{Lists}
use Rattle.lk_link.specs.declared.file.InputFile.{InputFile}
use Rattle.lk_link.specs.declared.ids.SymbolIdRange.{SymbolIdRange}
use Rattle.lk_link.specs.declared.link.LinkInput.{LinkInput}
use Rattle.lk_link.specs.Files.{file_in}
use Rattle.lk_link.specs.Inputs.{NumberedFile, group_files, numbered_file}
use Rattle.lk_link.specs.Symbols.{AreSymbolsOf, first_symbol}
use Rattle.lk_link.proofs.Elements.{at_index, map_in}
use Rattle.lk_reach.specs.declared.units.Ask.{Ask}
use Rattle.lk_reach.specs.declared.units.Unit.TheVariants.{Sec, Sym}
use Rattle.lk_reach.specs.Marks.{IsUnit, symbols_in_all, word_of}
use Rattle.lk_reach.proofs.UnitLemmas.{section_unit}
use Rattle.lk_slot_link.specs.LinkGraphs.{files_of_group}
use Rattle.lk_workers.specs.Asked.{AreListsOf}
use Rattle.lk_workers.specs.Closings.{section_units, symbol_units}
use Rattle.lk_workers.proofs.Asked.{word_within}

-- ---- all elements pass, or one doesn't

both_true : (a b : Bool) → a ≡ true → b ≡ true → (a && b) ≡ true
both_true a b h k = ap (λ x. x && b) h ∙ k

pub one_more : {X : Type 0} (p : X → Bool) (xs : List X) (x : X) → list_all p xs ≡ true → p x ≡ true → list_all p (xs ++ x ∷ []) ≡ true
one_more p xs x h k = list_all-append p xs (x ∷ []) ∙ both_true (list_all p xs) (p x && true) h (both_true (p x) true k refl)

-- the element at an index passes too
pub next_passes : {X : Type 0} (p : X → Bool) (xs : List X) (i : ℕ) (x : X) → slice_get xs i ≡ Some x → list_all p (take i xs) ≡ true → p x ≡ true → list_all p (take (i + 1) xs) ≡ true
next_passes p xs i x at h k =
    list_all_more p xs i x (slice_get_within xs i x at)
    ∙ both_true (list_all p (take i xs)) (p (get_or xs i x)) h (ap p (get_or_from_slice_get xs i x x at) ∙ k)

-- it doesn't, so not all do
pub one_fails : {X : Type 0} (p : X → Bool) (xs : List X) (i : ℕ) (x : X) → slice_get xs i ≡ Some x → p x ≡ false → list_all p xs ≡ false
one_fails p xs i x at k = list_all_at p xs i x (slice_get_within xs i x at) (ap p (get_or_from_slice_get xs i x x at) ∙ k)

-- all of them did
pub all_pass : {X : Type 0} (p : X → Bool) (xs : List X) (n : ℕ) → n ≡ length xs → list_all p (take n xs) ≡ true → list_all p xs ≡ true
all_pass p xs n count h = ap (list_all p) (sym (take-length xs) ∙ ap (λ m. take m xs) (sym count)) ∙ h

-- ---- asks

-- the ask that comes next stands behind those that came
pub ask_here : (all s t u : List Ask) (done : List Ask) (x : Ask) → s ≡ all → Yields (YieldsFirst {S = List Ask} (λ left. left)) s done t → YieldsFirst {S = List Ask} (λ left. left) t (Some x) u
    → slice_get all (length done) ≡ Some x
ask_here all s t u done x begins yielded next =
    let walk = YieldsList-from_first (λ (a : Ask). a) (λ (left : List Ask). left) {s = s} all begins in
    let here = YieldsList-turn walk done t yielded (Some x) u x refl next in
    slice_get-get_or all (length done) x here.0 ∙ ap Some (sym here.1)

-- when none comes next, all came
pub asks_done : (all s t u : List Ask) (done : List Ask) → s ≡ all → Yields (YieldsFirst {S = List Ask} (λ left. left)) s done t → YieldsFirst {S = List Ask} (λ left. left) t None u → done ≡ all
asks_done all s t u done begins yielded next =
    let walk = YieldsList-from_first (λ (a : Ask). a) (λ (left : List Ask). left) {s = s} all begins in
    sym (map-id done) ∙ (YieldsList-end walk done t yielded None u refl next).0

-- ---- numbers that follow each other

pub mapped_at : {X : Type 0} (f : ℕ → X) (a n i : ℕ) → i < n → slice_get (map f (range_with_len a n)) i ≡ Some (f (a + i))
mapped_at f a n i lt =
    map_in f (range_with_len a n) i (a + i)
    (slice_get-get_or (range_with_len a n) i 0 (omega (arith, length-range_with_len a n)) ∙ ap Some (get_or-range_with_len a n i 0 lt))

pub number_at : (n i : ℕ) → i < n → slice_get (range_with_len 0 n) i ≡ Some i
number_at n i lt =
    slice_get-get_or (range_with_len 0 n) i 0 (omega (arith, length-range_with_len 0 n)) ∙ ap Some (get_or-range_with_len 0 n i 0 lt ∙ omega arith)

-- ---- units of files

pub section_at : (f : NumberedFile) (i : ℕ) → i < length f.file.sections → slice_get (section_units f) i ≡ Some (Sec f.id i)
section_at f i lt = mapped_at (Sec f.id) 0 (length f.file.sections) i lt ∙ ap (λ n. Some (Sec f.id n)) (omega arith)

pub symbol_at : (groups : List (List InputFile)) (f : NumberedFile) (i s : ℕ) → i < length f.file.symbols → s ≡ first_symbol groups f.id + i → slice_get (symbol_units groups f) i ≡ Some (Sym s)
symbol_at groups f i s lt place = mapped_at Sym (first_symbol groups f.id) (length f.file.symbols) i lt ∙ ap (λ n. Some (Sym n)) (sym place)

pub sections_count : (f : NumberedFile) → length (section_units f) ≡ length f.file.sections
sections_count f = length-map-range_with_len (Sec f.id) 0 (length f.file.sections)

pub symbols_count : (groups : List (List InputFile)) (f : NumberedFile) → length (symbol_units groups f) ≡ length f.file.symbols
symbols_count groups f = length-map-range_with_len Sym (first_symbol groups f.id) (length f.file.symbols)

pub section_is : (groups : List (List InputFile)) (f : NumberedFile) (i : ℕ) → file_in groups f.id ≡ Some f.file → i < length f.file.sections → IsUnit groups (Sec f.id i)
section_is groups f i there lt =
    let section = at_index f.file.sections i lt in
    section_unit groups f.id f.file i section.0 there section.1

-- a range of a file's symbols has as many numbers
pub range_count : (groups : List (List InputFile)) (f : NumberedFile) (range : SymbolIdRange) → AreSymbolsOf groups f.id range → file_in groups f.id ≡ Some f.file → range.count ≡ length f.file.symbols
range_count groups f range of there =
    let files : Some of.file ≡ Some f.file = sym of.there ∙ there in
    let same : of.file ≡ f.file = cc in
    of.count ∙ ap (λ (x : InputFile). length x.symbols) same

-- ---- files of groups

pub file_at_index : (groups : List (List InputFile)) (g k : ℕ) (files : List InputFile) (file : InputFile) → slice_get groups g ≡ Some files → k < length files → file ≡ get_or files k file
    → file_in groups (record { group = g; file = k }) ≡ Some file
file_at_index groups g k files file there lt is =
    ap (option_and_then (λ fs. slice_get fs k)) there ∙ slice_get-get_or files k file lt ∙ ap Some (sym is)

pub files_count : (groups : List (List InputFile)) (g : ℕ) (files : List InputFile) → slice_get groups g ≡ Some files → length (files_of_group groups g) ≡ length files
files_count groups g files there =
    ap (λ o. length (option_map_or (group_files g 0) o [])) there ∙ length-map (enumerate_from 0 files) (numbered_file g) ∙ length-enumerate_from 0 files

-- ---- words

-- a symbol of the link has a word among as many words
pub word_there : (l : Lists) (link : LinkInput) (s : ℕ) (words : List ℕ) → AreListsOf l link → s < symbols_in_all link.groups → length words ≡ length l.words → word_of s < length words
word_there l link s words of lt count =
    let there : s < symbols_in_all l.groups = subst (λ (m : Lists). s < symbols_in_all m.groups) (sym of.lists) lt in
    omega (arith, word_within l link s of there, count)

-- ---- groups

-- the files of a group, lent
pub group_there : (groups slice : List (List InputFile)) (g : ℕ) (found files : List InputFile) → slice ≡ groups → true ≡ ltb g (length slice) → found ≡ get_or slice g found → files ≡ found → slice_get groups g ≡ Some files
group_there groups slice g found files all within is same =
    ap (λ gs. slice_get gs g) (sym all) ∙ slice_get-get_or slice g found (ltb-true g (length slice) (sym within)) ∙ ap (λ fs. Some fs) (sym is ∙ sym same)
