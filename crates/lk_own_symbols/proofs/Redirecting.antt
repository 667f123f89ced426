-- Redirects one after the other: some of them, and then the others.
use Rattle.std.proofs.Common.{◌≡◌, ◌∙◌, ap, arith, refl, subst, sym, ℕ, suc, ◌+◌, ◌<◌, Bool, false, List, [], ◌∷◌, ◌++◌, drop, length, map}
use Rattle.std.specs.Prelude.{◌&&◌, if◌then◌else◌, IsErrAnd, Option, Some, None, Result, Ok, Err}
use Rattle.std.specs.List.{cons_option, enumerate_from, filter_map, slice_index_or}
use Rattle.std.proofs.Math.Seq.{drop-cons}
use Rattle.std.proofs.lemmas.Grind.{flat_map-append}
use Rattle.std.proofs.lemmas.List.{length-append, length-map}
use Rattle.std.proofs.lemmas.List.Elements.{filter_map-append}
use Rattle.std.proofs.lemmas.List.Sums.{sum_by-append, sum_by-cons}
use Rattle.lk_link.specs.declared.file.InputFile.{InputFile}
use Rattle.lk_link.specs.declared.symbol.InputSymbol.{InputSymbol}
use Rattle.lk_link.specs.SymbolRules.{file_symbols}
use Rattle.lk_link.specs.Symbols.{all_files, is_canonical, symbol_count}
use Rattle.lk_expressions.specs.Expressions.{◌>>=◌}
use Rattle.lk_place.specs.declared.error.PlaceError.{PlaceError}
use Rattle.lk_own_symbols.specs.Redirects.{AllPlaced, GivesRedirected, Redirect, Store, has_redirects, redirect_at, redirect_of, redirected, redirected_by, redirects_from}

-- steps that follow each other can be grouped
grouped : {A B C E : Type 0} (x : Result A E) (f : A → Result B E) (g : B → Result C E) → ((x >>= f) >>= g) ≡ (x >>= (λ a. f a >>= g))
grouped (Ok x) f g = refl
grouped (Err e) f g = refl

same_behind : {A B E : Type 0} (x : Result A E) (f g : A → Result B E) → ((a : A) → f a ≡ g a) → (x >>= f) ≡ (x >>= g)
same_behind (Ok x) f g h = h x
same_behind (Err e) f g h = refl

-- some redirects, and then others
two_parts : {S : Type 0} (store : Store S) (placed : AllPlaced) (kept : S) (qs rs : List Redirect)
    → redirected store placed kept (qs ++ rs) ≡ (redirected store placed kept qs >>= (λ next. redirected store placed next rs))
unfolding redirected
two_parts store placed kept [] rs = refl
two_parts {S} store placed kept (q ∷ qs) rs =
    same_behind (redirected_by store placed kept q) (λ (next : S). redirected store placed next (qs ++ rs)) _ (λ next. two_parts store placed next qs rs)
    ∙ sym (grouped (redirected_by store placed kept q) (λ (next : S). redirected store placed next qs) (λ (next : S). redirected store placed next rs))

-- those of some symbols, and then of others
numbered_parts : {X : Type 0} (n : ℕ) (xs ys : List X) → enumerate_from n (xs ++ ys) ≡ enumerate_from n xs ++ enumerate_from (n + length xs) ys
numbered_parts {X} n [] ys = ap (λ (m : ℕ). enumerate_from m ys) (omega arith)
numbered_parts {X} n (x ∷ xs) ys =
    ap (λ (qs : List (ℕ × X)). (n, x) ∷ qs) (numbered_parts (n + 1) xs ys
    ∙ ap (λ (m : ℕ). enumerate_from (n + 1) xs ++ enumerate_from m ys) (omega arith))

of_parts : (n : ℕ) (ps rs : List (InputFile × InputSymbol)) → redirects_from n (ps ++ rs) ≡ redirects_from n ps ++ redirects_from (n + length ps) rs
of_parts n ps rs =
    let one : ℕ × (InputFile × InputSymbol) → Option Redirect = λ q. redirect_of q.0 q.1 in
    ap (filter_map one) (numbered_parts n ps rs) ∙ filter_map-append one (enumerate_from n ps) (enumerate_from (n + length ps) rs)

both : {S : Type 0} (store : Store S) (placed : AllPlaced) (kept : S) (n : ℕ) (ps rs : List (InputFile × InputSymbol))
    → redirected store placed kept (redirects_from n (ps ++ rs))
    ≡ (redirected store placed kept (redirects_from n ps) >>= (λ next. redirected store placed next (redirects_from (n + length ps) rs)))
both store placed kept n ps rs =
    ap (redirected store placed kept) (of_parts n ps rs) ∙ two_parts store placed kept (redirects_from n ps) (redirects_from (n + length ps) rs)

-- behind those of some symbols, those of the others come to the same as all
pub goes_on : {S : Type 0} (store : Store S) (placed : AllPlaced) (kept next : S) (n m : ℕ) (ps rs : List (InputFile × InputSymbol))
    → redirected store placed kept (redirects_from n ps) ≡ Ok next → m ≡ n + length ps
    → redirected store placed next (redirects_from m rs) ≡ redirected store placed kept (redirects_from n (ps ++ rs))
goes_on {S} store placed kept next n m ps rs h at =
    ap (λ (k : ℕ). redirected store placed next (redirects_from k rs)) at
    ∙ ap (λ (x : Result S PlaceError). x >>= (λ next. redirected store placed next (redirects_from (n + length ps) rs))) (sym h)
    ∙ sym (both store placed kept n ps rs)

-- a refusal among them is that of all
pub stops : {S : Type 0} (store : Store S) (placed : AllPlaced) (kept : S) (n : ℕ) (ps rs : List (InputFile × InputSymbol)) (e : PlaceError)
    → redirected store placed kept (redirects_from n ps) ≡ Err e → redirected store placed kept (redirects_from n (ps ++ rs)) ≡ Err e
stops {S} store placed kept n ps rs e h =
    both store placed kept n ps rs
    ∙ ap (λ (x : Result S PlaceError). x >>= (λ next. redirected store placed next (redirects_from (n + length ps) rs))) h

-- ---- one symbol

-- a symbol that isn't a redirect changes nothing, and one that is comes to what it comes to alone
pub none_alone : {S : Type 0} (store : Store S) (placed : AllPlaced) (kept : S) (o : Option Redirect) → o ≡ None → redirected store placed kept (cons_option o []) ≡ Ok kept
unfolding redirected
none_alone store placed kept None h = refl
none_alone store placed kept (Some q) h = absurd (cc)

ends_there : {S : Type 0} (x : Result S PlaceError) → (x >>= (λ next. Ok next)) ≡ x
ends_there (Ok next) = refl
ends_there (Err e) = refl

one_alone : {S : Type 0} (store : Store S) (placed : AllPlaced) (kept : S) (o : Option Redirect) (q : Redirect) → o ≡ Some q
    → redirected store placed kept (cons_option o []) ≡ redirected_by store placed kept q
unfolding redirected
one_alone store placed kept None q h = absurd (cc)
one_alone {S} store placed kept (Some r) q h =
    let same : r ≡ q = cc in
    ends_there (redirected_by store placed kept r) ∙ ap (redirected_by store placed kept) same

pub gives_alone : {S A : Type 0} (store : Store S) (placed : AllPlaced) (kept new : S) (o : Option Redirect) (q : Redirect) (result : Result A PlaceError) → o ≡ Some q
    → GivesRedirected (redirected_by store placed kept q) result new → GivesRedirected (redirected store placed kept (cons_option o [])) result new
gives_alone {S} store placed kept new o q result h gives =
    subst (λ (x : Result S PlaceError). GivesRedirected x result new) (sym (one_alone store placed kept o q h)) gives

-- ---- one more of a list

dropped : {X : Type 0} (xs ys : List X) (i : ℕ) (x : X) → ys ≡ xs → i < length ys → x ≡ slice_index_or ys i x → drop i xs ≡ x ∷ drop (i + 1) xs
dropped {X} xs ys i x same less is =
    let e : suc i ≡ i + 1 = omega arith in
    ap (drop i) (sym same) ∙ drop-cons ys i x less ∙ ap (λ (y : X). y ∷ drop (suc i) ys) (sym is) ∙ ap (λ (n : ℕ). x ∷ drop n ys) e ∙ ap (λ (zs : List X). x ∷ drop (i + 1) zs) same

-- what is left behind some symbols, and what a refusal among them is
left_behind : {S : Type 0} (store : Store S) (placed : AllPlaced) (kept next : S) (whole : Result S PlaceError) (n m : ℕ) (ps rs all : List (InputFile × InputSymbol))
    → all ≡ ps ++ rs → redirected store placed kept (redirects_from n ps) ≡ Ok next → m ≡ n + length ps
    → redirected store placed kept (redirects_from n all) ≡ whole → redirected store placed next (redirects_from m rs) ≡ whole
left_behind store placed kept next whole n m ps rs all parts on at h =
    goes_on store placed kept next n m ps rs on at ∙ ap (λ (qs : List (InputFile × InputSymbol)). redirected store placed kept (redirects_from n qs)) (sym parts) ∙ h

stopped : {S : Type 0} (store : Store S) (placed : AllPlaced) (kept : S) (whole : Result S PlaceError) (n : ℕ) (ps rs all : List (InputFile × InputSymbol)) (e : PlaceError)
    → all ≡ ps ++ rs → redirected store placed kept (redirects_from n ps) ≡ Err e → redirected store placed kept (redirects_from n all) ≡ whole → whole ≡ Err e
stopped store placed kept whole n ps rs all e parts refused h =
    sym h ∙ ap (λ (qs : List (InputFile × InputSymbol)). redirected store placed kept (redirects_from n qs)) parts ∙ stops store placed kept n ps rs e refused

-- the next symbol of a file
abbrev pub in_file : InputFile → List InputSymbol → List (InputFile × InputSymbol)
in_file file xs = map (λ x. (file, x)) xs

next_symbol : (file : InputFile) (xs ys : List InputSymbol) (i : ℕ) (x : InputSymbol) → ys ≡ xs → i < length ys → x ≡ slice_index_or ys i x
    → in_file file (drop i xs) ≡ ((file, x) ∷ []) ++ in_file file (drop (i + 1) xs)
next_symbol file xs ys i x same less is = ap (in_file file) (dropped xs ys i x same less is)

pub symbol_goes_on : {S : Type 0} (store : Store S) (placed : AllPlaced) (kept next : S) (whole : Result S PlaceError) (file : InputFile) (xs ys : List InputSymbol) (x : InputSymbol) (first i number : ℕ)
    → ys ≡ xs → i < length ys → x ≡ slice_index_or ys i x → number ≡ first + i
    → redirected store placed kept (redirects_from number ((file, x) ∷ [])) ≡ Ok next
    → redirected store placed kept (redirects_from (first + i) (in_file file (drop i xs))) ≡ whole
    → redirected store placed next (redirects_from (first + (i + 1)) (in_file file (drop (i + 1) xs))) ≡ whole
symbol_goes_on store placed kept next whole file xs ys x first i number same less is at on h =
    left_behind store placed kept next whole (first + i) (first + (i + 1)) ((file, x) ∷ []) (in_file file (drop (i + 1) xs)) (in_file file (drop i xs))
    (next_symbol file xs ys i x same less is)
    (ap (λ (n : ℕ). redirected store placed kept (redirects_from n ((file, x) ∷ []))) (sym at) ∙ on) (omega arith) h

pub symbol_stops : {S : Type 0} (store : Store S) (placed : AllPlaced) (kept : S) (whole : Result S PlaceError) (file : InputFile) (xs ys : List InputSymbol) (x : InputSymbol) (first i number : ℕ) (e : PlaceError)
    → ys ≡ xs → i < length ys → x ≡ slice_index_or ys i x → number ≡ first + i
    → redirected store placed kept (redirects_from number ((file, x) ∷ [])) ≡ Err e
    → redirected store placed kept (redirects_from (first + i) (in_file file (drop i xs))) ≡ whole → whole ≡ Err e
symbol_stops store placed kept whole file xs ys x first i number e same less is at refused h =
    stopped store placed kept whole (first + i) ((file, x) ∷ []) (in_file file (drop (i + 1) xs)) (in_file file (drop i xs)) e
    (next_symbol file xs ys i x same less is)
    (ap (λ (n : ℕ). redirected store placed kept (redirects_from n ((file, x) ∷ []))) (sym at) ∙ refused) h

-- at the end what is kept is what all come to
pub none_left : {S : Type 0} (store : Store S) (placed : AllPlaced) (kept : S) (whole : Result S PlaceError) (n : ℕ) (all : List (InputFile × InputSymbol))
    → all ≡ [] → redirected store placed kept (redirects_from n all) ≡ whole → whole ≡ Ok kept
unfolding redirected
none_left store placed kept whole n all nothing h = sym h ∙ ap (λ (ps : List (InputFile × InputSymbol)). redirected store placed kept (redirects_from n ps)) nothing

-- ---- files whose redirects aren't evaluated

not_evaluated : (file : InputFile) (n : ℕ) (xs : List InputSymbol) → has_redirects file.kind ≡ false → redirects_from n (in_file file xs) ≡ []
not_evaluated file n [] h = refl
not_evaluated file n (x ∷ xs) h =
    ap (λ (b : Bool). cons_option (if b && is_canonical n x then redirect_at file.kind n x.at else None) (redirects_from (n + 1) (in_file file xs))) h
    ∙ not_evaluated file (n + 1) xs h

pub left_alone : {S : Type 0} (store : Store S) (placed : AllPlaced) (kept : S) (file : InputFile) (n : ℕ) (xs : List InputSymbol) → has_redirects file.kind ≡ false
    → redirected store placed kept (redirects_from n (in_file file xs)) ≡ Ok kept
unfolding redirected
left_alone store placed kept file n xs h = ap (redirected store placed kept) (not_evaluated file n xs h)

-- ---- the next file, and the next files

file_length : (f : InputFile) → length (in_file f f.symbols) ≡ length f.symbols
file_length f = let pair : InputSymbol → InputFile × InputSymbol = λ x. (f, x) in length-map f.symbols pair

next_file : (files : List InputFile) (i : ℕ) (f : InputFile) → i < length files → f ≡ slice_index_or files i f
    → file_symbols (drop i files) ≡ in_file f f.symbols ++ file_symbols (drop (i + 1) files)
next_file files i f less is = ap file_symbols (dropped files files i f refl less is)

pub file_count : (files : List InputFile) (i : ℕ) (f : InputFile) → i < length files → f ≡ slice_index_or files i f
    → symbol_count (drop i files) ≡ length f.symbols + symbol_count (drop (i + 1) files)
file_count files i f less is = ap symbol_count (dropped files files i f refl less is) ∙ sum_by-cons (λ (g : InputFile). length g.symbols) f (drop (i + 1) files)

pub file_goes_on : {S : Type 0} (store : Store S) (placed : AllPlaced) (kept next : S) (whole : Result S PlaceError) (files : List InputFile) (f : InputFile) (i n m : ℕ)
    → i < length files → f ≡ slice_index_or files i f → m ≡ n + length f.symbols
    → redirected store placed kept (redirects_from n (in_file f f.symbols)) ≡ Ok next
    → redirected store placed kept (redirects_from n (file_symbols (drop i files))) ≡ whole
    → redirected store placed next (redirects_from m (file_symbols (drop (i + 1) files))) ≡ whole
file_goes_on store placed kept next whole files f i n m less is at on h =
    left_behind store placed kept next whole n m (in_file f f.symbols) (file_symbols (drop (i + 1) files)) (file_symbols (drop i files))
    (next_file files i f less is) on (omega (arith, at, file_length f)) h

pub file_stops : {S : Type 0} (store : Store S) (placed : AllPlaced) (kept : S) (whole : Result S PlaceError) (files : List InputFile) (f : InputFile) (i n : ℕ) (e : PlaceError)
    → i < length files → f ≡ slice_index_or files i f
    → redirected store placed kept (redirects_from n (in_file f f.symbols)) ≡ Err e
    → redirected store placed kept (redirects_from n (file_symbols (drop i files))) ≡ whole → whole ≡ Err e
file_stops store placed kept whole files f i n e less is refused h =
    stopped store placed kept whole n (in_file f f.symbols) (file_symbols (drop (i + 1) files)) (file_symbols (drop i files)) e (next_file files i f less is) refused h

-- the symbols of files are as many as they have
counted : (files : List InputFile) → length (file_symbols files) ≡ symbol_count files
counted [] = refl
counted (f ∷ fs) =
    length-append (in_file f f.symbols) (file_symbols fs)
    ∙ ap (λ (n : ℕ). n + length (file_symbols fs)) (file_length f)
    ∙ ap (λ (n : ℕ). length f.symbols + n) (counted fs)
    ∙ sym (sum_by-cons (λ (g : InputFile). length g.symbols) f fs)

next_files : (groups : List (List InputFile)) (i : ℕ) (files : List InputFile) → i < length groups → files ≡ slice_index_or groups i files
    → all_files (drop i groups) ≡ files ++ all_files (drop (i + 1) groups)
next_files groups i files less is = ap all_files (dropped groups groups i files refl less is)

next_group : (groups : List (List InputFile)) (i : ℕ) (files : List InputFile) → i < length groups → files ≡ slice_index_or groups i files
    → file_symbols (all_files (drop i groups)) ≡ file_symbols files ++ file_symbols (all_files (drop (i + 1) groups))
next_group groups i files less is =
    ap file_symbols (next_files groups i files less is) ∙ flat_map-append (λ (f : InputFile). in_file f f.symbols) files (all_files (drop (i + 1) groups))

pub group_count : (groups : List (List InputFile)) (i : ℕ) (files held : List InputFile) → i < length groups → files ≡ slice_index_or groups i files → held ≡ files
    → symbol_count (all_files (drop i groups)) ≡ symbol_count held + symbol_count (all_files (drop (i + 1) groups))
group_count groups i files held less is same =
    ap symbol_count (next_files groups i files less is) ∙ sum_by-append (λ (g : InputFile). length g.symbols) files (all_files (drop (i + 1) groups))
    ∙ ap (λ (fs : List InputFile). symbol_count fs + symbol_count (all_files (drop (i + 1) groups))) (sym same)

pub group_goes_on : {S : Type 0} (store : Store S) (placed : AllPlaced) (kept next : S) (whole : Result S PlaceError) (groups : List (List InputFile)) (files held : List InputFile) (i n m : ℕ)
    → i < length groups → files ≡ slice_index_or groups i files → held ≡ files → m ≡ n + symbol_count held
    → redirected store placed kept (redirects_from n (file_symbols held)) ≡ Ok next
    → redirected store placed kept (redirects_from n (file_symbols (all_files (drop i groups)))) ≡ whole
    → redirected store placed next (redirects_from m (file_symbols (all_files (drop (i + 1) groups)))) ≡ whole
group_goes_on store placed kept next whole groups files held i n m less is same at on h =
    left_behind store placed kept next whole n m (file_symbols files) (file_symbols (all_files (drop (i + 1) groups))) (file_symbols (all_files (drop i groups)))
    (next_group groups i files less is)
    (ap (λ (fs : List InputFile). redirected store placed kept (redirects_from n (file_symbols fs))) (sym same) ∙ on)
    (omega (arith, at, counted files, ap symbol_count same)) h

pub group_stops : {S : Type 0} (store : Store S) (placed : AllPlaced) (kept : S) (whole : Result S PlaceError) (groups : List (List InputFile)) (files held : List InputFile) (i n : ℕ) (e : PlaceError)
    → i < length groups → files ≡ slice_index_or groups i files → held ≡ files
    → redirected store placed kept (redirects_from n (file_symbols held)) ≡ Err e
    → redirected store placed kept (redirects_from n (file_symbols (all_files (drop i groups)))) ≡ whole → whole ≡ Err e
group_stops store placed kept whole groups files held i n e less is same refused h =
    stopped store placed kept whole n (file_symbols files) (file_symbols (all_files (drop (i + 1) groups))) (file_symbols (all_files (drop i groups))) e
    (next_group groups i files less is)
    (ap (λ (fs : List InputFile). redirected store placed kept (redirects_from n (file_symbols fs))) (sym same) ∙ refused) h

-- ---- a refusal that is handed on

pub handed_on : {S A : Type 0} (whole : Result S PlaceError) (result : Result A PlaceError) (new : S) (e : PlaceError) → IsErrAnd result (λ x. x ≡ e) → whole ≡ Err e
    → GivesRedirected whole result new
handed_on whole (Ok x) new e is at = absurd is
handed_on whole (Err x) new e is at = at ∙ ap (λ (y : PlaceError). Err y) (sym is)
