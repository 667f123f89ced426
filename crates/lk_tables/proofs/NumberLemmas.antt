-- The counters give the numbers of symbols in the dynamic symbol table.
use Rattle.std.proofs.Common.{◌≡◌, ℕ, zero, suc, ◌+◌, ◌≤◌, ◌<◌, ◌==◌, cond, Bool, true, false, if◌then◌else◌, List, [], ◌∷◌, ◌++◌, Option, Some, None, filter, map, take, length, refl, sym, ap, ◌∙◌, arith}
use Rattle.std.specs.List.{count_by, enumerate_from, flat_map, slice_get}
use Rattle.std.proofs.lemmas.Bool.{eq-eqb, eqb-true, true≢false}
use Rattle.std.proofs.lemmas.List.{length-map, length-take}
use Rattle.std.proofs.lemmas.List.FromFn.{length-enumerate_from}
use Rattle.std.proofs.lemmas.List.Sums.{count_by-le-length, length-filter, sum_by-cons}
use Rattle.std.proofs.lemmas.Option.{get_or_from_slice_get, slice_get_within}
use Rattle.lk_link.specs.declared.fault.Limited.TheVariants as limited
use Rattle.lk_link.specs.declared.link.LinkInput.{LinkInput}
use Rattle.lk_link.specs.declared.symbol.InputSymbol.{InputSymbol}
use Rattle.lk_link.specs.Files.{first_some}
use Rattle.lk_link.specs.Inputs.{NumberedFile, numbered_files}
use Rattle.lk_link.specs.Limits.{counted, limit_of}
use Rattle.lk_link.specs.OutputKinds.{is_loaded_dynamically}
use Rattle.lk_link.specs.Symbols.{all_files, symbol_count}
use Rattle.lk_link.specs.TableSizes.{TableSizes}
use Rattle.lk_link.specs.WellFormed.{IsWellFormed}
use Rattle.lk_live.specs.declared.live.Live.{Live}
use Rattle.lk_reach.specs.Units.{numbered_symbols}
use Rattle.lk_reach.proofs.SymbolNumbers.{numbered_count}
use Rattle.lk_tables.specs.declared.numbers.DynamicNumbers.{DynamicNumbers}
use Rattle.lk_tables.specs.declared.shares.FileShare.{FileShare}
use Rattle.lk_tables.specs.Dynamic.{dynamic_index, dynamic_table, index_from, is_dynamic_symbol, is_export, numbers_where}
use Rattle.lk_tables.specs.DynamicCounters.{AreNumbersAt, is_dynamic_one, is_exported_one}
use Rattle.lk_tables.specs.HeaderParts.{told_sum}
use Rattle.lk_tables.specs.OwnEntries.{symbols_before_it}
use Rattle.lk_tables.specs.ShareSteps.{all_brought_first, all_brought_late, plus, sum_of}
use Rattle.lk_tables.specs.SymbolTable.{TableEntry, entry_bytes, entry_of, symbols_by_number}
use Rattle.lk_tables.proofs.BySymbol.{by_number, value_of}
use Rattle.lk_tables.proofs.Columns.{late_whole_total}
use Rattle.lk_tables.proofs.OwnLemmas.{not_same}
use Rattle.lk_tables.proofs.TableSums.{sum_more, sum_passing}
use Rattle.lk_tables.proofs.TotalLemmas.{are_dynamic_counts, dynamic_bytes}

-- ---- the last of some entries

pub last_of : (s k t : ℕ) (ts : List ℕ) → index_from s k (t ∷ ts) ≡ first_some (index_from s (k + 1) ts) (if t == s then Some k else None)
unfolding index_from
last_of s k t ts = refl

pub no_last : (s k : ℕ) → index_from s k [] ≡ None
unfolding index_from
no_last s k = refl

pub or_none : {X : Type 0} (o : Option X) → first_some o None ≡ o
unfolding first_some
or_none None = refl
or_none (Some x) = refl

none_or : {X : Type 0} (o : Option X) → first_some None o ≡ o
unfolding first_some
none_or o = refl

in_turn : {X : Type 0} (a b c : Option X) → first_some (first_some a b) c ≡ first_some a (first_some b c)
unfolding first_some
in_turn None b c = refl
in_turn (Some x) b c = refl

last_of_both : (s k : ℕ) (xs ys : List ℕ) → index_from s k (xs ++ ys) ≡ first_some (index_from s (k + length xs) ys) (index_from s k xs)
last_of_both s k [] ys =
    let same : k ≡ k + 0 = omega arith in
    ap (λ n. index_from s n ys) same ∙ sym (or_none (index_from s (k + 0) ys)) ∙ ap (first_some (index_from s (k + 0) ys)) (sym (no_last s k))
last_of_both s k (x ∷ xs) ys =
    let same : k + 1 + length xs ≡ k + suc (length xs) = omega arith in
    let own : Option ℕ = if x == s then Some k else None in
    last_of s k x (xs ++ ys)
    ∙ ap (λ o. first_some o own) (last_of_both s (k + 1) xs ys)
    ∙ in_turn (index_from s (k + 1 + length xs) ys) (index_from s (k + 1) xs) own
    ∙ ap (λ n. first_some (index_from s n ys) (first_some (index_from s (k + 1) xs) own)) same
    ∙ ap (first_some (index_from s (k + suc (length xs)) ys)) (sym (last_of s k x xs))

-- ---- of symbols by number

abbrev numbers_from : {X : Type 0} → (ℕ × X → Bool) → ℕ → List X → List ℕ
numbers_from p o xs = map (λ r. r.0) (filter p (enumerate_from o xs))

-- none has a lower number
lower_step : {X : Type 0} (p : ℕ × X → Bool) (o : ℕ) (y : X) (ys : List X) (s k : ℕ) (b : Bool) → p (o, y) ≡ b → s < o
    → ((n : ℕ) → index_from s n (numbers_from p (o + 1) ys) ≡ None) → index_from s k (numbers_from p o (y ∷ ys)) ≡ None
lower_step p o y ys s k true h lt none =
    let rest = filter p (enumerate_from (o + 1) ys) in
    ap (λ c. index_from s k (map (λ r. r.0) (if c then (o, y) ∷ rest else rest))) h
    ∙ last_of s k o (map (λ r. r.0) rest)
    ∙ ap (λ i. first_some i (if o == s then Some k else None)) (none (k + 1))
    ∙ none_or (if o == s then Some k else None)
    ∙ ap (λ c. if c then Some k else None) (not_equal o s (o == s) refl lt)
  where
    not_equal : (a b : ℕ) (c : Bool) → (a == b) ≡ c → b < a → (a == b) ≡ false
    not_equal a b true h lt = let e = eqb-true a b h in absurd (omega (arith, e, lt))
    not_equal a b false h lt = h
lower_step p o y ys s k false h lt none =
    let rest = filter p (enumerate_from (o + 1) ys) in
    ap (λ c. index_from s k (map (λ r. r.0) (if c then (o, y) ∷ rest else rest))) h ∙ none k

none_lower : {X : Type 0} (p : ℕ × X → Bool) (o : ℕ) (xs : List X) (s k : ℕ) → s < o → index_from s k (numbers_from p o xs) ≡ None
none_lower p o [] s k lt = no_last s k
none_lower p o (y ∷ ys) s k lt = lower_step p o y ys s k (p (o, y)) refl lt (λ n. none_lower p (o + 1) ys s n (omega (arith, lt)))

-- the first one is the symbol's own
own_step : {X : Type 0} (p : ℕ × X → Bool) (s k : ℕ) (x : X) (ys : List X) (b : Bool) → p (s, x) ≡ b
    → index_from s k (numbers_from p s (x ∷ ys)) ≡ (if p (s, x) then Some k else None)
own_step p s k x ys true h =
    let rest = filter p (enumerate_from (s + 1) ys) in
    ap (λ c. index_from s k (map (λ r. r.0) (if c then (s, x) ∷ rest else rest))) h
    ∙ last_of s k s (map (λ r. r.0) rest)
    ∙ ap (λ i. first_some i (if s == s then Some k else None)) (none_lower p (s + 1) ys s (k + 1) (omega arith))
    ∙ none_or (if s == s then Some k else None)
    ∙ ap (λ c. if c then Some k else None) (eq-eqb s s refl)
    ∙ ap (λ c. if c then Some k else None) (sym h)
own_step p s k x ys false h =
    let rest = filter p (enumerate_from (s + 1) ys) in
    ap (λ c. index_from s k (map (λ r. r.0) (if c then (s, x) ∷ rest else rest))) h
    ∙ none_lower p (s + 1) ys s k (omega arith)
    ∙ ap (λ c. if c then Some k else None) (sym h)

-- another one stands before it
other_step : {X : Type 0} (p : ℕ × X → Bool) (o s k n : ℕ) (y : X) (ys : List X) (b c : Bool) → p (o, y) ≡ b → o < s
    → ((m : ℕ) → index_from s m (numbers_from p (o + 1) ys) ≡ (if c then Some (m + n) else None))
    → index_from s k (numbers_from p o (y ∷ ys)) ≡ (if c then Some (k + (cond (p (o, y)) 1 0 + n)) else None)
other_step p o s k n y ys true c h lt found =
    let rest = filter p (enumerate_from (o + 1) ys) in
    let same : k + 1 + n ≡ k + (1 + n) = omega arith in
    ap (λ b. index_from s k (map (λ r. r.0) (if b then (o, y) ∷ rest else rest))) h
    ∙ last_of s k o (map (λ r. r.0) rest)
    ∙ ap (λ b. first_some (index_from s (k + 1) (map (λ r. r.0) rest)) (if b then Some k else None)) (not_same o s (o == s) refl lt)
    ∙ or_none (index_from s (k + 1) (map (λ r. r.0) rest))
    ∙ found (k + 1)
    ∙ ap (λ m. if c then Some m else None) same
    ∙ ap (λ b. if c then Some (k + (cond b 1 0 + n)) else None) (sym h)
other_step p o s k n y ys false c h lt found =
    let rest = filter p (enumerate_from (o + 1) ys) in
    let same : n ≡ 0 + n = omega arith in
    ap (λ b. index_from s k (map (λ r. r.0) (if b then (o, y) ∷ rest else rest))) h
    ∙ found k
    ∙ ap (λ m. if c then Some (k + m) else None) same
    ∙ ap (λ b. if c then Some (k + (cond b 1 0 + n)) else None) (sym h)

index_at : {X : Type 0} (p : ℕ × X → Bool) (o : ℕ) (xs : List X) (j s k : ℕ) (x : X) → s ≡ o + j → slice_get xs j ≡ Some x
    → index_from s k (numbers_from p o xs) ≡ (if p (s, x) then Some (k + count_by p (enumerate_from o (take j xs))) else None)
index_at p o [] j s k x number at = cc
index_at {X = X} p o (y ∷ ys) zero s k x number at =
    let same : y ≡ x = cc in
    let first : o ≡ s = omega (arith, number) in
    let none : k ≡ k + 0 = omega arith in
    ap (λ n. index_from s k (numbers_from p n (y ∷ ys))) first
    ∙ ap (λ (z : X). index_from s k (numbers_from p s (z ∷ ys))) same
    ∙ own_step p s k x ys (p (s, x)) refl
    ∙ ap (λ m. if p (s, x) then Some m else None) none
index_at p o (y ∷ ys) (suc j) s k x number at =
    let later : s ≡ o + 1 + j = omega (arith, number) in
    let n = count_by p (enumerate_from (o + 1) (take j ys)) in
    other_step p o s k n y ys (p (o, y)) (p (s, x)) refl (omega (arith, later)) (λ m. index_at p (o + 1) ys j s m x later at)
    ∙ ap (λ m. if p (s, x) then Some (k + m) else None) (sym (sum_by-cons (λ r. cond (p r) 1 0) (o, y) (enumerate_from (o + 1) (take j ys))))

-- ---- the table

abbrev rows : LinkInput → List (ℕ × (NumberedFile × InputSymbol))
rows link = enumerate_from 0 (numbered_symbols link.groups)

-- those of symbols that pass are as many
many : (p : ℕ × (NumberedFile × InputSymbol) → Bool) (link : LinkInput) → length (numbers_from p 0 (numbered_symbols link.groups)) ≡ count_by p (rows link)
many p link = length-map (filter p (rows link)) (λ r. r.0) ∙ length-filter p (rows link)

-- a symbol's number, where there is a table
in_table : (link : LinkInput) (live : Live) (told : List Bool) (s : ℕ) (f : NumberedFile) (x : InputSymbol) (numbers : DynamicNumbers)
    → is_loaded_dynamically link.options.output ≡ true → slice_get (numbered_symbols link.groups) s ≡ Some (f, x) → AreNumbersAt link live told s numbers
    → index_from s 1 (numbers_where (is_dynamic_symbol link live told) link ++ numbers_where (is_export live) link)
    ≡ first_some (if is_export live f (s, x) then Some numbers.export else None) (if is_dynamic_symbol link live told f (s, x) then Some numbers.dynamic else None)
in_table link live told s f x numbers loaded at stand =
    let N = numbered_symbols link.groups in
    let p = is_dynamic_one link live told in
    let q = is_exported_one live in
    let ds = numbers_from p 0 N in
    let es = numbers_from q 0 N in
    let dynamics : numbers_where (is_dynamic_symbol link live told) link ≡ ds = by_number (is_dynamic_symbol link live told) (λ y. y.0) link in
    let exports : numbers_where (is_export live) link ≡ es = by_number (is_export live) (λ y. y.0) link in
    let number : s ≡ 0 + s = omega arith in
    let here : 1 + length ds + count_by q (symbols_before_it link s) ≡ numbers.export = omega (arith, many p link, stand.export loaded) in
    ap (λ ts. index_from s 1 (ts ++ numbers_where (is_export live) link)) dynamics
    ∙ ap (λ ts. index_from s 1 (ds ++ ts)) exports
    ∙ last_of_both s 1 ds es
    ∙ ap (λ o. first_some o (index_from s 1 ds)) (index_at q 0 N s s (1 + length ds) (f, x) number at)
    ∙ ap (first_some (if q (s, (f, x)) then Some (1 + length ds + count_by q (symbols_before_it link s)) else None)) (index_at p 0 N s s 1 (f, x) number at)
    ∙ ap (λ n. first_some (if q (s, (f, x)) then Some n else None) (if p (s, (f, x)) then Some (1 + count_by p (symbols_before_it link s)) else None)) here
    ∙ ap (λ n. first_some (if q (s, (f, x)) then Some numbers.export else None) (if p (s, (f, x)) then Some n else None)) (sym (stand.dynamic loaded))

pub number_is : (link : LinkInput) (live : Live) (told : List Bool) (s : ℕ) (f : NumberedFile) (x : InputSymbol) (numbers : DynamicNumbers)
    → is_loaded_dynamically link.options.output ≡ true → slice_get (numbered_symbols link.groups) s ≡ Some (f, x) → AreNumbersAt link live told s numbers
    → first_some (if is_export live f (s, x) then Some numbers.export else None) (if is_dynamic_symbol link live told f (s, x) then Some numbers.dynamic else None)
    ≡ dynamic_index (dynamic_table link live told) s
number_is link live told s f x numbers loaded at stand =
    sym (in_table link live told s f x numbers loaded at stand)
    ∙ ap (λ b. index_from s 1 (if b then numbers_where (is_dynamic_symbol link live told) link ++ numbers_where (is_export live) link else [])) (sym loaded)

-- without a table there is none
pub no_number : (link : LinkInput) (live : Live) (told : List Bool) (s : ℕ) → is_loaded_dynamically link.options.output ≡ false
    → None ≡ dynamic_index (dynamic_table link live told) s
no_number link live told s not_loaded =
    sym (no_last s 1)
    ∙ ap (λ b. index_from s 1 (if b then numbers_where (is_dynamic_symbol link live told) link ++ numbers_where (is_export live) link else [])) (sym not_loaded)

-- and nothing is said of the counters
pub no_numbers : (link : LinkInput) (live : Live) (told : List Bool) (s : ℕ) (numbers : DynamicNumbers) → is_loaded_dynamically link.options.output ≡ false
    → AreNumbersAt link live told s numbers
no_numbers link live told s numbers not_loaded = record {
  dynamic = λ loaded. absurd (true≢false (sym loaded ∙ not_loaded));
  export = λ loaded. absurd (true≢false (sym loaded ∙ not_loaded));
}

-- ---- one symbol more

more_of : (p : ℕ × (NumberedFile × InputSymbol) → Bool) (link : LinkInput) (s : ℕ) (f : NumberedFile) (x : InputSymbol) → slice_get (numbered_symbols link.groups) s ≡ Some (f, x)
    → count_by p (symbols_before_it link (s + 1)) ≡ count_by p (symbols_before_it link s) + (if p (s, (f, x)) then 1 else 0)
more_of p link s f x at =
    let N = numbered_symbols link.groups in
    let none : 0 + s ≡ s = omega arith in
    sum_more (λ r. cond (p r) 1 0) 0 s N (f, x) (f, x) (slice_get_within N s (f, x) at) (sym (get_or_from_slice_get N s (f, x) (f, x) at))
    ∙ ap (λ k. count_by p (symbols_before_it link s) + cond (p (k, (f, x))) 1 0) none

pub numbers_move : (link : LinkInput) (live : Live) (told : List Bool) (s : ℕ) (f : NumberedFile) (x : InputSymbol) (old new : DynamicNumbers)
    → is_loaded_dynamically link.options.output ≡ true → slice_get (numbered_symbols link.groups) s ≡ Some (f, x) → AreNumbersAt link live told s old
    → new.dynamic ≡ old.dynamic + (if is_dynamic_symbol link live told f (s, x) then 1 else 0)
    → new.export ≡ old.export + (if is_export live f (s, x) then 1 else 0)
    → AreNumbersAt link live told (s + 1) new
numbers_move link live told s f x old new loaded at stand d e = record {
  dynamic = λ _. omega (arith, d, stand.dynamic loaded, more_of (is_dynamic_one link live told) link s f x at);
  export = λ _. omega (arith, e, stand.export loaded, more_of (is_exported_one live) link s f x at);
}

-- ---- how many

pub few_rows : (link : LinkInput) → IsWellFormed link → length (numbered_symbols link.groups) ≤ 16777216
unfolding counted limit_of
few_rows link good =
    let few : symbol_count (all_files link.groups) ≤ 16777216 = good.within limited.Symbols in
    omega (arith, numbered_count link.groups, few)

few_counted : (p : ℕ × (NumberedFile × InputSymbol) → Bool) (link : LinkInput) → IsWellFormed link → count_by p (rows link) ≤ 16777216
few_counted p link good = omega (arith, count_by-le-length p (rows link), length-enumerate_from 0 (numbered_symbols link.groups), few_rows link good)

few_before : (p : ℕ × (NumberedFile × InputSymbol) → Bool) (link : LinkInput) (s : ℕ) → IsWellFormed link → count_by p (symbols_before_it link s) ≤ 16777216
few_before p link s good =
    let N = numbered_symbols link.groups in
    omega (arith, count_by-le-length p (symbols_before_it link s), length-enumerate_from 0 (take s N), length-take s N, few_rows link good)

pub numbers_few : (link : LinkInput) (live : Live) (told : List Bool) (s : ℕ) (numbers : DynamicNumbers) → is_loaded_dynamically link.options.output ≡ true → IsWellFormed link
    → AreNumbersAt link live told s numbers → (numbers.dynamic < 4294967295) × (numbers.export < 4294967295)
numbers_few link live told s numbers loaded good stand =
    let d = few_before (is_dynamic_one link live told) link s good in
    let e = few_before (is_exported_one live) link s good in
    let all = few_counted (is_dynamic_one link live told) link good in
    (omega (arith, d, stand.dynamic loaded), omega (arith, e, all, stand.export loaded))

-- ---- at first

pub count_is : (sizes : TableSizes) (link : LinkInput) (live : Live) (told : List Bool) (shares : List FileShare) (prelude : FileShare)
    → shares ≡ all_brought_first sizes link live → prelude ≡ all_brought_late sizes link live told
    → (plus (sum_of shares) prelude).dynamic.count ≡ told_sum (count_by (is_dynamic_one link live told) (rows link))
count_is sizes link live told shares prelude h i =
    let one : ℕ × InputSymbol → TableEntry = entry_of 1 in
    let each : List Bool → NumberedFile → List TableEntry = λ told f. map one (filter (is_dynamic_symbol link live told f) (symbols_by_number link f)) in
    let sum = late_whole_total sizes link live (λ s. s.dynamic.count) (λ marks. 0) _ each (are_dynamic_counts sizes link live) (dynamic_bytes link live one) told in
    let list : flat_map (each told) (numbered_files link.groups) ≡ map (value_of one) (filter (is_dynamic_one link live told) (rows link))
    = by_number (is_dynamic_symbol link live told) one link in
    ap (λ (xs : List FileShare). (plus (sum_of xs) prelude).dynamic.count) h
    ∙ ap (λ (y : FileShare). (plus (sum_of (all_brought_first sizes link live)) y).dynamic.count) i
    ∙ sum
    ∙ ap (λ es. told_sum (entry_bytes es)) list
    ∙ ap told_sum (sum_passing (is_dynamic_one link live told) (value_of one) (rows link))

pub numbers_begin : (link : LinkInput) (live : Live) (told : List Bool) (count : ℕ) (numbers : DynamicNumbers) → IsWellFormed link
    → count ≡ told_sum (count_by (is_dynamic_one link live told) (rows link)) → numbers.dynamic ≡ 1 → (count ≤ 16777216 → numbers.export ≡ count + 1)
    → AreNumbersAt link live told 0 numbers
numbers_begin link live told count numbers good h d e =
    let all = few_counted (is_dynamic_one link live told) link good in
    let same : count ≡ count_by (is_dynamic_one link live told) (rows link) = omega (arith, h, all) in
    record {
      dynamic = λ _. omega (arith, d);
      export = λ _. omega (arith, e (omega (arith, same, all)), same);
    }
