-- The bytes of a part are those of the tables for which it is named.
use Rattle.std.proofs.Common.{◌≡◌, ℕ, ◌+◌, ◌<◌, Bool, true, false, if◌then◌else◌, List, [], ◌∷◌, Option, map, sum_by, get_or, take, length, refl, sym, ap, ◌∙◌, arith}
use Rattle.std.specs.List.{flat_map, zip}
use Rattle.std.proofs.lemmas.List.{take_more}
use Rattle.std.proofs.lemmas.List.Concat.{flat_map-cons}
use Rattle.std.proofs.lemmas.List.Sums.{sum_by-append, sum_by-cons, sum_by_push}
use Rattle.std.proofs.lemmas.Slice.Zip.{get_or-zip}
use Rattle.lk_link.specs.declared.plan.NamedParts.{NamedParts}
use Rattle.lk_link.specs.PartRules.{is_part, table_parts}
use Rattle.lk_tables.specs.declared.totals.TableTotals.{TableTotals}
use Rattle.lk_tables.specs.HeaderParts.{told_sum}
use Rattle.lk_tables.specs.SymbolTable.{TableEntry, entry_bytes}
use Rattle.lk_tables.specs.TableLists.{TableLists, all_lists, entries_if, table_bytes}
use Rattle.lk_tables.specs.Totals.{totals_of}
use Rattle.lk_tables.specs.TotalSteps.{all_totals, bytes_if}
use Rattle.lk_tables.proofs.ShareSums.{told_again, told_twice}

told_if : (b : Bool) (l : List TableEntry) → told_sum (if b then told_sum (entry_bytes l) else 0) ≡ told_sum (entry_bytes (if b then l else []))
told_if true l = told_again (entry_bytes l)
told_if false l = refl

-- table by table
told_tables : (p : ℕ) (ns : List (Option ℕ)) (ls : List (List TableEntry))
    → told_sum (sum_by (bytes_if p) (zip ns (map (λ l. told_sum (entry_bytes l)) ls))) ≡ told_sum (entry_bytes (flat_map (entries_if p) (zip ns ls)))
told_tables p [] ls = refl
told_tables p (n ∷ ns) [] = refl
told_tables p (n ∷ ns) (l ∷ ls) =
    let behind = zip ns (map (λ k. told_sum (entry_bytes k)) ls) in
    let here = bytes_if p (n, told_sum (entry_bytes l)) in
    let bytes : entry_bytes (flat_map (entries_if p) ((n, l) ∷ zip ns ls)) ≡ entry_bytes (entries_if p (n, l)) + entry_bytes (flat_map (entries_if p) (zip ns ls))
    = ap entry_bytes (flat_map-cons (entries_if p) (n, l) (zip ns ls)) ∙ sum_by-append (λ e. e.bytes) (entries_if p (n, l)) (flat_map (entries_if p) (zip ns ls)) in
    ap told_sum (sum_by-cons (bytes_if p) (n, told_sum (entry_bytes l)) behind)
    ∙ sym (told_twice here (sum_by (bytes_if p) behind))
    ∙ ap (λ k. told_sum (k + told_sum (sum_by (bytes_if p) behind))) (told_if (is_part p n) l)
    ∙ ap (λ k. told_sum (told_sum (entry_bytes (entries_if p (n, l))) + k)) (told_tables p ns ls)
    ∙ told_twice (entry_bytes (entries_if p (n, l))) (entry_bytes (flat_map (entries_if p) (zip ns ls)))
    ∙ ap told_sum (sym bytes)

-- all of them
pub told_parts : (named : NamedParts) (totals : TableTotals) (lists : TableLists) (p : ℕ) → totals ≡ totals_of lists
    → told_sum (sum_by (bytes_if p) (zip (table_parts named) (all_totals totals))) ≡ told_sum (table_bytes named lists p)
told_parts named totals lists p h =
    ap (λ (t : TableTotals). told_sum (sum_by (bytes_if p) (zip (table_parts named) (all_totals t)))) h ∙ told_tables p (table_parts named) (all_lists lists)

-- one table more
pub part_more : {X : Type 0} (f : X × ℕ → ℕ) (ns : List X) (bs : List ℕ) (i : ℕ) (x : X) → length (zip ns bs) ≡ 11 → length ns ≡ 11 → length bs ≡ 11 → i < 11
    → x ≡ get_or ns i x → sum_by f (take (i + 1) (zip ns bs)) ≡ sum_by f (take i (zip ns bs)) + f (x, get_or bs i 0)
part_more f ns bs i x all first second lt read =
    let there = get_or-zip ns bs i (x, 0) (omega (arith, first, lt)) (omega (arith, second, lt)) in
    ap (sum_by f) (take_more (zip ns bs) i (x, 0) (omega (arith, all, lt)))
    ∙ sum_by_push f (take i (zip ns bs)) (get_or (zip ns bs) i (x, 0))
    ∙ ap (λ q. sum_by f (take i (zip ns bs)) + f q) there
    ∙ ap (λ y. sum_by f (take i (zip ns bs)) + f (y, get_or bs i 0)) (sym read)
