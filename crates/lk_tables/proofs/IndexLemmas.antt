-- The number of a symbol in the dynamic symbol table is the place of its last entry there.
use Rattle.std.proofs.Common.{◌≡◌, ℕ, zero, suc, ◌+◌, ◌<◌, ◌==◌, Bool, true, false, if◌then◌else◌, List, [], ◌∷◌, ◌++◌, Option, Some, None, filter, map, refl, sym, ap, ◌∙◌, subst, arith}
use Rattle.std.specs.List.{flat_map, slice_get}
use Rattle.std.proofs.lemmas.Bool.{eq-eqb, eqb-true}
use Rattle.std.proofs.lemmas.List.{map-append}
use Rattle.std.proofs.lemmas.List.Concat.{flat_map-cons}
use Rattle.lk_link.specs.declared.link.LinkInput.{LinkInput}
use Rattle.lk_link.specs.declared.symbol.InputSymbol.{InputSymbol}
use Rattle.lk_link.specs.Files.{first_some}
use Rattle.lk_link.specs.Inputs.{NumberedFile, numbered_files}
use Rattle.lk_link.specs.OutputKinds.{is_loaded_dynamically}
use Rattle.lk_link.proofs.Elements.{map_at, map_in}
use Rattle.lk_live.specs.declared.live.Live.{Live}
use Rattle.lk_tables.specs.Dynamic.{index_from, is_dynamic_symbol, is_export, numbers_where}
use Rattle.lk_tables.specs.SymbolTable.{FirstEntry, SymbolEntry, TableEntry, entry_of, first_entry, symbols_by_number}
use Rattle.lk_tables.specs.TableLaws.{HasLastEntry, HasNoEntry, IndexesNameEntries}
use Rattle.lk_tables.specs.TableLists.{file_dynamic_entries, file_export_entries}
use Rattle.lk_tables.proofs.NumberLemmas.{last_of, no_last}

-- ---- the last place of a number

record IsLastPlace (s : ℕ) (n : ℕ) (k : ℕ) (ts : List ℕ) : Type 0 where
  place : ℕ
  behind : k ≡ n + place
  there : slice_get ts place ≡ Some s
  last : (j : ℕ) → place < j → slice_get ts j ≡ Some s → ⊥

abbrev IsNowhere : ℕ → List ℕ → Type 0
IsNowhere s ts = (j : ℕ) → slice_get ts j ≡ Some s → ⊥

-- what an answer says
abbrev Says : ℕ → ℕ → List ℕ → Option ℕ → Type 0
Says s n ts (Some k) = IsLastPlace s n k ts
Says s n ts None = IsNowhere s ts

one_more : (s n k t : ℕ) (ts : List ℕ) → IsLastPlace s (n + 1) k ts → IsLastPlace s n k (t ∷ ts)
one_more s n k t ts h = record {
  place = suc h.place;
  behind = omega (arith, h.behind);
  there = h.there;
  last = more_last;
}
  where
    more_last : (j : ℕ) → suc h.place < j → slice_get (t ∷ ts) j ≡ Some s → ⊥
    more_last zero lt at = omega (arith, lt)
    more_last (suc j) lt at = h.last j (omega (arith, lt)) at

own_place_first : (s n t : ℕ) (ts : List ℕ) → (t == s) ≡ true → IsNowhere s ts → IsLastPlace s n n (t ∷ ts)
own_place_first s n t ts same none = record {
  place = 0;
  behind = omega arith;
  there = ap Some (eqb-true t s same);
  last = first_last;
}
  where
    first_last : (j : ℕ) → 0 < j → slice_get (t ∷ ts) j ≡ Some s → ⊥
    first_last zero lt at = omega (arith, lt)
    first_last (suc j) lt at = none j at

nowhere_more : (s t : ℕ) (ts : List ℕ) → (t == s) ≡ false → IsNowhere s ts → IsNowhere s (t ∷ ts)
nowhere_more s t ts other none zero at =
    let same : t ≡ s = cc in
    let equal : (t == s) ≡ true = eq-eqb t s same in
    cc
nowhere_more s t ts other none (suc j) at = none j at

says_step : (s n t : ℕ) (ts : List ℕ) (i : Option ℕ) (b : Bool) → (t == s) ≡ b → Says s (n + 1) ts i
    → Says s n (t ∷ ts) (first_some i (if b then Some n else None))
unfolding first_some
says_step s n t ts (Some k) b h is = one_more s n k t ts is
says_step s n t ts None true h is = own_place_first s n t ts h is
says_step s n t ts None false h is = nowhere_more s t ts h is

says : (s n : ℕ) (ts : List ℕ) → Says s n ts (index_from s n ts)
says s n [] = subst (Says s n []) (sym (no_last s n)) (λ j at. cc)
says s n (t ∷ ts) =
    subst (Says s n (t ∷ ts)) (sym (last_of s n t ts))
    (says_step s n t ts (index_from s (n + 1) ts) (t == s) refl (says s (n + 1) ts))

-- ---- the table's entries are those of its numbers

abbrev entry_at : ℕ → ℕ → TableEntry
entry_at bytes t = record { owner = SymbolEntry t; bytes = bytes }

by_entry : (bytes : ℕ) (qs : List (ℕ × InputSymbol)) → map (entry_of bytes) qs ≡ map (entry_at bytes) (map (λ q. q.0) qs)
by_entry bytes [] = refl
by_entry bytes (q ∷ qs) = ap (λ es. entry_of bytes q ∷ es) (by_entry bytes qs)

of_all : (bytes : ℕ) (g : NumberedFile → List (ℕ × InputSymbol)) (files : List NumberedFile)
    → flat_map (λ f. map (entry_of bytes) (g f)) files ≡ map (entry_at bytes) (flat_map (λ f. map (λ q. q.0) (g f)) files)
of_all bytes g [] = refl
of_all bytes g (f ∷ files) =
    let numbers : List ℕ = map (λ q. q.0) (g f) in
    let others : List ℕ = flat_map (λ h. map (λ q. q.0) (g h)) files in
    flat_map-cons (λ h. map (entry_of bytes) (g h)) f files
    ∙ ap (λ es. es ++ flat_map (λ h. map (entry_of bytes) (g h)) files) (by_entry bytes (g f))
    ∙ ap (λ es. map (entry_at bytes) numbers ++ es) (of_all bytes g files)
    ∙ sym (map-append (entry_at bytes) numbers others)
    ∙ ap (map (entry_at bytes)) (sym (flat_map-cons (λ h. map (λ q. q.0) (g h)) f files))

table_entries : (bytes : ℕ) (link : LinkInput) (live : Live) (told : List Bool)
    → flat_map (file_dynamic_entries bytes link live told) (numbered_files link.groups) ++ flat_map (file_export_entries bytes link live) (numbered_files link.groups)
    ≡ map (entry_at bytes) (numbers_where (is_dynamic_symbol link live told) link ++ numbers_where (is_export live) link)
table_entries bytes link live told =
    let files = numbered_files link.groups in
    let ds = numbers_where (is_dynamic_symbol link live told) link in
    let es = numbers_where (is_export live) link in
    ap (λ xs. xs ++ flat_map (file_export_entries bytes link live) files) (of_all bytes (λ f. filter (is_dynamic_symbol link live told f) (symbols_by_number link f)) files)
    ∙ ap (λ xs. map (entry_at bytes) ds ++ xs) (of_all bytes (λ f. filter (is_export live f) (symbols_by_number link f)) files)
    ∙ sym (map-append (entry_at bytes) ds es)

-- ---- the law

same_owner : (bytes s t : ℕ) → entry_at bytes t ≡ entry_at bytes s → t ≡ s
same_owner bytes s t h = let owners : SymbolEntry t ≡ SymbolEntry s = ap (λ (e : TableEntry). e.owner) h in cc

named : (s bytes : ℕ) (own : TableEntry) (ts : List ℕ) (k : ℕ) → (own ≡ entry_at bytes s → ⊥) → IsLastPlace s 1 k ts
    → HasLastEntry s k bytes (own ∷ map (entry_at bytes) ts)
named s bytes own ts k other h = record { there = here; last = later }
  where
    place : k ≡ suc h.place
    place = omega (arith, h.behind)

    here : slice_get (own ∷ map (entry_at bytes) ts) k ≡ Some (entry_at bytes s)
    here = ap (slice_get (own ∷ map (entry_at bytes) ts)) place ∙ map_in (entry_at bytes) ts h.place s h.there

    later : (j : ℕ) → k < j → slice_get (own ∷ map (entry_at bytes) ts) j ≡ Some (entry_at bytes s) → ⊥
    later zero lt at = omega (arith, lt)
    later (suc j) lt at =
        let from = map_at (entry_at bytes) ts j (entry_at bytes s) at in
        let same : from.0 ≡ s = same_owner bytes s from.0 from.2 in
        h.last j (omega (arith, lt, place)) (from.1 ∙ ap Some same)

unnamed : (s bytes : ℕ) (own : TableEntry) (ts : List ℕ) → (own ≡ entry_at bytes s → ⊥) → IsNowhere s ts → HasNoEntry s bytes (own ∷ map (entry_at bytes) ts)
unnamed s bytes own ts other none zero at = other cc
unnamed s bytes own ts other none (suc j) at =
    let from = map_at (entry_at bytes) ts j (entry_at bytes s) at in
    none j (from.1 ∙ ap Some (same_owner bytes s from.0 from.2))

not_own : (s bytes : ℕ) → first_entry bytes ≡ entry_at bytes s → ⊥
not_own s bytes h = let owners : FirstEntry ≡ SymbolEntry s = ap (λ (e : TableEntry). e.owner) h in cc

pub indexes_name_entries : IndexesNameEntries
indexes_name_entries sizes link live told emitted active s =
    by_output (is_loaded_dynamically link.options.output)
    (sym (ap (λ es. first_entry sizes.symbol_entry ∷ es) (table_entries sizes.symbol_entry link live told)))
  where
    bytes : ℕ
    bytes = sizes.symbol_entry

    ts : List ℕ
    ts = numbers_where (is_dynamic_symbol link live told) link ++ numbers_where (is_export live) link

    es : List TableEntry
    es = flat_map (file_dynamic_entries bytes link live told) (numbered_files link.groups) ++ flat_map (file_export_entries bytes link live) (numbered_files link.groups)

    by_answer : (i : Option ℕ) → index_from s 1 ts ≡ i → Says s 1 ts i → first_entry bytes ∷ map (entry_at bytes) ts ≡ first_entry bytes ∷ es
        → ((k : ℕ) → index_from s 1 ts ≡ Some k → HasLastEntry s k bytes (first_entry bytes ∷ es)) × (index_from s 1 ts ≡ None → HasNoEntry s bytes (first_entry bytes ∷ es))
    by_answer (Some k) h is same = (
      λ j g. let one : j ≡ k = cc in subst (λ m. HasLastEntry s m bytes (first_entry bytes ∷ es)) (sym one)
          (subst (HasLastEntry s k bytes) same (named s bytes (first_entry bytes) ts k (not_own s bytes) is)),
      λ g. cc,
    )
    by_answer None h is same = (λ j g. cc, λ g. subst (HasNoEntry s bytes) same (unnamed s bytes (first_entry bytes) ts (not_own s bytes) is))

    by_output : (b : Bool) → first_entry bytes ∷ map (entry_at bytes) ts ≡ first_entry bytes ∷ es
        → ((k : ℕ) → index_from s 1 (if b then ts else []) ≡ Some k → HasLastEntry s k bytes (if b then first_entry bytes ∷ es else []))
        × (index_from s 1 (if b then ts else []) ≡ None → HasNoEntry s bytes (if b then first_entry bytes ∷ es else []))
    by_output true same = by_answer (index_from s 1 ts) refl (says s 1 ts) same
    by_output false same = (λ k g. absurd (none_there k (no_last s 1) g), λ g j at. cc)
      where
        none_there : (k : ℕ) → index_from s 1 [] ≡ None → index_from s 1 [] ≡ Some k → ⊥
        none_there k h g = cc
