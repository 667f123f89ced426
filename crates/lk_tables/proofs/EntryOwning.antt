-- Each entry of a table of symbols is the table's own, which stands first, or that of a symbol that has one there.
use Rattle.std.proofs.Common.{◌≡◌, ℕ, zero, suc, ◌<◌, ◌&&◌, ◌||◌, not, Bool, true, false, if◌then◌else◌, List, [], ◌∷◌, ◌++◌, Option, Some, None, filter, length, map, refl, sym, ap, ◌∙◌, subst, inl, inr, arith}
use Rattle.std.specs.List.{enumerate_from, flat_map, slice_get}
use Rattle.std.proofs.lemmas.List.Concat.{flat_map-cons}
use Rattle.std.proofs.lemmas.Option.{slice_get_within}
use Rattle.lk_link.specs.declared.file.InputFile.{InputFile}
use Rattle.lk_link.specs.declared.ids.FileId.{FileId}
use Rattle.lk_link.specs.declared.link.LinkInput.{LinkInput}
use Rattle.lk_link.specs.declared.plan.PlanSection.{PlanSection}
use Rattle.lk_link.specs.declared.symbol.InputSymbol.{InputSymbol}
use Rattle.lk_link.specs.FileKinds.{is_prelude}
use Rattle.lk_link.specs.Inputs.{NumberedFile, group_files, numbered_file, numbered_files}
use Rattle.lk_link.specs.Marks.{is_marked}
use Rattle.lk_link.specs.OutputKinds.{is_loaded_dynamically, is_partial}
use Rattle.lk_link.specs.Rules.{begins_with_prelude}
use Rattle.lk_link.specs.WellFormed.{IsWellFormed}
use Rattle.lk_link.proofs.Elements.{append_at, filter_at, flat_map_at, flat_map_in, map_at, numbered_at}
use Rattle.lk_live.specs.declared.live.Live.{Live}
use Rattle.lk_reach.specs.Units.{numbered_symbols}
use Rattle.lk_reach.proofs.Numbered.{file_at, file_place}
use Rattle.lk_tables.specs.Dynamic.{is_dynamic_symbol, is_export}
use Rattle.lk_tables.specs.EntryOwners.{AreOfSection, AreOfSymbol, AreOwners, BeginsWithOwn, EachHasOwner, EntriesAreOwned, TablesBeginWithOwn, name_size, no_other, own_if}
use Rattle.lk_tables.specs.ShareWords.{has_entry_there}
use Rattle.lk_tables.specs.Singletons.{singletons, told_sections}
use Rattle.lk_tables.specs.SymbolEntries.{allocated, is_resolved}
use Rattle.lk_tables.specs.SymbolTable.{FileEntry, FirstEntry, InputEntry, SectionEntry, SegmentEntry, SymbolEntry, TableEntry, TableOwner, entry_of, first_entry, is_local_entry, local_start, name_of, section_entry, section_symbols, singleton_entry, symbols_by_number, table_start, table_symbols}
use Rattle.lk_tables.specs.TableLists.{file_dynamic_entries, file_dynamic_names, file_export_entries, file_export_names}
use Rattle.lk_tables.proofs.BySymbol.{by_number, passes_of, value_of}
use Rattle.lk_tables.proofs.OwnCounts.{same_flat}
use Rattle.lk_tables.proofs.TableSums.{passing_twice}
use Rattle.lk_tables.proofs.TotalLemmas.{symbols_there}

-- ---- entries of symbols

-- the entries of the symbols that pass, with so many bytes each, file by file
abbrev of_passing : LinkInput → (NumberedFile → ℕ × InputSymbol → Bool) → (ℕ × InputSymbol → ℕ) → NumberedFile → List TableEntry
of_passing link p n f = map (λ q. entry_of (n q) q) (filter (p f) (symbols_by_number link f))

-- what entries of others have to be
abbrev Others : Type 1
Others = ℕ → TableOwner → Type 0

each_symbol : (link : LinkInput) (own : Option ℕ) (others : Others) (p : NumberedFile → ℕ × InputSymbol → Bool) (n : ℕ × InputSymbol → ℕ)
    → EachHasOwner link own others p n (flat_map (of_passing link p n) (numbered_files link.groups))
each_symbol link own others p n k e h =
    let N = numbered_symbols link.groups in
    let g : ℕ × InputSymbol → TableEntry = λ q. entry_of (n q) q in
    let whole = ap (λ es. slice_get es k) (sym (by_number p g link)) ∙ h in
    let from = map_at (value_of g) (filter (passes_of p) (enumerate_from 0 N)) k e whole in
    let some = filter_at (passes_of p) (enumerate_from 0 N) k from.0 from.1 in
    let number = numbered_at 0 N some.0 from.0 some.1 in
    let place : from.0.0 ≡ some.0 = omega (arith, number.0) in
    let is : AreOfSymbol link p n from.0.0 (n (from.0.0, from.0.1.1)) = record {
      file = from.0.1.0;
      symbol = from.0.1.1;
      there = ap (slice_get N) place ∙ number.1;
      passing = some.2;
      taken = refl;
    } in
    subst (λ (x : TableEntry). AreOwners link own others p n x.bytes x.owner) from.2 is

-- the same entries, said otherwise
each_alike : (link : LinkInput) (own : Option ℕ) (others : Others) (p : NumberedFile → ℕ × InputSymbol → Bool) (n : ℕ × InputSymbol → ℕ) (g : NumberedFile → List TableEntry)
    → ((f : NumberedFile) → g f ≡ of_passing link p n f) → EachHasOwner link own others p n (flat_map g (numbered_files link.groups))
each_alike link own others p n g same =
    subst (EachHasOwner link own others p n) (sym (same_flat g (of_passing link p n) (numbered_files link.groups) same)) (each_symbol link own others p n)

-- behind what a table has itself
each_behind : (link : LinkInput) (own : Option ℕ) (others : Others) (p : NumberedFile → ℕ × InputSymbol → Bool) (n : ℕ × InputSymbol → ℕ) (start g : NumberedFile → List TableEntry)
    → ((f : NumberedFile) → EachHasOwner link own others p n (start f)) → EachHasOwner link own others p n (flat_map g (numbered_files link.groups))
    → EachHasOwner link own others p n (flat_map (λ f. start f ++ g f) (numbered_files link.groups))
each_behind link own others p n start g first rest k e h =
    let at = flat_map_at (λ f. start f ++ g f) (numbered_files link.groups) k e h in
    elim (append_at (start at.from) (g at.from) at.inner e at.gives) [
      | inl own_one ↦ first at.from at.inner e own_one
      | inr other ↦
          let whole = flat_map_in g (numbered_files link.groups) at.outer other.0 at.from e at.there other.2 in
          rest whole.0 e whole.1
    ]

-- of two kinds
each_both : (link : LinkInput) (own : Option ℕ) (others : Others) (p : NumberedFile → ℕ × InputSymbol → Bool) (n : ℕ × InputSymbol → ℕ) (xs ys : List TableEntry)
    → EachHasOwner link own others p n xs → EachHasOwner link own others p n ys → EachHasOwner link own others p n (xs ++ ys)
each_both link own others p n xs ys left right k e h = elim (append_at xs ys k e h) [ inl a ↦ left k e a | inr b ↦ right b.0 e b.2 ]

-- where more pass
more_pass : (link : LinkInput) (own : Option ℕ) (others : Others) (p q : NumberedFile → ℕ × InputSymbol → Bool) (n : ℕ × InputSymbol → ℕ) (xs : List TableEntry)
    → ((f : NumberedFile) (x : ℕ × InputSymbol) → p f x ≡ true → q f x ≡ true) → EachHasOwner link own others p n xs → EachHasOwner link own others q n xs
more_pass link own others p q n xs more each k e h = by_owner e.owner (each k e h)
  where
    by_owner : (o : TableOwner) → AreOwners link own others p n e.bytes o → AreOwners link own others q n e.bytes o
    by_owner FirstEntry is = is
    by_owner (SymbolEntry s) is = record { file = is.file; symbol = is.symbol; there = is.there; passing = more is.file (s, is.symbol) is.passing; taken = is.taken }
    by_owner FileEntry is = is
    by_owner (SegmentEntry i) is = is
    by_owner (SectionEntry i) is = is
    by_owner (InputEntry f i) is = is

-- ---- the symbol table

nothing_there : {P : Type 0} (k : ℕ) (e : TableEntry) → slice_get [] k ≡ Some e → P
nothing_there k e h = absurd (cc)

first_of : (link : LinkInput) (others : Others) (p : NumberedFile → ℕ × InputSymbol → Bool) (n : ℕ × InputSymbol → ℕ) (bytes : ℕ) (xs : List TableEntry)
    → EachHasOwner link (Some bytes) others p n xs → EachHasOwner link (Some bytes) others p n (first_entry bytes ∷ xs)
first_of link others p n bytes xs each zero e h =
    let same : first_entry bytes ≡ e = cc in
    subst (λ (x : TableEntry). AreOwners link (Some bytes) others p n x.bytes x.owner) same refl
first_of link others p n bytes xs each (suc k) e h = each k e h

-- what a table has itself, in the prelude where there is one
started : (link : LinkInput) (others : Others) (p : NumberedFile → ℕ × InputSymbol → Bool) (n : ℕ × InputSymbol → ℕ) (a b : Bool) (bytes : ℕ) (rest : List TableEntry)
    → (b ≡ true → EachHasOwner link (Some bytes) others p n rest) → EachHasOwner link (own_if b bytes) others p n (if a && b then first_entry bytes ∷ rest else [])
started link others p n true true bytes rest each = first_of link others p n bytes rest (each refl)
started link others p n true false bytes rest each = λ k e h. nothing_there k e h
started link others p n false b bytes rest each = λ k e h. nothing_there k e h

-- symbols of sections
each_section : (link : LinkInput) (live : Live) (told : List Bool) (own : Option ℕ) (p : NumberedFile → ℕ × InputSymbol → Bool) (entry : ℕ) (again : Bool)
    → is_partial link.options.output ≡ again → link.options.strip_all ≡ false
    → EachHasOwner link own (AreOfSection entry link live told) p (λ q. entry)
    (if again then map (section_entry entry) (told_sections link told) ++ map (singleton_entry entry) (singletons link live) else [])
each_section link live told own p entry true is kept =
    each_both link own (AreOfSection entry link live told) p (λ q. entry) (map (section_entry entry) (told_sections link told))
    (map (singleton_entry entry) (singletons link live)) sections inputs
  where
    sections : EachHasOwner link own (AreOfSection entry link live told) p (λ q. entry) (map (section_entry entry) (told_sections link told))
    sections k e h =
        let numbers = map (λ (q : ℕ × PlanSection). q.0) (enumerate_from 0 link.plan.sections) in
        let from = map_at (section_entry entry) (told_sections link told) k e h in
        let some = filter_at (is_marked told) numbers k from.0 from.1 in
        let one = map_at (λ (q : ℕ × PlanSection). q.0) (enumerate_from 0 link.plan.sections) some.0 from.0 some.1 in
        let number = numbered_at 0 link.plan.sections some.0 one.0 one.1 in
        let within = slice_get_within link.plan.sections some.0 one.0.1 number.1 in
        let inside : from.0 < length link.plan.sections = omega (arith, within, number.0, one.2) in
        subst (λ (x : TableEntry). AreOwners link own (AreOfSection entry link live told) p (λ q. entry) x.bytes x.owner) from.2
        (record { again = is; kept = kept; inside = inside; marked = some.2 }, refl)

    inputs : EachHasOwner link own (AreOfSection entry link live told) p (λ q. entry) (map (singleton_entry entry) (singletons link live))
    inputs k e h =
        let from = map_at (singleton_entry entry) (singletons link live) k e h in
        subst (λ (x : TableEntry). AreOwners link own (AreOfSection entry link live told) p (λ q. entry) x.bytes x.owner) from.2
        (record { kept = kept; input = from.0; place = k; there = from.1; file = refl; index = refl }, refl)
each_section link live told own p entry false is kept = λ k e h. nothing_there k e h

of_kind : (entry : ℕ) (link : LinkInput) (live : Live) (told : List Bool) (kind : NumberedFile → ℕ × InputSymbol → Bool) (f : NumberedFile)
    → map (entry_of entry) (filter (kind f) (table_symbols link live told f)) ≡ of_passing link (λ g q. has_entry_there link live told g q && kind g q) (λ q. entry) f
of_kind entry link live told kind f =
    ap (λ qs. map (entry_of entry) (filter (kind f) qs)) (symbols_there link live told f)
    ∙ ap (map (entry_of entry)) (passing_twice (has_entry_there link live told f) (kind f) (symbols_by_number link f))

of_names : (link : LinkInput) (live : Live) (told : List Bool) (f : NumberedFile) → map name_of (table_symbols link live told f) ≡ of_passing link (has_entry_there link live told) name_size f
of_names link live told f = ap (map name_of) (symbols_there link live told f)

-- ---- the dynamic symbol table

either_left : (a b : Bool) → a ≡ true → (a || b) ≡ true
either_left true b h = refl
either_left false b h = cc

either_right : (a b : Bool) → b ≡ true → (a || b) ≡ true
either_right true b h = refl
either_right false b h = h

in_dynamic : (link : LinkInput) (live : Live) (told : List Bool) (n : ℕ × InputSymbol → ℕ) (bytes : ℕ) (loaded : Bool)
    → EachHasOwner link (own_if loaded bytes) no_other (λ f q. loaded && (is_dynamic_symbol link live told f q || is_export live f q)) n
    (if loaded then first_entry bytes ∷ (flat_map (of_passing link (λ f. is_dynamic_symbol link live told f) n) (numbered_files link.groups)
    ++ flat_map (of_passing link (λ f. is_export live f) n) (numbered_files link.groups)) else [])
in_dynamic link live told n bytes true =
    let D : NumberedFile → ℕ × InputSymbol → Bool = λ f. is_dynamic_symbol link live told f in
    let E : NumberedFile → ℕ × InputSymbol → Bool = λ f. is_export live f in
    let both : NumberedFile → ℕ × InputSymbol → Bool = λ f q. D f q || E f q in
    let files = numbered_files link.groups in
    first_of link no_other both n bytes (flat_map (of_passing link D n) files ++ flat_map (of_passing link E n) files)
    (each_both link (Some bytes) no_other both n (flat_map (of_passing link D n) files) (flat_map (of_passing link E n) files)
    (more_pass link (Some bytes) no_other D both n (flat_map (of_passing link D n) files) (λ f q h. either_left (D f q) (E f q) h) (each_symbol link (Some bytes) no_other D n))
    (more_pass link (Some bytes) no_other E both n (flat_map (of_passing link E n) files) (λ f q h. either_right (D f q) (E f q) h) (each_symbol link (Some bytes) no_other E n)))
in_dynamic link live told n bytes false = λ k e h. nothing_there k e h

pub entries_are_owned : EntriesAreOwned
entries_are_owned sizes link live told emitted active =
    let files = numbered_files link.groups in
    let entry = sizes.symbol_entry in
    let there : Bool = not link.options.strip_all in
    let loaded : Bool = is_loaded_dynamically link.options.output in
    let sections : Others = AreOfSection entry link live told in
    let local : NumberedFile → ℕ × InputSymbol → Bool = λ f q. has_entry_there link live told f q && is_local_entry f.file.kind q in
    let global : NumberedFile → ℕ × InputSymbol → Bool = λ f q. has_entry_there link live told f q && not (is_local_entry f.file.kind q) in
    record {
      got = each_symbol link None no_other (λ f. is_resolved live f.file.kind) (λ q. (allocated sizes.allocation live q).got);
      plt = each_symbol link None no_other (λ f. is_resolved live f.file.kind) (λ q. (allocated sizes.allocation live q).plt);
      symtab_local = each_behind link (own_if there entry) sections local (λ q. entry) (λ f. table_start link f (local_start entry link live told))
          (λ f. map (entry_of entry) (filter (is_local_entry f.file.kind) (table_symbols link live told f)))
          (λ f. started link sections local (λ q. entry) (is_prelude f.file.kind) there entry (section_symbols entry link live told)
          (λ is. each_section link live told (Some entry) local entry (is_partial link.options.output) refl (unset link.options.strip_all is)))
          (each_alike link (own_if there entry) sections local (λ q. entry) (λ f. map (entry_of entry) (filter (is_local_entry f.file.kind) (table_symbols link live told f)))
          (of_kind entry link live told (λ f. is_local_entry f.file.kind)));
      symtab_global = each_alike link None no_other global (λ q. entry) (λ f. map (entry_of entry) (filter (λ q. not (is_local_entry f.file.kind q)) (table_symbols link live told f)))
          (of_kind entry link live told (λ f q. not (is_local_entry f.file.kind q)));
      strtab = each_behind link (own_if there 1) no_other (has_entry_there link live told) name_size (λ f. table_start link f (first_entry 1 ∷ []))
          (λ f. map name_of (table_symbols link live told f))
          (λ f. started link no_other (has_entry_there link live told) name_size (is_prelude f.file.kind) there 1 [] (λ is k e h. nothing_there k e h))
          (each_alike link (own_if there 1) no_other (has_entry_there link live told) name_size (λ f. map name_of (table_symbols link live told f)) (of_names link live told));
      dynsym = in_dynamic link live told (λ q. entry) entry loaded;
      dynstr = in_dynamic link live told name_size 1 loaded;
    }
  where
    unset : (b : Bool) → not b ≡ true → b ≡ false
    unset true h = absurd (cc)
    unset false h = refl

-- ---- the own entry stands first

-- none of these is a table's own
abbrev NoneIsOwn : List TableEntry → Type 0
NoneIsOwn entries = (k : ℕ) (e : TableEntry) → slice_get entries k ≡ Some e → e.owner ≡ FirstEntry → ⊥

none_of_symbols : {X : Type 0} (g : X → TableEntry) (number : X → ℕ) (xs : List X) → ((x : X) → (g x).owner ≡ SymbolEntry (number x)) → NoneIsOwn (map g xs)
none_of_symbols g number xs owners k e h own =
    let from = map_at g xs k e h in
    let clash : SymbolEntry (number from.0) ≡ FirstEntry = sym (owners from.0) ∙ ap (λ (x : TableEntry). x.owner) from.2 ∙ own in
    cc

none_of_sections : {X : Type 0} (g : X → TableEntry) (xs : List X) → ((x : X) → (g x).owner ≡ FirstEntry → ⊥) → NoneIsOwn (map g xs)
none_of_sections g xs others k e h own =
    let from = map_at g xs k e h in
    others from.0 (ap (λ (x : TableEntry). x.owner) from.2 ∙ own)

none_of_both : (xs ys : List TableEntry) → NoneIsOwn xs → NoneIsOwn ys → NoneIsOwn (xs ++ ys)
none_of_both xs ys left right k e h own = elim (append_at xs ys k e h) [ inl a ↦ left k e a own | inr b ↦ right b.0 e b.2 own ]

none_of_files : (g : NumberedFile → List TableEntry) (files : List NumberedFile)
    → ((j : ℕ) (f : NumberedFile) → slice_get files j ≡ Some f → NoneIsOwn (g f)) → NoneIsOwn (flat_map g files)
none_of_files g files none k e h own = let at = flat_map_at g files k e h in none at.outer at.from at.there at.inner e at.gives own

none_again : (entry : ℕ) (link : LinkInput) (live : Live) (told : List Bool) (again : Bool)
    → NoneIsOwn (if again then map (section_entry entry) (told_sections link told) ++ map (singleton_entry entry) (singletons link live) else [])
none_again entry link live told true =
    none_of_both (map (section_entry entry) (told_sections link told)) (map (singleton_entry entry) (singletons link live))
    (none_of_sections (section_entry entry) (told_sections link told) (λ s own. cc))
    (none_of_sections (singleton_entry entry) (singletons link live) (λ x own. cc))
none_again entry link live told false = λ k e h own. nothing_there k e h

begins : (bytes : ℕ) (rest : List TableEntry) → NoneIsOwn rest → BeginsWithOwn bytes (first_entry bytes ∷ rest)
begins bytes rest none = record { first = refl; only = only_one }
  where
    only_one : (k : ℕ) (e : TableEntry) → slice_get (first_entry bytes ∷ rest) k ≡ Some e → e.owner ≡ FirstEntry → k ≡ 0
    only_one zero e h own = refl
    only_one (suc k) e h own = absurd (none k e h own)

-- ---- the one prelude

same_id : (a b c d : ℕ) → a ≡ c → b ≡ d → ◌≡◌ {A = FileId} (record { group = a; file = b }) (record { group = c; file = d })
same_id a b c d e f = cc

-- the first file, and the others
record AreFiles (groups : List (List InputFile)) : Type 0 where
  first : InputFile
  others : List NumberedFile
  are : numbered_files groups ≡ record { id = record { group = 0; file = 0 }; file = first } ∷ others
  led : is_prelude first.kind ≡ true

files_are : (groups : List (List InputFile)) → begins_with_prelude groups ≡ true → AreFiles groups
files_are [] h = absurd (cc)
files_are ([] ∷ groups) h = absurd (cc)
files_are ((f ∷ files) ∷ groups) h =
    let of_group : ℕ × List InputFile → List NumberedFile = λ q. group_files q.0 0 q.1 in
    record {
      first = f;
      others = map (numbered_file 0) (enumerate_from 1 files) ++ flat_map of_group (enumerate_from 1 groups);
      are = flat_map-cons of_group (0, f ∷ files) (enumerate_from 1 groups);
      led = h;
    }

-- no other one is a prelude
others_are_none : (link : LinkInput) → IsWellFormed link → (is : AreFiles link.groups) → (j : ℕ) (f : NumberedFile) → slice_get is.others j ≡ Some f
    → is_prelude f.file.kind ≡ true → ⊥
others_are_none link good is j f h led =
    let groups = link.groups in
    let zeroth : FileId = record { group = 0; file = 0 } in
    let here = file_at groups (suc j) f (ap (λ fs. slice_get fs (suc j)) is.are ∙ h) in
    let there = file_at groups 0 (record { id = zeroth; file = is.first }) (ap (λ fs. slice_get fs 0) is.are) in
    let place = good.prelude.only f.id f.file here.there led in
    let id : f.id ≡ zeroth = same_id f.id.group f.id.file 0 0 place.0 place.1 in
    let clash : suc j ≡ 0 = here.place ∙ ap (file_place groups) id ∙ sym there.place in
    cc

-- a table to which the prelude brings the own entry, with others behind it that are no table's own
led_table : (link : LinkInput) (bytes : ℕ) (more : List TableEntry) (g : NumberedFile → List TableEntry) → IsWellFormed link → link.options.strip_all ≡ false
    → NoneIsOwn more → ((f : NumberedFile) → NoneIsOwn (g f))
    → BeginsWithOwn bytes (flat_map (λ f. table_start link f (first_entry bytes ∷ more) ++ g f) (numbered_files link.groups))
led_table link bytes more g good kept behind none =
    let is = files_are link.groups good.prelude.first in
    let zeroth : NumberedFile = record { id = record { group = 0; file = 0 }; file = is.first } in
    let all : NumberedFile → List TableEntry = λ f. table_start link f (first_entry bytes ∷ more) ++ g f in
    let own_of : Bool → Bool → List TableEntry = λ a b. if a && not b then first_entry bytes ∷ more else [] in
    let start : table_start link zeroth (first_entry bytes ∷ more) ≡ first_entry bytes ∷ more = ap (λ a. own_of a link.options.strip_all) is.led ∙ ap (own_of true) kept in
    let whole : flat_map all (numbered_files link.groups) ≡ first_entry bytes ∷ ((more ++ g zeroth) ++ flat_map all is.others)
    = ap (flat_map all) is.are ∙ flat_map-cons all zeroth is.others ∙ ap (λ es. (es ++ g zeroth) ++ flat_map all is.others) start in
    let nothing : (f : NumberedFile) → is_prelude f.file.kind ≡ false → NoneIsOwn (all f)
    = λ f other. subst (λ es. NoneIsOwn (es ++ g f)) (sym (ap (λ a. own_of a link.options.strip_all) other)) (none f) in
    let rest : (j : ℕ) (f : NumberedFile) → slice_get is.others j ≡ Some f → NoneIsOwn (all f)
    = λ j f h. by_kind (is_prelude f.file.kind) (NoneIsOwn (all f)) (λ led. absurd (others_are_none link good is j f h led)) (nothing f) refl in
    subst (BeginsWithOwn bytes) (sym whole) (begins bytes ((more ++ g zeroth) ++ flat_map all is.others)
    (none_of_both (more ++ g zeroth) (flat_map all is.others) (none_of_both more (g zeroth) behind (none zeroth)) (none_of_files all is.others rest)))
  where
    by_kind : (b : Bool) (P : Type 0) → (b ≡ true → P) → (b ≡ false → P) → b ≡ b → P
    by_kind true P hit miss h = hit h
    by_kind false P hit miss h = miss h

-- the dynamic one, where there is one
loaded_table : (bytes : ℕ) (xs ys : List TableEntry) (loaded : Bool) → loaded ≡ true → NoneIsOwn xs → NoneIsOwn ys
    → BeginsWithOwn bytes (if loaded then first_entry bytes ∷ (xs ++ ys) else [])
loaded_table bytes xs ys true h left right = begins bytes (xs ++ ys) (none_of_both xs ys left right)
loaded_table bytes xs ys false h left right = absurd (cc)

pub tables_begin_with_own : TablesBeginWithOwn
tables_begin_with_own sizes link live told emitted active good =
    let files = numbered_files link.groups in
    let entry = sizes.symbol_entry in
    let number : ℕ × InputSymbol → ℕ = λ q. q.0 in
    let of_entries : (qs : List (ℕ × InputSymbol)) → NoneIsOwn (map (entry_of entry) qs) = λ qs. none_of_symbols (entry_of entry) number qs (λ q. refl) in
    let of_names : (qs : List (ℕ × InputSymbol)) → NoneIsOwn (map name_of qs) = λ qs. none_of_symbols name_of number qs (λ q. refl) in
    let loaded : Bool = is_loaded_dynamically link.options.output in
    record {
      symtab_local = λ kept. led_table link entry (section_symbols entry link live told) (λ f. map (entry_of entry) (filter (is_local_entry f.file.kind) (table_symbols link live told f))) good kept
          (none_again entry link live told (is_partial link.options.output))
          (λ f. of_entries (filter (is_local_entry f.file.kind) (table_symbols link live told f)));
      strtab = λ kept. led_table link 1 [] (λ f. map name_of (table_symbols link live told f)) good kept (λ k e h own. nothing_there k e h) (λ f. of_names (table_symbols link live told f));
      dynsym = λ is. loaded_table entry (flat_map (file_dynamic_entries entry link live told) files) (flat_map (file_export_entries entry link live) files) loaded is
          (none_of_files (file_dynamic_entries entry link live told) files (λ j f h. of_entries (filter (is_dynamic_symbol link live told f) (symbols_by_number link f))))
          (none_of_files (file_export_entries entry link live) files (λ j f h. of_entries (filter (is_export live f) (symbols_by_number link f))));
      dynstr = λ is. loaded_table 1 (flat_map (file_dynamic_names link live told) files) (flat_map (file_export_names link live) files) loaded is
          (none_of_files (file_dynamic_names link live told) files (λ j f h. of_names (filter (is_dynamic_symbol link live told f) (symbols_by_number link f))))
          (none_of_files (file_export_names link live) files (λ j f h. of_names (filter (is_export live f) (symbols_by_number link f))));
    }
