-- Groups begin in the tables of symbols behind the entries of the files before them.
use Rattle.std.proofs.Common.{◌≡◌, ℕ, zero, suc, ◌+◌, ◌<◌, ◌≤◌, ◌^◌, Bool, true, false, cond, List, [], ◌∷◌, ◌++◌, length, map, filter, take, drop, take-append-drop, Option, Some, None, refl, sym, ap, subst, ◌∙◌, arith}
use Rattle.std.specs.Prelude.{◌==◌, ◌/◌, count_by, if◌then◌else◌, slice_get, slice_index}
use Rattle.std.specs.List.{enumerate_from, flat_map}
use Rattle.std.specs.Option.{option_map_or}
use Rattle.std.proofs.lemmas.Bool.{false_from_ne_true}
use Rattle.std.proofs.lemmas.Bool.Decides.{nat_tests}
use Rattle.std.proofs.lemmas.Grind.{flat_map-append}
use Rattle.std.proofs.lemmas.List.{append_assoc, length-map}
use Rattle.std.proofs.lemmas.Nat.{div_below}
use Rattle.std.proofs.lemmas.List.Concat.{flat_map-cons}
use Rattle.std.proofs.lemmas.List.FromFn.{get_or-map-range_with_len}
use Rattle.std.proofs.lemmas.List.Sums.{length-filter, sum_by-append, sum_by-cons}
use Rattle.lk_link.specs.declared.file.InputFile.{InputFile}
use Rattle.lk_link.specs.declared.ids.FileId.{FileId}
use Rattle.lk_link.specs.declared.link.LinkInput.{LinkInput}
use Rattle.lk_link.specs.declared.plan.PlanPart.{PlanPart}
use Rattle.lk_link.specs.declared.symbol.InputSymbol.{InputSymbol}
use Rattle.lk_link.specs.FileKinds.{is_prelude}
use Rattle.lk_link.specs.Inputs.{NumberedFile, group_files, numbered_file, numbered_files}
use Rattle.lk_link.specs.PartRules.{table_parts}
use Rattle.lk_link.specs.Parts.{part_at}
use Rattle.lk_link.specs.Rules.{begins_with_prelude}
use Rattle.lk_link.specs.TableSizes.{TableSizes}
use Rattle.lk_link.specs.WellFormed.{IsWellFormed}
use Rattle.lk_live.specs.declared.live.Live.{Live}
use Rattle.lk_reach.specs.Units.{numbered_symbols}
use Rattle.lk_reach.proofs.Numbered.{file_at, file_place}
use Rattle.lk_tables.specs.declared.shares.FileShare.{FileShare}
use Rattle.lk_tables.specs.Dynamic.{is_dynamic_symbol}
use Rattle.lk_tables.specs.DynamicCounters.{is_dynamic_one}
use Rattle.lk_tables.specs.HeaderParts.{told_sum}
use Rattle.lk_tables.specs.ShareWords.{dynamic_taken, first_share, first_shares, no_dynamic, no_symtab, prelude_share, preludes, symtab_taken}
use Rattle.lk_tables.specs.SymbolTable.{TableEntry, entry_bytes, entry_of, first_entry, global_entries, local_entries, name_entries, name_of, symbols_by_number}
use Rattle.lk_tables.specs.TableLists.{all_lists, file_dynamic_entries, file_dynamic_names, file_export_entries, file_export_names, if_dynamic, table_of}
use Rattle.lk_tables.proofs.BySymbol.{by_number, passes_of, value_of}
use Rattle.lk_tables.proofs.Columns.{dynamic_alike}
use Rattle.lk_tables.proofs.PartLists.{named_parts}
use Rattle.lk_tables.proofs.TotalLemmas.{are_names, global_bytes, is_global, is_local, local_bytes, locals_of, name_bytes}
use Rattle.lk_sizes.specs.Emitted.{told_marks}
use Rattle.lk_sizes.specs.Owners.{EntryOwner, Filling, bytes_of}
use Rattle.lk_sizes.specs.PartOwners.{EndsFit, owners_of, tables_of}
use Rattle.lk_group_starts.specs.declared.group_starts.Table.{Table}
use Rattle.lk_group_starts.specs.declared.group_starts.Table.TheVariants as table
use Rattle.lk_layout.specs.Defined.{layout_of}
use Rattle.lk_soundness.specs.GroupPlaces.{GroupsBegin, StartsBehind, entries_before, entries_reach}
use Rattle.lk_group_starts.specs.GroupStarts.{byte_starts, capped, entries_in, files_before, first_bytes, part_for, starts_in, taken_before, taken_in}
use Rattle.lk_layout.specs.Made.{Made, made_content, made_filling}
use Rattle.lk_soundness.proofs.Stands.{TablesStandAlone}
use Rattle.lk_resolutions.proofs.EntriesTaken.{own_entries}
use Rattle.lk_group_starts.proofs.Starting.{total}

-- ---- the prelude, and the other files

same_id : (a b c d : ℕ) → a ≡ c → b ≡ d → ◌≡◌ {A = FileId} (record { group = a; file = b }) (record { group = c; file = d })
same_id a b c d e f = cc

-- the first file is a prelude, and no other is
record AreLed (files : List NumberedFile) : Type 0 where
  first : NumberedFile
  others : List NumberedFile
  are : files ≡ first ∷ others
  led : is_prelude first.file.kind ≡ true
  none : (k : ℕ) (f : NumberedFile) → slice_get others k ≡ Some f → is_prelude f.file.kind ≡ false

-- the first file, and those behind it
record HasFirst (groups : List (List InputFile)) : Type 0 where
  file : InputFile
  others : List NumberedFile
  are : numbered_files groups ≡ record { id = record { group = 0; file = 0 }; file = file } ∷ others
  led : is_prelude file.kind ≡ true

has_first : (groups : List (List InputFile)) → begins_with_prelude groups ≡ true → HasFirst groups
has_first [] h = absurd (cc)
has_first ([] ∷ groups) h = absurd (cc)
has_first ((f ∷ files) ∷ groups) h =
    let of_group : ℕ × List InputFile → List NumberedFile = λ q. group_files q.0 0 q.1 in
    record {
      file = f;
      others = map (numbered_file 0) (enumerate_from 1 files) ++ flat_map of_group (enumerate_from 1 groups);
      are = flat_map-cons of_group (0, f ∷ files) (enumerate_from 1 groups);
      led = h;
    }

files_led : (link : LinkInput) → IsWellFormed link → AreLed (numbered_files link.groups)
files_led link good =
    let groups = link.groups in
    let is : HasFirst groups = has_first groups good.prelude.first in
    let zeroth : FileId = record { group = 0; file = 0 } in
    record {
      first = record { id = zeroth; file = is.file };
      others = is.others;
      are = is.are;
      led = is.led;
      none = λ k f there. false_from_ne_true (is_prelude f.file.kind) (λ led.
          let here = file_at groups (suc k) f (ap (λ fs. slice_get fs (suc k)) is.are ∙ there) in
          let front = file_at groups 0 (record { id = zeroth; file = is.file }) (ap (λ fs. slice_get fs 0) is.are) in
          let place = good.prelude.only f.id f.file here.there led in
          let id : f.id ≡ zeroth = same_id f.id.group f.id.file 0 0 place.0 place.1 in
          let clash : suc k ≡ 0 = here.place ∙ ap (file_place groups) id ∙ sym front.place in
          cc);
    }

none_pass : {X : Type 0} (p : X → Bool) (xs : List X) → ((k : ℕ) (x : X) → slice_get xs k ≡ Some x → p x ≡ false) → filter p xs ≡ []
none_pass p [] none = refl
none_pass p (x ∷ xs) none = ap (λ b. cond b (x ∷ filter p xs) (filter p xs)) (none 0 x refl) ∙ none_pass p xs (λ k y at. none (suc k) y at)

-- ---- what files take in a table

-- what a file brings to a table first, and the prelude late, are these entries
record Brings (sizes : TableSizes) (link : LinkInput) (live : Live) (told : List Bool) (t : Table) (g : List Bool → NumberedFile → List TableEntry) : Type 0 where
  prelude : (f : NumberedFile) → is_prelude f.file.kind ≡ true → taken_in t (first_share sizes link live f) ≡ 0
  other : (f : NumberedFile) → is_prelude f.file.kind ≡ false → taken_in t (first_share sizes link live f) ≡ told_sum (entry_bytes (g [] f))
  alike : (f : NumberedFile) → is_prelude f.file.kind ≡ false → entry_bytes (g told f) ≡ entry_bytes (g [] f)
  late : taken_in t (prelude_share sizes link live told) ≡ told_sum (entry_bytes (flat_map (g told) (preludes link)))

one_more : (g : NumberedFile → List TableEntry) (f : NumberedFile) (fs : List NumberedFile) → entry_bytes (flat_map g (f ∷ fs)) ≡ entry_bytes (g f) + entry_bytes (flat_map g fs)
one_more g f fs = ap entry_bytes (flat_map-cons g f fs) ∙ sum_by-append (λ (e : TableEntry). e.bytes) (g f) (flat_map g fs)

-- what other files take, up to a place
others_take : {sizes : TableSizes} {link : LinkInput} {live : Live} {told : List Bool} {t : Table} {g : List Bool → NumberedFile → List TableEntry} → Brings sizes link live told t g
    → (own m : ℕ) (fs : List NumberedFile) → ((k : ℕ) (f : NumberedFile) → slice_get fs k ≡ Some f → is_prelude f.file.kind ≡ false)
    → capped (own + total (take m (map (λ s. capped (taken_in t s)) (map (first_share sizes link live) fs)))) ≡ capped (own + entry_bytes (flat_map (g told) (take m fs)))
others_take brings own zero fs none = refl
others_take brings own (suc m) [] none = refl
others_take {sizes} {link} {live} {told} {t} {g} brings own (suc m) (f ∷ fs) none =
    let share : FileShare = first_share sizes link live f in
    let rest : List ℕ = take m (map (λ s. capped (taken_in t s)) (map (first_share sizes link live) fs)) in
    let left : total (capped (taken_in t share) ∷ rest) ≡ capped (taken_in t share) + total rest = sum_by-cons (λ (b : ℕ). b) (capped (taken_in t share)) rest in
    omega (arith, left, one_more (g told) f (take m fs), brings.other f (none 0 f refl), brings.alike f (none 0 f refl), others_take brings own m fs (λ k x at. none (suc k) x at))

-- what all files take, up to one behind the prelude
all_take : {sizes : TableSizes} {link : LinkInput} {live : Live} {told : List Bool} {t : Table} {g : List Bool → NumberedFile → List TableEntry} → Brings sizes link live told t g
    → (own late m : ℕ) (fs : List NumberedFile) (is : AreLed fs) → late ≡ told_sum (entry_bytes (g told is.first))
    → capped (capped (late + own) + total (take (suc m) (map (λ s. capped (taken_in t s)) (map (first_share sizes link live) fs)))) ≡ capped (own + entry_bytes (flat_map (g told) (take (suc m) fs)))
all_take {sizes} {link} {live} {told} {t} {g} brings own late m fs is bytes =
    let share : FileShare = first_share sizes link live is.first in
    let rest : List ℕ = take m (map (λ s. capped (taken_in t s)) (map (first_share sizes link live) is.others)) in
    let left : total (capped (taken_in t share) ∷ rest) ≡ capped (taken_in t share) + total rest = sum_by-cons (λ (b : ℕ). b) (capped (taken_in t share)) rest in
    let here : capped (capped (late + own) + total (capped (taken_in t share) ∷ rest)) ≡ capped (own + entry_bytes (flat_map (g told) (is.first ∷ take m is.others)))
    = omega (arith, bytes, left, brings.prelude is.first is.led, one_more (g told) is.first (take m is.others), others_take brings (own + entry_bytes (g told is.first)) m is.others is.none) in
    subst (λ (xs : List NumberedFile). capped (capped (late + own) + total (take (suc m) (map (λ s. capped (taken_in t s)) (map (first_share sizes link live) xs)))) ≡ capped (own + entry_bytes (flat_map (g told) (take (suc m) xs))))
    (sym is.are) here

-- what the prelude takes late is what it brings alone
late_is : (link : LinkInput) (g : NumberedFile → List TableEntry) (is : AreLed (numbered_files link.groups)) → told_sum (entry_bytes (flat_map g (preludes link))) ≡ told_sum (entry_bytes (g is.first))
late_is link g is =
    let p : NumberedFile → Bool = λ f. is_prelude f.file.kind in
    let alone : preludes link ≡ is.first ∷ []
    = ap (filter p) is.are ∙ ap (λ b. cond b (is.first ∷ filter p is.others) (filter p is.others)) is.led ∙ ap (λ fs. is.first ∷ fs) (none_pass p is.others is.none) in
    ap (λ fs. told_sum (entry_bytes (flat_map g fs))) alone ∙ omega (arith, one_more g is.first [])

not_zero : (m : ℕ) → (suc m == 0) ≡ false
not_zero m = grind (arith, nat_tests)

-- where a table's part is named, a group begins behind what the files before it bring, with what the table begins with
begins_at : (sizes : TableSizes) (link : LinkInput) (live : Live) (told : List Bool) (t : Table) (g : List Bool → NumberedFile → List TableEntry) → IsWellFormed link → Brings sizes link live told t g
    → (n : ℕ) → taken_before (capped (taken_in t (prelude_share sizes link live told) + first_bytes t)) (map (λ s. capped (taken_in t s)) (first_shares sizes link live)) n
    ≡ (if n == 0 then 0 else capped (first_bytes t + entry_bytes (flat_map (g told) (take n (numbered_files link.groups)))))
begins_at sizes link live told t g good brings zero = refl
begins_at sizes link live told t g good brings (suc m) =
    let is : AreLed (numbered_files link.groups) = files_led link good in
    let taken = all_take brings (first_bytes t) (taken_in t (prelude_share sizes link live told)) m (numbered_files link.groups) is (brings.late ∙ late_is link (g told) is) in
    ap (λ (n : ℕ). if suc m == 0 then 0 else n) taken

start_at : (sizes : TableSizes) (link : LinkInput) (live : Live) (told : List Bool) (t : Table) (g : List Bool → NumberedFile → List TableEntry) → IsWellFormed link → Brings sizes link live told t g
    → (p i : ℕ) → part_for link t ≡ Some p → i ≤ length link.groups
    → slice_index (byte_starts link (first_shares sizes link live) (prelude_share sizes link live told) t) i
    ≡ (if files_before link.groups i == 0 then 0 else capped (first_bytes t + entry_bytes (entries_before (g told) link i)))
start_at sizes link live told t g good brings p i named within =
    let own : ℕ = capped (taken_in t (prelude_share sizes link live told) + first_bytes t) in
    let bytes : List ℕ = map (λ s. capped (taken_in t s)) (first_shares sizes link live) in
    let is : byte_starts link (first_shares sizes link live) (prelude_share sizes link live told) t ≡ starts_in link.groups own bytes
    = ap (λ (o : Option ℕ). starts_in link.groups (option_map_or (λ _. own) o 0) (option_map_or (λ _. bytes) o [])) named in
    ap (λ (ns : List ℕ). slice_index ns i) is
    ∙ get_or-map-range_with_len (λ (k : ℕ). taken_before own bytes (files_before link.groups k)) 0 (length link.groups + 1) i i 0 (omega (arith, within)) (omega arith)
    ∙ begins_at sizes link live told t g good brings (files_before link.groups i)

-- ---- what fits isn't capped

no_more : (n : ℕ) (g : NumberedFile → List TableEntry) (fs : List NumberedFile) → entry_bytes (flat_map g (take n fs)) < 2 ^ 64
    → (if n == 0 then 0 else capped (0 + entry_bytes (flat_map g (take n fs)))) ≡ entry_bytes (flat_map g (take n fs))
no_more zero g fs fits = refl
no_more (suc m) g fs fits = ap (λ b. if b then 0 else capped (0 + entry_bytes (flat_map g (take (suc m) fs)))) (not_zero m) ∙ omega (arith, fits)

behind_first : (n : ℕ) (own : TableEntry) (entries : List TableEntry) → own.bytes ≡ 1 → entry_bytes (if n == 0 then [] else own ∷ entries) < 2 ^ 64
    → (if n == 0 then 0 else capped (1 + entry_bytes entries)) ≡ entry_bytes (if n == 0 then [] else own ∷ entries)
behind_first zero own entries one fits = refl
behind_first (suc m) own entries one fits =
    let whole : entry_bytes (own ∷ entries) ≡ own.bytes + entry_bytes entries = sum_by-cons (λ (e : TableEntry). e.bytes) own entries in
    let small : entry_bytes (own ∷ entries) < 2 ^ 64 = subst (λ b. entry_bytes (if b then [] else own ∷ entries) < 2 ^ 64) (not_zero m) fits in
    ap (λ b. if b then 0 else capped (1 + entry_bytes entries)) (not_zero m) ∙ omega (arith, whole, small, one) ∙ ap (λ b. entry_bytes (if b then [] else own ∷ entries)) (sym (not_zero m))

-- ---- the tables

names_bring : (sizes : TableSizes) (link : LinkInput) (live : Live) (told : List Bool) → Brings sizes link live told table.Names (λ marks. name_entries link live marks)
names_bring sizes link live told =
    let entry = sizes.symbol_entry in
    let taken : NumberedFile → Bool → ℕ = λ f b. (if b then no_symtab else symtab_taken (local_entries entry link live [] f) (global_entries entry link live [] f) (name_entries link live [] f)).names in
    record {
      prelude = λ f h. ap (taken f) h;
      other = λ f h. ap (taken f) h;
      alike = λ f h. omega (arith, name_bytes link live told f, name_bytes link live [] f, (are_names sizes link live).alike told f h);
      late = refl;
    }

locals_bring : (sizes : TableSizes) (link : LinkInput) (live : Live) (told : List Bool) → Brings sizes link live told table.Locals (λ marks. local_entries sizes.symbol_entry link live marks)
locals_bring sizes link live told =
    let entry = sizes.symbol_entry in
    let taken : NumberedFile → Bool → ℕ = λ f b. (if b then no_symtab else symtab_taken (local_entries entry link live [] f) (global_entries entry link live [] f) (name_entries link live [] f)).local in
    let own : ℕ → Bool → ℕ = λ n b. if b then n else 0 in
    record {
      prelude = λ f h. ap (taken f) h;
      other = λ f h. ap (taken f) h;
      alike = λ f h. omega (
        arith,
        local_bytes entry link live told f,
        local_bytes entry link live [] f,
        (is_local sizes link live).alike told f h,
        ap (own (locals_of entry link live told)) h,
        ap (own (locals_of entry link live [])) h,
      );
      late = refl;
    }

globals_bring : (sizes : TableSizes) (link : LinkInput) (live : Live) (told : List Bool) → Brings sizes link live told table.Globals (λ marks. global_entries sizes.symbol_entry link live marks)
globals_bring sizes link live told =
    let entry = sizes.symbol_entry in
    let taken : NumberedFile → Bool → ℕ = λ f b. (if b then no_symtab else symtab_taken (local_entries entry link live [] f) (global_entries entry link live [] f) (name_entries link live [] f)).global in
    record {
      prelude = λ f h. ap (taken f) h;
      other = λ f h. ap (taken f) h;
      alike = λ f h. omega (arith, global_bytes entry link live told f, global_bytes entry link live [] f, (is_global sizes link live).alike told f h);
      late = refl;
    }

dynamic_names_bring : (sizes : TableSizes) (link : LinkInput) (live : Live) (told : List Bool) → Brings sizes link live told table.DynamicNames (λ marks. file_dynamic_names link live marks)
dynamic_names_bring sizes link live told =
    let entry = sizes.symbol_entry in
    let taken : NumberedFile → Bool → ℕ = λ f b. (if b then no_dynamic else dynamic_taken (file_dynamic_entries entry link live [] f) (file_dynamic_names link live [] f)).names in
    record {
      prelude = λ f h. ap (taken f) h;
      other = λ f h. ap (taken f) h;
      alike = λ f h. ap (λ (p : ℕ × InputSymbol → Bool). entry_bytes (map name_of (filter p (symbols_by_number link f)))) (λ i q. dynamic_alike link live told f q h i);
      late = refl;
    }

-- ---- the parts

-- a table stands in the part that is named for it, alone, and its bytes fit
record IsOf (made : Made) (p : ℕ) (entries : List TableEntry) : Type 0 where
  owners : owners_of (made_filling made) p ≡ map EntryOwner entries
  fits : entry_bytes entries < 2 ^ 64

table_in : (made : Made) (starts : List ℕ) (k p : ℕ) (entries : List TableEntry) → IsWellFormed made.link → TablesStandAlone (made_filling made) → EndsFit (made_filling made) starts
    → p < length starts → slice_get (table_parts made.link.plan.named) k ≡ Some (Some p) → slice_get (all_lists (tables_of (made_content made))) k ≡ Some entries → IsOf made p entries
table_in made starts k p entries good alone fit below named there =
    let filling : Filling = made_filling made in
    let part : PlanPart = part_at made.link.plan.sections p in
    let is : table_of made.link.plan.named (tables_of filling.content) p ≡ entries = named_parts made.link (tables_of filling.content) k p entries good named there in
    let owners : owners_of filling p ≡ map EntryOwner entries = alone k p named ∙ ap (λ (es : List TableEntry). map EntryOwner es) is in
    let bytes : bytes_of part (owners_of filling p) ≡ entry_bytes entries = ap (bytes_of part) owners ∙ own_entries part entries in
    record { owners = owners; fits = omega (arith, fit p below, bytes) }

-- the entries of files up to one are among those of all
split_at : (g : NumberedFile → List TableEntry) (n : ℕ) (fs : List NumberedFile) → flat_map g fs ≡ flat_map g (take n fs) ++ flat_map g (drop n fs)
split_at g n fs = ap (flat_map g) (sym (take-append-drop n fs)) ∙ flat_map-append g (take n fs) (drop n fs)

before_fits : {made : Made} {p : ℕ} {entries : List TableEntry} → IsOf made p entries → (before behind : List TableEntry) → entries ≡ before ++ behind → entry_bytes before < 2 ^ 64
before_fits {made} {p} {entries} is before behind parts =
    omega (arith, is.fits, ap entry_bytes parts, sum_by-append (λ (e : TableEntry). e.bytes) before behind)

-- a group of which the entries before it are told begins behind them
behind_them : {made : Made} {p : ℕ} {entries : List TableEntry} → IsOf made p entries → (start : ℕ) (reach : List TableEntry → ℕ) (before behind : List TableEntry) → entries ≡ before ++ behind
    → start ≡ reach before → StartsBehind made p start reach before
behind_them is start reach before behind parts begins = record { behind = behind; divided = is.owners ∙ ap (map EntryOwner) parts; begins = begins }

-- entries up to a place, behind one of the table's own, are among all
own_behind : (n : ℕ) (g : NumberedFile → List TableEntry) (fs : List NumberedFile) (own : TableEntry) (more : List TableEntry)
    → (behind : List TableEntry) × (own ∷ (flat_map g fs ++ more) ≡ (if n == 0 then [] else own ∷ flat_map g (take n fs)) ++ behind)
own_behind zero g fs own more = (own ∷ (flat_map g fs ++ more), refl)
own_behind (suc m) g fs own more =
    let rest : List TableEntry = flat_map g (drop (suc m) fs) ++ more in
    let whole : flat_map g fs ++ more ≡ flat_map g (take (suc m) fs) ++ rest
    = ap (λ es. es ++ more) (split_at g (suc m) fs) ∙ append_assoc (flat_map g (take (suc m) fs)) (flat_map g (drop (suc m) fs)) more in
    (rest, ap (λ es. own ∷ es) whole ∙ ap (λ b. (if b then [] else own ∷ flat_map g (take (suc m) fs)) ++ rest) (sym (not_zero m)))

-- what is told in entries is told by bytes
in_entries : (entry : ℕ) (starts : List ℕ) (g : ℕ) → slice_index (map (entries_in entry) starts) g ≡ entries_in entry (slice_index starts g)
in_entries entry [] g = nothing_in entry
  where
    none_of : (e : ℕ) → 0 / e < 1 → 0 / e ≡ 0
    none_of e h = omega (arith, h)

    nothing_in : (e : ℕ) → 0 ≡ entries_in e 0
    nothing_in zero = refl
    nothing_in (suc e) = sym (ap (λ b. if b then 0 else 0 / suc e) (not_zero e) ∙ none_of (suc e) (div_below 0 (suc e) 1 (omega arith) (omega arith)))
in_entries entry (n ∷ ns) zero = refl
in_entries entry (n ∷ ns) (suc g) = in_entries entry ns g

-- how many dynamic symbols there are
abbrev dynamic_count : LinkInput → Live → List Bool → ℕ
dynamic_count link live told = count_by (is_dynamic_one link live told) (enumerate_from 0 (numbered_symbols link.groups))

dynamic_entries_are : (entry : ℕ) (link : LinkInput) (live : Live) (told : List Bool) → length (flat_map (file_dynamic_entries entry link live told) (numbered_files link.groups)) ≡ dynamic_count link live told
dynamic_entries_are entry link live told =
    let p : NumberedFile → ℕ × InputSymbol → Bool = is_dynamic_symbol link live told in
    let numbered = enumerate_from 0 (numbered_symbols link.groups) in
    ap length (by_number p (entry_of entry) link) ∙ length-map (filter (passes_of p) numbered) (value_of (entry_of entry)) ∙ length-filter (passes_of p) numbered

-- ---- all groups

pub groups_begin : (made : Made) (starts : List ℕ) → IsWellFormed made.link → TablesStandAlone (made_filling made) → EndsFit (made_filling made) starts
    → ((k p : ℕ) → slice_get (table_parts made.link.plan.named) k ≡ Some (Some p) → p < length starts) → GroupsBegin made (layout_of made)
groups_begin made starts good alone fit below =
    let link : LinkInput = made.link in
    let live : Live = made.live in
    let sizes : TableSizes = made.machine.sizes in
    let told : List Bool = told_marks (made_content made) in
    let files : List NumberedFile = numbered_files link.groups in
    let some : Option ℕ → Option (Option ℕ) = λ o. Some o in
    record {
      names = λ g p within named.
          let n : ℕ = files_before link.groups g in
          let each : NumberedFile → List TableEntry = name_entries link live told in
          let is : IsOf made p (flat_map each files) = table_in made starts 4 p (flat_map each files) good alone fit (below 4 p (ap some named)) (ap some named) refl in
          let parts = split_at each n files in
          behind_them is (slice_index (layout_of made).group_starts.strtab g) entry_bytes (flat_map each (take n files)) (flat_map each (drop n files)) parts
          (start_at sizes link live told table.Names (λ marks. name_entries link live marks) good (names_bring sizes link live told) p g named within
          ∙ no_more n each files (before_fits is (flat_map each (take n files)) (flat_map each (drop n files)) parts));
      dynamic_names = λ loaded g p within named.
          let n : ℕ = files_before link.groups g in
          let each : NumberedFile → List TableEntry = file_dynamic_names link live told in
          let exports : List TableEntry = flat_map (file_export_names link live) files in
          let entries : List TableEntry = flat_map each (take n files) in
          let whole : List TableEntry = if_dynamic link (first_entry 1 ∷ (flat_map each files ++ exports)) in
          let is : IsOf made p whole = table_in made starts 6 p whole good alone fit (below 6 p (ap some named)) (ap some named) refl in
          let here : whole ≡ first_entry 1 ∷ (flat_map each files ++ exports) = ap (λ b. if b then first_entry 1 ∷ (flat_map each files ++ exports) else []) loaded in
          let parts = own_behind n each files (first_entry 1) exports in
          behind_them is (slice_index (layout_of made).group_starts.dynstr g) entry_bytes (if n == 0 then [] else first_entry 1 ∷ entries) parts.0 (here ∙ parts.1)
          (start_at sizes link live told table.DynamicNames (λ marks. file_dynamic_names link live marks) good (dynamic_names_bring sizes link live told) p g
          (ap (λ b. if b then link.plan.named.dynstr else None) loaded ∙ named) within
          ∙ behind_first n (first_entry 1) entries refl (before_fits is (if n == 0 then [] else first_entry 1 ∷ entries) parts.0 (here ∙ parts.1)));
      locals = λ g p within named.
          let n : ℕ = files_before link.groups g in
          let each : NumberedFile → List TableEntry = local_entries sizes.symbol_entry link live told in
          let is : IsOf made p (flat_map each files) = table_in made starts 2 p (flat_map each files) good alone fit (below 2 p (ap some named)) (ap some named) refl in
          let parts = split_at each n files in
          behind_them is (slice_index (layout_of made).group_starts.symtab_local g) (entries_reach made) (flat_map each (take n files)) (flat_map each (drop n files)) parts
          (in_entries sizes.symbol_entry (byte_starts link (first_shares sizes link live) (prelude_share sizes link live told) table.Locals) g
          ∙ ap (entries_in sizes.symbol_entry) (start_at sizes link live told table.Locals (λ marks. local_entries sizes.symbol_entry link live marks) good (locals_bring sizes link live told) p g named within
          ∙ no_more n each files (before_fits is (flat_map each (take n files)) (flat_map each (drop n files)) parts)));
      globals = λ g p within named.
          let n : ℕ = files_before link.groups g in
          let each : NumberedFile → List TableEntry = global_entries sizes.symbol_entry link live told in
          let is : IsOf made p (flat_map each files) = table_in made starts 3 p (flat_map each files) good alone fit (below 3 p (ap some named)) (ap some named) refl in
          let parts = split_at each n files in
          behind_them is (slice_index (layout_of made).group_starts.symtab_global g) (entries_reach made) (flat_map each (take n files)) (flat_map each (drop n files)) parts
          (in_entries sizes.symbol_entry (byte_starts link (first_shares sizes link live) (prelude_share sizes link live told) table.Globals) g
          ∙ ap (entries_in sizes.symbol_entry) (start_at sizes link live told table.Globals (λ marks. global_entries sizes.symbol_entry link live marks) good (globals_bring sizes link live told) p g named within
          ∙ no_more n each files (before_fits is (flat_map each (take n files)) (flat_map each (drop n files)) parts)));
      exports = λ p loaded named.
          let entry : ℕ = sizes.symbol_entry in
          let each : NumberedFile → List TableEntry = file_dynamic_entries entry link live told in
          let exported : List TableEntry = flat_map (file_export_entries entry link live) files in
          let before : List TableEntry = first_entry entry ∷ flat_map each files in
          let whole : List TableEntry = if_dynamic link (first_entry entry ∷ (flat_map each files ++ exported)) in
          let is : IsOf made p whole = table_in made starts 5 p whole good alone fit (below 5 p (ap some named)) (ap some named) refl in
          let here : whole ≡ before ++ exported = ap (λ b. if b then first_entry entry ∷ (flat_map each files ++ exported) else []) loaded in
          behind_them is (layout_of made).dynsym_start_index length before exported here
          (ap (λ b. if b then 1 + dynamic_count link live told else 0) loaded ∙ omega (arith, dynamic_entries_are entry link live told));
    }
