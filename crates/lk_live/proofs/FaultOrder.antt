-- The references that are told stand in the order of their places, each once, and no other list is such.
use Rattle.std.proofs.Common.{◌≡◌, ℕ, ◌+◌, ◌<◌, Bool, true, false, if◌then◌else◌, ◌&&◌, not, List, [], ◌∷◌, Option, Some, refl, sym, ap, ◌∙◌, inl, inr, arith}
use Rattle.std.specs.Cmp.{nat_cmp_is}
use Rattle.std.specs.Cmp.Lexicographic.{slice_cmp}
use Rattle.std.specs.List.{enumerate_from, filter_map, slice_get}
use Rattle.std.specs.Ordering.{nat_cmp, ordering_reverse, ordering_then}
use Rattle.std.specs.declared.cmp.Ordering.{Ordering}
use Rattle.std.specs.declared.cmp.Ordering.TheVariants.{Less, Equal, Greater}
use Rattle.std.proofs.lemmas.Cmp.{nat_list_cmp_total}
use Rattle.lk_link.specs.declared.file.InputFile.{InputFile}
use Rattle.lk_link.specs.declared.ids.FileId.{FileId}
use Rattle.lk_link.specs.declared.link.LinkInput.{LinkInput}
use Rattle.lk_link.specs.declared.relocation.Relocation.{Relocation}
use Rattle.lk_link.specs.declared.section.InputSection.{InputSection}
use Rattle.lk_link.specs.declared.symbol.InputSymbol.{InputSymbol}
use Rattle.lk_link.specs.Files.{file_cmp}
use Rattle.lk_link.specs.Inputs.{NumberedFile, group_files, numbered_file, numbered_files}
use Rattle.lk_link.specs.InputSlots.{is_discarded, is_regular}
use Rattle.lk_link.specs.Marks.{is_marked}
use Rattle.lk_link.specs.Symbols.{first_symbol}
use Rattle.lk_link.proofs.Elements.{append_at, flat_map_at, map_at, numbered_at}
use Rattle.lk_live.specs.declared.error.ReferenceFault.{ReferenceFault}
use Rattle.lk_live.specs.declared.error.ReferenceFault.TheVariants.{Discarded, Undefined, UndefinedDynamic}
use Rattle.lk_live.specs.FaultLaws.{ComesBefore, FaultsAreOne, FaultsAreThese, fault_place}
use Rattle.lk_live.specs.Faults.{dynamic_fault, dynamic_faults, file_faults, held_faults, is_looked_at, lacks_symbol, marked_faults, reference_faults, relocation_fault, relocation_faults, section_faults, undefined_symbols}
use Rattle.lk_reach.specs.declared.units.Unit.TheVariants.{Sec}
use Rattle.lk_reach.specs.Marks.{reached_marks, unit_number}
use Rattle.lk_reach.specs.Units.{local_definition}
use Rattle.lk_reach.proofs.Rising.{IsOrder, Rises, filter_map_at, pairs_of, rises_append, rises_filtered, rises_flat, rises_if, rises_one, same_order}
use Rattle.lk_live.proofs.FaultReach.{if_list, if_some, single_at, told_are_faults}

-- ---- places, number by number

same_number : (n : ℕ) → nat_cmp n n ≡ Equal
same_number n = sym (nat_cmp_is n n Equal refl)

lower_number : (m n : ℕ) → m < n → nat_cmp m n ≡ Less
lower_number m n lt = sym (nat_cmp_is m n Less lt)

lower : (m n : ℕ) (xs ys : List ℕ) → m < n → slice_cmp nat_cmp (m ∷ xs) (n ∷ ys) ≡ Less
lower m n xs ys lt = ap (λ o. ordering_then o (slice_cmp nat_cmp xs ys)) (lower_number m n lt)

behind_same : (n : ℕ) (xs ys : List ℕ) → slice_cmp nat_cmp xs ys ≡ Less → slice_cmp nat_cmp (n ∷ xs) (n ∷ ys) ≡ Less
behind_same n xs ys h = ap (λ o. ordering_then o (slice_cmp nat_cmp xs ys)) (same_number n) ∙ h

behind_file : (id : FileId) (kind : ℕ) (xs ys : List ℕ) → slice_cmp nat_cmp xs ys ≡ Less
    → slice_cmp nat_cmp (id.group ∷ id.file ∷ kind ∷ xs) (id.group ∷ id.file ∷ kind ∷ ys) ≡ Less
behind_file id kind xs ys h =
    behind_same id.group (id.file ∷ kind ∷ xs) (id.file ∷ kind ∷ ys) (behind_same id.file (kind ∷ xs) (kind ∷ ys) (behind_same kind xs ys h))

-- it is in a file, among its sections or its symbols, at a number
record IsAt (id : FileId) (kind n : ℕ) (fault : ReferenceFault) : Type 0 where
  rest : List ℕ
  place : fault_place fault ≡ id.group ∷ id.file ∷ kind ∷ n ∷ rest

by_places : (a b : ReferenceFault) (xs ys : List ℕ) → fault_place a ≡ xs → fault_place b ≡ ys → slice_cmp nat_cmp xs ys ≡ Less → ComesBefore a b
by_places a b xs ys p q h = ap (λ zs. slice_cmp nat_cmp zs (fault_place b)) p ∙ ap (slice_cmp nat_cmp xs) q ∙ h

by_number : (id : FileId) (kind m n : ℕ) (a b : ReferenceFault) → IsAt id kind m a → IsAt id kind n b → m < n → ComesBefore a b
by_number id kind m n a b p q lt =
    by_places a b (id.group ∷ id.file ∷ kind ∷ m ∷ p.rest) (id.group ∷ id.file ∷ kind ∷ n ∷ q.rest) p.place q.place
    (behind_file id kind (m ∷ p.rest) (n ∷ q.rest) (lower m n p.rest q.rest lt))

by_kind : (id : FileId) (m n : ℕ) (a b : ReferenceFault) → IsAt id 0 m a → IsAt id 1 n b → ComesBefore a b
by_kind id m n a b p q =
    let first : List ℕ = 0 ∷ m ∷ p.rest in
    let second : List ℕ = 1 ∷ n ∷ q.rest in
    by_places a b (id.group ∷ id.file ∷ first) (id.group ∷ id.file ∷ second) p.place q.place
    (behind_same id.group (id.file ∷ first) (id.file ∷ second) (behind_same id.file first second (lower 0 1 (m ∷ p.rest) (n ∷ q.rest) (omega arith))))

then_more : (a b c : Ordering) → ordering_then a b ≡ Less → ordering_then a (ordering_then b c) ≡ Less
then_more Less b c h = refl
then_more Equal b c h = ap (λ o. ordering_then o c) h
then_more Greater b c h = absurd (cc)

by_file : (f g : FileId) (j k m n : ℕ) (a b : ReferenceFault) → file_cmp f g ≡ Less → IsAt f j m a → IsAt g k n b → ComesBefore a b
by_file f g j k m n a b before p q =
    by_places a b (f.group ∷ f.file ∷ j ∷ m ∷ p.rest) (g.group ∷ g.file ∷ k ∷ n ∷ q.rest) p.place q.place
    (then_more (nat_cmp f.group g.group) (nat_cmp f.file g.file) (slice_cmp nat_cmp (j ∷ m ∷ p.rest) (k ∷ n ∷ q.rest)) before)

-- ---- files

abbrev files_of : ℕ × List InputFile → List NumberedFile
files_of q = group_files q.0 0 q.1

abbrev IsEarlier : NumberedFile → NumberedFile → Type 0
IsEarlier f g = file_cmp f.id g.id ≡ Less

in_group : (q : ℕ × List InputFile) (k : ℕ) (f : NumberedFile) → slice_get (files_of q) k ≡ Some f → (f.id.group ≡ q.0) × (f.id.file ≡ k)
in_group q k f h =
    let at = map_at (numbered_file q.0) (enumerate_from 0 q.1) k f h in
    let number = numbered_at 0 q.1 k at.0 at.1 in
    (ap (λ (g : NumberedFile). g.id.group) (sym at.2), ap (λ (g : NumberedFile). g.id.file) (sym at.2) ∙ omega (arith, number.0))

files_rise : (groups : List (List InputFile)) → Rises IsEarlier (numbered_files groups)
files_rise groups =
    rises_flat IsEarlier files_of (enumerate_from 0 groups) (λ i q at m n f g lt p r.
    let a = in_group q m f p in
    let b = in_group q n g r in
    let group : nat_cmp f.id.group g.id.group ≡ Equal = ap (nat_cmp f.id.group) (b.0 ∙ sym a.0) ∙ same_number f.id.group in
    ap (λ o. ordering_then o (nat_cmp f.id.file g.id.file)) group ∙ lower_number f.id.file g.id.file (omega (arith, lt, a.1, b.1)))
    (λ i j q r lt at_q at_r m n f g p s.
    let a = in_group q m f p in
    let b = in_group r n g s in
    let first = numbered_at 0 groups i q at_q in
    let second = numbered_at 0 groups j r at_r in
    ap (λ o. ordering_then o (nat_cmp f.id.file g.id.file)) (lower_number f.id.group g.id.group (omega (arith, lt, a.0, b.0, first.0, second.0))))

-- ---- a section

at_relocation : (link : LinkInput) (f : NumberedFile) (i : ℕ) (q : ℕ × Relocation) (fault : ReferenceFault) → relocation_fault (undefined_symbols link.groups) (first_symbol link.groups f.id) f i q ≡ Some fault
    → fault_place fault ≡ f.id.group ∷ f.id.file ∷ 0 ∷ i ∷ q.0 ∷ []
at_relocation link f i q fault h =
    let first = first_symbol link.groups f.id in
    let made = if_some (lacks_symbol (undefined_symbols link.groups) first f.file.symbols q.1) (Undefined (local_definition first f.file.symbols q.1.symbol) f.id i q.0) fault h in
    ap fault_place (sym made.1)

relocations_rise : (link : LinkInput) (f : NumberedFile) (i : ℕ) (relocs : List Relocation) → Rises ComesBefore (relocation_faults link.groups f i relocs)
relocations_rise link f i relocs =
    rises_filtered ComesBefore (relocation_fault (undefined_symbols link.groups) (first_symbol link.groups f.id) f i) (enumerate_from 0 relocs) (λ m n q r a b lt at_q at_r p s.
    let first = numbered_at 0 relocs m q at_q in
    let second = numbered_at 0 relocs n r at_r in
    by_places a b (f.id.group ∷ f.id.file ∷ 0 ∷ i ∷ q.0 ∷ []) (f.id.group ∷ f.id.file ∷ 0 ∷ i ∷ r.0 ∷ []) (at_relocation link f i q a p) (at_relocation link f i r b s)
    (behind_file f.id 0 (i ∷ q.0 ∷ []) (i ∷ r.0 ∷ []) (behind_same i (q.0 ∷ []) (r.0 ∷ []) (lower q.0 r.0 [] [] (omega (arith, lt, first.0, second.0))))))

abbrev told_of : LinkInput → NumberedFile → ℕ → InputSection → Bool → List ReferenceFault
told_of link f i s b =
    if b then Discarded f.id i ∷ [] else if is_regular s.slot && link.options.error_objects then relocation_faults link.groups f i s.relocs else []

section_rises : (link : LinkInput) (f : NumberedFile) (i : ℕ) (s : InputSection) (b : Bool) → Rises ComesBefore (told_of link f i s b)
section_rises link f i s true = rises_one ComesBefore (Discarded f.id i)
section_rises link f i s false = rises_if ComesBefore (is_regular s.slot && link.options.error_objects) (relocation_faults link.groups f i s.relocs) (relocations_rise link f i s.relocs)

in_section : (link : LinkInput) (f : NumberedFile) (i : ℕ) (s : InputSection) (b : Bool) (k : ℕ) (fault : ReferenceFault) → slice_get (told_of link f i s b) k ≡ Some fault → IsAt f.id 0 i fault
in_section link f i s true k fault h = record { rest = []; place = ap fault_place (sym (single_at (Discarded f.id i) fault k h)) }
in_section link f i s false k fault h =
    let told = if_list (is_regular s.slot && link.options.error_objects) (relocation_faults link.groups f i s.relocs) k fault h in
    let at = filter_map_at (relocation_fault (undefined_symbols link.groups) (first_symbol link.groups f.id) f i) (enumerate_from 0 s.relocs) k fault told.1 in
    record { rest = at.1.0 ∷ []; place = at_relocation link f i at.1 fault at.3 }

-- ---- a file

marked_at : (link : LinkInput) (f : NumberedFile) (q : ℕ × InputSection) (k : ℕ) (fault : ReferenceFault) → slice_get (marked_faults link (reached_marks link) f q) k ≡ Some fault → IsAt f.id 0 q.0 fault
marked_at link f q k fault h =
    let told = if_list (is_marked (reached_marks link) (unit_number link.groups (Sec f.id q.0))) (section_faults link f q) k fault h in
    in_section link f q.0 q.1 (is_discarded q.1.slot) k fault told.1

held_rise : (link : LinkInput) (f : NumberedFile) → Rises ComesBefore (held_faults link (reached_marks link) f)
held_rise link f =
    rises_flat ComesBefore (marked_faults link (reached_marks link) f) (enumerate_from 0 f.file.sections)
    (λ i q at. rises_if ComesBefore (is_marked (reached_marks link) (unit_number link.groups (Sec f.id q.0))) (section_faults link f q) (section_rises link f q.0 q.1 (is_discarded q.1.slot)))
    (λ i j q r lt at_q at_r m n a b p s.
    let first = numbered_at 0 f.file.sections i q at_q in
    let second = numbered_at 0 f.file.sections j r at_r in
    by_number f.id 0 q.0 r.0 a b (marked_at link f q m a p) (marked_at link f r n b s) (omega (arith, lt, first.0, second.0)))

abbrev by_symbols : LinkInput → NumberedFile → ℕ × InputSymbol → Option ReferenceFault
by_symbols link f = dynamic_fault (undefined_symbols link.groups) (first_symbol link.groups f.id) f

at_symbol : (link : LinkInput) (f : NumberedFile) (q : ℕ × InputSymbol) (fault : ReferenceFault) → by_symbols link f q ≡ Some fault → IsAt f.id 1 (first_symbol link.groups f.id + q.0) fault
at_symbol link f q fault h =
    let first = first_symbol link.groups f.id in
    let made = if_some (not q.1.weak && is_marked (undefined_symbols link.groups) (local_definition first f.file.symbols q.0)) (UndefinedDynamic (first + q.0) f.id) fault h in
    record { rest = []; place = ap fault_place (sym made.1) }

dynamic_rise : (link : LinkInput) (f : NumberedFile) → Rises ComesBefore (dynamic_faults link f)
dynamic_rise link f =
    rises_if ComesBefore (is_looked_at link f.file) (filter_map (by_symbols link f) (enumerate_from 0 f.file.symbols)) (rises_filtered ComesBefore (by_symbols link f) (enumerate_from 0 f.file.symbols) (λ i j q r a b lt at_q at_r p s.
    let first = numbered_at 0 f.file.symbols i q at_q in
    let second = numbered_at 0 f.file.symbols j r at_r in
    by_number f.id 1 (first_symbol link.groups f.id + q.0) (first_symbol link.groups f.id + r.0) a b (at_symbol link f q a p) (at_symbol link f r b s) (omega (arith, lt, first.0, second.0))))

-- the place of what is told of a file
record IsInFile (id : FileId) (fault : ReferenceFault) : Type 0 where
  kind : ℕ
  number : ℕ
  at : IsAt id kind number fault

in_held : (link : LinkInput) (f : NumberedFile) (k : ℕ) (fault : ReferenceFault) → slice_get (held_faults link (reached_marks link) f) k ≡ Some fault → (n : ℕ) × IsAt f.id 0 n fault
in_held link f k fault h =
    let at = flat_map_at (marked_faults link (reached_marks link) f) (enumerate_from 0 f.file.sections) k fault h in
    (at.from.0, marked_at link f at.from at.inner fault at.gives)

in_dynamic : (link : LinkInput) (f : NumberedFile) (k : ℕ) (fault : ReferenceFault) → slice_get (dynamic_faults link f) k ≡ Some fault → (n : ℕ) × IsAt f.id 1 n fault
in_dynamic link f k fault h =
    let told = if_list (is_looked_at link f.file) (filter_map (by_symbols link f) (enumerate_from 0 f.file.symbols)) k fault h in
    let at = filter_map_at (by_symbols link f) (enumerate_from 0 f.file.symbols) k fault told.1 in
    (first_symbol link.groups f.id + at.1.0, at_symbol link f at.1 fault at.3)

in_file : (link : LinkInput) (f : NumberedFile) (k : ℕ) (fault : ReferenceFault) → slice_get (file_faults link (reached_marks link) f) k ≡ Some fault → IsInFile f.id fault
in_file link f k fault h = elim (append_at (held_faults link (reached_marks link) f) (dynamic_faults link f) k fault h) [
  | inl held ↦ let at = in_held link f k fault held in record { kind = 0; number = at.0; at = at.1 }
  | inr dynamic ↦ let at = in_dynamic link f dynamic.0 fault dynamic.2 in record { kind = 1; number = at.0; at = at.1 }
]

file_rises : (link : LinkInput) (f : NumberedFile) → Rises ComesBefore (file_faults link (reached_marks link) f)
file_rises link f =
    rises_append ComesBefore (held_faults link (reached_marks link) f) (dynamic_faults link f) (held_rise link f) (dynamic_rise link f) (λ i j a b p q.
    let first = in_held link f i a p in
    let second = in_dynamic link f j b q in
    by_kind f.id first.0 second.0 a b first.1 second.1)

-- ---- all files

all_rise : (link : LinkInput) → Rises ComesBefore (reference_faults link)
all_rise link =
    rises_flat ComesBefore (file_faults link (reached_marks link)) (numbered_files link.groups) (λ i f at. file_rises link f) (λ i j f g lt at_f at_g m n a b p q.
    let first = in_file link f m a p in
    let second = in_file link g n b q in
    by_file f.id g.id first.kind second.kind first.number second.number a b (files_rise link.groups i j f g lt at_f at_g) first.at second.at)

pub faults_are_these : FaultsAreThese
faults_are_these link wf = record { these = λ fault. told_are_faults link fault wf; in_order = pairs_of ComesBefore (reference_faults link) (all_rise link) }

-- ---- there is one

not_before_itself : (o : Ordering) → o ≡ ordering_reverse o → o ≡ Less → ⊥
not_before_itself Less h e = absurd (cc)
not_before_itself Equal h e = absurd (cc)
not_before_itself Greater h e = absurd (cc)

places_order : IsOrder ComesBefore
places_order = record {
  not_itself = λ x. not_before_itself (slice_cmp nat_cmp (fault_place x) (fault_place x)) (nat_list_cmp_total.antisymm (fault_place x) (fault_place x));
  goes_on = λ x y z. nat_list_cmp_total.trans (fault_place x) (fault_place y) (fault_place z);
}

pub faults_are_one : FaultsAreOne
faults_are_one link a b p q = same_order ComesBefore places_order a b p.in_order q.in_order (λ fault. (λ c. (q.these fault).1 ((p.these fault).0 c), λ c. (p.these fault).1 ((q.these fault).0 c)))
