-- The references that are told are those that can't be met.
use Rattle.std.proofs.Common.{◌≡◌, ℕ, zero, suc, ◌+◌, ◌<◌, Bool, true, false, if◌then◌else◌, ◌&&◌, ◌==◌, not, List, [], ◌∷◌, length, Option, Some, None, unwrap_or, refl, sym, ap, ◌∙◌, subst, inl, inr, ◌↔◌, arith}
use Rattle.std.specs.List.{Contains, cons_option, enumerate_from, filter_map, slice_get}
use Rattle.std.specs.Option.{option_map_or}
use Rattle.std.proofs.lemmas.Option.{slice_get_within}
use Rattle.std.proofs.lemmas.Bool.{and_from, and_parts}
use Rattle.lk_link.specs.declared.file.InputFile.{InputFile}
use Rattle.lk_link.specs.declared.ids.FileId.{FileId}
use Rattle.lk_link.specs.declared.link.LinkInput.{LinkInput}
use Rattle.lk_link.specs.declared.relocation.Relocation.{Relocation}
use Rattle.lk_link.specs.declared.section.InputSection.{InputSection}
use Rattle.lk_link.specs.declared.section.InputSlot.{InputSlot}
use Rattle.lk_link.specs.declared.section.InputSlot.TheVariants as slot
use Rattle.lk_link.specs.declared.symbol.InputSymbol.{InputSymbol}
use Rattle.lk_link.specs.FileKinds.{is_dynamic}
use Rattle.lk_link.specs.Files.{file_in}
use Rattle.lk_link.specs.Inputs.{NumberedFile, numbered_files}
use Rattle.lk_link.specs.InputSlots.{is_discarded, is_regular}
use Rattle.lk_link.specs.Marks.{is_marked}
use Rattle.lk_link.specs.Relocations.{resolution_flags}
use Rattle.lk_link.specs.SymbolPlacements.{is_undefined}
use Rattle.lk_link.specs.Symbols.{all_symbols, file_number, first_symbol}
use Rattle.lk_link.specs.WellFormed.{IsWellFormed}
use Rattle.lk_link.proofs.Elements.{append_at, append_left, append_right, at_contained, at_index, contains_at, flat_map_at, flat_map_in, numbered_at}
use Rattle.lk_link.proofs.GoodInputs.{inputs_are_good}
use Rattle.lk_link.proofs.InputLemmas.{file_stands, numbered_get}
use Rattle.lk_live.specs.declared.error.ReferenceFault.{ReferenceFault}
use Rattle.lk_live.specs.declared.error.ReferenceFault.TheVariants.{Discarded, Undefined, UndefinedDynamic}
use Rattle.lk_reach.specs.declared.units.Unit.TheVariants.{Sec}
use Rattle.lk_live.specs.FaultLaws.{IsFault, IsReachedSection, LacksDefinition}
use Rattle.lk_live.specs.Faults.{dynamic_fault, dynamic_faults, file_faults, held_faults, is_looked_at, is_weak, lacks_symbol, marked_faults, reference_faults, relocation_fault, relocation_faults, section_faults, undefined_placements, undefined_symbols}
use Rattle.lk_reach.specs.Marks.{reached_marks, unit_number}
use Rattle.lk_reach.specs.Units.{local_definition}
use Rattle.lk_reach.proofs.Numbered.{file_at}
use Rattle.lk_reach.proofs.ReachLemmas.{marks_are_reached}
use Rattle.lk_reach.proofs.Rising.{filter_map_at}
use Rattle.lk_reach.proofs.UnitLemmas.{section_unit}

-- ---- lists of what there may be

behind : {Y : Type 0} (o : Option Y) (ys : List Y) (k : ℕ) (y : Y) → slice_get ys k ≡ Some y → (j : ℕ) × (slice_get (cons_option o ys) j ≡ Some y)
behind None ys k y h = (k, h)
behind (Some z) ys k y h = (suc k, h)

filter_map_in : {X Y : Type 0} (f : X → Option Y) (xs : List X) (j : ℕ) (x : X) (y : Y) → slice_get xs j ≡ Some x → f x ≡ Some y → (k : ℕ) × (slice_get (filter_map f xs) k ≡ Some y)
filter_map_in f [] j x y h e = absurd (cc)
filter_map_in f (z ∷ xs) zero x y h e =
    let same : z ≡ x = cc in
    (0, ap (λ o. slice_get (cons_option o (filter_map f xs)) 0) (ap f same ∙ e))
filter_map_in f (z ∷ xs) (suc j) x y h e =
    let r = filter_map_in f xs j x y h e in
    behind (f z) (filter_map f xs) r.0 y r.1

pub if_list : {Y : Type 0} (b : Bool) (xs : List Y) (k : ℕ) (y : Y) → slice_get (if b then xs else []) k ≡ Some y → (b ≡ true) × (slice_get xs k ≡ Some y)
if_list true xs k y h = (refl, h)
if_list false xs k y h = absurd (cc)

pub if_some : {Y : Type 0} (b : Bool) (x y : Y) → (if b then Some x else None) ≡ Some y → (b ≡ true) × (x ≡ y)
if_some true x y h = let same : x ≡ y = cc in (refl, same)
if_some false x y h = absurd (cc)

pub single_at : {Y : Type 0} (x y : Y) (k : ℕ) → slice_get (x ∷ []) k ≡ Some y → x ≡ y
single_at x y zero h = let same : x ≡ y = cc in same
single_at x y (suc k) h = absurd (cc)

pub is_false : (b : Bool) → not b ≡ true → b ≡ false
is_false true h = absurd (cc)
is_false false h = refl

regular_stays : (s : InputSlot) → is_regular s ≡ true → is_discarded s ≡ false
regular_stays slot.Discard h = absurd (cc)
regular_stays slot.Unloaded h = refl
regular_stays slot.MustLoad h = refl
regular_stays slot.DebugInfo h = refl
regular_stays slot.MustLoadDebugInfo h = refl
regular_stays slot.Merge h = refl

-- ---- symbols that lack their definitions

undefined_given : (xs : List InputSymbol) (n : ℕ) → is_marked (undefined_placements xs) n ≡ true → (x : InputSymbol) × (slice_get xs n ≡ Some x) × (is_undefined x.at ≡ true)
undefined_given [] n h = absurd (cc)
undefined_given (x ∷ xs) zero h = (x, refl, h)
undefined_given (x ∷ xs) (suc n) h = undefined_given xs n h

undefined_marked : (xs : List InputSymbol) (n : ℕ) (x : InputSymbol) → slice_get xs n ≡ Some x → is_undefined x.at ≡ true → is_marked (undefined_placements xs) n ≡ true
undefined_marked [] n x h e = absurd (cc)
undefined_marked (y ∷ xs) zero x h e = let same : y ≡ x = cc in ap (λ (z : InputSymbol). is_undefined z.at) same ∙ e
undefined_marked (y ∷ xs) (suc n) x h e = undefined_marked xs n x h e

weak_at : (xs : List InputSymbol) (i : ℕ) (x : InputSymbol) → slice_get xs i ≡ Some x → is_weak xs i ≡ x.weak
weak_at xs i x h = ap (λ o. option_map_or (λ (s : InputSymbol). s.weak) o false) h

stands_at : (first : ℕ) (xs : List InputSymbol) (i : ℕ) (x : InputSymbol) → slice_get xs i ≡ Some x → local_definition first xs i ≡ unwrap_or x.def (first + i)
stands_at first xs i x h = ap (λ o. option_map_or (λ (s : InputSymbol). unwrap_or s.def (first + i)) o (first + i)) h

-- by the table of undefined symbols, and by the symbols themselves
lacking : (link : LinkInput) (file : InputFile) (first i : ℕ) → i < length file.symbols → not (is_weak file.symbols i) ≡ true → is_marked (undefined_symbols link.groups) (local_definition first file.symbols i) ≡ true
    → LacksDefinition link file i (first + i) (local_definition first file.symbols i)
lacking link file first i lt strong marked =
    let x = at_index file.symbols i lt in
    let given = undefined_given (all_symbols link.groups) (local_definition first file.symbols i) marked in
    record {
      symbol = x.0;
      named = x.1;
      strong = is_false x.0.weak (ap not (sym (weak_at file.symbols i x.0 x.1)) ∙ strong);
      stands = sym (stands_at first file.symbols i x.0 x.1);
      undefined = record { symbol = given.0; there = given.1; undefined = given.2 };
    }

lacked : (link : LinkInput) (file : InputFile) (first i n s : ℕ) → first + i ≡ n → (l : LacksDefinition link file i n s)
    → (not (is_weak file.symbols i) ≡ true) × (local_definition first file.symbols i ≡ s) × (is_marked (undefined_symbols link.groups) (local_definition first file.symbols i) ≡ true)
lacked link file first i n s number l =
    let same : local_definition first file.symbols i ≡ s = stands_at first file.symbols i l.symbol l.named ∙ ap (unwrap_or l.symbol.def) number ∙ l.stands in
    let marked = undefined_marked (all_symbols link.groups) s l.undefined.symbol l.undefined.there l.undefined.undefined in
    (ap not (weak_at file.symbols i l.symbol l.named ∙ l.strong), same, ap (is_marked (undefined_symbols link.groups)) same ∙ marked)

-- ---- what is told can't be met

of_section : (link : LinkInput) (f : NumberedFile) (i : ℕ) (place : IsReachedSection link f.id i) (k : ℕ) (fault : ReferenceFault) (b : Bool) → IsWellFormed link → place.file ≡ f.file → is_discarded place.section.slot ≡ b
    → slice_get (if b then Discarded f.id i ∷ [] else if is_regular place.section.slot && link.options.error_objects then relocation_faults link.groups f i place.section.relocs else []) k ≡ Some fault → IsFault link fault
of_section link f i place k fault true wf one is h =
    let same = single_at (Discarded f.id i) fault k h in
    let mine : IsFault link (Discarded f.id i) = record { place = place; discarded = is } in
    subst (IsFault link) same mine
of_section link f i place k fault false wf one is h =
    let told = if_list (is_regular place.section.slot && link.options.error_objects) (relocation_faults link.groups f i place.section.relocs) k fault h in
    let both = and_parts (is_regular place.section.slot) link.options.error_objects told.0 in
    let first = first_symbol link.groups f.id in
    let undefined : List Bool = undefined_symbols link.groups in
    let r = filter_map_at (relocation_fault undefined first f i) (enumerate_from 0 place.section.relocs) k fault told.1 in
    let q : ℕ × Relocation = r.1 in
    let at = numbered_at 0 place.section.relocs r.0 q r.2 in
    let number : q.0 ≡ r.0 = omega (arith, at.0) in
    let made = if_some (lacks_symbol undefined first f.file.symbols q.1) (Undefined (local_definition first f.file.symbols q.1.symbol) f.id i q.0) fault r.3 in
    let symbols : List InputSymbol = place.file.symbols in
    let wants = and_parts (not (resolution_flags q.1.kind == 0)) (not (is_weak symbols q.1.symbol) && is_marked undefined (local_definition first symbols q.1.symbol))
    (ap (λ (g : InputFile). lacks_symbol undefined first g.symbols q.1) one ∙ made.0) in
    let strong = and_parts (not (is_weak symbols q.1.symbol)) (is_marked undefined (local_definition first symbols q.1.symbol)) wants.1 in
    let good = inputs_are_good link f.id i place.file place.section wf place.there place.at is in
    let lacks = lacking link place.file first q.1.symbol (good.in_relocs r.0 q.1 at.1).1 strong.0 strong.1 in
    let mine : IsFault link (Undefined (local_definition first f.file.symbols q.1.symbol) f.id i q.0)
    = record {
      place = place;
      regular = both.0;
      refused = both.1;
      relocation = q.1;
      at = ap (slice_get place.section.relocs) number ∙ at.1;
      wants = is_false (resolution_flags q.1.kind == 0) wants.0;
      lacks = subst (LacksDefinition link place.file q.1.symbol (first + q.1.symbol)) (ap (λ (g : InputFile). local_definition first g.symbols q.1.symbol) one) lacks;
    } in
    subst (IsFault link) made.1 mine

of_held : (link : LinkInput) (f : NumberedFile) (k : ℕ) (fault : ReferenceFault) → IsWellFormed link → file_in link.groups f.id ≡ Some f.file → slice_get (held_faults link (reached_marks link) f) k ≡ Some fault → IsFault link fault
of_held link f k fault wf there h =
    let marks = reached_marks link in
    let at = flat_map_at (marked_faults link marks f) (enumerate_from 0 f.file.sections) k fault h in
    let q : ℕ × InputSection = at.from in
    let x = numbered_at 0 f.file.sections at.outer q at.there in
    let number : q.0 ≡ at.outer = omega (arith, x.0) in
    let at_q : slice_get f.file.sections q.0 ≡ Some q.1 = ap (slice_get f.file.sections) number ∙ x.1 in
    let told = if_list (is_marked marks (unit_number link.groups (Sec f.id q.0))) (section_faults link f q) at.inner fault at.gives in
    let place : IsReachedSection link f.id q.0
    = record {
      file = f.file;
      there = there;
      section = q.1;
      at = at_q;
      reached = (marks_are_reached link (Sec f.id q.0) wf (section_unit link.groups f.id f.file q.0 q.1 there at_q)).0 told.0;
    } in
    of_section link f q.0 place at.inner fault (is_discarded q.1.slot) wf refl refl told.1

of_dynamic : (link : LinkInput) (f : NumberedFile) (k : ℕ) (fault : ReferenceFault) → file_in link.groups f.id ≡ Some f.file → slice_get (dynamic_faults link f) k ≡ Some fault → IsFault link fault
of_dynamic link f k fault there h =
    let first = first_symbol link.groups f.id in
    let undefined : List Bool = undefined_symbols link.groups in
    let told = if_list (is_looked_at link f.file) (filter_map (dynamic_fault undefined first f) (enumerate_from 0 f.file.symbols)) k fault h in
    let r = filter_map_at (dynamic_fault undefined first f) (enumerate_from 0 f.file.symbols) k fault told.1 in
    let q : ℕ × InputSymbol = r.1 in
    let at = numbered_at 0 f.file.symbols r.0 q r.2 in
    let number : q.0 ≡ r.0 = omega (arith, at.0) in
    let made = if_some (not q.1.weak && is_marked undefined (local_definition first f.file.symbols q.0)) (UndefinedDynamic (first + q.0) f.id) fault r.3 in
    let both = and_parts (not q.1.weak) (is_marked undefined (local_definition first f.file.symbols q.0)) made.0 in
    let looked = and_parts (is_dynamic f.file.kind && f.file.check) link.options.error_dynamics told.0 in
    let says = and_parts (is_dynamic f.file.kind) f.file.check looked.0 in
    let at_q : slice_get f.file.symbols q.0 ≡ Some q.1 = ap (slice_get f.file.symbols) number ∙ at.1 in
    let mine : IsFault link (UndefinedDynamic (first + q.0) f.id)
    = record {
      file = f.file;
      there = there;
      dynamic = says.0;
      says = says.1;
      refused = looked.1;
      index = q.0;
      number = refl;
      definition = local_definition first f.file.symbols q.0;
      lacks = lacking link f.file first q.0 (slice_get_within f.file.symbols q.0 q.1 at_q) (ap not (weak_at f.file.symbols q.0 q.1 at_q) ∙ both.0) both.1;
    } in
    subst (IsFault link) made.1 mine

told_is : (link : LinkInput) (fault : ReferenceFault) → IsWellFormed link → Contains (reference_faults link) fault → IsFault link fault
told_is link fault wf h =
    let marks = reached_marks link in
    let k = at_contained (reference_faults link) fault h in
    let at = flat_map_at (file_faults link marks) (numbered_files link.groups) k.0 fault k.1 in
    let f : NumberedFile = at.from in
    let there = (file_at link.groups at.outer f at.there).there in
    elim (append_at (held_faults link marks f) (dynamic_faults link f) at.inner fault at.gives) [
      | inl held ↦ of_held link f at.inner fault wf there held
      | inr dynamic ↦ of_dynamic link f dynamic.0 fault there dynamic.2
    ]

-- ---- what can't be met is told

-- what is told of a file is told
of_file : (link : LinkInput) (f : NumberedFile) (k : ℕ) (fault : ReferenceFault) → file_in link.groups f.id ≡ Some f.file → slice_get (file_faults link (reached_marks link) f) k ≡ Some fault → Contains (reference_faults link) fault
of_file link f k fault there h =
    let whole = flat_map_in (file_faults link (reached_marks link)) (numbered_files link.groups) (file_number link.groups f.id) k f fault (file_stands link.groups f.id f.file there) h in
    contains_at (reference_faults link) whole.0 fault whole.1

-- what is told of a reached section is told
of_place : (link : LinkInput) (id : FileId) (i : ℕ) (place : IsReachedSection link id i) (k : ℕ) (fault : ReferenceFault) → IsWellFormed link
    → slice_get (section_faults link (record { id = id; file = place.file }) (i, place.section)) k ≡ Some fault → Contains (reference_faults link) fault
of_place link id i place k fault wf h =
    let marks = reached_marks link in
    let f : NumberedFile = record { id = id; file = place.file } in
    let q : ℕ × InputSection = (i, place.section) in
    let mark : is_marked marks (unit_number link.groups (Sec id i)) ≡ true
    = (marks_are_reached link (Sec id i) wf (section_unit link.groups id place.file i place.section place.there place.at)).1 place.reached in
    let here : slice_get (marked_faults link marks f q) k ≡ Some fault = ap (λ b. slice_get (if b then section_faults link f q else []) k) mark ∙ h in
    let shown : ℕ → Option (ℕ × InputSection) = λ n. Some (n, place.section) in
    let zero_more : 0 + i ≡ i = omega arith in
    let numbered : slice_get (enumerate_from 0 place.file.sections) i ≡ Some q = numbered_get 0 place.file.sections i place.section place.at ∙ ap shown zero_more in
    let held = flat_map_in (marked_faults link marks f) (enumerate_from 0 place.file.sections) i k q fault numbered here in
    of_file link f held.0 fault place.there (append_left (held_faults link marks f) (dynamic_faults link f) held.0 fault held.1)

is_told : (link : LinkInput) (fault : ReferenceFault) → IsWellFormed link → IsFault link fault → Contains (reference_faults link) fault
is_told link (Discarded id i) wf x =
    let f : NumberedFile = record { id = id; file = x.place.file } in
    let section : InputSection = x.place.section in
    let rest : List ReferenceFault = if is_regular section.slot && link.options.error_objects then relocation_faults link.groups f i section.relocs else [] in
    of_place link id i x.place 0 (Discarded id i) wf (ap (λ b. slice_get (if b then Discarded id i ∷ [] else rest) 0) x.discarded)
is_told link (Undefined s id i r) wf x =
    let f : NumberedFile = record { id = id; file = x.place.file } in
    let section : InputSection = x.place.section in
    let first = first_symbol link.groups id in
    let undefined : List Bool = undefined_symbols link.groups in
    let faults : List ReferenceFault = relocation_faults link.groups f i section.relocs in
    let shown : ℕ → Option (ℕ × Relocation) = λ n. Some (n, x.relocation) in
    let zero_more : 0 + r ≡ r = omega arith in
    let numbered : slice_get (enumerate_from 0 section.relocs) r ≡ Some (r, x.relocation) = numbered_get 0 section.relocs r x.relocation x.at ∙ ap shown zero_more in
    let symbols : List InputSymbol = x.place.file.symbols in
    let l = lacked link x.place.file first x.relocation.symbol (first + x.relocation.symbol) s refl x.lacks in
    let lacks : lacks_symbol undefined first symbols x.relocation ≡ true
    = and_from (not (resolution_flags x.relocation.kind == 0)) (not (is_weak symbols x.relocation.symbol) && is_marked undefined (local_definition first symbols x.relocation.symbol)) (ap not x.wants)
    (and_from (not (is_weak symbols x.relocation.symbol)) (is_marked undefined (local_definition first symbols x.relocation.symbol)) l.0 l.2) in
    let made : relocation_fault undefined first f i (r, x.relocation) ≡ Some (Undefined s id i r)
    = ap (λ b. if b then Some (Undefined (local_definition first symbols x.relocation.symbol) id i r) else None) lacks ∙ ap (λ n. Some (Undefined n id i r)) l.1 in
    let one = filter_map_in (relocation_fault undefined first f i) (enumerate_from 0 section.relocs) r (r, x.relocation) (Undefined s id i r) numbered made in
    let both = and_from (is_regular section.slot) link.options.error_objects x.regular x.refused in
    of_place link id i x.place one.0 (Undefined s id i r) wf
    (ap (λ b. slice_get (if b then Discarded id i ∷ [] else if is_regular section.slot && link.options.error_objects then faults else []) one.0) (regular_stays section.slot x.regular)
    ∙ ap (λ b. slice_get (if b then faults else []) one.0) both ∙ one.1)
is_told link (UndefinedDynamic s id) wf x =
    let f : NumberedFile = record { id = id; file = x.file } in
    let first = first_symbol link.groups id in
    let undefined : List Bool = undefined_symbols link.groups in
    let faults : List ReferenceFault = filter_map (dynamic_fault undefined first f) (enumerate_from 0 x.file.symbols) in
    let shown : ℕ → Option (ℕ × InputSymbol) = λ n. Some (n, x.lacks.symbol) in
    let zero_more : 0 + x.index ≡ x.index = omega arith in
    let numbered : slice_get (enumerate_from 0 x.file.symbols) x.index ≡ Some (x.index, x.lacks.symbol) = numbered_get 0 x.file.symbols x.index x.lacks.symbol x.lacks.named ∙ ap shown zero_more in
    let l = lacked link x.file first x.index s x.definition x.number x.lacks in
    let may = and_from (not x.lacks.symbol.weak) (is_marked undefined (local_definition first x.file.symbols x.index)) (ap not x.lacks.strong) l.2 in
    let looked : is_looked_at link x.file ≡ true = and_from (is_dynamic x.file.kind && x.file.check) link.options.error_dynamics (and_from (is_dynamic x.file.kind) x.file.check x.dynamic x.says) x.refused in
    let made : dynamic_fault undefined first f (x.index, x.lacks.symbol) ≡ Some (UndefinedDynamic s id)
    = ap (λ b. if b then Some (UndefinedDynamic (first + x.index) id) else None) may ∙ ap (λ n. Some (UndefinedDynamic n id)) x.number in
    let one = filter_map_in (dynamic_fault undefined first f) (enumerate_from 0 x.file.symbols) x.index (x.index, x.lacks.symbol) (UndefinedDynamic s id) numbered made in
    let here : slice_get (dynamic_faults link f) one.0 ≡ Some (UndefinedDynamic s id) = ap (λ b. slice_get (if b then faults else []) one.0) looked ∙ one.1 in
    let held : List ReferenceFault = held_faults link (reached_marks link) f in
    of_file link f _ (UndefinedDynamic s id) x.there (append_right held (dynamic_faults link f) one.0 _ (UndefinedDynamic s id) refl here)

pub told_are_faults : (link : LinkInput) (fault : ReferenceFault) → IsWellFormed link → Contains (reference_faults link) fault ↔ IsFault link fault
told_are_faults link fault wf = (told_is link fault wf, is_told link fault wf)
