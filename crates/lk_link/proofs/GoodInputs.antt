-- The input sections of a well-formed link: lemmas for its laws.
use Rattle.std.specs.Prelude.{◌≡◌, ℕ, zero, suc, ◌+◌, ◌<◌, ◌≤◌, ◌==◌, ◌&&◌, ◌||◌, not, Bool, true, false, List, [], ◌∷◌, Option, Some, None, find, length, nat_le, nat_lt, slice_get, refl}
use Rattle.std.specs.List.{list_all}
use Rattle.std.specs.Option.{option_map_or}
use Rattle.std.proofs.Common.{⊎_elim, arith, ap, sym, ◌∙◌}
use Rattle.std.proofs.lemmas.Bool.{and_parts, eqb-true, leb-true, ltb-true, ltb-false, le-leb, not-true, or_cases, or_left, or_right}
use Rattle.lk_link.specs.declared.fault.Limited.TheVariants as limited
use Rattle.lk_link.specs.declared.file.InputFile.{InputFile}
use Rattle.lk_link.specs.declared.ids.FileId.{FileId}
use Rattle.lk_link.specs.declared.link.LinkInput.{LinkInput}
use Rattle.lk_link.specs.declared.plan.Plan.{Plan}
use Rattle.lk_link.specs.declared.plan.PlanPart.{PlanPart}
use Rattle.lk_link.specs.declared.relocation.Relocation.{Relocation}
use Rattle.lk_link.specs.declared.relocation.RelaxCandidate.{RelaxCandidate}
use Rattle.lk_link.specs.declared.section.InputSection.{InputSection}
use Rattle.lk_link.specs.Files.{file_in}
use Rattle.lk_link.specs.InputRules.{goes_to_part, fits_part, is_good_singleton, has_good_part, are_input_attrs, is_good_reloc, is_good_relax, rise, has_good_content, is_good_input, has_good_inputs, IsGoodInput}
use Rattle.lk_link.specs.InputSlots.{is_discarded, is_merge, is_regular}
use Rattle.lk_link.specs.Limits.{counted, limit_of, all_sections, first_length_past}
use Rattle.lk_link.specs.PartRules.{is_table_part, is_free_part, is_singleton_part}
use Rattle.lk_link.specs.Parts.{all_parts}
use Rattle.lk_link.proofs.Places.{all_at, all_from, all_parted, all_weaker, file_passes, none_found, found_passes}
use Rattle.lk_link.specs.Symbols.{all_files}
use Rattle.lk_link.specs.WellFormed.{IsWellFormed}

-- ---- a good section, taken apart

implied : (a b : Bool) → (not a || b) ≡ true → a ≡ true → b ≡ true
implied true b h e = h
implied false b h e = absurd (cc)

fits : (s : InputSection) (o : Option PlanPart) (p : PlanPart) → option_map_or (fits_part s) o false ≡ true → o ≡ Some p → fits_part s p ≡ true
fits s o p h e = ap (λ x. option_map_or (fits_part s) x false) (sym e) ∙ h

is_good : (symbols : ℕ) (size : ℕ) (r : Relocation) → is_good_reloc size symbols r ≡ true → (r.offset < size) × (r.symbol < symbols)
is_good symbols size r h =
    let both = and_parts (nat_lt r.offset size) (nat_lt r.symbol symbols) h in
    (ltb-true r.offset size both.0, ltb-true r.symbol symbols both.1)

can_go : (symbols : ℕ) (size : ℕ) (r : RelaxCandidate) → is_good_relax size symbols r ≡ true → (1 ≤ r.del) × (r.at + r.del ≤ size) × (r.symbol < symbols)
can_go symbols size r h =
    let all = and_parts (nat_le 1 r.del && nat_le (r.at + r.del) size) (nat_lt r.symbol symbols) h in
    let two = and_parts (nat_le 1 r.del) (nat_le (r.at + r.del) size) all.0 in
    (leb-true 1 r.del two.0, leb-true (r.at + r.del) size two.1, ltb-true r.symbol symbols all.1)

rest_rises : (r : RelaxCandidate) (rs : List RelaxCandidate) → rise (r ∷ rs) ≡ true → rise rs ≡ true
unfolding rise
rest_rises r [] h = refl
rest_rises r (q ∷ rs) h = (and_parts (nat_le (r.at + r.del) q.at) (rise (q ∷ rs)) h).1

-- the first ends before each other begins
first_apart : (q : RelaxCandidate) (rs : List RelaxCandidate) (k : ℕ) (r : RelaxCandidate) → rise (q ∷ rs) ≡ true → slice_get rs k ≡ Some r → q.at + q.del ≤ r.at
unfolding rise
first_apart q [] k r h at_k = absurd (cc)
first_apart q (x ∷ rs) zero r h at_k =
    let same : x ≡ r = cc in
    let here = leb-true (q.at + q.del) x.at (and_parts (nat_le (q.at + q.del) x.at) (rise (x ∷ rs)) h).0 in
    rw same at here
first_apart q (x ∷ rs) (suc k) r h at_k =
    let both = and_parts (nat_le (q.at + q.del) x.at) (rise (x ∷ rs)) h in
    let here = leb-true (q.at + q.del) x.at both.0 in
    let later = first_apart x rs k r both.1 at_k in
    omega (arith, here, later)

-- each ends before those behind it begin
each_apart : (rs : List RelaxCandidate) (j k : ℕ) (q r : RelaxCandidate) → rise rs ≡ true → j < k → slice_get rs j ≡ Some q → slice_get rs k ≡ Some r → q.at + q.del ≤ r.at
each_apart [] j k q r h lt at_j at_k = absurd (cc)
each_apart (x ∷ rs) j zero q r h lt at_j at_k = absurd (omega arith)
each_apart (x ∷ rs) zero (suc k) q r h lt at_j at_k =
    let same : x ≡ q = cc in
    first_apart q rs k r (ap (λ y. rise (y ∷ rs)) (sym same) ∙ h) at_k
each_apart (x ∷ rs) (suc j) (suc k) q r h lt at_j at_k = each_apart rs j k q r (rest_rises x rs h) (omega arith) at_j at_k

-- what is said of a good section's part
good_part : (plan : Plan) (s : InputSection) → has_good_part plan s ≡ true → (is_free_part plan s.part ≡ true) × (option_map_or (fits_part s) (slice_get (all_parts plan.sections) s.part) false ≡ true) × (is_good_singleton plan s ≡ true)
good_part plan s h =
    let fitting = option_map_or (fits_part s) (slice_get (all_parts plan.sections) s.part) false in
    let all = and_parts (is_free_part plan s.part && fitting) (is_good_singleton plan s) h in
    let two = and_parts (is_free_part plan s.part) fitting all.0 in
    (two.0, two.1, all.1)

-- and of what it holds
good_content : (symbols : ℕ) (s : InputSection) → has_good_content symbols s ≡ true → (are_input_attrs s.attrs ≡ true) × (list_all (is_good_reloc s.size symbols) s.relocs ≡ true) × (list_all (is_good_relax s.size symbols) s.relax ≡ true) × (rise s.relax ≡ true)
good_content symbols s h =
    let relocs = list_all (is_good_reloc s.size symbols) s.relocs in
    let relax = list_all (is_good_relax s.size symbols) s.relax in
    let all = and_parts (are_input_attrs s.attrs && relocs && relax) (rise s.relax) h in
    let three = and_parts (are_input_attrs s.attrs && relocs) relax all.0 in
    let two = and_parts (are_input_attrs s.attrs) relocs three.0 in
    (two.0, two.1, three.1, all.1)

-- a good section isn't discarded, or both its parts are good
good_parts : (plan : Plan) (symbols : ℕ) (s : InputSection) → is_good_input plan symbols s ≡ true → is_discarded s.slot ≡ false → (has_good_part plan s ≡ true) × (has_good_content symbols s ≡ true)
good_parts plan symbols s h kept =
    let both : (has_good_part plan s && has_good_content symbols s) ≡ true = ap (λ b. b || (has_good_part plan s && has_good_content symbols s)) (sym kept) ∙ h in
    and_parts (has_good_part plan s) (has_good_content symbols s) both

fits_merge : (s : InputSection) (p : PlanPart) → fits_part s p ≡ true → is_merge s.slot ≡ true → p.alignment ≡ 1
fits_merge s p h e =
    let both = and_parts (not (is_merge s.slot) || (p.alignment == 1)) (not s.sorted || (is_regular s.slot && not p.packed)) h in
    eqb-true p.alignment 1 (implied (is_merge s.slot) (p.alignment == 1) both.0 e)

fits_sorted : (s : InputSection) (p : PlanPart) → fits_part s p ≡ true → s.sorted ≡ true → (is_regular s.slot ≡ true) × (p.packed ≡ false)
fits_sorted s p h e =
    let both = and_parts (not (is_merge s.slot) || (p.alignment == 1)) (not s.sorted || (is_regular s.slot && not p.packed)) h in
    let sorts = and_parts (is_regular s.slot) (not p.packed) (implied s.sorted (is_regular s.slot && not p.packed) both.1 e) in
    (sorts.0, not-true p.packed sorts.1)

fits_single : (plan : Plan) (s : InputSection) → is_good_singleton plan s ≡ true → is_singleton_part plan s.part ≡ true → (is_regular s.slot ≡ true) × (s.sorted ≡ false)
fits_single plan s h e =
    let both = and_parts (is_regular s.slot) (not s.sorted) (implied (is_singleton_part plan s.part) (is_regular s.slot && not s.sorted) h e) in
    (both.0, not-true s.sorted both.1)

pub good_input : (plan : Plan) (symbols : ℕ) (s : InputSection) → is_good_input plan symbols s ≡ true → is_discarded s.slot ≡ false → IsGoodInput plan symbols s
good_input plan symbols s h kept =
    let parts = length (all_parts plan.sections) in
    let both = good_parts plan symbols s h kept in
    let part = good_part plan s both.0 in
    let content = good_content symbols s both.1 in
    let free = and_parts (nat_lt s.part parts) (not (is_table_part plan.named s.part)) part.0 in
    record {
      to_part = ltb-true s.part parts free.0;
      to_no_table = not-true (is_table_part plan.named s.part) free.1;
      merged = λ p at_p e. fits_merge s p (fits s (slice_get (all_parts plan.sections) s.part) p part.1 at_p) e;
      sorts = λ p at_p e. fits_sorted s p (fits s (slice_get (all_parts plan.sections) s.part) p part.1 at_p) e;
      singles = λ e. fits_single plan s part.2 e;
      few_attrs = content.0;
      in_relocs = λ k r at_k. is_good symbols s.size r (all_at (is_good_reloc s.size symbols) s.relocs k r content.1 at_k);
      in_relax = λ k r at_k. can_go symbols s.size r (all_at (is_good_relax s.size symbols) s.relax k r content.2 at_k);
      apart = λ j k q r lt at_j at_k. each_apart s.relax j k q r content.3 lt at_j at_k;
    }

-- ---- the sections of a link

-- each is good
pub input_of : (link : LinkInput) (id : FileId) (i : ℕ) (file : InputFile) (section : InputSection) → IsWellFormed link → file_in link.groups id ≡ Some file → slice_get file.sections i ≡ Some section → is_good_input link.plan (length file.symbols) section ≡ true
input_of link id i file section h at_id at_i =
    all_at (is_good_input link.plan (length file.symbols)) file.sections i section (file_passes (has_good_inputs link.plan) link.groups id file h.inputs at_id) at_i

-- it is discarded, or goes to one of so many parts
abbrev pub goes_if_kept : ℕ → InputSection → Bool
goes_if_kept parts s = is_discarded s.slot || goes_to_part parts s

good_goes : (plan : Plan) (symbols : ℕ) (s : InputSection) → is_good_input plan symbols s ≡ true → goes_if_kept (length (all_parts plan.sections)) s ≡ true
good_goes plan symbols s h =
    let parts = length (all_parts plan.sections) in
    ⊎_elim
    (λ gone. or_left (is_discarded s.slot) (goes_to_part parts s) gone)
    (λ good. let part = good_part plan s (and_parts (has_good_part plan s) (has_good_content symbols s) good).0 in
    or_right (is_discarded s.slot) (goes_to_part parts s) (and_parts (goes_to_part parts s) (not (is_table_part plan.named s.part)) part.0).0)
    (or_cases (is_discarded s.slot) (has_good_part plan s && has_good_content symbols s) h)

-- all sections that aren't discarded go to parts
pub inputs_go : (link : LinkInput) → IsWellFormed link → list_all (λ files. list_all (λ f. list_all (goes_if_kept (length (all_parts link.plan.sections))) f.sections) files) link.groups ≡ true
inputs_go link h =
    let parts = length (all_parts link.plan.sections) in
    all_weaker (λ files. list_all (has_good_inputs link.plan) files) (λ files. list_all (λ f. list_all (goes_if_kept parts) f.sections) files) link.groups
    (λ files. all_weaker (has_good_inputs link.plan) (λ f. list_all (goes_if_kept parts) f.sections) files
    (λ f. all_weaker (is_good_input link.plan (length f.symbols)) (goes_if_kept parts) f.sections (λ s. good_goes link.plan (length f.symbols) s)))
    h.inputs

-- ---- their lists

found_long : (most : ℕ) (len : InputSection → ℕ) (sections : List InputSection) (o : Option InputSection) → find (λ s. nat_lt most (len s)) sections ≡ o → option_map_or len o 0 ≤ most → (k : ℕ) (s : InputSection) → slice_get sections k ≡ Some s → nat_le (len s) most ≡ true
found_long most len sections None e h k s at_k =
    le-leb (len s) most (ltb-false most (len s) (none_found (λ x. nat_lt most (len x)) sections k s e at_k))
found_long most len sections (Some x) e h k s at_k =
    let long = ltb-true most (len x) (found_passes (λ y. nat_lt most (len y)) sections x e) in
    absurd (omega (arith, long, h))

-- where no list is longer than it may be, each is at most so long
lengths_within : (most : ℕ) (len : InputSection → ℕ) (sections : List InputSection) → first_length_past most len sections ≤ most → list_all (λ s. nat_le (len s) most) sections ≡ true
lengths_within most len sections h =
    all_from (λ s. nat_le (len s) most) sections (λ k s at_k. found_long most len sections (find (λ x. nat_lt most (len x)) sections) refl h k s at_k)

-- so is that of each section of each file
within_file : (most : ℕ) (len : InputSection → ℕ) (groups : List (List InputFile)) (id : FileId) (i : ℕ) (file : InputFile) (section : InputSection) → first_length_past most len (all_sections groups) ≤ most → file_in groups id ≡ Some file → slice_get file.sections i ≡ Some section → len section ≤ most
within_file most len groups id i file section h at_id at_i =
    let short : InputSection → Bool = λ s. nat_le (len s) most in
    let by_file = all_parted short (λ f. f.sections) (all_files groups) (lengths_within most len (all_sections groups) h) in
    let by_group = all_parted (λ f. list_all short f.sections) (λ files. files) groups by_file in
    leb-true (len section) most (all_at short file.sections i section (file_passes (λ f. list_all short f.sections) groups id file by_group at_id) at_i)

-- the relocations of a section, and its relaxations, are few enough
pub lists_of : (link : LinkInput) (id : FileId) (i : ℕ) (file : InputFile) (section : InputSection) → IsWellFormed link → file_in link.groups id ≡ Some file → slice_get file.sections i ≡ Some section → (length section.relocs ≤ 16777216) × (length section.relax ≤ 16777216)
unfolding counted limit_of
lists_of link id i file section h at_id at_i = (
  within_file 16777216 (λ s. length s.relocs) link.groups id i file section (h.within limited.Relocations) at_id at_i,
  within_file 16777216 (λ s. length s.relax) link.groups id i file section (h.within limited.Relaxations) at_id at_i,
)

-- ---- the laws

pub inputs_are_good : (link : LinkInput) (id : FileId) (i : ℕ) (file : InputFile) (section : InputSection) → IsWellFormed link → file_in link.groups id ≡ Some file → slice_get file.sections i ≡ Some section → is_discarded section.slot ≡ false → IsGoodInput link.plan (length file.symbols) section
inputs_are_good link id i file section h at_id at_i kept =
    good_input link.plan (length file.symbols) section (input_of link id i file section h at_id at_i) kept

pub inputs_go_to_parts : (link : LinkInput) (id : FileId) (i : ℕ) (file : InputFile) (section : InputSection) → IsWellFormed link → file_in link.groups id ≡ Some file → slice_get file.sections i ≡ Some section → is_discarded section.slot ≡ false → goes_to_part (length (all_parts link.plan.sections)) section ≡ true
inputs_go_to_parts link id i file section h at_id at_i kept =
    let good = input_of link id i file section h at_id at_i in
    let part = good_part link.plan section (good_parts link.plan (length file.symbols) section good kept).0 in
    (and_parts (goes_to_part (length (all_parts link.plan.sections)) section) (not (is_table_part link.plan.named section.part)) part.0).0
