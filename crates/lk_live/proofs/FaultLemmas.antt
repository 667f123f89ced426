-- Faults of relocations and of sections, one more at a time.
use Rattle.std.proofs.Common.{◌≡◌, ℕ, zero, suc, ◌+◌, ◌<◌, Bool, if◌then◌else◌, List, [], ◌∷◌, ◌++◌, length, map, take, Option, Some, None, refl, sym, ap, ◌∙◌, arith, get_or, append_assoc}
use Rattle.std.specs.List.{cons_option, enumerate_from, filter_map, flat_map}
use Rattle.std.specs.Option.{option_to_list}
use Rattle.std.proofs.lemmas.Grind.{flat_map-append}
use Rattle.std.proofs.lemmas.List.{append-nil, map-append}
use Rattle.std.proofs.lemmas.List.Elements.{filter_map-append}
use Rattle.lk_link.specs.declared.file.InputFile.{InputFile}
use Rattle.lk_link.specs.declared.link.LinkInput.{LinkInput}
use Rattle.lk_link.specs.declared.section.InputSection.{InputSection}
use Rattle.lk_link.specs.Inputs.{NumberedFile, numbered_files}
use Rattle.lk_link.specs.Marks.{is_marked}
use Rattle.lk_link.specs.Symbols.{all_symbols}
use Rattle.lk_link.proofs.InputLemmas.{files_from_are}
use Rattle.lk_reach.specs.declared.units.Unit.TheVariants.{Sec}
use Rattle.lk_live.specs.Faults.{marked_faults, section_faults, undefined_placements}
use Rattle.lk_reach.specs.Marks.{unit_number}

-- one element more, with its number
pub numbered_more : {X : Type 0} (o n : ℕ) (xs : List X) (d : X) → n < length xs → enumerate_from o (take (suc n) xs) ≡ enumerate_from o (take n xs) ++ (o + n, get_or xs n d) ∷ []
numbered_more o n [] d lt = absurd (omega (arith, lt))
numbered_more o zero (x ∷ xs) d lt = let e : o ≡ o + 0 = omega arith in ap (λ i. (i, x) ∷ []) e
numbered_more o (suc n) (x ∷ xs) d lt =
    let e : o + 1 + n ≡ o + suc n = omega arith in
    ap (λ ys. (o, x) ∷ ys) (numbered_more (o + 1) n xs d (omega (arith, lt)) ∙ ap (λ i. enumerate_from (o + 1) (take n xs) ++ (i, get_or xs n d) ∷ []) e)

pub one_more : {X : Type 0} (n : ℕ) (xs : List X) (x d : X) → n < length xs → x ≡ get_or xs n d → enumerate_from 0 (take (n + 1) xs) ≡ enumerate_from 0 (take n xs) ++ (n, x) ∷ []
one_more n xs x d lt read =
    let next : n + 1 ≡ suc n = omega arith in
    let zero_more : 0 + n ≡ n = omega arith in
    ap (λ k. enumerate_from 0 (take k xs)) next ∙ numbered_more 0 n xs d lt
    ∙ ap (λ i. enumerate_from 0 (take n xs) ++ (i, get_or xs n d) ∷ []) zero_more
    ∙ ap (λ y. enumerate_from 0 (take n xs) ++ (n, y) ∷ []) (sym read)

kept_or_not : {Y : Type 0} (o : Option Y) → cons_option o [] ≡ option_to_list o
kept_or_not None = refl
kept_or_not (Some y) = refl

single : {X Y : Type 0} (f : X → Option Y) (x : X) → filter_map f (x ∷ []) ≡ option_to_list (f x)
single f x = kept_or_not (f x)

-- the next relocation's fault is added
pub fault_next : {X Y : Type 0} (f : ℕ × X → Option Y) (n : ℕ) (xs : List X) (x d : X) (init faults new : List Y) → n < length xs → x ≡ get_or xs n d
    → faults ≡ init ++ filter_map f (enumerate_from 0 (take n xs)) → new ≡ faults ++ option_to_list (f (n, x)) → new ≡ init ++ filter_map f (enumerate_from 0 (take (n + 1) xs))
fault_next f n xs x d init faults new lt read so_far step =
    let before = filter_map f (enumerate_from 0 (take n xs)) in
    step ∙ ap (λ ys. ys ++ option_to_list (f (n, x))) so_far ∙ append_assoc init before (option_to_list (f (n, x)))
    ∙ ap (λ ys. init ++ (before ++ ys)) (sym (single f (n, x)))
    ∙ ap (λ ys. init ++ ys) (sym (filter_map-append f (enumerate_from 0 (take n xs)) ((n, x) ∷ [])) ∙ ap (filter_map f) (sym (one_more n xs x d lt read)))

-- the next section's faults are added
pub section_next : {X Y : Type 0} (f : ℕ × X → List Y) (n : ℕ) (xs : List X) (x d : X) (init faults new : List Y) → n < length xs → x ≡ get_or xs n d
    → faults ≡ init ++ flat_map f (enumerate_from 0 (take n xs)) → new ≡ faults ++ f (n, x) → new ≡ init ++ flat_map f (enumerate_from 0 (take (n + 1) xs))
section_next f n xs x d init faults new lt read so_far step =
    let before = flat_map f (enumerate_from 0 (take n xs)) in
    step ∙ ap (λ ys. ys ++ f (n, x)) so_far ∙ append_assoc init before (f (n, x))
    ∙ ap (λ ys. init ++ (before ++ ys)) (sym (append-nil (f (n, x))))
    ∙ ap (λ ys. init ++ ys) (sym (flat_map-append f (enumerate_from 0 (take n xs)) ((n, x) ∷ [])) ∙ ap (flat_map f) (sym (one_more n xs x d lt read)))

-- ---- a section by its mark

pub faults_if_marked : (link : LinkInput) (marks : List Bool) (f : NumberedFile) (q : ℕ × InputSection) (n : ℕ) (b : Bool) → n ≡ unit_number link.groups (Sec f.id q.0) → is_marked marks n ≡ b
    → marked_faults link marks f q ≡ (if b then section_faults link f q else [])
faults_if_marked link marks f q n b same is = ap (λ m. if is_marked marks m then section_faults link f q else []) (sym same) ∙ ap (λ c. if c then section_faults link f q else []) is

-- ---- undefined symbols

pub all_placements : (fs : List NumberedFile) → flat_map (λ f. undefined_placements f.file.symbols) fs ≡ undefined_placements (flat_map (λ f. f.symbols) (map (λ x. x.file) fs))
all_placements [] = refl
all_placements (f ∷ fs) =
    ap (λ xs. undefined_placements f.file.symbols ++ xs) (all_placements fs)
    ∙ sym (map-append _ f.file.symbols (flat_map (λ (g : InputFile). g.symbols) (map (λ (x : NumberedFile). x.file) fs)))

pub placements_whole : (link : LinkInput) → flat_map (λ f. undefined_placements f.file.symbols) (numbered_files link.groups) ≡ undefined_placements (all_symbols link.groups)
placements_whole link = all_placements (numbered_files link.groups) ∙ ap (λ fs. undefined_placements (flat_map (λ (f : InputFile). f.symbols) fs)) (files_from_are 0 link.groups)
