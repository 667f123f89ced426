-- More is deleted of one section.
use Rattle.std.proofs.Common.{◌≡◌, ◌==◌, ◌<◌, ℕ, zero, suc, ◌+◌, Bool, true, false, List, [], ◌∷◌, Some, length, map, set, refl, sym, ap, subst, ◌∙◌, arith, eq-eqb, ne_eqb}
use Rattle.std.specs.Prelude.{if◌then◌else◌, slice_get}
use Rattle.std.specs.List.{cons_option, filter_map, slice_index_or}
use Rattle.std.proofs.lemmas.Bool.{le-ltb, lt-ltb}
use Rattle.std.proofs.lemmas.Option.{get_or_from_slice_get}
use Rattle.lk_link.specs.declared.ids.FileId.{FileId}
use Rattle.lk_link.specs.declared.link.LinkInput.{LinkInput}
use Rattle.lk_link.specs.declared.section.InputSection.{InputSection}
use Rattle.lk_link.specs.Inputs.{Input, NumberedFile, input_number, inputs_from, numbered_files}
use Rattle.lk_link.specs.Symbols.{file_number}
use Rattle.lk_link.proofs.Elements.{map_in}
use Rattle.lk_link.proofs.InputLemmas.{file_stands, inputs_follow}
use Rattle.lk_reach.proofs.Numbered.{file_at, file_of_input}
use Rattle.lk_deltas.specs.DeltaMaps.{with_ranges}
use Rattle.lk_sizes.specs.Tables.{IsInput}
use Rattle.lk_sizes.proofs.LiveNumbers.{place_is_number}
use Rattle.lk_relax.specs.PassWords.{with_deleted}
use Rattle.lk_relax.specs.Stages.{deletions_by, entry_of, file_entries}
use Rattle.lk_relax.proofs.ReadBack.{Entry, by_ranges, input}

-- ---- the sections of a file

-- a section in front of all entries has its own put in front
put_in_front : (r : Input → List (ℕ × ℕ)) (id : FileId) (i o : ℕ) (ss : List InputSection) (new : List (ℕ × ℕ)) → i < o
    → with_ranges i new (filter_map (entry_of r) (inputs_from id o ss)) ≡ (i, new) ∷ filter_map (entry_of r) (inputs_from id o ss)
put_in_front r id i o [] new lt = refl
put_in_front r id i o (s ∷ ss) new lt = by (length (r (input id o s)) == 0) (put_in_front r id i (o + 1) ss new (omega (arith, lt)))
  where
    rest : List Entry
    rest = filter_map (entry_of r) (inputs_from id (o + 1) ss)

    e : Entry
    e = (o, r (input id o s))

    by : (b : Bool) → with_ranges i new rest ≡ (i, new) ∷ rest → with_ranges i new (cons_option (by_ranges o (r (input id o s)) b) rest) ≡ (i, new) ∷ cons_option (by_ranges o (r (input id o s)) b) rest
    by true later = later
    by false later =
        ap (λ c. if c then e ∷ with_ranges i new rest else (i, new) ∷ (if o == i then rest else e ∷ rest)) (le-ltb o i (omega (arith, lt)))
        ∙ ap (λ c. (i, new) ∷ (if c then rest else e ∷ rest)) (ne_eqb o i (λ same. absurd (omega (arith, same, lt))))

-- sections with the same ranges have the same entries
entries_alike : (r s : Input → List (ℕ × ℕ)) (id : FileId) (o : ℕ) (ss : List InputSection) → ((j : ℕ) (x : InputSection) → slice_get ss j ≡ Some x → s (input id (o + j) x) ≡ r (input id (o + j) x))
    → filter_map (entry_of s) (inputs_from id o ss) ≡ filter_map (entry_of r) (inputs_from id o ss)
entries_alike r s id o [] same = refl
entries_alike r s id o (x ∷ ss) same =
    let at : o + 0 ≡ o = omega arith in
    let here : s (input id o x) ≡ r (input id o x) = subst (λ (n : ℕ). s (input id n x) ≡ r (input id n x)) at (same 0 x refl) in
    let rest = entries_alike r s id (o + 1) ss (λ j y there.
    let next : o + suc j ≡ o + 1 + j = omega arith in
    subst (λ (n : ℕ). s (input id n y) ≡ r (input id n y)) next (same (suc j) y there)) in
    ap (λ (ranges : List (ℕ × ℕ)). cons_option (by_ranges o ranges (length ranges == 0)) (filter_map (entry_of s) (inputs_from id (o + 1) ss))) here
    ∙ ap (cons_option (by_ranges o (r (input id o x)) (length (r (input id o x)) == 0))) rest

-- with other ranges for one of them, and the same for each other one
entries_put : (r s : Input → List (ℕ × ℕ)) (id : FileId) (o k : ℕ) (ss : List InputSection) (x : InputSection) (new : List (ℕ × ℕ)) → slice_get ss k ≡ Some x
    → s (input id (o + k) x) ≡ new → (length new == 0) ≡ false
    → ((j : ℕ) (y : InputSection) → slice_get ss j ≡ Some y → (j ≡ k → ⊥) → s (input id (o + j) y) ≡ r (input id (o + j) y))
    → with_ranges (o + k) new (filter_map (entry_of r) (inputs_from id o ss)) ≡ filter_map (entry_of s) (inputs_from id o ss)
entries_put r s id o k [] x new there is some others = absurd (cc)
entries_put r s id o zero (q ∷ ss) x new there is some others = left (length (r (input id o q)) == 0) ∙ sym right
  where
    rest : List Entry
    rest = filter_map (entry_of r) (inputs_from id (o + 1) ss)

    at : o + 0 ≡ o
    at = omega arith

    e : Entry
    e = (o, r (input id o q))

    left : (b : Bool) → with_ranges (o + 0) new (cons_option (by_ranges o (r (input id o q)) b) rest) ≡ (o, new) ∷ rest
    left true = ap (λ (i : ℕ). with_ranges i new rest) at ∙ put_in_front r id o (o + 1) ss new (omega arith)
    left false =
        ap (λ c. if c then e ∷ with_ranges (o + 0) new rest else (o + 0, new) ∷ (if o == o + 0 then rest else e ∷ rest)) (le-ltb o (o + 0) (omega arith))
        ∙ ap (λ c. (o + 0, new) ∷ (if c then rest else e ∷ rest)) (eq-eqb o (o + 0) (sym at))
        ∙ ap (λ (i : ℕ). (i, new) ∷ rest) at

    same : filter_map (entry_of s) (inputs_from id (o + 1) ss) ≡ rest
    same = entries_alike r s id (o + 1) ss (λ j y here.
        let next : o + suc j ≡ o + 1 + j = omega arith in
        subst (λ (n : ℕ). s (input id n y) ≡ r (input id n y)) next (others (suc j) y here (λ clash. absurd (omega (arith, clash)))))

    ranges : s (input id o q) ≡ new
    ranges = let first : q ≡ x = cc in ap (λ (y : InputSection). s (input id o y)) first ∙ ap (λ (n : ℕ). s (input id n x)) (sym at) ∙ is

    right : filter_map (entry_of s) (inputs_from id o (q ∷ ss)) ≡ (o, new) ∷ rest
    right =
        ap (λ (rs : List (ℕ × ℕ)). cons_option (by_ranges o rs (length rs == 0)) (filter_map (entry_of s) (inputs_from id (o + 1) ss))) ranges
        ∙ ap (λ b. cons_option (by_ranges o new b) (filter_map (entry_of s) (inputs_from id (o + 1) ss))) some
        ∙ ap (λ (es : List Entry). (o, new) ∷ es) same
entries_put r s id o (suc k) (q ∷ ss) x new there is some others =
    by (length (r (input id o q)) == 0) (
    ap (λ (n : ℕ). with_ranges n new rest) next
    ∙ entries_put r s id (o + 1) k ss x new there (ap (λ (n : ℕ). s (input id n x)) (sym next) ∙ is) some (λ j y found other.
    let behind : o + suc j ≡ o + 1 + j = omega arith in
    subst (λ (n : ℕ). s (input id n y) ≡ r (input id n y)) behind (others (suc j) y found (λ same. other (omega (arith, same))))))
    ∙ ap (λ (rs : List (ℕ × ℕ)). cons_option (by_ranges o rs (length rs == 0)) (filter_map (entry_of s) (inputs_from id (o + 1) ss))) (sym here)
  where
    rest : List Entry
    rest = filter_map (entry_of r) (inputs_from id (o + 1) ss)

    next : o + suc k ≡ o + 1 + k
    next = omega arith

    at : o + 0 ≡ o
    at = omega arith

    here : s (input id o q) ≡ r (input id o q)
    here = subst (λ (n : ℕ). s (input id n q) ≡ r (input id n q)) at (others 0 q refl (λ zero_is. absurd (omega (arith, zero_is))))

    by : (b : Bool) → with_ranges (o + suc k) new rest ≡ filter_map (entry_of s) (inputs_from id (o + 1) ss)
        → with_ranges (o + suc k) new (cons_option (by_ranges o (r (input id o q)) b) rest) ≡ cons_option (by_ranges o (r (input id o q)) b) (filter_map (entry_of s) (inputs_from id (o + 1) ss))
    by true later = later
    by false later =
        ap (λ c. if c then (o, r (input id o q)) ∷ with_ranges (o + suc k) new rest else (o + suc k, new) ∷ (if o == o + suc k then rest else (o, r (input id o q)) ∷ rest)) (lt-ltb o (o + suc k) (omega arith))
        ∙ ap (λ (es : List Entry). (o, r (input id o q)) ∷ es) later

-- ---- files

-- one element of a list is made anew, and the others are the same
set_made : {X Y : Type 0} (f g : X → Y) (xs : List X) (n : ℕ) (x : X) → slice_get xs n ≡ Some x → ((k : ℕ) (y : X) → slice_get xs k ≡ Some y → (k ≡ n → ⊥) → f y ≡ g y)
    → set (map f xs) n (g x) ≡ map g xs
set_made f g [] n x there same = absurd (cc)
set_made {X} f g (y ∷ xs) zero x there same =
    let is : y ≡ x = cc in
    ap (λ (z : X). g z ∷ map f xs) (sym is) ∙ ap (λ zs. g y ∷ zs) (all xs (λ k z at. same (suc k) z at (λ clash. absurd (omega (arith, clash)))))
  where
    all : (zs : List X) → ((k : ℕ) (z : X) → slice_get zs k ≡ Some z → f z ≡ g z) → map f zs ≡ map g zs
    all [] h = refl
    all (z ∷ zs) h = ap (λ v. v ∷ map f zs) (h 0 z refl) ∙ ap (λ vs. g z ∷ vs) (all zs (λ k. h (suc k)))
set_made f g (y ∷ xs) (suc n) x there same =
    ap (λ v. v ∷ set (map f xs) n (g x)) (same 0 y refl (λ clash. absurd (omega (arith, clash))))
    ∙ ap (λ vs. g y ∷ vs) (set_made f g xs n x there (λ k z at other. same (suc k) z at (λ same_at. other (omega (arith, same_at)))))

-- a section of a file is one of the link's
in_link : (link : LinkInput) (k : ℕ) (f : NumberedFile) (j : ℕ) (s : InputSection) → slice_get (numbered_files link.groups) k ≡ Some f → slice_get f.file.sections j ≡ Some s
    → IsInput link (input f.id j s)
in_link link k f j s at there = inputs_follow.at link.groups f.id f.file j s (file_at link.groups k f at).there there

-- another one
abbrev pub Other : Input → Input → Type 0
Other x y = y.file ≡ x.file → y.index ≡ x.index → ⊥

-- the deletions with other ranges for one section
pub deleted_put : (link : LinkInput) (r s : Input → List (ℕ × ℕ)) (x : Input) → IsInput link x → (length (s x) == 0) ≡ false → ((y : Input) → IsInput link y → Other x y → s y ≡ r y)
    → with_deleted link.groups (deletions_by link r) x.file x.index (s x) ≡ deletions_by link s
deleted_put link r s x is some others =
    let groups = link.groups in
    let files : List NumberedFile = numbered_files groups in
    let f = file_of_input groups (input_number groups x.file x.index) x is in
    let numbered : NumberedFile = record { id = x.file; file = f.0 } in
    let n : ℕ = file_number groups x.file in
    let stands : slice_get files n ≡ Some numbered = file_stands groups x.file f.0 f.1 in
    let number : 0 + x.index ≡ x.index = omega arith in
    let new : List (ℕ × ℕ) = s x in
    let read : slice_index_or (deletions_by link r) n [] ≡ file_entries r numbered
    = get_or_from_slice_get (deletions_by link r) n (file_entries r numbered) [] (map_in (file_entries r) files n numbered stands) in
    let put : with_ranges (0 + x.index) new (file_entries r numbered) ≡ file_entries s numbered
    = entries_put r s x.file 0 x.index f.0.sections x.section new f.2 (ap (λ (i : ℕ). s (input x.file i x.section)) number) some (λ j y there other.
    others (input x.file (0 + j) y) (subst (λ (i : ℕ). IsInput link (input x.file i y)) (omega arith) (in_link link n numbered j y stands there))
    (λ file index. other (omega (arith, index)))) in
    ap (λ (es : List Entry). set (deletions_by link r) n (with_ranges x.index new es)) read
    ∙ ap (λ (i : ℕ). set (deletions_by link r) n (with_ranges i new (file_entries r numbered))) (sym number)
    ∙ ap (set (deletions_by link r) n) put
    ∙ set_made (file_entries r) (file_entries s) files n numbered stands (λ k g at other.
    sym (entries_alike r s g.id 0 g.file.sections (λ j y there.
    others (input g.id (0 + j) y) (subst (λ (i : ℕ). IsInput link (input g.id i y)) (omega arith) (in_link link k g j y at there))
    (λ file index. other (place_is_number link k g at ∙ ap (file_number groups) file)))))

-- the same ranges are the same deletions
pub deleted_alike : (link : LinkInput) (r s : Input → List (ℕ × ℕ)) → ((y : Input) → IsInput link y → s y ≡ r y) → deletions_by link s ≡ deletions_by link r
deleted_alike link r s same = all 0 (numbered_files link.groups) (λ k f at. ap (λ (i : ℕ). slice_get (numbered_files link.groups) i) (omega arith) ∙ at)
  where
    all : (o : ℕ) (fs : List NumberedFile) → ((k : ℕ) (f : NumberedFile) → slice_get fs k ≡ Some f → slice_get (numbered_files link.groups) (o + k) ≡ Some f) → map (file_entries s) fs ≡ map (file_entries r) fs
    all o [] h = refl
    all o (f ∷ fs) h =
        let one : file_entries s f ≡ file_entries r f = entries_alike r s f.id 0 f.file.sections (λ j y there.
        same (input f.id (0 + j) y) (subst (λ (i : ℕ). IsInput link (input f.id i y)) (omega arith) (in_link link (o + 0) f j y (h 0 f refl) there))) in
        ap (λ (e : List Entry). e ∷ map (file_entries s) fs) one
        ∙ ap (λ (es : List (List Entry)). file_entries r f ∷ es) (all (o + 1) fs (λ k g at. ap (λ (i : ℕ). slice_get (numbered_files link.groups) i) (omega arith) ∙ h (suc k) g at))
