-- What the first pass looks at, and what is deleted before it.
use Rattle.std.proofs.Common.{◌≡◌, ◌+◌, ◌<◌, ◌++◌, ◌||◌, ℕ, suc, Bool, true, false, cond, List, [], ◌∷◌, Some, length, map, filter, refl, sym, ap, ◌∙◌, arith}
use Rattle.std.specs.Prelude.{if◌then◌else◌, slice_get}
use Rattle.std.specs.List.{enumerate_from, filter_map, list_any}
use Rattle.std.proofs.lemmas.Bool.{false_from_ne_true}
use Rattle.std.proofs.lemmas.List.{length-map, map-append, map_push}
use Rattle.std.proofs.lemmas.List.Elements.{filter-append}
use Rattle.lk_link.specs.declared.ids.FileId.{FileId}
use Rattle.lk_link.specs.declared.link.LinkInput.{LinkInput}
use Rattle.lk_link.specs.declared.section.InputSection.{InputSection}
use Rattle.lk_link.specs.declared.walks.FileRef.{FileRef}
use Rattle.lk_link.specs.declared.walks.InputRef.{InputRef}
use Rattle.lk_link.specs.Inputs.{Input, NumberedFile, all_inputs, input_number, inputs_from}
use Rattle.lk_link.specs.Walks.{file_of, input_of}
use Rattle.lk_live.specs.declared.live.Live.{Live}
use Rattle.lk_sizes.proofs.LiveByFiles.{number_of}
use Rattle.lk_sizes.proofs.Numbering.{numbered_push}
use Rattle.lk_relax.specs.PassWords.{StandOnce, is_named}
use Rattle.lk_relax.specs.RelaxationWords.{can_shrink_by, first_sections}
use Rattle.lk_relax.specs.Stages.{entry_of, file_entries}
use Rattle.lk_relax.proofs.Finding.{same_named}

-- ---- nothing deleted

no_entries : (id : FileId) (o : ℕ) (ss : List InputSection) → filter_map (entry_of (λ _. [])) (inputs_from id o ss) ≡ []
no_entries id o [] = refl
no_entries id o (s ∷ ss) = no_entries id (o + 1) ss

-- one file more
pub empty_next : (done : List FileRef) (f : FileRef) (old new : List (List (ℕ × List (ℕ × ℕ)))) (one : List (ℕ × List (ℕ × ℕ))) → old ≡ map (file_entries (λ _. [])) (map file_of done) → one ≡ [] → new ≡ old ++ one ∷ []
    → new ≡ map (file_entries (λ _. [])) (map file_of (done ++ f ∷ []))
empty_next done f old new one so_far none pushed =
    let nothing : NumberedFile → List (ℕ × List (ℕ × ℕ)) = file_entries (λ _. []) in
    pushed
    ∙ ap (λ (es : List (ℕ × List (ℕ × ℕ))). old ++ es ∷ []) (none ∙ sym (no_entries f.id 0 f.file.now.sections))
    ∙ ap (λ (ds : List (List (ℕ × List (ℕ × ℕ)))). ds ++ nothing (file_of f) ∷ []) so_far
    ∙ sym (map_push nothing (map file_of done) (file_of f))
    ∙ ap (map nothing) (sym (map_push file_of done f))

-- ---- what is looked at

abbrev pub named : ℕ × Input → FileId × ℕ
named q = (q.1.file, q.1.index)

either : (q : ℕ × Input) (b : Bool) → cond b (named q ∷ []) [] ≡ map named (cond b (q ∷ []) [])
either q true = refl
either q false = refl

-- one section more
pub scan_next : (f : ℕ × Input → Bool) (done : List InputRef) (x : InputRef) (old new : List (FileId × ℕ)) (b : Bool) → old ≡ map named (filter f (enumerate_from 0 (map input_of done)))
    → f (length done, input_of x) ≡ b → new ≡ old ++ cond b ((x.file, x.index) ∷ []) [] → new ≡ map named (filter f (enumerate_from 0 (map input_of (done ++ x ∷ []))))
scan_next f done x old new b so_far is pushed =
    let before : List Input = map input_of done in
    let all : List (ℕ × Input) = enumerate_from 0 before in
    let q : ℕ × Input = (0 + length before, input_of x) in
    let count : length done ≡ 0 + length before = omega (arith, length-map done input_of) in
    let one : (c : Bool) → f q ≡ c → cond c ((x.file, x.index) ∷ []) [] ≡ map named (filter f (q ∷ []))
    = λ c at. either q c ∙ ap (λ (d : Bool). map named (cond d (q ∷ []) [])) (sym at) in
    pushed
    ∙ ap (λ (rs : List (FileId × ℕ)). rs ++ cond b ((x.file, x.index) ∷ []) []) so_far
    ∙ ap (λ (rs : List (FileId × ℕ)). map named (filter f all) ++ rs) (one b (ap (λ (n : ℕ). f (n, input_of x)) (sym count) ∙ is))
    ∙ sym (map-append named (filter f all) (filter f (q ∷ [])))
    ∙ ap (map named) (sym (filter-append f all (q ∷ [])))
    ∙ ap (λ (ps : List (ℕ × Input)). map named (filter f ps)) (sym (numbered_push 0 before (input_of x)))
    ∙ ap (λ (xs : List Input). map named (filter f (enumerate_from 0 xs))) (sym (map_push input_of done x))

-- a section that stands before others is none of them
later_differ : (link : LinkInput) (f : ℕ × Input → Bool) (m : ℕ) (ys : List Input) (x : Input) → input_number link.groups x.file x.index < m
    → ((k : ℕ) (y : Input) → slice_get ys k ≡ Some y → input_number link.groups y.file y.index ≡ m + k)
    → list_any (λ r. is_named r (x.file, x.index)) (map named (filter f (enumerate_from m ys))) ≡ false
later_differ link f m [] x below numbers = refl
later_differ link f m (y ∷ ys) x below numbers =
    by (f (m, y)) (later_differ link f (m + 1) ys x (omega (arith, below)) (λ k z there. omega (arith, numbers (suc k) z there)))
  where
    rest : List (ℕ × Input)
    rest = filter f (enumerate_from (m + 1) ys)

    differ : is_named (y.file, y.index) (x.file, x.index) ≡ false
    differ = false_from_ne_true (is_named (y.file, y.index) (x.file, x.index)) (λ h.
        let is = same_named (y.file, y.index) (x.file, x.index) h in
        let same : input_number link.groups x.file x.index ≡ input_number link.groups y.file y.index
        = ap (λ (id : FileId). input_number link.groups id x.index) is.0 ∙ ap (input_number link.groups y.file) is.1 in
        absurd (omega (arith, same, below, numbers 0 y refl)))

    by : (b : Bool) → list_any (λ r. is_named r (x.file, x.index)) (map named rest) ≡ false → list_any (λ r. is_named r (x.file, x.index)) (map named (cond b ((m, y) ∷ rest) rest)) ≡ false
    by true later = ap (λ b. b || list_any (λ r. is_named r (x.file, x.index)) (map named rest)) differ ∙ later
    by false later = later

once_from : (link : LinkInput) (f : ℕ × Input → Bool) (n : ℕ) (xs : List Input) → ((k : ℕ) (x : Input) → slice_get xs k ≡ Some x → input_number link.groups x.file x.index ≡ n + k)
    → StandOnce (map named (filter f (enumerate_from n xs)))
once_from link f n [] numbers = tt
once_from link f n (x ∷ xs) numbers =
    let behind : (k : ℕ) (y : Input) → slice_get xs k ≡ Some y → input_number link.groups y.file y.index ≡ n + 1 + k = λ k y there. omega (arith, numbers (suc k) y there) in
    let rest : List (ℕ × Input) = filter f (enumerate_from (n + 1) xs) in
    elim (f (n, x)) as (λ b. StandOnce (map named (cond b ((n, x) ∷ rest) rest))) [
      | true ↦ (later_differ link f (n + 1) xs x (omega (arith, numbers 0 x refl)) behind, once_from link f (n + 1) xs behind)
      | false ↦ once_from link f (n + 1) xs behind
    ]

-- no section stands twice among those that are looked at first
pub first_once : (link : LinkInput) (live : Live) → StandOnce (first_sections link live)
first_once link live =
    let f : ℕ × Input → Bool = λ q. can_shrink_by live.marks (q.0, q.1.section) in
    elim link.options.relax as (λ b. StandOnce (if b then map named (filter f (enumerate_from 0 (all_inputs link.groups))) else [])) [
      | true ↦ once_from link f 0 (all_inputs link.groups) (λ k x there. omega (arith, number_of link k x there))
      | false ↦ tt
    ]
