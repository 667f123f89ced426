-- What was taken already changes nothing: candidates of one output section, and the location counter's expressions.
use Rattle.std.proofs.Common.{◌≡◌, ℕ, ◌++◌, Bool, true, false, if◌then◌else◌, List, [], ◌∷◌, Option, Some, None, option_map, refl, sym, ap, subst, inl, inr, replicate}
use Rattle.std.specs.List.{All, slice_set}
use Rattle.lk_link.specs.declared.file.FileKind.{FileKind}
use Rattle.lk_link.specs.declared.file.FileKind.TheVariants as kind
use Rattle.lk_link.specs.declared.file.InputFile.{InputFile}
use Rattle.lk_link.specs.declared.ids.FileId.{FileId}
use Rattle.lk_link.specs.declared.link.LinkInput.{LinkInput}
use Rattle.lk_link.specs.declared.symbol.SymbolPlacement.{SymbolPlacement}
use Rattle.lk_link.specs.FileKinds.{is_script, is_synthetic}
use Rattle.lk_link.specs.Files.{file_in}
use Rattle.lk_link.specs.Inputs.{NumberedFile}
use Rattle.lk_link.specs.Marks.{is_marked}
use Rattle.lk_link.specs.WellFormed.{IsWellFormed}
use Rattle.lk_reach.specs.declared.edges.EdgeAt.{EdgeAt}
use Rattle.lk_reach.specs.declared.units.Ask.{Ask}
use Rattle.lk_reach.specs.declared.units.Unit.TheVariants.{Sym}
use Rattle.lk_reach.specs.declared.walk.Walk.{Walk}
use Rattle.lk_reach.specs.Edges.{edge_in}
use Rattle.lk_link.specs.SymbolPlacements.{edge_of}
use Rattle.lk_reach.specs.Marks.{IsInside, IsJoined, asking, join_all}
use Rattle.lk_reach.specs.Units.{file_roots, follows, kind_roots, location_asks, wanted_symbol_asks}
use Rattle.lk_reach.specs.Walking.{Adds, AreAsked, IsDone, IsSized}
use Rattle.lk_reach.proofs.MarkLemmas.{all_right, mark_all_marked, mark_cases, none_marked}
use Rattle.lk_reach.proofs.UnitLemmas.{asks_are_inside, wanted_inside}
use Rattle.lk_reach.proofs.WalkLemmas.{IsPopped, adds_done, adds_more, done_more, same_done}
use Rattle.lk_reach.proofs.WordLemmas.{HasBit, join_all_keeps, join_all_length, join_all_only, same_words}

-- ---- what is done already

join_again : (words : List ℕ) (asks : List Ask) → All (IsJoined words) asks → join_all words asks ≡ words
join_again words asks h =
    same_words (join_all words asks) words (join_all_length words asks) (λ n i bit. join_all_only (HasBit words) words asks (λ m j b. b) h n i bit)
    (λ n i bit. join_all_keeps words asks n i bit)

-- what is marked and joined already changes nothing
pub adds_again : (link : LinkInput) (asks : List Ask) (w : Walk) → All (IsDone link w) asks → Adds link asks w w
adds_again link asks w done = record {
  marked = sym (mark_all_marked (asking link) w.marks.items asks (λ k d lt. (done k d lt).0));
  joined = sym (join_again w.words.items asks (λ k d lt. (done k d lt).1));
  fresh = λ u h. inl h;
  kept = λ u h. h;
  few = λ h. h;
  on_stack = λ h. h;
  measure = refl;
}

-- ---- symbols at edges

pub asked_none : (link : LinkInput) (n : ℕ) (w : Walk) → AreAsked link (replicate n false) w
asked_none link n w s set = absurd (none_marked n s set)

pub asked_more : (link : LinkInput) (taken : List Bool) (asks : List Ask) (old new : Walk) → AreAsked link taken old → Adds link asks old new → AreAsked link taken new
asked_more link taken asks old new h adds s set = done_more link (follows link (Sym s)) asks old new adds (h s set)

pub asked_popped : (link : LinkInput) (taken : List Bool) (old new : Walk) (n : ℕ) → AreAsked link taken old → IsPopped old new n → AreAsked link taken new
asked_popped link taken old new n h pop s set = same_done link old new (follows link (Sym s)) pop.marks pop.words (h s set)

-- a mark more, where all that a symbol asks for is done
asked_next : (link : LinkInput) (taken : List Bool) (w : Walk) (s : ℕ) → AreAsked link taken w → All (IsDone link w) (follows link (Sym s)) → AreAsked link (slice_set taken s true) w
asked_next link taken w s h done t set = elim (mark_cases taken s t set) [
  | inl before ↦ h t before
  | inr same ↦ subst (λ n. All (IsDone link w) (follows link (Sym n))) (sym same) done
]

-- after a symbol's asks were taken, those of one that asks for the same were
pub asked_first : (link : LinkInput) (taken : List Bool) (old new : Walk) (leader s : ℕ) → IsWellFormed link → IsSized link old → AreAsked link taken old → follows link (Sym leader) ≡ follows link (Sym s)
    → Adds link (follows link (Sym s)) old new → AreAsked link (slice_set taken leader true) new
asked_first link taken old new leader s wf size h same adds =
    let asks = follows link (Sym s) in
    let done = adds_done link asks old new (asks_are_inside.by_unit link (Sym s) wf) size adds in
    asked_next link taken new leader (asked_more link taken asks old new h adds) (subst (All (IsDone link new)) (sym same) done)

-- a symbol whose asks were taken for one that asks for the same
pub asked_again : (link : LinkInput) (taken : List Bool) (w : Walk) (leader s : ℕ) → AreAsked link taken w → follows link (Sym leader) ≡ follows link (Sym s) → is_marked taken leader ≡ true → Adds link (follows link (Sym s)) w w
asked_again link taken w leader s h same set = adds_again link (follows link (Sym s)) w (subst (All (IsDone link w)) same (h leader set))

-- ---- scripts

script_kind : (k : FileKind) → is_script k ≡ true → k ≡ kind.LinkerScript
script_kind kind.Prelude h = absurd (cc)
script_kind kind.Object h = absurd (cc)
script_kind kind.Dynamic h = absurd (cc)
script_kind kind.NotLoaded h = absurd (cc)
script_kind kind.SyntheticSymbols h = absurd (cc)
script_kind kind.LinkerScript h = refl

pub synthetic_kind : (k : FileKind) → is_synthetic k ≡ true → k ≡ kind.SyntheticSymbols
synthetic_kind kind.Prelude h = absurd (cc)
synthetic_kind kind.Object h = absurd (cc)
synthetic_kind kind.Dynamic h = absurd (cc)
synthetic_kind kind.NotLoaded h = absurd (cc)
synthetic_kind kind.SyntheticSymbols h = refl
synthetic_kind kind.LinkerScript h = absurd (cc)

edge_by : (synthetic : Bool) (output : Option ℕ) (id : FileId) (e : EdgeAt)
    → (if synthetic then option_map (λ o. record { file = id; output = o }) output else None) ≡ Some e → (e.file ≡ id) × (synthetic ≡ true) × (output ≡ Some e.output)
edge_by false output id e h = absurd (cc)
edge_by true None id e h = absurd (cc)
edge_by true (Some o) id e h =
    let made : EdgeAt = record { file = id; output = o } in
    let same : made ≡ e = cc in
    (ap (λ (x : EdgeAt). x.file) (sym same), refl, ap (λ (x : EdgeAt). Some x.output) same)

-- what is known of a place at an edge
pub edge_given : (id : FileId) (f : InputFile) (p : SymbolPlacement) (e : EdgeAt) → edge_in id f p ≡ Some e → (e.file ≡ id) × (is_synthetic f.kind ≡ true) × (edge_of p ≡ Some e.output)
edge_given id f p e h = edge_by (is_synthetic f.kind) (edge_of p) id e h

append_none : {X : Type 0} (xs : List X) → xs ++ [] ≡ xs
append_none [] = refl
append_none (x ∷ xs) = ap (λ ys. x ∷ ys) (append_none xs)

roots_of_script : (link : LinkInput) (f : NumberedFile) → is_script f.file.kind ≡ true → file_roots link f ≡ wanted_symbol_asks link f ++ location_asks link
roots_of_script link f h = ap (kind_roots link f) (script_kind f.file.kind h)

-- a script behind the first one: its symbols are taken, and the location counter's expressions are done
pub adds_script : (link : LinkInput) (f : NumberedFile) (old new : Walk) → is_script f.file.kind ≡ true → All (IsDone link old) (location_asks link) → Adds link (wanted_symbol_asks link f ++ []) old new
    → Adds link (file_roots link f) old new
adds_script link f old new script done adds =
    let own : List Ask = wanted_symbol_asks link f in
    let first : Adds link own old new = subst (λ xs. Adds link xs old new) (append_none own) adds in
    let again : Adds link (location_asks link) new new = adds_again link (location_asks link) new (done_more link (location_asks link) own old new first done) in
    subst (λ xs. Adds link xs old new) (sym (roots_of_script link f script)) (adds_more link own (location_asks link) old new new first again)

-- what the symbols of a script ask for is there
pub script_inside : (link : LinkInput) (f : NumberedFile) → IsWellFormed link → file_in link.groups f.id ≡ Some f.file → All (IsInside link.groups) (wanted_symbol_asks link f ++ [])
script_inside link f wf there = subst (All (IsInside link.groups)) (sym (append_none (wanted_symbol_asks link f))) (wanted_inside link f there)

-- after the first script was taken, the location counter's expressions are done
pub located_after : (link : LinkInput) (f : NumberedFile) (old new : Walk) → IsWellFormed link → IsSized link old → All (IsInside link.groups) (file_roots link f) → is_script f.file.kind ≡ true
    → Adds link (file_roots link f) old new → All (IsDone link new) (location_asks link)
located_after link f old new wf size inside script adds =
    let done : All (IsDone link new) (file_roots link f) = adds_done link (file_roots link f) old new inside size adds in
    all_right (IsDone link new) (wanted_symbol_asks link f) (location_asks link) (subst (All (IsDone link new)) (roots_of_script link f script) done)
