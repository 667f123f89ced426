-- What many units ask for whole: where it was taken, all of it is found.
use Rattle.std.proofs.Common.{◌≡◌, ◌⊎◌, ℕ, zero, suc, ◌+◌, ◌<◌, ◌++◌, ◌&&◌, Bool, true, false, if◌then◌else◌, List, [], ◌∷◌, Contains, length, ltb, map, Some, None, refl, sym, ap, ◌∙◌, subst, inl, inr, get_or, take, arith}
use Rattle.std.specs.List.{All, flat_map, slice_get, slice_index, slice_index_or, slice_set}
use Rattle.std.specs.Option.{ForSome, option_to_list}
use Rattle.std.proofs.lemmas.Bool.{ltb-true, lt-ltb}
use Rattle.std.proofs.lemmas.List.{flat_map_more, map-append, take_more}
use Rattle.std.proofs.lemmas.List.Elements.{All-contains}
use Rattle.std.proofs.lemmas.Option.{get_or_from_slice_get, slice_get-get_or, slice_get_within}
use Rattle.lk_link.specs.declared.flags.TheConstants.ValueFlags as flag
use Rattle.lk_link.specs.declared.ids.FileId.{FileId}
use Rattle.lk_link.specs.declared.link.LinkInput.{LinkInput}
use Rattle.lk_link.specs.declared.relocation.Relocation.{Relocation}
use Rattle.lk_link.specs.declared.symbol.InputSymbol.{InputSymbol}
use Rattle.lk_link.specs.Marks.{is_marked}
use Rattle.lk_link.proofs.Elements.{append_at, append_left, contains_at, at_contained, flat_map_at, flat_map_in}
use Rattle.lk_reach.specs.declared.units.Ask.{Ask}
use Rattle.lk_reach.specs.declared.units.Ask.TheVariants.{Mark}
use Rattle.lk_reach.specs.declared.units.Unit.TheVariants.{Sec, Sym}
use Rattle.lk_reach.specs.Marks.{Asking, IsHit, IsInside, IsMarked, asking, unit_number}
use Rattle.lk_reach.specs.Units.{asked_members, asked_references, follows, range_mark, reference, relocation_asks}
use Rattle.lk_reach.specs.Walking.{AreTaken, IsGroupPlace}
use Rattle.lk_reach.proofs.GroupLemmas.{none_taken, taken_hits, taken_next}
use Rattle.lk_reach.proofs.MarkLemmas.{all_left, hit_keeps}
use Rattle.lk_explain.specs.declared.search.Search.{Search}
use Rattle.lk_explain.specs.declared.shared.Shared.{Shared}
use Rattle.lk_explain.specs.declared.shared.TheConstants.{TAKEN}
use Rattle.lk_explain.specs.Searching.{IsBelow, Takes, far, with_asker}
use Rattle.lk_explain.specs.Sharing.{AreFound, AreShared, IsNew, IsTakenFor, NoneTaken, found_marks, references}
use Rattle.lk_explain.proofs.TakeLemmas.{takes_found, takes_like, takes_more, takes_settled}

-- ---- marks of what is found

marked_by : (xs : List ℕ) (u : ℕ) → slice_index_or (map (ltb 0) xs) u false ≡ true → 0 < slice_index xs u
marked_by [] u h = absurd (cc)
marked_by (x ∷ xs) zero h = ltb-true 0 x h
marked_by (x ∷ xs) (suc u) h = marked_by xs u h

mark_by : (xs : List ℕ) (u : ℕ) → 0 < slice_index xs u → slice_index_or (map (ltb 0) xs) u false ≡ true
mark_by [] u h = absurd (omega (arith, h))
mark_by (x ∷ xs) zero h = lt-ltb 0 x h
mark_by (x ∷ xs) (suc u) h = mark_by xs u h

pub marked_found : (s : Search) (u : ℕ) → IsMarked (found_marks s) u → 0 < far s u
marked_found s u h = marked_by s.distances.items u h

pub found_marked : (s : Search) (u : ℕ) → 0 < far s u → IsMarked (found_marks s) u
found_marked s u h = mark_by s.distances.items u h

pub found_keeps : (g : Asking) (distance : ℕ) (asks : List (ℕ × Ask)) (old new : Search) → Takes g distance asks old new → (u : ℕ) → IsMarked (found_marks old) u → IsMarked (found_marks new) u
found_keeps g distance asks old new h u is =
    let before : 0 < far old u = marked_found old u is in
    found_marked new u (omega (arith, before, (h.kept u before).0))

-- ---- what is found

-- hits are targets that are found
pub found_targets : (link : LinkInput) (s : Search) (asks : List Ask) → AreFound link s asks → All (λ a. ForSome ((asking link).target a) (λ u. 0 < far s u)) asks
found_targets link s asks h k d lt u e = marked_found s u (h k d lt u e)

-- what was taken is found
pub found_taken : (link : LinkInput) (distance asker : ℕ) (asks : List Ask) (old new : Search) → Takes (asking link) distance (with_asker asker asks) old new → AreFound link new asks
found_taken link distance asker asks old new h k d lt u e =
    let among : Contains asks (get_or asks k d) = contains_at asks k (get_or asks k d) (slice_get-get_or asks k d lt) in
    found_marked new u (takes_found (asking link) distance asker asks old new h (get_or asks k d) among u e)

-- ---- what is shared

pub shared_new : (link : LinkInput) (shared : Shared) (s : Search) → IsNew link shared → AreShared link shared s
shared_new link shared s h = record {
  groups = subst (λ ms. AreTaken link ms (found_marks s)) (sym h.groups) (none_taken link (found_marks s));
  symbols = λ n is. absurd (h.symbols n is);
}

-- more that is found
pub shared_after : (link : LinkInput) (shared : Shared) (distance : ℕ) (asks : List (ℕ × Ask)) (old new : Search) → AreShared link shared old → Takes (asking link) distance asks old new → AreShared link shared new
shared_after link shared distance asks old new h takes =
    let keeps : (u : ℕ) → IsMarked (found_marks old) u → IsMarked (found_marks new) u = found_keeps (asking link) distance asks old new takes in
    record {
      groups = record {
        count = h.groups.count;
        members = λ n x file group at set there in_group k d lt.
            hit_keeps (asking link) (found_marks old) (found_marks new) keeps _ (h.groups.members n x file group at set there in_group k d lt);
      };
      symbols = λ n is k d lt. hit_keeps (asking link) (found_marks old) (found_marks new) keeps _ (h.symbols n is k d lt);
    }

-- the same distances
pub shared_same : (link : LinkInput) (shared : Shared) (old new : Search) → new.distances.items ≡ old.distances.items → AreShared link shared old → AreShared link shared new
shared_same link shared old new same h =
    let marks : found_marks old ≡ found_marks new = ap (map (ltb 0)) (sym same) in
    record {
      groups = subst (AreTaken link shared.groups.items) marks h.groups;
      symbols = λ n is. subst (λ ms. All (IsHit (asking link) ms) (follows link (Sym n))) marks (h.symbols n is);
    }

-- ---- symbols

-- a symbol that asks for what was taken
pub takes_again : (link : LinkInput) (shared : Shared) (distance asker symbol : ℕ) (s : Search) → 0 < distance → IsBelow s distance asker → AreShared link shared s → IsTakenFor link shared.leaders.items symbol
    → Takes (asking link) distance (with_asker asker (follows link (Sym symbol))) s s
takes_again link shared distance asker symbol s some below h is =
    let found : AreFound link s (follows link (Sym symbol)) = subst (AreFound link s) is.alike (h.symbols is.taken is.marked) in
    takes_settled (asking link) distance asker (follows link (Sym symbol)) s some below (found_targets link s (follows link (Sym symbol)) found)

-- after a symbol's asks were taken
pub shared_symbol : (link : LinkInput) (was now : Shared) (distance asker symbol : ℕ) (old new : Search) → AreShared link was old → Takes (asking link) distance (with_asker asker (follows link (Sym symbol))) old new
    → now.groups.items ≡ was.groups.items
    → ((s : ℕ) → slice_index now.leaders.items s ≡ TAKEN → (slice_index was.leaders.items s ≡ TAKEN) ⊎ (follows link (Sym s) ≡ follows link (Sym symbol)))
    → AreShared link now new
shared_symbol link was now distance asker symbol old new h takes groups marks =
    let after = shared_after link was distance (with_asker asker (follows link (Sym symbol))) old new h takes in
    record {
      groups = subst (λ ms. AreTaken link ms (found_marks new)) (sym groups) after.groups;
      symbols = λ n is. elim (marks n is) [
        | inl before ↦ after.symbols n before
        | inr alike ↦ subst (AreFound link new) (sym alike) (found_taken link distance asker (follows link (Sym symbol)) old new takes)
      ];
    }

-- ---- sections of groups

-- a section of a group whose members were taken
pub takes_references : (link : LinkInput) (shared : Shared) (distance asker : ℕ) (id : FileId) (i n : ℕ) (old new : Search) → 0 < distance → IsBelow old distance asker → AreShared link shared old
    → IsGroupPlace link id i n → is_marked shared.groups.items n ≡ true → Takes (asking link) distance (with_asker asker (asked_references link id i)) old new
    → Takes (asking link) distance (with_asker asker (follows link (Sec id i))) old new
takes_references link shared distance asker id i n old new some below h place set takes =
    let g = asking link in
    let members : List Ask = asked_members link id i in
    let own : List Ask = asked_references link id i in
    let pair : Ask → ℕ × Ask = λ a. (asker, a) in
    let found : AreFound link old members = taken_hits link shared.groups.items (found_marks old) id i n h.groups place set in
    let first : Takes g distance (with_asker asker members) old old = takes_settled g distance asker members old some below (found_targets link old members found) in
    subst (λ asks. Takes g distance asks old new) (sym (map-append pair members own)) (takes_more g distance (with_asker asker members) (with_asker asker own) old old new some first takes)

-- after the asks of the first one were taken
pub shared_group : (link : LinkInput) (was now : Shared) (distance asker : ℕ) (id : FileId) (i n : ℕ) (old new : Search) → AreShared link was old → IsGroupPlace link id i n → 0 < far old (unit_number link.groups (Sec id i))
    → Takes (asking link) distance (with_asker asker (follows link (Sec id i))) old new → now.groups.items ≡ slice_set was.groups.items n true → now.leaders.items ≡ was.leaders.items → AreShared link now new
shared_group link was now distance asker id i n old new h place own takes groups leaders =
    let asks : List Ask = follows link (Sec id i) in
    let after = shared_after link was distance (with_asker asker asks) old new h takes in
    let all : AreFound link new asks = found_taken link distance asker asks old new takes in
    let members : AreFound link new (asked_members link id i) = all_left (IsHit (asking link) (found_marks new)) (asked_members link id i) (asked_references link id i) all in
    let still : IsMarked (found_marks new) (unit_number link.groups (Sec id i))
    = found_marked new (unit_number link.groups (Sec id i)) (omega (arith, own, (takes.kept (unit_number link.groups (Sec id i)) own).0)) in
    record {
      groups = subst (λ ms. AreTaken link ms (found_marks new)) (sym groups) (taken_next link was.groups.items (found_marks new) id i n after.groups place members still);
      symbols = λ s is. after.symbols s (ap (λ xs. slice_index xs s) (sym leaders) ∙ is);
    }

-- ---- relocations

mark_reaches_none : (link : LinkInput) (b : Bool) (m a : Ask) (j : ℕ) → (asking link).target m ≡ None → slice_get (option_to_list (if b then Some m else None)) j ≡ Some a → (asking link).target a ≡ None
mark_reaches_none link false m a j none h = absurd (cc)
mark_reaches_none link true m a zero none h = let same : m ≡ a = cc in ap (asking link).target (sym same) ∙ none
mark_reaches_none link true m a (suc j) none h = absurd (cc)

references_within : (link : LinkInput) (primary : Bool) (first : ℕ) (symbols : List InputSymbol) (relocations : List Relocation) (a : Ask) → Contains (references first symbols relocations) a
    → Contains (flat_map (relocation_asks primary first symbols) relocations) a
references_within link primary first symbols relocations a h =
    let each : Relocation → List Ask = λ r. option_to_list (reference first symbols r) in
    let at = at_contained (references first symbols relocations) a h in
    let from = flat_map_at each relocations at.0 a at.1 in
    let inner = append_left (each from.from) (option_to_list (range_mark primary first from.from)) from.inner a from.gives in
    let whole = flat_map_in (relocation_asks primary first symbols) relocations from.outer from.inner from.from a from.there inner in
    contains_at (flat_map (relocation_asks primary first symbols) relocations) whole.0 a whole.1

references_only : (link : LinkInput) (primary : Bool) (first : ℕ) (symbols : List InputSymbol) (relocations : List Relocation) (a : Ask) → Contains (flat_map (relocation_asks primary first symbols) relocations) a
    → Contains (references first symbols relocations) a ⊎ ((asking link).target a ≡ None)
references_only link primary first symbols relocations a h =
    let each : Relocation → List Ask = λ r. option_to_list (reference first symbols r) in
    let at = at_contained (flat_map (relocation_asks primary first symbols) relocations) a h in
    let from = flat_map_at (relocation_asks primary first symbols) relocations at.0 a at.1 in
    elim (append_at (each from.from) (option_to_list (range_mark primary first from.from)) from.inner a from.gives) [
      | inl own ↦
          let whole = flat_map_in each relocations from.outer from.inner from.from a from.there own in
          inl (contains_at (references first symbols relocations) whole.0 a whole.1)
      | inr mark ↦ inr (mark_reaches_none link (primary && from.from.thunkable) (Mark (first + from.from.symbol) flag.HAS_RANGE_LIMITED_REL) a mark.0 refl mark.2)
    ]

-- marks reach nothing, so what relocations refer to is all that counts
pub takes_marks : (link : LinkInput) (distance asker : ℕ) (primary : Bool) (first : ℕ) (symbols : List InputSymbol) (relocations : List Relocation) (old new : Search)
    → Takes (asking link) distance (with_asker asker (references first symbols relocations)) old new → Takes (asking link) distance (with_asker asker (flat_map (relocation_asks primary first symbols) relocations)) old new
takes_marks link distance asker primary first symbols relocations old new h =
    takes_like (asking link) distance asker (references first symbols relocations) (flat_map (relocation_asks primary first symbols) relocations) old new
    (references_within link primary first symbols relocations) (references_only link primary first symbols relocations) h

-- what relocations refer to is there, where all that they ask for is
pub references_inside : (link : LinkInput) (primary : Bool) (first : ℕ) (symbols : List InputSymbol) (relocations : List Relocation) → All (IsInside link.groups) (flat_map (relocation_asks primary first symbols) relocations)
    → All (IsInside link.groups) (references first symbols relocations)
references_inside link primary first symbols relocations h k d lt =
    let own : List Ask = references first symbols relocations in
    let a : Ask = get_or own k d in
    let among : Contains own a = contains_at own k a (slice_get-get_or own k d lt) in
    All-contains (IsInside link.groups) (flat_map (relocation_asks primary first symbols) relocations) a h (references_within link primary first symbols relocations a among)

-- ---- leaders

read_or_none : (xs : List ℕ) (s : ℕ) → (slice_index xs s ≡ 0) ⊎ (s < length xs)
read_or_none [] s = inl refl
read_or_none (x ∷ xs) zero = inr (omega arith)
read_or_none (x ∷ xs) (suc s) = elim (read_or_none xs s) [ inl none ↦ inl none | inr lt ↦ inr (omega (arith, lt)) ]

below_at : (count : ℕ) (xs : List ℕ) (s : ℕ) → s < length xs → All (λ n. n < count) xs → slice_index xs s < count
below_at count xs s lt h = h s 0 lt

-- a leader that is no mark is written
pub lead_kept : (xs : List ℕ) (place leader : ℕ) → (leader ≡ TAKEN → ⊥) → NoneTaken xs → NoneTaken (slice_set xs place leader)
lead_kept [] place leader isnt none s is = none s is
lead_kept (x ∷ xs) zero leader isnt none zero is = isnt is
lead_kept (x ∷ xs) zero leader isnt none (suc s) is = none (suc s) is
lead_kept (x ∷ xs) (suc place) leader isnt none zero is = none zero is
lead_kept (x ∷ xs) (suc place) leader isnt none (suc s) is = lead_kept xs place leader isnt (λ t e. none (suc t) e) s is

-- numbers of symbols aren't the mark
pub none_marked_below : (count : ℕ) (xs : List ℕ) → count < 4294967296 → All (λ n. n < count) xs → NoneTaken xs
none_marked_below count xs few h s is =
    elim (read_or_none xs s) [
      | inl past ↦ absurd (omega (arith, past, is))
      | inr within ↦ absurd (omega (arith, few, is, below_at count xs s within h))
    ]

-- what a relocation refers to is there, where all that relocations refer to is
pub reference_inside : (link : LinkInput) (first : ℕ) (symbols : List InputSymbol) (relocations : List Relocation) (i : ℕ) (r : Relocation) (a : Ask) → All (IsInside link.groups) (references first symbols relocations)
    → slice_get relocations i ≡ Some r → reference first symbols r ≡ Some a → IsInside link.groups a
reference_inside link first symbols relocations i r a h at is =
    let each : Relocation → List Ask = λ x. option_to_list (reference first symbols x) in
    let place = flat_map_in each relocations i zero r a at (ap (λ o. slice_get (option_to_list o) zero) is) in
    All-contains (IsInside link.groups) (references first symbols relocations) a h (contains_at (references first symbols relocations) place.0 a place.1)

-- one more relocation
pub references_next : (g : Asking) (distance asker first : ℕ) (symbols : List InputSymbol) (relocations : List Relocation) (i : ℕ) (r : Relocation) (start old new : Search) → 0 < distance → slice_get relocations i ≡ Some r
    → Takes g distance (with_asker asker (references first symbols (take i relocations))) start old → Takes g distance (with_asker asker (option_to_list (reference first symbols r))) old new
    → Takes g distance (with_asker asker (references first symbols (take (i + 1) relocations))) start new
references_next g distance asker first symbols relocations i r start old new some at h k =
    let each : Relocation → List Ask = λ x. option_to_list (reference first symbols x) in
    let pair : Ask → ℕ × Ask = λ a. (asker, a) in
    let before : List Ask = references first symbols (take i relocations) in
    let lt : i < length relocations = slice_get_within relocations i r at in
    let more : references first symbols (take (i + 1) relocations) ≡ before ++ each r
    = ap (flat_map each) (take_more relocations i r lt) ∙ ap (λ x. flat_map each (take i relocations ++ x ∷ [])) (get_or_from_slice_get relocations i r r at) ∙ sym (flat_map_more each [] (take i relocations) r) in
    let both : Takes g distance (with_asker asker before ++ with_asker asker (each r)) start new = takes_more g distance (with_asker asker before) (with_asker asker (each r)) start old new some h k in
    let joined : Takes g distance (with_asker asker (before ++ each r)) start new = subst (λ asks. Takes g distance asks start new) (sym (map-append pair before (each r))) both in
    subst (λ asks. Takes g distance (with_asker asker asks) start new) (sym more) joined
