-- What scripts ask for by themselves: what the location counter's expressions refer to is taken once.
use Rattle.std.proofs.Common.{◌≡◌, ℕ, ◌+◌, ◌<◌, ◌≤◌, ◌++◌, true, false, List, drop, length, take, get_or, Some, refl, sym, ap, ◌∙◌, subst, inl, inr, arith}
use Rattle.std.specs.Iterator.{Yields, YieldsFirst}
use Rattle.std.specs.List.{slice_get}
use Rattle.std.proofs.lemmas.Iterator.Consumers.{YieldsList-from_first, YieldsList-so_far, YieldsList-turn}
use Rattle.std.proofs.lemmas.List.{get_or-drop, length-drop, map-append, map-id, take-append-drop}
use Rattle.std.proofs.lemmas.List.Elements.{All-contains}
use Rattle.std.proofs.lemmas.Option.{slice_get-get_or, slice_get_within}
use Rattle.lk_link.specs.declared.file.FileKind.{FileKind}
use Rattle.lk_link.specs.declared.file.FileKind.TheVariants as kind
use Rattle.lk_link.specs.declared.link.LinkInput.{LinkInput}
use Rattle.lk_link.specs.declared.symbol.InputSymbol.{InputSymbol}
use Rattle.lk_link.specs.FileKinds.{is_script}
use Rattle.lk_link.specs.Inputs.{NumberedFile}
use Rattle.lk_link.proofs.Elements.{append_at, contains_at, map_at}
use Rattle.lk_reach.specs.declared.units.Ask.{Ask}
use Rattle.lk_reach.specs.declared.units.Ask.TheVariants.{Reference}
use Rattle.lk_reach.specs.Marks.{IsHit, asking}
use Rattle.lk_reach.specs.Units.{file_roots, flags_from, kind_roots, location_asks, wanted_symbol_asks}
use Rattle.lk_reach.proofs.MarkLemmas.{all_right, hit_keeps}
use Rattle.lk_explain.specs.declared.search.Search.{Search}
use Rattle.lk_explain.specs.Searching.{IsBelow, Takes, with_asker}
use Rattle.lk_explain.specs.Sharing.{AreFound, found_marks, sets_flags}
use Rattle.lk_explain.proofs.SharedLemmas.{found_keeps, found_taken, found_targets}
use Rattle.lk_explain.proofs.TakeLemmas.{below_after, takes_more, takes_settled}

-- ---- the next of asks

-- asks so far, and the one that comes next
pub record IsAskTurn (all done : List Ask) (x : Ask) : Type 0 where
  pub front : take (length done) all ≡ done
  pub there : slice_get all (length done) ≡ Some x

pub ask_place : (all s t u : List Ask) (done : List Ask) (x : Ask) → s ≡ all → Yields (YieldsFirst {S = List Ask} (λ left. left)) s done t → YieldsFirst {S = List Ask} (λ left. left) t (Some x) u
    → IsAskTurn all done x
ask_place all s t u done x begins yielded next =
    let walk = YieldsList-from_first (λ (a : Ask). a) (λ (left : List Ask). left) {s = s} all begins in
    let front = YieldsList-so_far walk done t yielded in
    let here = YieldsList-turn walk done t yielded (Some x) u x refl next in
    record {
      front = sym front ∙ map-id done;
      there = slice_get-get_or all (length done) x here.0 ∙ ap Some (sym here.1);
    }

-- ---- scripts

script_kind : (k : FileKind) → is_script k ≡ true → k ≡ kind.LinkerScript
script_kind kind.Prelude h = absurd (cc)
script_kind kind.Object h = absurd (cc)
script_kind kind.Dynamic h = absurd (cc)
script_kind kind.NotLoaded h = absurd (cc)
script_kind kind.SyntheticSymbols h = absurd (cc)
script_kind kind.LinkerScript h = refl

roots_of_script : (link : LinkInput) (f : NumberedFile) → is_script f.file.kind ≡ true → file_roots link f ≡ wanted_symbol_asks link f ++ location_asks link
roots_of_script link f h = ap (kind_roots link f) (script_kind f.file.kind h)

sets_none : (s : ℕ) (x : Ask) → Reference s (flags_from 0) ≡ x → sets_flags x ≡ false
sets_none s x h = ap sets_flags (sym h)

-- what comes from an ask on that sets flags is by the location counter
behind_symbols : (link : LinkInput) (f : NumberedFile) (n : ℕ) (x : Ask) → slice_get (wanted_symbol_asks link f ++ location_asks link) n ≡ Some x → sets_flags x ≡ true → length (wanted_symbol_asks link f) ≤ n
behind_symbols link f n x there sets = elim (append_at (wanted_symbol_asks link f) (location_asks link) n x there) [
  | inl own ↦
      let at = map_at (λ (q : ℕ × InputSymbol). Reference q.0 (flags_from 0)) _ n x own in
      let none : sets_flags x ≡ false = sets_none at.0.0 x at.2 in
      absurd (cc)
  | inr b ↦ omega (arith, b.1)
]

location_only : (link : LinkInput) (f : NumberedFile) (s : Search) (n : ℕ) → length (wanted_symbol_asks link f) ≤ n → AreFound link s (location_asks link) → AreFound link s (drop n (wanted_symbol_asks link f ++ location_asks link))
location_only link f s n past found k d lt =
    let P : Ask → Type 0 = IsHit (asking link) (found_marks s) in
    let all : List Ask = wanted_symbol_asks link f ++ location_asks link in
    let wanted : List Ask = wanted_symbol_asks link f in
    let x : Ask = get_or (drop n all) k d in
    let within : n + k < length all = omega (arith, lt, length-drop n all) in
    let there : slice_get all (n + k) ≡ Some x = slice_get-get_or all (n + k) d within ∙ ap Some (sym (get_or-drop n all k d)) in
    elim (append_at wanted (location_asks link) (n + k) x there) [
      | inl own ↦ absurd (omega (arith, past, slice_get_within wanted (n + k) x own))
      | inr b ↦ All-contains P (location_asks link) x found (contains_at (location_asks link) b.0 x b.2)
    ]

-- more that is found
pub found_after : (link : LinkInput) (distance : ℕ) (asks : List (ℕ × Ask)) (more : List Ask) (old new : Search) → Takes (asking link) distance asks old new → AreFound link old more → AreFound link new more
found_after link distance asks more old new takes h k d lt = hit_keeps (asking link) (found_marks old) (found_marks new) (found_keeps (asking link) distance asks old new takes) _ (h k d lt)

-- a script behind the first one: its symbols are taken up to the first ask that sets flags, and the rest is found
pub takes_wanted : (link : LinkInput) (f : NumberedFile) (done : List Ask) (x : Ask) (old new : Search) → is_script f.file.kind ≡ true → IsBelow old 1 0 → AreFound link old (location_asks link)
    → IsAskTurn (file_roots link f) done x → sets_flags x ≡ true → Takes (asking link) 1 (with_asker 0 done) old new → Takes (asking link) 1 (with_asker 0 (file_roots link f)) old new
takes_wanted link f done x old new script below found turn sets h =
    let g = asking link in
    let n : ℕ = length done in
    let pair : Ask → ℕ × Ask = λ a. (0, a) in
    let same : file_roots link f ≡ wanted_symbol_asks link f ++ location_asks link = roots_of_script link f script in
    let past = behind_symbols link f n x (ap (λ xs. slice_get xs n) (sym same) ∙ turn.there) sets in
    let still : AreFound link new (location_asks link) = found_after link 1 (with_asker 0 done) (location_asks link) old new h found in
    let rest : List Ask = drop n (file_roots link f) in
    let left : AreFound link new rest = subst (λ xs. AreFound link new (drop n xs)) (sym same) (location_only link f new n past still) in
    let again : Takes g 1 (with_asker 0 rest) new new = takes_settled g 1 0 rest new (omega arith) (below_after g 1 0 done old new (omega arith) below h) (found_targets link new rest left) in
    let both : Takes g 1 (with_asker 0 (done ++ rest)) old new
    = subst (λ asks. Takes g 1 asks old new) (sym (map-append pair done rest)) (takes_more g 1 (with_asker 0 done) (with_asker 0 rest) old new new (omega arith) h again) in
    let whole : done ++ rest ≡ file_roots link f = ap (λ xs. xs ++ rest) (sym turn.front) ∙ take-append-drop n (file_roots link f) in
    subst (λ xs. Takes g 1 (with_asker 0 xs) old new) whole both

-- after the first script
pub located_after : (link : LinkInput) (f : NumberedFile) (old new : Search) → is_script f.file.kind ≡ true → Takes (asking link) 1 (with_asker 0 (file_roots link f)) old new → AreFound link new (location_asks link)
located_after link f old new script h =
    let P : Ask → Type 0 = IsHit (asking link) (found_marks new) in
    let all : AreFound link new (wanted_symbol_asks link f ++ location_asks link) = subst (AreFound link new) (roots_of_script link f script) (found_taken link 1 0 (file_roots link f) old new h) in
    all_right P (wanted_symbol_asks link f) (location_asks link) all
