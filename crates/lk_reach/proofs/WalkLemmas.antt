-- What asks do to a walk, and what holds in the middle of it and at its end.
use Rattle.std.proofs.Common.{◌≡◌, ℕ, zero, suc, ◌+◌, ◌<◌, Bool, true, false, if◌then◌else◌, List, [], ◌∷◌, ◌++◌, length, map, get_or, Option, Some, None, refl, sym, ap, ◌∙◌, subst, inl, inr, ◌⊎◌, arith}
use Rattle.std.specs.List.{All, Contains, flat_map, slice_get}
use Rattle.std.specs.Iterator.{Yields, YieldsFirst, YieldsFirstBy}
use Rattle.std.specs.Option.{ForSome, option_map_or}
use Rattle.std.proofs.lemmas.Iterator.Consumers.{YieldsList-end, YieldsList-from_first, YieldsList-turn}
use Rattle.std.proofs.lemmas.List.{ext_get_or, flat_map_more, get_or-map, length-map, length-replicate, length_push, map-append, map_push}
use Rattle.std.proofs.lemmas.Option.{get_or_from_slice_get, slice_get-get_or}
use Rattle.std.proofs.lemmas.List.Elements.{All-append, All-contains, All-nil, All-push, Contains-append_left, Contains-push, Contains-push_cases}
use Rattle.lk_link.specs.declared.file.InputFile.{InputFile}
use Rattle.lk_link.specs.declared.link.LinkInput.{LinkInput}
use Rattle.lk_link.specs.declared.walks.FileRef.{FileRef}
use Rattle.lk_link.specs.Inputs.{NumberedFile, numbered_files}
use Rattle.lk_link.proofs.InputLemmas.{files_from_are}
use Rattle.lk_link.specs.Marks.{is_marked}
use Rattle.lk_link.specs.Walks.{file_of}
use Rattle.lk_link.specs.WellFormed.{IsWellFormed}
use Rattle.lk_reach.specs.declared.units.Ask.{Ask}
use Rattle.lk_reach.specs.declared.units.Unit.{Unit as LinkUnit}
use Rattle.lk_reach.specs.declared.walk.Walk.{Walk}
use Rattle.lk_link.specs.Symbols.{all_symbols}
use Rattle.lk_link.proofs.Elements.{at_index}
use Rattle.lk_link.proofs.GoodSymbols.{numbered_symbol}
use Rattle.lk_reach.specs.Marks.{Asking, IsClosed, IsHit, IsInside, IsJoined, IsMarked, all_units, asked, asked_from, asking, flag_words, flags_handed_in, handed_in, join_all, join_flags, mark_all, mark_target, reached_marks, unit_at}
use Rattle.lk_reach.specs.Units.{flags_of, follows, roots, target_of}
use Rattle.lk_reach.specs.Walking.{Adds, IsDone, IsSized, IsStart, IsWalking, Takes, stack_after, unmarked}
use Rattle.lk_reach.specs.Marks.{AreFew, IsWalked}
use Rattle.lk_reach.proofs.MarkLemmas.{all_left, from_marked, hit_keeps, mark_again, mark_all_hits, mark_all_keeps, mark_all_length, mark_all_only, mark_cases, mark_hits, mark_keeps, none_marked, reached_length, reached_only, unmarked_fewer}
use Rattle.lk_reach.proofs.ReachLemmas.{follows_at, handed_in_words, handed_length, reach_is_closed, target_unit}
use Rattle.lk_reach.proofs.SymbolNumbers.{unit_within}
use Rattle.lk_reach.proofs.UnitLemmas.{asks_are_inside}
use Rattle.lk_reach.proofs.WordLemmas.{HasBit, IsWordBelow, join_all_joins, join_all_keeps, join_all_length, join_all_only, joined_keeps, same_words}

-- ---- what two lists of asks do

pub mark_all-append : (g : Asking) (marks : List Bool) (asks more : List Ask) → mark_all g marks (asks ++ more) ≡ mark_all g (mark_all g marks asks) more
unfolding mark_all
mark_all-append g marks [] more = refl
mark_all-append g marks (a ∷ asks) more = mark_all-append g (mark_target marks (g.target a)) asks more

pub join_all-append : (words : List ℕ) (asks more : List Ask) → join_all words (asks ++ more) ≡ join_all (join_all words asks) more
unfolding join_all
join_all-append words [] more = refl
join_all-append words (a ∷ asks) more = join_all-append (join_flags words (flags_of a)) asks more

pub adds_none : (link : LinkInput) (w : Walk) → Adds link [] w w
unfolding mark_all join_all
adds_none link w = record { marked = refl; joined = refl; fresh = λ u h. inl h; kept = λ u h. h; few = λ h. h; on_stack = λ h. h; measure = refl }

pub adds_more : (link : LinkInput) (asks more : List Ask) (a b c : Walk) → Adds link asks a b → Adds link more b c → Adds link (asks ++ more) a c
adds_more link asks more a b c h k = record {
  marked = k.marked ∙ ap (λ ms. mark_all (asking link) ms more) h.marked ∙ sym (mark_all-append (asking link) a.marks.items asks more);
  joined = k.joined ∙ ap (λ ws. join_all ws more) h.joined ∙ sym (join_all-append a.words.items asks more);
  fresh = λ u is. elim (k.fresh u is) [
    | inr new ↦ inr new
    | inl before ↦ elim (h.fresh u before) [ inl first ↦ inl first | inr waits ↦ inr (k.kept u waits) ]
  ];
  kept = λ u waits. k.kept u (h.kept u waits);
  few = λ all. k.few (h.few all);
  on_stack = λ all. k.on_stack (h.on_stack all);
  measure = k.measure ∙ h.measure;
}

-- ---- one ask

-- marking a unit and putting it onto the stack, unless it was marked
record Stacks (marks : List Bool) (stack : List ℕ) (t : Option ℕ) : Type 0 where
  fresh : (u : ℕ) → IsMarked (mark_target marks t) u → IsMarked marks u ⊎ Contains (stack_after marks stack t) u
  kept : (u : ℕ) → Contains stack u → Contains (stack_after marks stack t) u
  on_stack : All (IsMarked marks) stack → All (IsMarked (mark_target marks t)) (stack_after marks stack t)
  measure : unmarked (mark_target marks t) + length (stack_after marks stack t) ≡ unmarked marks + length stack

stacks_at : (marks : List Bool) (stack : List ℕ) (u : ℕ) (b : Bool) → u < length marks → is_marked marks u ≡ b → Stacks marks stack (Some u)
stacks_at marks stack u true lt is =
    let same : stack_after marks stack (Some u) ≡ stack = ap (λ c. if c then stack else stack ++ u ∷ []) is in
    let again = mark_again marks u is in
    record {
      fresh = λ v h. inl (subst (λ ms. IsMarked ms v) again h);
      kept = λ v h. subst (λ s. Contains s v) (sym same) h;
      on_stack = λ all. subst (λ s. All (IsMarked (mark_target marks (Some u))) s) (sym same) (subst (λ ms. All (IsMarked ms) stack) (sym again) all);
      measure = ap (λ ms. unmarked ms + length (stack_after marks stack (Some u))) again ∙ ap (λ s. unmarked marks + length s) same;
    }
stacks_at marks stack u false lt is =
    let same : stack_after marks stack (Some u) ≡ stack ++ u ∷ [] = ap (λ c. if c then stack else stack ++ u ∷ []) is in
    record {
      fresh = λ v h. elim (mark_cases marks u v h) [
        | inl before ↦ inl before
        | inr new ↦ inr (subst (λ s. Contains s v) (sym same) (subst (Contains (stack ++ u ∷ [])) (sym new) (Contains-push stack u)))
      ];
      kept = λ v h. subst (λ s. Contains s v) (sym same) (Contains-append_left stack (u ∷ []) v h);
      on_stack = λ all.
          let marked : List Bool = mark_target marks (Some u) in
          subst (All (IsMarked marked)) (sym same)
          (All-push (IsMarked marked) stack u (λ k d less. mark_keeps marks (Some u) (get_or stack k d) (all k d less)) (mark_hits marks u lt));
      measure = omega (arith, unmarked_fewer marks u lt is, ap length same, length_push stack u);
    }

stacks : (marks : List Bool) (stack : List ℕ) (t : Option ℕ) → ForSome t (λ u. u < length marks) → Stacks marks stack t
stacks marks stack None h = record { fresh = λ u is. inl is; kept = λ u is. is; on_stack = λ all. all; measure = refl }
stacks marks stack (Some u) h = stacks_at marks stack u (is_marked marks u) (h u refl) refl

pub adds_one : (link : LinkInput) (a : Ask) (old new : Walk) → ForSome ((asking link).target a) (λ u. u < length old.marks.items) → Takes link a old new → Adds link (a ∷ []) old new
unfolding mark_all join_all
adds_one link a old new below t =
    let s = stacks old.marks.items old.stack.items ((asking link).target a) below in
    record {
      marked = t.marked;
      joined = t.joined;
      fresh = λ u is. elim (s.fresh u (subst (λ ms. IsMarked ms u) t.marked is)) [ inl before ↦ inl before | inr new_one ↦ inr (subst (λ st. Contains st u) (sym t.stack) new_one) ];
      kept = λ u waits. subst (λ st. Contains st u) (sym t.stack) (s.kept u waits);
      few = t.few;
      on_stack = λ all.
          subst (λ st. All (IsMarked new.marks.items) st) (sym t.stack)
          (subst (λ ms. All (IsMarked ms) (stack_after old.marks.items old.stack.items ((asking link).target a))) (sym t.marked) (s.on_stack all));
      measure = ap (λ ms. unmarked ms + length new.stack.items) t.marked ∙ ap (λ st. unmarked (mark_target old.marks.items ((asking link).target a)) + length st) t.stack ∙ s.measure;
    }

-- ---- sizes

pub sized_more : (link : LinkInput) (asks : List Ask) (old new : Walk) → IsSized link old → Adds link asks old new → IsSized link new
sized_more link asks old new size h = record {
  marks = ap length h.marked ∙ mark_all_length (asking link) old.marks.items asks ∙ size.marks;
  words = ap length h.joined ∙ join_all_length old.words.items asks ∙ size.words;
}

-- the target of an ask that is inside has a mark
target_below : (link : LinkInput) (a : Ask) (w : Walk) → IsInside link.groups a → IsSized link w → ForSome ((asking link).target a) (λ u. u < length w.marks.items)
target_below link a w inside size n e =
    let u = target_unit link.groups (target_of a) n e in
    omega (arith, u.2, unit_within link.groups u.0 (inside.target u.0 u.1), size.marks)

pub adds_next : (link : LinkInput) (asks : List Ask) (a : Ask) (first old new : Walk) → IsInside link.groups a → IsSized link old → Adds link asks first old → Takes link a old new → Adds link (asks ++ a ∷ []) first new
adds_next link asks a first old new inside size h t = adds_more link asks (a ∷ []) first old new h (adds_one link a old new (target_below link a old inside size) t)

-- ---- turns of a walk over asks and over files

pub ask_turn : (P : Ask → Type 0) (all s t u : List Ask) (done : List Ask) (x : Ask) → s ≡ all → All P all → Yields (YieldsFirst {S = List Ask} (λ left. left)) s done t
    → YieldsFirst {S = List Ask} (λ left. left) t (Some x) u → P x
ask_turn P all s t u done x begins each yielded next =
    let walk = YieldsList-from_first (λ (a : Ask). a) (λ (left : List Ask). left) {s = s} all begins in
    let here = YieldsList-turn walk done t yielded (Some x) u x refl next in
    subst P (sym here.1) (each (length done) x here.0)

-- the file that comes next stands among all files
pub file_turn : (all s t u : List NumberedFile) (done : List FileRef) (x : FileRef) → s ≡ all → Yields (YieldsFirstBy {S = List NumberedFile} file_of (λ left. left)) s done t
    → YieldsFirstBy {S = List NumberedFile} file_of (λ left. left) t (Some x) u → slice_get all (length done) ≡ Some (file_of x)
file_turn all s t u done x begins yielded next =
    let walk = YieldsList-from_first file_of (λ (left : List NumberedFile). left) {s = s} all begins in
    let here = YieldsList-turn walk done t yielded (Some x) u x refl next in
    slice_get-get_or all (length done) (file_of x) here.0 ∙ ap Some (sym here.1)

pub all_files_done : (all s t u : List NumberedFile) (done : List FileRef) → s ≡ all → Yields (YieldsFirstBy {S = List NumberedFile} file_of (λ left. left)) s done t
    → YieldsFirstBy {S = List NumberedFile} file_of (λ left. left) t None u → map file_of done ≡ all
all_files_done all s t u done begins yielded next =
    let walk = YieldsList-from_first file_of (λ (left : List NumberedFile). left) {s = s} all begins in
    (YieldsList-end walk done t yielded None u refl next).0

pub one_file_more : {Y : Type 0} (f : NumberedFile → List Y) (done : List FileRef) (x : FileRef) → flat_map f (map file_of (done ++ x ∷ [])) ≡ flat_map f (map file_of done) ++ f (file_of x)
one_file_more f done x = ap (flat_map f) (map_push file_of done x) ∙ sym (flat_map_more f [] (map file_of done) (file_of x))

-- ---- in the middle of a walk

pub done_more : (link : LinkInput) (asks more : List Ask) (old new : Walk) → Adds link more old new → All (IsDone link old) asks → All (IsDone link new) asks
done_more link asks more old new h done k d lt =
    let before = done k d lt in
    let marks : (u : ℕ) → IsMarked old.marks.items u → IsMarked new.marks.items u
    = λ u is. subst (λ ms. IsMarked ms u) (sym h.marked) (mark_all_keeps (asking link) old.marks.items more u is) in
    let words : (n i : ℕ) → HasBit old.words.items n i → HasBit new.words.items n i
    = λ n i bit. subst (λ ws. HasBit ws n i) (sym h.joined) (join_all_keeps old.words.items more n i bit) in
    (hit_keeps (asking link) old.marks.items new.marks.items marks (get_or asks k d) before.0, joined_keeps old.words.items new.words.items words (get_or asks k d) before.1)

-- what asks were taken are done
pub adds_done : (link : LinkInput) (asks : List Ask) (old new : Walk) → All (IsInside link.groups) asks → IsSized link old → Adds link asks old new → All (IsDone link new) asks
adds_done link asks old new inside size h =
    let below : All (λ a. ForSome ((asking link).target a) (λ u. u < length old.marks.items)) asks = λ k d lt. target_below link (get_or asks k d) old (inside k d lt) size in
    let words : All (IsWordBelow (length old.words.items)) asks = λ k d lt p e. omega (arith, size.words, (inside k d lt).symbol p e) in
    let hits : All (IsHit (asking link) new.marks.items) asks = subst (λ ms. All (IsHit (asking link) ms) asks) (sym h.marked) (mark_all_hits (asking link) old.marks.items asks below) in
    let joins : All (IsJoined new.words.items) asks = subst (λ ws. All (IsJoined ws) asks) (sym h.joined) (join_all_joins old.words.items asks words) in
    λ k d lt. (hits k d lt, joins k d lt)

-- what asks that roots and reached units make do stays within what is reached, and within its flags
record StaysWithin (link : LinkInput) (asks : List Ask) : Type 0 where
  targets : All (IsHit (asking link) (reached_marks link)) asks
  flags : All (IsJoined (flag_words link)) asks

adds_within : (link : LinkInput) (asks : List Ask) (old new : Walk) → Adds link asks old new → StaysWithin link asks
    → ((u : ℕ) → IsMarked old.marks.items u → IsMarked (reached_marks link) u) → ((n i : ℕ) → HasBit old.words.items n i → HasBit (flag_words link) n i)
    → ((u : ℕ) → IsMarked new.marks.items u → IsMarked (reached_marks link) u) × ((n i : ℕ) → HasBit new.words.items n i → HasBit (flag_words link) n i)
adds_within link asks old new h within marks words = (
  λ u is. mark_all_only (asking link) (IsMarked (reached_marks link)) old.marks.items asks marks within.targets u (subst (λ ms. IsMarked ms u) h.marked is),
  λ n i bit. join_all_only (HasBit (flag_words link)) old.words.items asks words within.flags n i (subst (λ ws. HasBit ws n i) h.joined bit),
)

pub start_sized : (link : LinkInput) (w : Walk) → IsStart link w → IsSized link w
start_sized link w h = record {
  marks = ap length h.marks ∙ length-replicate (length (all_units link.groups)) false;
  words = omega (arith, ap length h.words, handed_length link);
}

-- flags that are handed in are few
pub handed_few : (link : LinkInput) → IsWellFormed link → AreFew (handed_in link)
handed_few link wf zero d lt = omega arith
handed_few link wf (suc k) d lt =
    let symbols = all_symbols link.groups in
    let within : k < length symbols = omega (arith, length-map symbols flags_handed_in) in
    let x = at_index symbols k within in
    let good = (numbered_symbol link k x.0 wf x.1).2 in
    let read : get_or (map flags_handed_in symbols) k d ≡ flags_handed_in x.0 = get_or-map flags_handed_in symbols k x.0 d within ∙ ap flags_handed_in (get_or_from_slice_get symbols k x.0 x.0 x.1) in
    omega (arith, read, good.few_flags)

-- after the roots the walk is on its way
pub walking_from : (link : LinkInput) (first w : Walk) → IsWellFormed link → IsStart link first → Adds link (roots link) first w → IsWalking link w
walking_from link first w wf start h =
    let closed = reach_is_closed link wf in
    let size = start_sized link first start in
    let within : StaysWithin link (roots link) = record { targets = λ k d lt. (closed.by_roots k d lt).0; flags = λ k d lt. (closed.by_roots k d lt).1 } in
    let none : (u : ℕ) → IsMarked first.marks.items u → ⊥ = λ u is. none_marked (length (all_units link.groups)) u (subst (λ ms. IsMarked ms u) start.marks is) in
    let inside = adds_within link (roots link) first w h within (λ u is. absurd (none u is)) (λ n i bit. handed_in_words link n i (subst (λ ws. HasBit ws n i) start.words bit)) in
    record {
      size = sized_more link (roots link) first w size h;
      by_roots = adds_done link (roots link) first w (asks_are_inside.by_roots link wf) size h;
      by_units = λ u is. elim (h.fresh u is) [ inl before ↦ absurd (none u before) | inr waits ↦ inl waits ];
      few = h.few (subst AreFew (sym start.words) (handed_few link wf));
      on_stack = h.on_stack (subst (All (IsMarked first.marks.items)) (sym start.stack) (All-nil (IsMarked first.marks.items)));
      reached = inside.0;
      handed = λ n i bit. subst (λ ws. HasBit ws n i) (sym h.joined) (join_all_keeps first.words.items (roots link) n i (subst (λ ws. HasBit ws n i) (sym start.words) bit));
      flags = inside.1;
    }

-- a unit comes off the stack: marks and words stay
pub record IsPopped (old new : Walk) (n : ℕ) : Type 0 where
  pub marks : new.marks.items ≡ old.marks.items
  pub words : new.words.items ≡ old.words.items
  pub stack : old.stack.items ≡ new.stack.items ++ n ∷ []

-- what is done after a unit came off the stack, is done for the walk before
pub same_done : (link : LinkInput) (old new : Walk) (asks : List Ask) → new.marks.items ≡ old.marks.items → new.words.items ≡ old.words.items → All (IsDone link old) asks → All (IsDone link new) asks
same_done link old new asks marks words done k d lt = (
  subst (λ ms. IsHit (asking link) ms (get_or asks k d)) (sym marks) (done k d lt).0,
  subst (λ ws. IsJoined ws (get_or asks k d)) (sym words) (done k d lt).1,
)

pub popped_sized : (link : LinkInput) (old new : Walk) (n : ℕ) → IsSized link old → IsPopped old new n → IsSized link new
popped_sized link old new n size pop = record { marks = ap length pop.marks ∙ size.marks; words = ap length pop.words ∙ size.words }

popped_marked : (old new : Walk) (n : ℕ) → All (IsMarked old.marks.items) old.stack.items → IsPopped old new n → All (IsMarked old.marks.items) new.stack.items
popped_marked old new n all pop = all_left (IsMarked old.marks.items) new.stack.items (n ∷ []) (subst (All (IsMarked old.marks.items)) pop.stack all)

-- what a unit that is on the stack asks for stays within what is reached
popped_within : (link : LinkInput) (old new : Walk) (n : ℕ) (u : LinkUnit) → IsWellFormed link → IsWalking link old → IsPopped old new n → unit_at link.groups n ≡ Some u → StaysWithin link (follows link u)
popped_within link old new n u wf walk pop at =
    let closed = reach_is_closed link wf in
    let on : Contains old.stack.items n = subst (λ st. Contains st n) (sym pop.stack) (Contains-push new.stack.items n) in
    let marked : IsMarked old.marks.items n = All-contains (IsMarked old.marks.items) old.stack.items n walk.on_stack on in
    let all = closed.by_units n (walk.reached n marked) in
    let asks = follows_at link n u at in
    record {
      targets = subst (All (IsHit (asking link) (reached_marks link))) asks (λ k d lt. (all k d lt).0);
      flags = subst (All (IsJoined (flag_words link))) asks (λ k d lt. (all k d lt).1);
    }

-- after a unit's asks were taken the walk goes on
pub walking_next : (link : LinkInput) (old mid new : Walk) (n : ℕ) (u : LinkUnit) → IsWellFormed link → IsWalking link old → IsPopped old mid n → unit_at link.groups n ≡ Some u
    → Adds link (follows link u) mid new → IsWalking link new
walking_next link old mid new n u wf walk pop at h =
    let asks = follows link u in
    let size = popped_sized link old mid n walk.size pop in
    let inside = asks_are_inside.by_unit link u wf in
    let within = popped_within link old mid n u wf walk pop at in
    let stays = adds_within link asks mid new h within (λ v is. walk.reached v (subst (λ ms. IsMarked ms v) pop.marks is)) (λ m i bit. walk.flags m i (subst (λ ws. HasBit ws m i) pop.words bit)) in
    let older : (xs : List Ask) → All (IsDone link old) xs → All (IsDone link new) xs = λ xs done. done_more link xs asks mid new h (same_done link old mid xs pop.marks pop.words done) in
    let own : All (IsDone link new) ((asking link).follows n) = subst (All (IsDone link new)) (sym (follows_at link n u at)) (adds_done link asks mid new inside size h) in
    record {
      size = sized_more link asks mid new size h;
      by_roots = older (roots link) walk.by_roots;
      by_units = λ v is. elim (h.fresh v is) [
        | inr waits ↦ inl waits
        | inl before ↦ elim (walk.by_units v (subst (λ ms. IsMarked ms v) pop.marks before)) [
          | inr done ↦ inr (older ((asking link).follows v) done)
          | inl waits ↦ elim (Contains-push_cases mid.stack.items n v (subst (λ st. Contains st v) pop.stack waits)) [
            | inl still ↦ inl (h.kept v still)
            | inr same ↦ inr (subst (λ m. All (IsDone link new) ((asking link).follows m)) same own)
          ]
        ]
      ];
      few = h.few (subst AreFew (sym pop.words) walk.few);
      on_stack = h.on_stack (λ k d lt. subst (λ ms. IsMarked ms (get_or mid.stack.items k d)) (sym pop.marks) (popped_marked old mid n walk.on_stack pop k d lt));
      reached = stays.0;
      handed = λ m i bit. subst (λ ws. HasBit ws m i) (sym h.joined) (join_all_keeps mid.words.items asks m i (subst (λ ws. HasBit ws m i) (sym pop.words) (walk.handed m i bit)));
      flags = stays.1;
    }

-- a number without a unit asks for nothing
pub walking_past : (link : LinkInput) (old new : Walk) (n : ℕ) → IsWalking link old → IsPopped old new n → unit_at link.groups n ≡ None → IsWalking link new
walking_past link old new n walk pop at =
    let none : (asking link).follows n ≡ [] = ap (λ o. option_map_or (follows link) o []) at in
    let older : (xs : List Ask) → All (IsDone link old) xs → All (IsDone link new) xs = λ xs done. same_done link old new xs pop.marks pop.words done in
    record {
      size = popped_sized link old new n walk.size pop;
      by_roots = older (roots link) walk.by_roots;
      by_units = λ v is. elim (walk.by_units v (subst (λ ms. IsMarked ms v) pop.marks is)) [
        | inr done ↦ inr (older ((asking link).follows v) done)
        | inl waits ↦ elim (Contains-push_cases new.stack.items n v (subst (λ st. Contains st v) pop.stack waits)) [
          | inl still ↦ inl still
          | inr same ↦ inr (subst (λ m. All (IsDone link new) ((asking link).follows m)) same (subst (All (IsDone link new)) (sym none) (All-nil (IsDone link new))))
        ]
      ];
      few = subst AreFew (sym pop.words) walk.few;
      on_stack = λ k d lt. subst (λ ms. IsMarked ms (get_or new.stack.items k d)) (sym pop.marks) (popped_marked old new n walk.on_stack pop k d lt);
      reached = λ v is. walk.reached v (subst (λ ms. IsMarked ms v) pop.marks is);
      handed = λ m i bit. subst (λ ws. HasBit ws m i) (sym pop.words) (walk.handed m i bit);
      flags = λ m i bit. walk.flags m i (subst (λ ws. HasBit ws m i) pop.words bit);
    }

-- ---- the end of a walk

same_mark : (a b : Bool) → (a ≡ true → b ≡ true) → (b ≡ true → a ≡ true) → a ≡ b
same_mark true b f g = sym (f refl)
same_mark false true f g = g refl
same_mark false false f g = refl

no_unit_waits : (u : ℕ) → Contains [] u → ⊥
no_unit_waits u h = absurd (omega (arith, h.1))

-- at the end all that a marked unit asks for is done
pub walk_closed : (link : LinkInput) (w : Walk) → IsWalking link w → w.stack.items ≡ [] → IsClosed (asking link) w.marks.items w.words.items
walk_closed link w walk empty = record {
  by_roots = walk.by_roots;
  by_units = λ u is. elim (walk.by_units u is) [ inl waits ↦ absurd (no_unit_waits u (subst (λ st. Contains st u) empty waits)) | inr done ↦ done ];
}

-- the marks are those of what is reached
pub walk_marks : (link : LinkInput) (w : Walk) → IsWalking link w → w.stack.items ≡ [] → w.marks.items ≡ reached_marks link
walk_marks link w walk empty =
    let closed = walk_closed link w walk empty in
    let g = asking link in
    let marks = w.marks.items in
    let holds : (u : ℕ) → IsMarked (reached_marks link) u → IsMarked marks u
    = λ u is. reached_only g (IsMarked marks) (λ k d lt. (closed.by_roots k d lt).0) (λ v m k d lt. (closed.by_units v m k d lt).0) u is in
    ext_get_or false marks (reached_marks link) (walk.size.marks ∙ sym (reached_length g)) (λ u lt. same_mark (get_or marks u false) (get_or (reached_marks link) u false) (walk.reached u) (holds u))

-- and the words are their flags
pub walk_words : (link : LinkInput) (w : Walk) → IsWalking link w → w.stack.items ≡ [] → w.words.items ≡ flag_words link
walk_words link w walk empty =
    let closed = walk_closed link w walk empty in
    let g = asking link in
    let words = w.words.items in
    let same : w.marks.items ≡ reached_marks link = walk_marks link w walk empty in
    let by_units : All (IsJoined words) (asked_from g.follows 0 (reached_marks link))
    = from_marked (IsJoined words) g.follows 0 (reached_marks link) (λ v is k d lt.
    let zero_more : 0 + v ≡ v = omega arith in
    subst (λ m. All (IsJoined words) (g.follows m)) (sym zero_more) (λ j e less. (closed.by_units v (subst (λ ms. IsMarked ms v) (sym same) is) j e less).1) k d lt) in
    let joined : All (IsJoined words) (asked g (reached_marks link)) = All-append (IsJoined words) (roots link) (asked_from g.follows 0 (reached_marks link)) (λ k d lt. (closed.by_roots k d lt).1) by_units in
    let holds : (n i : ℕ) → HasBit (flag_words link) n i → HasBit words n i
    = λ n i bit. join_all_only (HasBit words) (handed_in link) (asked g (reached_marks link)) walk.handed joined n i bit in
    let size : length words ≡ length (flag_words link) = omega (arith, walk.size.words, join_all_length (handed_in link) (asked g (reached_marks link)), handed_length link) in
    same_words words (flag_words link) size walk.flags holds

pub walked : (link : LinkInput) (w : Walk) → IsWalking link w → w.stack.items ≡ [] → IsWalked link w
walked link w walk empty = record { marks = walk_marks link w walk empty; words = walk_words link w walk empty; few = walk.few }

-- ---- what is handed in

pub all_handed_in : (fs : List NumberedFile) → flat_map (λ f. map flags_handed_in f.file.symbols) fs ≡ map flags_handed_in (flat_map (λ f. f.symbols) (map (λ x. x.file) fs))
all_handed_in [] = refl
all_handed_in (f ∷ fs) =
    ap (λ xs. map flags_handed_in f.file.symbols ++ xs) (all_handed_in fs)
    ∙ sym (map-append flags_handed_in f.file.symbols (flat_map (λ (g : InputFile). g.symbols) (map (λ (x : NumberedFile). x.file) fs)))

pub handed_in_whole : (link : LinkInput) → flat_map (λ f. map flags_handed_in f.file.symbols) (numbered_files link.groups) ≡ map flags_handed_in (all_symbols link.groups)
handed_in_whole link = all_handed_in (numbered_files link.groups) ∙ ap (λ fs. map flags_handed_in (flat_map (λ (f : InputFile). f.symbols) fs)) (files_from_are 0 link.groups)
