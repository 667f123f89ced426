-- What is reached by paths, and by rounds of marking: the same units and flags.
use Rattle.std.proofs.Common.{◌≡◌, ℕ, suc, ◌+◌, ◌<◌, Bool, List, [], ◌∷◌, ◌++◌, length, map, Option, Some, None, refl, sym, ap, ◌∙◌, subst, inl, inr, ◌⊎◌, arith, get_or, option_map}
use Rattle.std.specs.Int.{bit_at}
use Rattle.std.specs.List.{All, slice_index}
use Rattle.std.specs.Option.{ForSome, option_map_or}
use Rattle.std.proofs.lemmas.List.{length-map, get_or-map}
use Rattle.std.proofs.lemmas.List.Elements.{All-append, All-contains, Contains-get_or}
use Rattle.std.proofs.lemmas.Option.{get_or_from_slice_get, slice_get_within}
use Rattle.lk_link.specs.declared.file.InputFile.{InputFile}
use Rattle.lk_link.specs.declared.link.LinkInput.{LinkInput}
use Rattle.lk_link.specs.declared.symbol.InputSymbol.{InputSymbol}
use Rattle.lk_link.specs.Symbols.{all_symbols}
use Rattle.lk_link.specs.WellFormed.{IsWellFormed}
use Rattle.lk_reach.specs.declared.units.Ask.{Ask}
use Rattle.lk_reach.specs.declared.units.Unit.{Unit as LinkUnit}
use Rattle.lk_reach.specs.Laws.{ClosedMarksHoldReach, MarksAreReached, MoreRootsReachMore, ReachIsClosed, WordsAreFlags}
use Rattle.lk_reach.specs.Marks.{Asking, IsClosed, IsHit, IsInside, IsJoined, IsMarked, IsUnit, asked, asked_from, asking, flag_words, flags_handed_in, handed_in, reached_marks, symbols_in_all, unit_at, unit_number, word_of}
use Rattle.lk_reach.specs.Reach.{HasFlag, IsHandedIn, IsPath, IsReached}
use Rattle.lk_reach.specs.Units.{AskFlag, AskFor, AsksFor, IsRoot, follows, roots, target_of}
use Rattle.lk_link.proofs.Elements.{at_index}
use Rattle.lk_reach.proofs.MarkLemmas.{AreTargetsBelow, IsMarkClosed, IsTargetBelow, all_left, all_right, from_marked, of_marked, reached_closed, reached_only}
use Rattle.lk_reach.proofs.UnitLemmas.{asks_are_inside, symbols_length}
use Rattle.lk_reach.proofs.WordLemmas.{HasBit, IsWordBelow, SetsOnly, bit_within, join_all_joins, join_all_keeps, join_all_only}

-- ---- targets by number

-- the unit that an ask reaches, from its number
pub target_unit : (groups : List (List InputFile)) (o : Option LinkUnit) (n : ℕ) → option_map (unit_number groups) o ≡ Some n → (u : LinkUnit) × (o ≡ Some u) × (unit_number groups u ≡ n)
target_unit groups None n h = absurd (cc)
target_unit groups (Some u) n h = (u, refl, cc)

-- what a unit asks for, by its number
pub follows_at : (link : LinkInput) (n : ℕ) (u : LinkUnit) → unit_at link.groups n ≡ Some u → (asking link).follows n ≡ follows link u
follows_at link n u h = ap (λ o. option_map_or (follows link) o []) h

inside_below : (link : LinkInput) (asks : List Ask) → All (IsInside link.groups) asks → All (IsTargetBelow (asking link) (asking link).count) asks
inside_below link asks h k d lt n e =
    let u = target_unit link.groups (target_of (get_or asks k d)) n e in
    let unit : IsUnit link.groups u.0 = (h k d lt).target u.0 u.1 in
    let within = slice_get_within _ (unit_number link.groups u.0) u.0 unit in
    omega (arith, within, u.2)

unit_asks_inside : (link : LinkInput) (n : ℕ) (o : Option LinkUnit) → IsWellFormed link → All (IsInside link.groups) (option_map_or (follows link) o [])
unit_asks_inside link n None wf = λ k d lt. absurd (omega arith)
unit_asks_inside link n (Some u) wf = asks_are_inside.by_unit link u wf

-- targets are units
pub targets_below : (link : LinkInput) → IsWellFormed link → AreTargetsBelow (asking link)
targets_below link wf = record {
  by_roots = inside_below link (roots link) (asks_are_inside.by_roots link wf);
  by_units = λ n. inside_below link (option_map_or (follows link) (unit_at link.groups n) []) (unit_asks_inside link n (unit_at link.groups n) wf);
}

-- ---- closed marks hold what is reached

mark_asked : (link : LinkInput) (marks : List Bool) (asks : List Ask) (u : LinkUnit) → All (IsHit (asking link) marks) asks → AskFor asks u → IsMarked marks (unit_number link.groups u)
mark_asked link marks asks u h a =
    let hit : IsHit (asking link) marks a.ask = All-contains (IsHit (asking link) marks) asks a.ask h a.among in
    hit (unit_number link.groups u) (ap (option_map (unit_number link.groups)) a.target)

inside_unit : (groups : List (List InputFile)) (asks : List Ask) (u : LinkUnit) → All (IsInside groups) asks → AskFor asks u → IsUnit groups u
inside_unit groups asks u h a =
    let inside : IsInside groups a.ask = All-contains (IsInside groups) asks a.ask h a.among in
    inside.target u a.target

path_marked : (link : LinkInput) (marks : List Bool) (first : LinkUnit) (rest : List LinkUnit) (last : LinkUnit) → IsWellFormed link → IsMarkClosed (asking link) marks
    → IsUnit link.groups first → IsMarked marks (unit_number link.groups first) → IsPath link first rest last → IsMarked marks (unit_number link.groups last)
path_marked link marks first [] last wf closed unit is path = subst (λ u. IsMarked marks (unit_number link.groups u)) path is
path_marked link marks first (next ∷ rest) last wf closed unit is path =
    let asks : AsksFor link first next = path.0 in
    let all : All (IsHit (asking link) marks) (follows link first)
    = subst (All (IsHit (asking link) marks)) (follows_at link (unit_number link.groups first) first unit) (closed.by_units (unit_number link.groups first) is) in
    path_marked link marks next rest last wf closed
    (inside_unit link.groups (follows link first) next (asks_are_inside.by_unit link first wf) asks)
    (mark_asked link marks (follows link first) next all asks) path.1

pub closed_holds : (link : LinkInput) (marks : List Bool) (unit : LinkUnit) → IsWellFormed link → IsMarkClosed (asking link) marks → IsReached link unit → IsMarked marks (unit_number link.groups unit)
closed_holds link marks unit wf closed r =
    path_marked link marks r.first r.rest unit wf closed
    (inside_unit link.groups (roots link) r.first (asks_are_inside.by_roots link wf) r.root)
    (mark_asked link marks (roots link) r.first closed.by_roots r.root) r.path

-- targets of closed marks and words
pub marks_closed : (g : Asking) (marks : List Bool) (words : List ℕ) → IsClosed g marks words → IsMarkClosed g marks
marks_closed g marks words h = record {
  by_roots = λ k d lt. (h.by_roots k d lt).0;
  by_units = λ u is k d lt. (h.by_units u is k d lt).0;
}

pub closed_marks_hold_reach : ClosedMarksHoldReach
closed_marks_hold_reach link marks words unit wf h r = closed_holds link marks unit wf (marks_closed (asking link) marks words h) r

-- ---- what is marked has a path

-- a path, and one unit more
path_more : (link : LinkInput) (first : LinkUnit) (rest : List LinkUnit) (last next : LinkUnit) → IsPath link first rest last → AsksFor link last next → IsPath link first (rest ++ next ∷ []) next
path_more link first [] last next path asks = (subst (λ u. AsksFor link u next) (sym path) asks, refl)
path_more link first (u ∷ rest) last next path asks = (path.0, path_more link u rest last next path.1 asks)

pub reach_more : (link : LinkInput) (u next : LinkUnit) → IsReached link u → AsksFor link u next → IsReached link next
reach_more link u next r asks = record { first = r.first; rest = r.rest ++ next ∷ []; root = r.root; path = path_more link r.first r.rest u next r.path asks }

pub reach_root : (link : LinkInput) (u : LinkUnit) → IsRoot link u → IsReached link u
reach_root link u root = record { first = u; rest = []; root = root; path = refl }

-- a number is that of a unit that is reached
pub record IsReachedAt (link : LinkInput) (n : ℕ) : Type 0 where
  pub unit : LinkUnit
  pub there : unit_at link.groups n ≡ Some unit
  pub reached : IsReached link unit

asks_reached : (link : LinkInput) (asks : List Ask) → All (IsInside link.groups) asks → ((u : LinkUnit) → AskFor asks u → IsReached link u) → All (λ a. ForSome ((asking link).target a) (IsReachedAt link)) asks
asks_reached link asks inside reach k d lt n e =
    let a : Ask = get_or asks k d in
    let u = target_unit link.groups (target_of a) n e in
    let unit : IsUnit link.groups u.0 = (inside k d lt).target u.0 u.1 in
    record {
      unit = u.0;
      there = subst (λ m. unit_at link.groups m ≡ Some u.0) u.2 unit;
      reached = reach u.0 (record { ask = a; among = Contains-get_or asks k d lt; target = u.1 });
    }

pub marked_reached : (link : LinkInput) (n : ℕ) → IsWellFormed link → IsMarked (reached_marks link) n → IsReachedAt link n
marked_reached link n wf is =
    reached_only (asking link) (IsReachedAt link)
    (asks_reached link (roots link) (asks_are_inside.by_roots link wf) (reach_root link))
    (λ m at.
    subst (All (λ a. ForSome ((asking link).target a) (IsReachedAt link))) (sym (follows_at link m at.unit at.there))
    (asks_reached link (follows link at.unit) (asks_are_inside.by_unit link at.unit wf) (λ u asks. reach_more link at.unit u at.reached asks)))
    n is

pub reached_mark_closed : (link : LinkInput) → IsWellFormed link → IsMarkClosed (asking link) (reached_marks link)
reached_mark_closed link wf = reached_closed (asking link) (targets_below link wf)

same_unit : (link : LinkInput) (u : LinkUnit) → IsUnit link.groups u → IsReachedAt link (unit_number link.groups u) → IsReached link u
same_unit link u unit at =
    let both : Some at.unit ≡ Some u = sym at.there ∙ unit in
    let same : at.unit ≡ u = cc in
    subst (IsReached link) same at.reached

pub marks_are_reached : MarksAreReached
marks_are_reached link unit wf is =
    (λ marked. same_unit link unit is (marked_reached link (unit_number link.groups unit) wf marked), λ r. closed_holds link (reached_marks link) unit wf (reached_mark_closed link wf) r)

path_unit : (link : LinkInput) (first : LinkUnit) (rest : List LinkUnit) (last : LinkUnit) → IsWellFormed link → IsUnit link.groups first → IsPath link first rest last → IsUnit link.groups last
path_unit link first [] last wf unit path = subst (IsUnit link.groups) path unit
path_unit link first (next ∷ rest) last wf unit path = path_unit link next rest last wf (inside_unit link.groups (follows link first) next (asks_are_inside.by_unit link first wf) path.0) path.1

-- what is reached is a unit of the link
pub reached_unit : (link : LinkInput) (u : LinkUnit) → IsWellFormed link → IsReached link u → IsUnit link.groups u
reached_unit link u wf r = path_unit link r.first r.rest u wf (inside_unit link.groups (roots link) r.first (asks_are_inside.by_roots link wf) r.root) r.path

-- ---- flags

pub handed_length : (link : LinkInput) → length (handed_in link) ≡ 1 + symbols_in_all link.groups
handed_length link = omega (arith, length-map (all_symbols link.groups) flags_handed_in, symbols_length link.groups)

words_below : (link : LinkInput) (asks : List Ask) → All (IsInside link.groups) asks → All (IsWordBelow (length (handed_in link))) asks
words_below link asks h k d lt p e = omega (arith, handed_length link, (h k d lt).symbol p e)

asked_inside : (link : LinkInput) (marks : List Bool) → IsWellFormed link → All (IsInside link.groups) (asked (asking link) marks)
asked_inside link marks wf =
    All-append (IsInside link.groups) (roots link) (asked_from (asking link).follows 0 marks) (asks_are_inside.by_roots link wf)
    (from_marked (IsInside link.groups) (asking link).follows 0 marks (λ v m. unit_asks_inside link (0 + v) (unit_at link.groups (0 + v)) wf))

-- flags that are handed in stay
pub handed_in_words : (link : LinkInput) (n i : ℕ) → HasBit (handed_in link) n i → HasBit (flag_words link) n i
handed_in_words link n i bit = join_all_keeps (handed_in link) (asked (asking link) (reached_marks link)) n i bit

-- all that is asked for is joined
pub all_joined : (link : LinkInput) → IsWellFormed link → All (IsJoined (flag_words link)) (asked (asking link) (reached_marks link))
all_joined link wf =
    let asks = asked (asking link) (reached_marks link) in
    join_all_joins (handed_in link) asks (words_below link asks (asked_inside link (reached_marks link) wf))

joined_by_roots : (link : LinkInput) → IsWellFormed link → All (IsJoined (flag_words link)) (roots link)
joined_by_roots link wf = all_left (IsJoined (flag_words link)) (roots link) (asked_from (asking link).follows 0 (reached_marks link)) (all_joined link wf)

joined_by_units : (link : LinkInput) (n : ℕ) → IsWellFormed link → IsMarked (reached_marks link) n → All (IsJoined (flag_words link)) ((asking link).follows n)
joined_by_units link n wf is =
    let J = IsJoined (flag_words link) in
    subst (λ m. All J ((asking link).follows m)) (omega arith)
    (of_marked J (asking link).follows 0 (reached_marks link) n (all_right J (roots link) (asked_from (asking link).follows 0 (reached_marks link)) (all_joined link wf)) is)

pub reach_is_closed : ReachIsClosed
reach_is_closed link wf =
    let closed = reached_mark_closed link wf in
    record {
      by_roots = λ k d lt. (closed.by_roots k d lt, joined_by_roots link wf k d lt);
      by_units = λ u is k d lt. (closed.by_units u is k d lt, joined_by_units link u wf is k d lt);
    }

-- a bit that is handed in is a flag
pub handed_meant : (link : LinkInput) (n i : ℕ) → HasBit (handed_in link) n i → (s : ℕ) → word_of s ≡ n → HasFlag link s i
handed_meant link n i bit s e =
    let symbols = all_symbols link.groups in
    let flags : InputSymbol → ℕ = flags_handed_in in
    let same : n ≡ suc s = omega arith in
    let own : HasBit (handed_in link) (suc s) i = subst (λ m. HasBit (handed_in link) m i) same bit in
    let within : s < length symbols = omega (arith, bit_within (handed_in link) (suc s) i own, length-map symbols flags) in
    let x = at_index symbols s within in
    let read : slice_index (map flags symbols) s ≡ flags x.0 = get_or-map flags symbols s x.0 0 within ∙ ap flags (get_or_from_slice_get symbols s x.0 x.0 x.1) in
    inl (record { symbol = x.0; there = x.1; bit = ap (λ w. bit_at w i) (sym read) ∙ own })

asks_meant : (link : LinkInput) (asks : List Ask) → ((s i : ℕ) → AskFlag asks s i → HasFlag link s i) → All (SetsOnly (λ n i. (s : ℕ) → word_of s ≡ n → HasFlag link s i)) asks
asks_meant link asks meant k d lt p e i bit s same =
    let own : p.0 ≡ s = omega (arith, same) in
    let a : Ask = get_or asks k d in
    subst (λ t. HasFlag link t i) own (meant p.0 i (record { ask = a; among = Contains-get_or asks k d lt; flags = p.1; sets = e; bit = bit }))

flags_meant : (link : LinkInput) (s i : ℕ) → IsWellFormed link → HasBit (flag_words link) (word_of s) i → HasFlag link s i
flags_meant link s i wf bit =
    let R : ℕ → ℕ → Type 0 = λ n i. (s : ℕ) → word_of s ≡ n → HasFlag link s i in
    let marks = reached_marks link in
    let by_roots : All (SetsOnly R) (roots link) = asks_meant link (roots link) (λ t j f. inr (inl f)) in
    let by_units : All (SetsOnly R) (asked_from (asking link).follows 0 marks)
    = from_marked (SetsOnly R) (asking link).follows 0 marks (λ v m.
    let at = marked_reached link v wf m in
    let zero_more : 0 + v ≡ v = omega arith in
    subst (λ m. All (SetsOnly R) ((asking link).follows m)) (sym zero_more)
    (subst (All (SetsOnly R)) (sym (follows_at link v at.unit at.there)) (asks_meant link (follows link at.unit) (λ t j f. inr (inr (record { unit = at.unit; reached = at.reached; asks = f })))))) in
    join_all_only R (handed_in link) (asked (asking link) marks) (handed_meant link) (All-append (SetsOnly R) (roots link) (asked_from (asking link).follows 0 marks) by_roots by_units) (word_of s) i bit s refl

pub ask_set : (words : List ℕ) (asks : List Ask) (s i : ℕ) → All (IsJoined words) asks → AskFlag asks s i → HasBit words (word_of s) i
ask_set words asks s i h f = All-contains (IsJoined words) asks f.ask h f.among (s, f.flags) f.sets i f.bit

pub handed_set : (link : LinkInput) (s i : ℕ) → IsHandedIn link s i → HasBit (handed_in link) (word_of s) i
handed_set link s i h =
    let symbols = all_symbols link.groups in
    let flags : InputSymbol → ℕ = flags_handed_in in
    let within = slice_get_within symbols s h.symbol h.there in
    let read : slice_index (map flags symbols) s ≡ flags h.symbol = get_or-map flags symbols s h.symbol 0 within ∙ ap flags (get_or_from_slice_get symbols s h.symbol h.symbol h.there) in
    let same : suc s ≡ word_of s = omega arith in
    subst (λ m. HasBit (handed_in link) m i) same (ap (λ w. bit_at w i) read ∙ h.bit)

flags_set : (link : LinkInput) (s i : ℕ) → IsWellFormed link → HasFlag link s i → HasBit (flag_words link) (word_of s) i
flags_set link s i wf (inl h) = join_all_keeps (handed_in link) (asked (asking link) (reached_marks link)) (word_of s) i (handed_set link s i h)
flags_set link s i wf (inr (inl f)) = ask_set (flag_words link) (roots link) s i (joined_by_roots link wf) f
flags_set link s i wf (inr (inr u)) =
    let unit : IsUnit link.groups u.unit = reached_unit link u.unit wf u.reached in
    let is = closed_holds link (reached_marks link) u.unit wf (reached_mark_closed link wf) u.reached in
    let all = joined_by_units link (unit_number link.groups u.unit) wf is in
    ask_set (flag_words link) (follows link u.unit) s i (subst (All (IsJoined (flag_words link))) (follows_at link (unit_number link.groups u.unit) u.unit unit) all) u.asks

pub words_are_flags : WordsAreFlags
words_are_flags link s i wf lt = (λ bit. flags_meant link s i wf bit, λ f. flags_set link s i wf f)

-- ---- laws on paths

-- a path goes on in b, or begins anew at one of its roots
more_path : (a b : LinkInput) (first : LinkUnit) (rest : List LinkUnit) (last : LinkUnit) → ((u next : LinkUnit) → AsksFor a u next → AsksFor b u next ⊎ IsRoot b next) → IsReached b first
    → IsPath a first rest last → IsReached b last
more_path a b first [] last more r path = subst (IsReached b) path r
more_path a b first (next ∷ rest) last more r path = elim (more first next path.0) [
  | inl asks ↦ more_path a b next rest last more (reach_more b first next r asks) path.1
  | inr root ↦ more_path a b next rest last more (reach_root b next root) path.1
]

pub more_roots_reach_more : MoreRootsReachMore
more_roots_reach_more a b unit roots more r = more_path a b r.first r.rest unit more (reach_root b r.first (roots r.first r.root)) r.path

-- the last but one of a path asks for the last
pub last_asks : (link : LinkInput) (first : LinkUnit) (rest : List LinkUnit) (last : LinkUnit) → IsReached link first → IsPath link first rest last → (first ≡ last) ⊎ ((u : LinkUnit) × IsReached link u × AsksFor link u last)
last_asks link first [] last r path = inl path
last_asks link first (next ∷ rest) last r path = elim (last_asks link next rest last (reach_more link first next r path.0) path.1) [
  | inl same ↦ inr (first, r, subst (AsksFor link first) same path.0)
  | inr later ↦ inr later
]
