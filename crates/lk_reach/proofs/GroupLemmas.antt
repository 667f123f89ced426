-- Section groups in a walk: what their members ask for is taken once.
use Rattle.std.proofs.Common.{◌≡◌, ℕ, ◌<◌, ◌^◌, Bool, true, false, if◌then◌else◌, List, [], ◌∷◌, Some, None, eqb, not, length, map, refl, sym, ap, ◌∙◌, subst, inl, inr, replicate, arith}
use Rattle.std.specs.List.{All, Contains, filter, slice_get, slice_set}
use Rattle.std.specs.Option.{option_map_or}
use Rattle.std.proofs.lemmas.Bool.{and_from, and_parts, cases_Bool, eqb-true}
use Rattle.std.proofs.lemmas.List.{length-replicate, length-set}
use Rattle.std.proofs.lemmas.Option.{slice_get_within}
use Rattle.std.proofs.lemmas.List.Elements.{All-contains, All-head, All-tail, Contains-push}
use Rattle.lk_link.specs.declared.file.InputFile.{InputFile}
use Rattle.lk_link.specs.declared.ids.FileId.{FileId}
use Rattle.lk_link.specs.declared.link.LinkInput.{LinkInput}
use Rattle.lk_link.specs.declared.section.InputSection.{InputSection}
use Rattle.lk_link.specs.Files.{file_in}
use Rattle.lk_link.specs.Inputs.{Input, all_inputs, input_count, input_number}
use Rattle.lk_link.specs.InputSlots.{can_be_kept}
use Rattle.lk_link.specs.Marks.{is_marked}
use Rattle.lk_link.specs.SectionGroups.{IsMember, group_members}
use Rattle.lk_link.specs.WellFormed.{IsWellFormed}
use Rattle.lk_link.proofs.Elements.{contains_at, filter_in, map_in}
use Rattle.lk_link.proofs.InputLemmas.{inputs_follow}
use Rattle.lk_reach.specs.declared.units.Ask.{Ask}
use Rattle.lk_reach.specs.declared.units.Ask.TheVariants.{Section}
use Rattle.lk_reach.specs.declared.units.Unit.{Unit as LinkUnit}
use Rattle.lk_reach.specs.declared.units.Unit.TheVariants.{Sec}
use Rattle.lk_reach.specs.declared.walk.Walk.{Walk}
use Rattle.lk_reach.specs.Marks.{IsHit, IsMarked, asking, join_all, join_flags, unit_at, unit_number}
use Rattle.lk_reach.specs.Units.{asked_members, asked_references, coming_asks, flags_of, follows, is_coming, is_other, member_asks, other_asks}
use Rattle.lk_reach.specs.Walking.{Adds, AreTaken, IsGroupPlace, IsSized, IsWalking}
use Rattle.lk_reach.proofs.MarkLemmas.{all_left, hit_keeps, mark_all_keeps, mark_all_marked, mark_cases, none_marked}
use Rattle.lk_reach.proofs.SymbolNumbers.{inputs_few}
use Rattle.lk_reach.proofs.UnitLemmas.{all_passing, asks_are_inside, number_of}
use Rattle.lk_reach.proofs.WalkLemmas.{IsPopped, adds_done, adds_more}

-- ---- members that come along

-- what holds of what all passing elements give, holds of what each gives
passing_has : {X Y : Type 0} (P : Y → Type 0) (f : X → Y) (p : X → Bool) (xs : List X) → All P (map f (filter p xs)) → (j : ℕ) (x : X) → slice_get xs j ≡ Some x → p x ≡ true → P (f x)
passing_has P f p xs h j x at is =
    let kept = filter_in p xs j x at is in
    All-contains P (map f (filter p xs)) (f x) h (contains_at (map f (filter p xs)) kept.0 (f x) (map_in f (filter p xs) kept.0 x kept.1))

-- the others of one member are among all that come along
others_of_all : (P : Ask → Type 0) (id : FileId) (sections : List InputSection) (own : ℕ) (members : List ℕ) → All P (coming_asks id sections members) → All P (other_asks id sections own members)
others_of_all P id sections own members h = all_passing P (Section id) (is_other sections own) members (λ j k at is.
    passing_has P (Section id) (is_coming sections) members h j k at (and_parts (not (eqb k own)) (is_coming sections k) is).1)

-- one member and its others are all
all_of_others : (P : Ask → Type 0) (id : FileId) (sections : List InputSection) (own : ℕ) (members : List ℕ) → All P (other_asks id sections own members) → P (Section id own) → All P (coming_asks id sections members)
all_of_others P id sections own members h mine = all_passing P (Section id) (is_coming sections) members (λ j k at is. elim (cases_Bool (eqb k own)) [
  | inl same ↦ subst (λ n. P (Section id n)) (sym (eqb-true k own same)) mine
  | inr other ↦ passing_has P (Section id) (is_other sections own) members h j k at (and_from (not (eqb k own)) (is_coming sections k) (ap not other) is)
])

-- what a section that is kept asks for of its group
members_are : (link : LinkInput) (id : FileId) (i n : ℕ) (place : IsGroupPlace link id i n)
    → asked_members link id i ≡ other_asks id place.file.sections i (group_members place.file.sections place.group)
members_are link id i n place =
    ap (λ o. option_map_or (λ f. option_map_or (member_asks id f.sections i) (slice_get f.sections i) []) o []) place.there
    ∙ ap (λ o. option_map_or (member_asks id place.file.sections i) o []) place.at
    ∙ ap (λ b. if b then option_map_or (λ g. other_asks id place.file.sections i (group_members place.file.sections g)) place.section.group [] else []) place.kept
    ∙ ap (λ o. option_map_or (λ g. other_asks id place.file.sections i (group_members place.file.sections g)) o []) place.in_group

-- ---- what is marked already

join_none : (words : List ℕ) (asks : List Ask) → All (λ a. flags_of a ≡ None) asks → join_all words asks ≡ words
unfolding join_all
join_none words [] h = refl
join_none words (a ∷ asks) h =
    let P : Ask → Type 0 = λ b. flags_of b ≡ None in
    let none : flags_of a ≡ None = All-head P a asks h in
    ap (λ o. join_all (join_flags words o) asks) none ∙ join_none words asks (All-tail P a asks h)

-- what is marked already and sets no flags changes nothing
adds_nothing : (link : LinkInput) (asks : List Ask) (w : Walk) → All (IsHit (asking link) w.marks.items) asks → All (λ a. flags_of a ≡ None) asks → Adds link asks w w
adds_nothing link asks w hits none = record {
  marked = sym (mark_all_marked (asking link) w.marks.items asks hits);
  joined = sym (join_none w.words.items asks none);
  fresh = λ u h. inl h;
  kept = λ u h. h;
  few = λ h. h;
  on_stack = λ h. h;
  measure = refl;
}

members_set_none : (link : LinkInput) (id : FileId) (i n : ℕ) → IsGroupPlace link id i n → All (λ a. flags_of a ≡ None) (asked_members link id i)
members_set_none link id i n place =
    let P : Ask → Type 0 = λ a. flags_of a ≡ None in
    let members : List ℕ = group_members place.file.sections place.group in
    subst (All P) (sym (members_are link id i n place)) (all_passing P (Section id) (is_other place.file.sections i) members (λ j k at is. refl))

-- ---- groups that were taken

pub none_taken : (link : LinkInput) (marks : List Bool) → AreTaken link (replicate (length (all_inputs link.groups)) false) marks
none_taken link marks = record {
  count = length-replicate (length (all_inputs link.groups)) false;
  members = λ n x file group at set there in_group. absurd (none_marked (length (all_inputs link.groups)) n set);
}

-- more marks
pub taken_more : (link : LinkInput) (taken : List Bool) (asks : List Ask) (old new : Walk) → AreTaken link taken old.marks.items → Adds link asks old new → AreTaken link taken new.marks.items
taken_more link taken asks old new h adds =
    let g = asking link in
    let keeps : (u : ℕ) → IsMarked old.marks.items u → IsMarked new.marks.items u = λ u is. subst (λ ms. IsMarked ms u) (sym adds.marked) (mark_all_keeps g old.marks.items asks u is) in
    record {
      count = h.count;
      members = λ n x file group at set there in_group k d lt. hit_keeps g old.marks.items new.marks.items keeps _ (h.members n x file group at set there in_group k d lt);
    }

-- the members of a group that was taken are marked
pub taken_hits : (link : LinkInput) (taken marks : List Bool) (id : FileId) (i n : ℕ) → AreTaken link taken marks → IsGroupPlace link id i n → is_marked taken n ≡ true → All (IsHit (asking link) marks) (asked_members link id i)
taken_hits link taken marks id i n h place set =
    let P : Ask → Type 0 = IsHit (asking link) marks in
    let members : List ℕ = group_members place.file.sections place.group in
    let there : file_in link.groups place.first.file ≡ Some place.file = ap (file_in link.groups) place.same_file ∙ place.there in
    let all = h.members n place.first place.file place.group place.at_place set there place.same_group in
    let mine : All P (coming_asks id place.file.sections members) = subst (λ f. All P (coming_asks f place.file.sections members)) place.same_file all in
    subst (All P) (sym (members_are link id i n place)) (others_of_all P id place.file.sections i members mine)

-- a section of a group whose members were taken before asks for nothing new of it
pub adds_references : (link : LinkInput) (taken : List Bool) (old new : Walk) (id : FileId) (i n : ℕ) → AreTaken link taken old.marks.items → IsGroupPlace link id i n → is_marked taken n ≡ true
    → Adds link (asked_references link id i) old new → Adds link (follows link (Sec id i)) old new
adds_references link taken old new id i n h place set adds =
    adds_more link (asked_members link id i) (asked_references link id i) old old new
    (adds_nothing link (asked_members link id i) old (taken_hits link taken old.marks.items id i n h place set) (members_set_none link id i n place)) adds

-- a mark more, where all members are marked
pub taken_next : (link : LinkInput) (taken marks : List Bool) (id : FileId) (i n : ℕ) → AreTaken link taken marks → IsGroupPlace link id i n → All (IsHit (asking link) marks) (asked_members link id i)
    → IsMarked marks (unit_number link.groups (Sec id i)) → AreTaken link (slice_set taken n true) marks
taken_next link taken marks id i n h place hits own =
    let P : Ask → Type 0 = IsHit (asking link) marks in
    let sections : List InputSection = place.file.sections in
    let others : All P (other_asks id sections i (group_members sections place.group)) = subst (All P) (members_are link id i n place) hits in
    let mine : P (Section id i) = λ u e. let same : unit_number link.groups (Sec id i) ≡ u = cc in subst (IsMarked marks) same own in
    let whole : All P (coming_asks id sections (group_members sections place.group)) = all_of_others P id sections i (group_members sections place.group) others mine in
    record {
      count = length-set taken n true ∙ h.count;
      members = λ m x file group at set there in_group. elim (mark_cases taken n m set) [
        | inl before ↦ h.members m x file group at before there in_group
        | inr new ↦
            let inputs : Some x ≡ Some place.first = sym at ∙ ap (slice_get (all_inputs link.groups)) new ∙ place.at_place in
            let one : x ≡ place.first = cc in
            let ids : x.file ≡ id = ap (λ (y : Input). y.file) one ∙ place.same_file in
            let files : Some file ≡ Some place.file = sym there ∙ ap (file_in link.groups) ids ∙ place.there in
            let same_file : file ≡ place.file = cc in
            let groups : Some group ≡ Some place.group = sym in_group ∙ ap (λ (y : Input). y.section.group) one ∙ place.same_group in
            let same_group : group ≡ place.group = cc in
            let of : FileId → InputFile → ℕ → Type 0 = λ f z g. All P (coming_asks f z.sections (group_members z.sections g)) in
            let first : of id place.file group = subst (of id place.file) (sym same_group) whole in
            let second : of id file group = subst (λ z. of id z group) (sym same_file) first in
            subst (λ f. of f file group) (sym ids) second
      ];
    }

-- after a section's asks were taken for the first of its group, those of the whole group were
pub taken_first : (link : LinkInput) (taken : List Bool) (old new : Walk) (id : FileId) (i n : ℕ) → IsWellFormed link → IsSized link old → AreTaken link taken old.marks.items → IsGroupPlace link id i n
    → IsMarked old.marks.items (unit_number link.groups (Sec id i)) → Adds link (follows link (Sec id i)) old new → AreTaken link (slice_set taken n true) new.marks.items
taken_first link taken old new id i n wf size h place own adds =
    let asks = follows link (Sec id i) in
    let done = adds_done link asks old new (asks_are_inside.by_unit link (Sec id i) wf) size adds in
    let all : All (IsHit (asking link) new.marks.items) asks = λ k d lt. (done k d lt).0 in
    let hits = all_left (IsHit (asking link) new.marks.items) (asked_members link id i) (asked_references link id i) all in
    let still : IsMarked new.marks.items (unit_number link.groups (Sec id i))
    = subst (λ ms. IsMarked ms (unit_number link.groups (Sec id i))) (sym adds.marked) (mark_all_keeps (asking link) old.marks.items asks (unit_number link.groups (Sec id i)) own) in
    taken_next link taken new.marks.items id i n (taken_more link taken asks old new h adds) place hits still

-- ---- the place of a group's mark

-- the first member of the group of a section that is kept, among all input sections
pub group_place : (link : LinkInput) (id : FileId) (i n : ℕ) (file : InputFile) (section : InputSection) (group first : ℕ) → file_in link.groups id ≡ Some file → slice_get file.sections i ≡ Some section
    → can_be_kept section.slot ≡ true → section.group ≡ Some group → IsMember file.sections group first → n ≡ input_number link.groups id first → IsGroupPlace link id i n
group_place link id i n file section group first at_file at_i kept in_group is place =
    let x : Input = record { file = id; index = first; section = is.section } in
    record {
      file = file;
      there = at_file;
      section = section;
      at = at_i;
      kept = kept;
      group = group;
      in_group = in_group;
      first = x;
      at_place = ap (slice_get (all_inputs link.groups)) place ∙ inputs_follow.at link.groups id file first is.section at_file is.there;
      same_file = refl;
      same_group = is.grouped;
    }

-- a place of a group's mark is among all input sections
pub place_within : (link : LinkInput) (taken marks : List Bool) (id : FileId) (i n : ℕ) → AreTaken link taken marks → IsGroupPlace link id i n → n < length taken
place_within link taken marks id i n h place = omega (arith, h.count, slice_get_within (all_inputs link.groups) n place.first place.at_place)

-- and its number is small
pub place_few : (link : LinkInput) (id : FileId) (i n : ℕ) → IsWellFormed link → IsGroupPlace link id i n → n < 2 ^ 32
place_few link id i n wf place =
    let count : length (all_inputs link.groups) ≡ input_count link.groups = inputs_follow.count link.groups in
    omega (arith, count, inputs_few link wf, slice_get_within (all_inputs link.groups) n place.first place.at_place)

-- ---- a unit off the stack

-- what comes off the stack is marked
pub popped_unit : (link : LinkInput) (old mid : Walk) (n : ℕ) (u : LinkUnit) → IsWalking link old → IsPopped old mid n → unit_at link.groups n ≡ Some u → IsMarked mid.marks.items (unit_number link.groups u)
popped_unit link old mid n u walk pop at =
    let on : Contains old.stack.items n = subst (λ st. Contains st n) (sym pop.stack) (Contains-push mid.stack.items n) in
    let marked : IsMarked old.marks.items n = All-contains (IsMarked old.marks.items) old.stack.items n walk.on_stack on in
    let number : n ≡ unit_number link.groups u = sym (number_of link.groups n u at) in
    subst (IsMarked mid.marks.items) number (subst (λ ms. IsMarked ms n) (sym pop.marks) marked)
