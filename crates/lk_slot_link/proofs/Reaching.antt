-- What is reached in the graph of a link is what is reached in the link.
use Rattle.std.proofs.Common.{◌≡◌, ℕ, zero, suc, ◌+◌, ◌<◌, List, [], ◌∷◌, length, Option, Some, None, map, refl, sym, ap, ◌∙◌, subst, inl, inr, arith}
use Rattle.std.specs.Int.{bit_at}
use Rattle.std.specs.List.{All, Contains, enumerate_from, slice_get}
use Rattle.std.specs.Option.{option_map_or}
use Rattle.std.proofs.lemmas.List.Elements.{All-contains}
use Rattle.std.proofs.lemmas.Option.{slice_get_within}
use Rattle.lk_link.specs.declared.file.InputFile.{InputFile}
use Rattle.lk_link.specs.declared.link.LinkInput.{LinkInput}
use Rattle.lk_link.specs.Files.{file_in}
use Rattle.lk_link.specs.Inputs.{NumberedFile, group_files, numbered_files}
use Rattle.lk_link.specs.WellFormed.{IsWellFormed}
use Rattle.lk_link.proofs.Elements.{at_contained, contains_at, flat_map_at, flat_map_in, map_at, map_in, numbered_at}
use Rattle.lk_reach.specs.declared.units.Ask.{Ask}
use Rattle.lk_reach.specs.declared.units.Ask.TheVariants as ask
use Rattle.lk_reach.specs.declared.units.Unit.{Unit as LinkUnit}
use Rattle.lk_reach.specs.declared.units.Unit.TheVariants.{Sec, Sym}
use Rattle.lk_reach.specs.Marks.{IsInside, IsUnit, unit_at, unit_number, word_of}
use Rattle.lk_reach.specs.Reach.{HasFlag, IsPath, IsReached}
use Rattle.lk_reach.specs.Units.{AskFlag, AskFor, file_roots, flags_of, follows, roots, target_of}
use Rattle.lk_reach.proofs.Numbered.{files_of}
use Rattle.lk_reach.proofs.ReachLemmas.{IsReachedAt, follows_at, handed_meant, handed_set, reach_more, reach_root, reached_unit}
use Rattle.lk_reach.proofs.UnitLemmas.{asks_are_inside}
use Rattle.lk_slots.specs.Machine.{Task}
use Rattle.lk_slots.specs.Reach as graph
use Rattle.lk_slot_link.specs.LinkGraphs.{files_of_group, graph_of, group_roots, task_of}

-- ---- tasks and asks

-- a task of a list comes from an ask
pub record IsOf (link : LinkInput) (asks : List Ask) (t : Task) : Type 0 where
  pub from : Ask
  pub among : Contains asks from
  pub gives : task_of link from ≡ t

pub task_from : (link : LinkInput) (asks : List Ask) (t : Task) → Contains (map (task_of link) asks) t → IsOf link asks t
task_from link asks t h =
    let at = at_contained (map (task_of link) asks) t h in
    let a = map_at (task_of link) asks at.0 t at.1 in
    record { from = a.0; among = contains_at asks at.0 a.0 a.1; gives = a.2 }

pub task_in : (link : LinkInput) (asks : List Ask) (a : Ask) → Contains asks a → Contains (map (task_of link) asks) (task_of link a)
task_in link asks a h =
    let at = at_contained asks a h in
    contains_at (map (task_of link) asks) at.0 (task_of link a) (map_in (task_of link) asks at.0 a at.1)

-- an element with its number
abbrev numbered : {X : Type 0} → ℕ → X → ℕ × X
numbered n x = (n, x)

-- an element stands under its number
enumerated_in : {X : Type 0} (o : ℕ) (xs : List X) (k : ℕ) (x : X) → slice_get xs k ≡ Some x → slice_get (enumerate_from o xs) k ≡ Some (numbered (o + k) x)
enumerated_in o [] k x h = absurd (cc)
enumerated_in o (y ∷ xs) zero x h =
    let same : y ≡ x = cc in
    let at_first : o ≡ o + 0 = omega arith in
    ap (λ z. Some (numbered o z)) same ∙ ap (λ n. Some (numbered n x)) at_first
enumerated_in o (y ∷ xs) (suc k) x h =
    let later : o + 1 + k ≡ o + suc k = omega arith in
    enumerated_in (o + 1) xs k x h ∙ ap (λ n. Some (numbered n x)) later

-- a file of a group is one of the link
file_of_group : (groups : List (List InputFile)) (g k : ℕ) (f : NumberedFile) (o : Option (List InputFile)) → slice_get groups g ≡ o → slice_get (option_map_or (group_files g 0) o []) k ≡ Some f
    → Contains (numbered_files groups) f
file_of_group groups g k f None e h = absurd (cc)
file_of_group groups g k f (Some files) e h =
    let pair : ℕ × List InputFile = (g, files) in
    let own : 0 + g ≡ g = omega arith in
    let there : slice_get (enumerate_from 0 groups) g ≡ Some pair = enumerated_in 0 groups g files e ∙ ap (λ n. Some (numbered n files)) own in
    let in_all = flat_map_in files_of (enumerate_from 0 groups) g k pair f there h in
    contains_at (numbered_files groups) in_all.0 f in_all.1

-- a root of a group is a root of the link
pub root_of_group : (link : LinkInput) (g : ℕ) (a : Ask) → Contains (group_roots link g) a → Contains (roots link) a
root_of_group link g a h =
    let at = at_contained (group_roots link g) a h in
    let from = flat_map_at (file_roots link) (files_of_group link.groups g) at.0 a at.1 in
    let file = at_contained (numbered_files link.groups) from.from (file_of_group link.groups g from.outer from.from (slice_get link.groups g) refl from.there) in
    let root = flat_map_in (file_roots link) (numbered_files link.groups) file.0 from.inner from.from a file.1 from.gives in
    contains_at (roots link) root.0 a root.1

-- a root of the link is one of the group of its file
pub record IsGroupRoot (link : LinkInput) (a : Ask) : Type 0 where
  pub group : ℕ
  pub within : group < length link.groups
  pub among : Contains (group_roots link group) a

some_group : (groups : List (List InputFile)) (f : NumberedFile) (o : Option (List InputFile)) → slice_get groups f.id.group ≡ o → file_in groups f.id ≡ Some f.file → f.id.group < length groups
some_group groups f None e h = absurd (cc)
some_group groups f (Some files) e h = slice_get_within groups f.id.group files e

pub group_within : (groups : List (List InputFile)) (f : NumberedFile) → file_in groups f.id ≡ Some f.file → f.id.group < length groups
group_within groups f h = some_group groups f (slice_get groups f.id.group) refl h

-- a file of the link is one of its group's
file_in_group : (groups : List (List InputFile)) (k : ℕ) (f : NumberedFile) → slice_get (numbered_files groups) k ≡ Some f → (g : ℕ) × (g < length groups) × Contains (files_of_group groups g) f
file_in_group groups k f h =
    let at = flat_map_at files_of (enumerate_from 0 groups) k f h in
    let group = numbered_at 0 groups at.outer at.from at.there in
    let g : ℕ = at.from.0 in
    let found : slice_get groups g ≡ Some at.from.1 = ap (slice_get groups) (omega (arith, group.0)) ∙ group.1 in
    let own : slice_get (files_of_group groups g) at.inner ≡ Some f
    = ap (λ o. slice_get (option_map_or (group_files g 0) o []) at.inner) found ∙ at.gives in
    (g, slice_get_within groups g at.from.1 found, contains_at (files_of_group groups g) at.inner f own)

pub group_root : (link : LinkInput) (a : Ask) → Contains (roots link) a → IsGroupRoot link a
group_root link a h =
    let at = at_contained (roots link) a h in
    let from = flat_map_at (file_roots link) (numbered_files link.groups) at.0 a at.1 in
    let f : NumberedFile = from.from in
    let own = file_in_group link.groups from.outer f from.there in
    let file = at_contained (files_of_group link.groups own.0) f own.2 in
    let root = flat_map_in (file_roots link) (files_of_group link.groups own.0) file.0 from.inner f a file.1 from.gives in
    record { group = own.0; within = own.1; among = contains_at (group_roots link own.0) root.0 a root.1 }

-- ---- targets and flags

-- the unit that a task asks for is the one that its ask reaches
pub task_asks : (link : LinkInput) (a : Ask) (n : ℕ) → graph.Asks (task_of link a) n → (unit : LinkUnit) × (target_of a ≡ Some unit) × (unit_number link.groups unit ≡ n)
task_asks link (ask.Reference s flags) n h = (Sym s, refl, h)
task_asks link (ask.Section id i) n h = (Sec id i, refl, h)
task_asks link (ask.Mark s flags) n h = absurd h

pub ask_asks : (link : LinkInput) (a : Ask) (unit : LinkUnit) → target_of a ≡ Some unit → graph.Asks (task_of link a) (unit_number link.groups unit)
ask_asks link (ask.Reference s flags) unit h = let same : Sym s ≡ unit = cc in ap (unit_number link.groups) same
ask_asks link (ask.Section id i) unit h = let same : Sec id i ≡ unit = cc in ap (unit_number link.groups) same
ask_asks link (ask.Mark s flags) unit h = absurd (cc)

-- the flags that a task sets are those of its ask
pub task_sets : (link : LinkInput) (asks : List Ask) (a : Ask) (s i : ℕ) → Contains asks a → graph.Sets (graph_of link) (task_of link a) s i → AskFlag asks s i
task_sets link asks (ask.Reference t flags) s i among h = record { ask = ask.Reference t flags; among = among; flags = flags.0; sets = ap (λ n. Some (n, flags.0)) h.0; bit = h.1 }
task_sets link asks (ask.Section id k) s i among h = absurd h
task_sets link asks (ask.Mark t flags) s i among h = record { ask = ask.Mark t flags; among = among; flags = flags.0; sets = ap (λ n. Some (n, flags.0)) h.0; bit = h.1 }

same_pair : (p q : ℕ × ℕ) → Some p ≡ Some q → (p.0 ≡ q.0) × (p.1 ≡ q.1)
same_pair p q h =
    let pair : p ≡ q = cc in
    (ap (λ (x : ℕ × ℕ). x.0) pair, ap (λ (x : ℕ × ℕ). x.1) pair)

pub ask_sets : (link : LinkInput) (a : Ask) (s flags i : ℕ) → flags_of a ≡ Some (s, flags) → bit_at flags i ≡ 1 → graph.Sets (graph_of link) (task_of link a) s i
ask_sets link (ask.Reference t f) s flags i h bit = let p = same_pair (t, f.0) (s, flags) h in (p.0, ap (λ n. bit_at n i) p.1 ∙ bit)
ask_sets link (ask.Section id k) s flags i h bit = absurd (cc)
ask_sets link (ask.Mark t f) s flags i h bit = let p = same_pair (t, f.0) (s, flags) h in (p.0, ap (λ n. bit_at n i) p.1 ∙ bit)

-- ---- reached by numbers

-- a task of asks that are inside asks for a unit of the link
pub asked_unit : (link : LinkInput) (asks : List Ask) (t : Task) (n : ℕ) → All (IsInside link.groups) asks → Contains (map (task_of link) asks) t → graph.Asks t n
    → (unit : LinkUnit) × AskFor asks unit × (unit_at link.groups n ≡ Some unit)
asked_unit link asks t n inside among h =
    let of = task_from link asks t among in
    let unit = task_asks link of.from n (subst (λ u. graph.Asks u n) (sym of.gives) h) in
    let is : IsInside link.groups of.from = All-contains (IsInside link.groups) asks of.from inside of.among in
    let own : IsUnit link.groups unit.0 = is.target unit.0 unit.1 in (
      unit.0,
      record { ask = of.from; among = of.among; target = unit.1 },
      subst (λ m. unit_at link.groups m ≡ Some unit.0) unit.2 own,
    )

-- what a unit of the graph asks for, by the unit of the link
pub follows_tasks : (link : LinkInput) (v : ℕ) (unit : LinkUnit) (t : Task) → unit_at link.groups v ≡ Some unit → Contains ((graph_of link).follows v) t → Contains (map (task_of link) (follows link unit)) t
follows_tasks link v unit t there h = subst (λ asks. Contains (map (task_of link) asks) t) (follows_at link v unit there) h

pub roots_tasks : (link : LinkInput) (g : ℕ) (t : Task) → Contains ((graph_of link).roots g) t → Contains (map (task_of link) (roots link)) t
roots_tasks link g t h =
    let of = task_from link (group_roots link g) t h in
    subst (Contains (map (task_of link) (roots link))) of.gives (task_in link (roots link) of.from (root_of_group link g of.from of.among))

pub reached_at : (link : LinkInput) → IsWellFormed link → {n : ℕ} → graph.IsReached (graph_of link) n → IsReachedAt link n
reached_at link wf (graph.by_root g t n lt among h) =
    let asked = asked_unit link (roots link) t n (asks_are_inside.by_roots link wf) (roots_tasks link g t among) h in
    record { unit = asked.0; there = asked.2; reached = reach_root link asked.0 asked.1 }
reached_at link wf (graph.by_unit v t n r among h) =
    let from = reached_at link wf r in
    let asked = asked_unit link (follows link from.unit) t n (asks_are_inside.by_unit link from.unit wf) (follows_tasks link v from.unit t from.there among) h in
    record { unit = asked.0; there = asked.2; reached = reach_more link from.unit asked.0 from.reached asked.1 }

-- ---- reached by paths

root_task : (link : LinkInput) (unit : LinkUnit) → AskFor (roots link) unit → graph.IsReached (graph_of link) (unit_number link.groups unit)
root_task link unit h =
    let root = group_root link h.ask h.among in
    graph.by_root root.group (task_of link h.ask) (unit_number link.groups unit) root.within (task_in link (group_roots link root.group) h.ask root.among) (ask_asks link h.ask unit h.target)

next_task : (link : LinkInput) (unit next : LinkUnit) → IsUnit link.groups unit → graph.IsReached (graph_of link) (unit_number link.groups unit) → AskFor (follows link unit) next
    → graph.IsReached (graph_of link) (unit_number link.groups next)
next_task link unit next is r h =
    let v = unit_number link.groups unit in
    let among : Contains ((graph_of link).follows v) (task_of link h.ask)
    = subst (λ asks. Contains (map (task_of link) asks) (task_of link h.ask)) (sym (follows_at link v unit is)) (task_in link (follows link unit) h.ask h.among) in
    graph.by_unit v (task_of link h.ask) (unit_number link.groups next) r among (ask_asks link h.ask next h.target)

asked_is_unit : (groups : List (List InputFile)) (asks : List Ask) (unit : LinkUnit) → All (IsInside groups) asks → AskFor asks unit → IsUnit groups unit
asked_is_unit groups asks unit h a =
    let inside : IsInside groups a.ask = All-contains (IsInside groups) asks a.ask h a.among in
    inside.target unit a.target

path_task : (link : LinkInput) (first : LinkUnit) (rest : List LinkUnit) (last : LinkUnit) → IsWellFormed link → IsUnit link.groups first → graph.IsReached (graph_of link) (unit_number link.groups first)
    → IsPath link first rest last → graph.IsReached (graph_of link) (unit_number link.groups last)
path_task link first [] last wf is r path = subst (λ u. graph.IsReached (graph_of link) (unit_number link.groups u)) path r
path_task link first (next ∷ rest) last wf is r path =
    path_task link next rest last wf (asked_is_unit link.groups (follows link first) next (asks_are_inside.by_unit link first wf) path.0) (next_task link first next is r path.0) path.1

pub reached_task : (link : LinkInput) (unit : LinkUnit) → IsWellFormed link → IsReached link unit → graph.IsReached (graph_of link) (unit_number link.groups unit)
reached_task link unit wf r =
    path_task link r.first r.rest unit wf (asked_is_unit link.groups (roots link) r.first (asks_are_inside.by_roots link wf) r.root) (root_task link r.first r.root) r.path

-- ---- flags

pub flag_meant : (link : LinkInput) (s i : ℕ) → IsWellFormed link → graph.HasFlag (graph_of link) s i → HasFlag link s i
flag_meant link s i wf (inl handed) = handed_meant link (word_of s) i handed s refl
flag_meant link s i wf (inr (t, is, sets)) = elim is [
  | inl root ↦
      let of = task_from link (roots link) t (roots_tasks link root.0 t root.2) in
      inr (inl (task_sets link (roots link) of.from s i of.among (subst (λ u. graph.Sets (graph_of link) u s i) (sym of.gives) sets)))
  | inr unit ↦
      let from = reached_at link wf unit.1 in
      let of = task_from link (follows link from.unit) t (follows_tasks link unit.0 from.unit t from.there unit.2) in
      inr (inr (record {
        unit = from.unit;
        reached = from.reached;
        asks = task_sets link (follows link from.unit) of.from s i of.among (subst (λ u. graph.Sets (graph_of link) u s i) (sym of.gives) sets);
      }))
]

root_flag : (link : LinkInput) (s i : ℕ) → AskFlag (roots link) s i → graph.HasFlag (graph_of link) s i
root_flag link s i h =
    let root = group_root link h.ask h.among in
    inr (task_of link h.ask, inl (root.group, root.within, task_in link (group_roots link root.group) h.ask root.among), ask_sets link h.ask s h.flags i h.sets h.bit)

unit_flag : (link : LinkInput) (s i : ℕ) (unit : LinkUnit) → IsWellFormed link → IsReached link unit → AskFlag (follows link unit) s i → graph.HasFlag (graph_of link) s i
unit_flag link s i unit wf r h =
    let v = unit_number link.groups unit in
    let among : Contains ((graph_of link).follows v) (task_of link h.ask)
    = subst (λ asks. Contains (map (task_of link) asks) (task_of link h.ask)) (sym (follows_at link v unit (reached_unit link unit wf r))) (task_in link (follows link unit) h.ask h.among) in
    inr (task_of link h.ask, inr (v, reached_task link unit wf r, among), ask_sets link h.ask s h.flags i h.sets h.bit)

pub flag_set : (link : LinkInput) (s i : ℕ) → IsWellFormed link → HasFlag link s i → graph.HasFlag (graph_of link) s i
flag_set link s i wf (inl handed) = inl (handed_set link s i handed)
flag_set link s i wf (inr (inl root)) = root_flag link s i root
flag_set link s i wf (inr (inr unit)) = unit_flag link s i unit.unit wf unit.reached unit.asks
