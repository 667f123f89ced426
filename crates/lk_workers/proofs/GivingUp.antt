-- A step that finds no memory is steps of the slot machine, of which the last drop what is in hand.
use Rattle.std.proofs.Common.{◌≡◌, ◌<◌, ℕ, suc, false, cond, List, [], ◌∷◌, ◌++◌, length, map, refl, sym, ap, ◌∙◌, subst, inl, inr}
use Rattle.std.specs.List.{All}
use Rattle.std.proofs.lemmas.List.{map-append}
use Rattle.std.proofs.lemmas.List.Elements.{All-head}
use Rattle.lk_flags.specs.declared.flags.FlagSet.{FlagSet}
use Rattle.lk_link.specs.declared.file.InputFile.{InputFile}
use Rattle.lk_link.specs.declared.flags.TheConstants.ValueFlags as flag
use Rattle.lk_link.specs.declared.flags.ValueFlags.{ValueFlags}
use Rattle.lk_link.specs.declared.link.LinkInput.{LinkInput}
use Rattle.lk_link.specs.WellFormed.{IsWellFormed}
use Rattle.lk_reach.specs.declared.units.Ask.{Ask}
use Rattle.lk_reach.specs.declared.units.Ask.TheVariants as ask
use Rattle.lk_reach.specs.declared.units.Unit.{Unit as LinkUnit}
use Rattle.lk_reach.specs.Marks.{IsInside, IsUnit, unit_number}
use Rattle.lk_reach.specs.Units.{follows, roots}
use Rattle.lk_reach.proofs.MarkLemmas.{all_left, all_right}
use Rattle.lk_reach.proofs.ReachLemmas.{follows_at}
use Rattle.lk_reach.proofs.UnitLemmas.{asks_are_inside}
use Rattle.lk_slot_link.specs.LinkGraphs.{graph_of, group_roots, task_of}
use Rattle.lk_slot_link.proofs.Reaching.{root_of_group}
use Rattle.lk_slots.specs.Machine.{Load, Refer, TakesOut, Task, left_of}
use Rattle.lk_workers.specs.declared.work.WorkItem.{WorkItem}
use Rattle.lk_workers.specs.declared.work.WorkItem.TheVariants.{ExportDynamic, LoadGcUnit, LoadGlobalSymbol}
use Rattle.lk_workers.specs.Items.{machine_item, machine_items, unit_of}
use Rattle.lk_workers.specs.Machines.{AreDropped, IsMachineStepGivenUp, Side, StepsGivenUpAreMachineSteps, side_of}
use Rattle.lk_workers.specs.States.{DoesOne, StateValue, activated, group_of, is_done, with_items}
use Rattle.lk_workers.specs.Steps.{AreGivenUp, DoesSome, GivesItemUp, GivesUnitUp, IsGivenUp, IsHalfActivated, flags_set}
use Rattle.lk_workers.proofs.Asked.{all_in}
use Rattle.lk_workers.proofs.Stepping.{out_of}
use Rattle.lk_workers.proofs.Turning.{Leads, asks_are_turns, flag_turn, last_turn, leads_both, no_turn}

-- ---- what is in hand

no_drop : (x : Side) → AreDropped 0 x x
unfolding AreDropped
no_drop x = refl

-- all that is in hand is dropped, one after the other
all_dropped : (groups : List (List InputFile)) (hand : List Task) (v : StateValue) (sets : List FlagSet) → (n : ℕ) × AreDropped n (side_of groups hand v sets) (side_of groups [] v sets)
unfolding AreDropped
all_dropped groups [] v sets = (0, refl)
all_dropped groups (t ∷ hand) v sets =
    let later = all_dropped groups hand v sets in (
      suc later.0,
      (
        side_of groups hand v sets,
        record {
          drops = record { gone = inr (t, record { before = []; after = hand; is = refl; left = refl }, refl); active = refl; done = λ u. refl };
          items = refl;
          sets = refl;
          sent = refl;
        },
        later.1,
      ),
    )

-- steps, behind which what is still in hand is dropped
record Ends (link : LinkInput) (g : ℕ) (old : Side) (v : StateValue) (after : List FlagSet) : Type 0 where
  pub mid : Side
  pub leads : Leads (graph_of link) g old mid
  pub gone : ℕ
  pub drops : AreDropped gone mid (side_of link.groups [] v after)

drop_now : (link : LinkInput) (g : ℕ) (hand : List Task) (v : StateValue) (sets after : List FlagSet) → after ≡ sets → Ends link g (side_of link.groups hand v sets) v after
drop_now link g hand v sets after same =
    let all = all_dropped link.groups hand v sets in
    subst (Ends link g (side_of link.groups hand v sets) v) (sym same)
    (record { mid = side_of link.groups hand v sets; leads = (0, no_turn (graph_of link) g (side_of link.groups hand v sets)); gone = all.0; drops = all.1 })

-- a reference sets its flags, and what it then asks for is dropped with the rest
set_and_drop : (link : LinkInput) (g s : ℕ) (rest : List Task) (v : StateValue) (sets after : List FlagSet) (flags : ValueFlags) (found : ℕ) → after ≡ sets ++ flags_set s flags found ∷ []
    → Ends link g (side_of link.groups (Refer s flags.0 ∷ rest) v sets) v after
set_and_drop link g s rest v sets after flags found same =
    let graph = graph_of link in
    let from = side_of link.groups (Refer s flags.0 ∷ rest) v sets in
    let more = sets ++ flags_set s flags found ∷ [] in
    let left : List Task = left_of graph found (Refer s flags.0) in
    let mid = side_of link.groups (left ++ rest) v more in
    let all = all_dropped link.groups (left ++ rest) v more in
    subst (Ends link g from v) (sym same) (record {
      mid = mid;
      leads = last_turn graph g from mid (inl (flag_turn link (Refer s flags.0) left rest s flags found v sets (refl, refl) refl));
      gone = all.0;
      drops = all.1;
    })

given_up : (link : LinkInput) (g : ℕ) (a : Ask) (rest : List Task) (v : StateValue) (sets after : List FlagSet) → IsGivenUp a sets after → Ends link g (side_of link.groups (task_of link a ∷ rest) v sets) v after
given_up link g (ask.Reference s flags) rest v sets after up = elim up [
  | inl same ↦ drop_now link g (Refer s flags.0 ∷ rest) v sets after same
  | inr set ↦ set_and_drop link g s rest v sets after flags set.0 set.1
]
given_up link g (ask.Section id i) rest v sets after same = drop_now link g (task_of link (ask.Section id i) ∷ rest) v sets after same
given_up link g (ask.Mark s flags) rest v sets after same = drop_now link g (task_of link (ask.Mark s flags) ∷ rest) v sets after same

all_given_up : (link : LinkInput) (g : ℕ) (asks : List Ask) (v : StateValue) (sets after : List FlagSet) → AreGivenUp asks sets after → Ends link g (side_of link.groups (map (task_of link) asks) v sets) v after
all_given_up link g [] v sets after same = drop_now link g [] v sets after same
all_given_up link g (a ∷ asks) v sets after up = given_up link g a (map (task_of link) asks) v sets after up

-- asks that are all in hand, of which only the first are done
some_lead : (link : LinkInput) (asks : List Ask) (g : ℕ) (old new : StateValue) (before after : List FlagSet) → old.group ≡ g → All (IsInside link.groups) asks
    → DoesSome link.groups asks old new before after → Ends link g (side_of link.groups (map (task_of link) asks) old before) new after
some_lead link asks g old new before after same inside some =
    let graph = graph_of link in
    let hand : List Task = map (task_of link) some.rest in
    let begins = side_of link.groups (map (task_of link) some.first ++ hand) old before in
    let between = side_of link.groups hand new some.sets in
    let those : All (IsInside link.groups) (some.first ++ some.rest) = subst (All (IsInside link.groups)) some.are inside in
    let first : Leads graph g begins between
    = subst (λ n. Leads graph n begins between) same (asks_are_turns link some.first hand old new before some.sets (all_left (IsInside link.groups) some.first some.rest those) some.does) in
    let ends = all_given_up link g some.rest new some.sets after some.left in
    let tasks : map (task_of link) some.first ++ hand ≡ map (task_of link) asks = sym (map-append (task_of link) some.first some.rest) ∙ ap (map (task_of link)) (sym some.are) in
    subst (λ all. Ends link g (side_of link.groups all old before) new after) tasks
    (record { mid = ends.mid; leads = leads_both graph g first.0 begins between ends.mid first.1 ends.leads; gone = ends.gone; drops = ends.drops })

-- ---- steps

half_step : (link : LinkInput) (old new : StateValue) (before after : List FlagSet) → IsWellFormed link → old.group < length link.groups → IsHalfActivated link.groups link old new before after → IsMachineStepGivenUp link old new before after
half_step link old new before after wf lt f =
    let inside = all_in (IsInside link.groups) (group_roots link old.group) (roots link) (root_of_group link old.group) (asks_are_inside.by_roots link wf) in
    let ends = some_lead link (group_roots link old.group) old.group (activated old) new before after refl inside f.asks in
    record {
      start = group_of link.groups (map (task_of link) (group_roots link old.group)) (activated old);
      begins = inl (lt, record { fresh = f.fresh; active = refl; hand = refl; items = refl; done = λ u. refl });
      mid = ends.mid;
      count = ends.leads.0;
      turns = ends.leads.1;
      gone = ends.gone;
      drops = ends.drops;
    }

-- an item is dropped
dropped_step : (link : LinkInput) (old new : StateValue) (rest : List WorkItem) (item : WorkItem) (before after : List FlagSet) → old.items ≡ rest ++ item ∷ [] → new ≡ with_items old rest → after ≡ before
    → IsMachineStepGivenUp link old new before after
dropped_step link old new rest item before after items state same =
    let start = group_of link.groups [] (with_items old rest) in
    let from : Side = record { group = start; sets = before; sent = machine_items link.groups old.sent } in
    record {
      start = start;
      begins = inr (inr (record { gone = inl (machine_item link.groups item, out_of link old rest item items, refl); active = refl; done = λ u. refl }));
      mid = from;
      count = 0;
      turns = no_turn (graph_of link) old.group from;
      gone = 0;
      drops = subst (λ (v : StateValue). AreDropped 0 from (side_of link.groups [] v after)) (sym state)
          (subst (λ sets. AreDropped 0 from (side_of link.groups [] (with_items old rest) sets)) (sym same) (no_drop from));
    }

-- a unit is done, and some of what it asks for
half_unit_step : (link : LinkInput) (unit : LinkUnit) (old new marked : StateValue) (rest : List WorkItem) (item : WorkItem) (before after : List FlagSet) → IsWellFormed link → IsUnit link.groups unit
    → machine_item link.groups item ≡ Load (unit_number link.groups unit) → old.items ≡ rest ++ item ∷ [] → is_done old (unit_number link.groups unit) ≡ false
    → DoesOne (with_items old rest) (unit_number link.groups unit) marked → DoesSome link.groups (follows link unit) marked new before after → IsMachineStepGivenUp link old new before after
half_unit_step link unit old new marked rest item before after wf is load items e one some =
    let n = unit_number link.groups unit in
    let start = group_of link.groups (map (task_of link) (follows link unit)) marked in
    let ends : Ends link old.group (record { group = start; sets = before; sent = machine_items link.groups old.sent }) new after
    = subst (λ sent. Ends link old.group (record { group = start; sets = before; sent = machine_items link.groups sent }) new after) one.sent
    (some_lead link (follows link unit) old.group marked new before after one.group (asks_are_inside.by_unit link unit wf) some) in
    record {
      start = start;
      begins = inr (inl (record {
        item = Load n;
        idle = refl;
        out = subst (λ xs. TakesOut (machine_items link.groups old.items) (Load n) xs) (ap (machine_items link.groups) (sym one.items))
            (subst (λ x. TakesOut (machine_items link.groups old.items) x (machine_items link.groups rest)) load (out_of link old rest item items));
        hand = ap (map (task_of link)) (sym (follows_at link n unit is)) ∙ sym (ap (λ b. cond b [] ((graph_of link).follows n)) e);
        active = one.active;
        done = one.done;
      }));
      mid = ends.mid;
      count = ends.leads.0;
      turns = ends.leads.1;
      gone = ends.gone;
      drops = ends.drops;
    }

unit_up_step : (link : LinkInput) (unit : LinkUnit) (old new : StateValue) (rest : List WorkItem) (item : WorkItem) (before after : List FlagSet) → IsWellFormed link → IsUnit link.groups unit
    → machine_item link.groups item ≡ Load (unit_number link.groups unit) → old.items ≡ rest ++ item ∷ [] → GivesUnitUp link.groups link unit (with_items old rest) new before after
    → IsMachineStepGivenUp link old new before after
unit_up_step link unit old new rest item before after wf is load items up = elim up [
  | inl same ↦ dropped_step link old new rest item before after items same.0 same.1
  | inr some ↦ half_unit_step link unit old new some.0 rest item before after wf is load items some.1 some.2 some.3
]

item_up_step : (link : LinkInput) (item : WorkItem) (old new : StateValue) (rest : List WorkItem) (before after : List FlagSet) → IsWellFormed link → IsUnit link.groups (unit_of item)
    → old.items ≡ rest ++ item ∷ [] → GivesItemUp link.groups link item (with_items old rest) new before after → IsMachineStepGivenUp link old new before after
item_up_step link (LoadGlobalSymbol s) old new rest before after wf is items up = unit_up_step link (unit_of (LoadGlobalSymbol s)) old new rest (LoadGlobalSymbol s) before after wf is refl items up
item_up_step link (LoadGcUnit r) old new rest before after wf is items up = unit_up_step link (unit_of (LoadGcUnit r)) old new rest (LoadGcUnit r) before after wf is refl items up
item_up_step link (ExportDynamic s) old new rest before after wf is items up =
    let taken = with_items old rest in
    let ends : Ends link old.group (side_of link.groups (Refer s flag.EXPORT_DYNAMIC.0 ∷ []) taken before) new after
    = subst (λ (v : StateValue). Ends link old.group (side_of link.groups (Refer s flag.EXPORT_DYNAMIC.0 ∷ []) taken before) v after) (sym up.0)
    (given_up link old.group (ask.Reference s flag.EXPORT_DYNAMIC) [] taken before after up.1) in
    record {
      start = group_of link.groups (Refer s flag.EXPORT_DYNAMIC.0 ∷ []) taken;
      begins = inr (inl (record { item = machine_item link.groups (ExportDynamic s); idle = refl; out = out_of link old rest (ExportDynamic s) items; hand = refl; active = refl; done = λ u. refl }));
      mid = ends.mid;
      count = ends.leads.0;
      turns = ends.leads.1;
      gone = ends.gone;
      drops = ends.drops;
    }

pub steps_given_up_are_machine_steps : StepsGivenUpAreMachineSteps
steps_given_up_are_machine_steps link old new before after wf lt units step = elim step [
  | inl f ↦ half_step link old new before after wf lt f
  | inr f ↦
      let P : WorkItem → Type 0 = λ item. IsUnit link.groups (unit_of item) in
      let all : All P (f.rest ++ f.item ∷ []) = subst (All P) f.items units in
      item_up_step link f.item old new f.rest before after wf (All-head P f.item [] (all_right P f.rest (f.item ∷ []) all)) f.items f.gives_up
]
