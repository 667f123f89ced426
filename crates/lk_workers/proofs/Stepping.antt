-- A step of a group is, on its own side, steps of the slot machine.
use Rattle.std.proofs.Common.{◌≡◌, ◌<◌, ℕ, Bool, true, false, cond, ◌||◌, List, [], ◌∷◌, ◌++◌, append-nil, length, map, refl, sym, ap, ◌∙◌, subst, inl, inr, ne_eqb}
use Rattle.std.specs.Prelude.{◌==◌, MatchBool}
use Rattle.std.specs.List.{All}
use Rattle.std.proofs.lemmas.Bool.{cases_eq}
use Rattle.std.proofs.lemmas.List.{map-append}
use Rattle.std.proofs.lemmas.List.Elements.{All-head}
use Rattle.lk_flags.specs.declared.flags.FlagSet.{FlagSet}
use Rattle.lk_link.specs.declared.flags.TheConstants.ValueFlags as flag
use Rattle.lk_link.specs.declared.link.LinkInput.{LinkInput}
use Rattle.lk_link.specs.WellFormed.{IsWellFormed}
use Rattle.lk_reach.specs.declared.units.Ask.{Ask}
use Rattle.lk_reach.specs.declared.units.Unit.{Unit as LinkUnit}
use Rattle.lk_reach.specs.Marks.{IsInside, IsUnit, unit_number}
use Rattle.lk_reach.specs.Units.{follows, roots}
use Rattle.lk_reach.proofs.MarkLemmas.{all_right}
use Rattle.lk_reach.proofs.ReachLemmas.{follows_at}
use Rattle.lk_reach.proofs.UnitLemmas.{asks_are_inside}
use Rattle.lk_slot_link.specs.LinkGraphs.{graph_of, group_roots, task_of}
use Rattle.lk_slot_link.proofs.Reaching.{root_of_group}
use Rattle.lk_slots.specs.Machine.{Load, Refer, TakesOut}
use Rattle.lk_workers.specs.declared.work.WorkItem.{WorkItem}
use Rattle.lk_workers.specs.declared.work.WorkItem.TheVariants.{ExportDynamic, LoadGcUnit, LoadGlobalSymbol}
use Rattle.lk_workers.specs.Items.{machine_item, machine_items, unit_of}
use Rattle.lk_workers.specs.Machines.{AreTurns, IsMachineStep, Side, StepsAreMachineSteps, side_of}
use Rattle.lk_workers.specs.States.{DoesOne, StateValue, activated, group_of, is_done, with_items}
use Rattle.lk_workers.specs.Steps.{DoesAsks, DoesItem, IsActivated}
use Rattle.lk_workers.proofs.Asked.{all_in}
use Rattle.lk_workers.proofs.Turning.{Leads, asks_are_turns, no_turn, refers_leads}

-- asks that are all in hand lead to an empty hand
asks_lead : (link : LinkInput) (asks : List Ask) (g : ℕ) (old new : StateValue) (before after : List FlagSet) → old.group ≡ g → All (IsInside link.groups) asks → DoesAsks link.groups asks old new before after
    → Leads (graph_of link) g (side_of link.groups (map (task_of link) asks) old before) (side_of link.groups [] new after)
asks_lead link asks g old new before after same inside does =
    subst (λ n. Leads (graph_of link) n (side_of link.groups (map (task_of link) asks) old before) (side_of link.groups [] new after)) same
    (subst (λ hand. Leads (graph_of link) old.group (side_of link.groups hand old before) (side_of link.groups [] new after)) (append-nil (map (task_of link) asks)) (asks_are_turns link asks [] old new before after inside does))

activated_step : (link : LinkInput) (old new : StateValue) (before after : List FlagSet) → IsWellFormed link → old.group < length link.groups → IsActivated link.groups link old new before after → IsMachineStep link old new before after
activated_step link old new before after wf lt f =
    let inside = all_in (IsInside link.groups) (group_roots link old.group) (roots link) (root_of_group link old.group) (asks_are_inside.by_roots link wf) in
    let leads = asks_lead link (group_roots link old.group) old.group (activated old) new before after refl inside f.asks in
    record {
      start = group_of link.groups (map (task_of link) (group_roots link old.group)) (activated old);
      begins = inl (lt, record { fresh = f.fresh; active = refl; hand = refl; items = refl; done = λ u. refl });
      count = leads.0;
      turns = leads.1;
    }

-- ---- items

pub out_of : (link : LinkInput) (old : StateValue) (rest : List WorkItem) (item : WorkItem) → old.items ≡ rest ++ item ∷ []
    → TakesOut (machine_items link.groups old.items) (machine_item link.groups item) (machine_items link.groups rest)
out_of link old rest item e = record {
  before = machine_items link.groups rest;
  after = [];
  is = ap (machine_items link.groups) e ∙ map-append (machine_item link.groups) rest (item ∷ []);
  left = sym (append-nil (machine_items link.groups rest));
}

or_false : (b : Bool) → (b || false) ≡ b
or_false true = refl
or_false false = refl

-- what is done stays so
or_again : (done : ℕ → Bool) (n u : ℕ) → done n ≡ true → done u ≡ (done u || (u == n))
or_again done n u is = elim (cases_eq u n) [
  | inl same ↦
      let there : done u ≡ true = ap done same ∙ is in
      there ∙ sym (ap (λ b. b || (u == n)) there)
  | inr other ↦ sym (ap (λ b. done u || b) (ne_eqb u n other) ∙ or_false (done u))
]

unit_step : (link : LinkInput) (unit : LinkUnit) (old new : StateValue) (rest : List WorkItem) (item : WorkItem) (before after : List FlagSet) (done : Bool) → IsWellFormed link → IsUnit link.groups unit
    → machine_item link.groups item ≡ Load (unit_number link.groups unit) → old.items ≡ rest ++ item ∷ [] → is_done old (unit_number link.groups unit) ≡ done
    → MatchBool done ((new ≡ with_items old rest) × (after ≡ before)) ((marked : StateValue) × DoesOne (with_items old rest) (unit_number link.groups unit) marked × DoesAsks link.groups (follows link unit) marked new before after)
    → IsMachineStep link old new before after
unit_step link unit old new rest item before after true wf is load items e does =
    let n = unit_number link.groups unit in
    let start = group_of link.groups [] (with_items old rest) in
    let from : Side = record { group = start; sets = before; sent = machine_items link.groups old.sent } in
    record {
      start = start;
      begins = inr (record {
        item = Load n;
        idle = refl;
        out = subst (λ x. TakesOut (machine_items link.groups old.items) x (machine_items link.groups rest)) load (out_of link old rest item items);
        hand = sym (ap (λ b. cond b [] ((graph_of link).follows n)) e);
        active = refl;
        done = λ u. or_again (is_done old) n u e;
      });
      count = 0;
      turns = subst (λ (v : StateValue). AreTurns (graph_of link) old.group 0 from (side_of link.groups [] v after)) (sym does.0)
          (subst (λ sets. AreTurns (graph_of link) old.group 0 from (side_of link.groups [] (with_items old rest) sets)) (sym does.1) (no_turn (graph_of link) old.group from));
    }
unit_step link unit old new rest item before after false wf is load items e does =
    let n = unit_number link.groups unit in
    let marked : StateValue = does.0 in
    let one = does.1 in
    let start = group_of link.groups (map (task_of link) (follows link unit)) marked in
    let leads : Leads (graph_of link) old.group (record { group = start; sets = before; sent = machine_items link.groups old.sent }) (side_of link.groups [] new after)
    = subst (λ sent. Leads (graph_of link) old.group (record { group = start; sets = before; sent = machine_items link.groups sent }) (side_of link.groups [] new after)) one.sent
    (asks_lead link (follows link unit) old.group marked new before after one.group (asks_are_inside.by_unit link unit wf) does.2) in
    record {
      start = start;
      begins = inr (record {
        item = Load n;
        idle = refl;
        out = subst (λ xs. TakesOut (machine_items link.groups old.items) (Load n) xs) (ap (machine_items link.groups) (sym one.items))
            (subst (λ x. TakesOut (machine_items link.groups old.items) x (machine_items link.groups rest)) load (out_of link old rest item items));
        hand = ap (map (task_of link)) (sym (follows_at link n unit is)) ∙ sym (ap (λ b. cond b [] ((graph_of link).follows n)) e);
        active = one.active;
        done = one.done;
      });
      count = leads.0;
      turns = leads.1;
    }

item_step : (link : LinkInput) (item : WorkItem) (old new : StateValue) (rest : List WorkItem) (before after : List FlagSet) → IsWellFormed link → IsUnit link.groups (unit_of item)
    → old.items ≡ rest ++ item ∷ [] → DoesItem link.groups link item (with_items old rest) new before after → IsMachineStep link old new before after
item_step link (LoadGlobalSymbol s) old new rest before after wf is items does =
    unit_step link (unit_of (LoadGlobalSymbol s)) old new rest (LoadGlobalSymbol s) before after (is_done old (unit_number link.groups (unit_of (LoadGlobalSymbol s)))) wf is refl items refl does
item_step link (LoadGcUnit r) old new rest before after wf is items does =
    unit_step link (unit_of (LoadGcUnit r)) old new rest (LoadGcUnit r) before after (is_done old (unit_number link.groups (unit_of (LoadGcUnit r)))) wf is refl items refl does
item_step link (ExportDynamic s) old new rest before after wf is items does =
    let leads = refers_leads link s flag.EXPORT_DYNAMIC [] (with_items old rest) new before after is does in
    record {
      start = group_of link.groups (Refer s flag.EXPORT_DYNAMIC.0 ∷ []) (with_items old rest);
      begins = inr (record {
        item = machine_item link.groups (ExportDynamic s);
        idle = refl;
        out = out_of link old rest (ExportDynamic s) items;
        hand = refl;
        active = refl;
        done = λ u. refl;
      });
      count = leads.0;
      turns = leads.1;
    }

pub steps_are_machine_steps : StepsAreMachineSteps
steps_are_machine_steps link old new before after wf lt units step = elim step [
  | inl f ↦ activated_step link old new before after wf lt f
  | inr f ↦
      let P : WorkItem → Type 0 = λ item. IsUnit link.groups (unit_of item) in
      let all : All P (f.rest ++ f.item ∷ []) = subst (All P) f.items units in
      item_step link f.item old new f.rest before after wf (All-head P f.item [] (all_right P f.rest (f.item ∷ []) all)) f.items f.does
]
