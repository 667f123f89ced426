-- Asks that are done one after the other are steps of the slot machine.
use Rattle.std.proofs.Common.{◌≡◌, ◌⊎◌, ℕ, zero, suc, Bool, true, false, cond, List, [], ◌∷◌, ◌++◌, map, Some, refl, sym, ap, ◌∙◌, subst, inl, inr, eq-eqb, ne_eqb}
use Rattle.std.specs.Prelude.{◌==◌, MatchBool}
use Rattle.std.proofs.lemmas.Bool.{cases_eq, eqb-true}
use Rattle.std.proofs.lemmas.List.{map-append}
use Rattle.std.proofs.lemmas.List.Elements.{All-head, All-tail}
use Rattle.lk_flags.specs.declared.flags.FlagSet.{FlagSet}
use Rattle.lk_link.specs.declared.file.InputFile.{InputFile}
use Rattle.lk_link.specs.declared.flags.TheConstants.ValueFlags as flag
use Rattle.lk_link.specs.declared.flags.ValueFlags.{ValueFlags}
use Rattle.lk_link.specs.declared.link.LinkInput.{LinkInput}
use Rattle.lk_reach.specs.declared.units.Ask.{Ask}
use Rattle.lk_reach.specs.declared.units.Ask.TheVariants as ask
use Rattle.lk_reach.specs.declared.units.Unit.TheVariants.{Sec, Sym}
use Rattle.lk_reach.specs.Marks.{IsInside, IsUnit, unit_number}
use Rattle.lk_slot_link.specs.LinkGraphs.{graph_of, task_of, unit_group}
use Rattle.lk_slots.specs.Machine.{Graph, Load, Mark, PutsDown, Refer, Request, SetsFlags, Task, Turns, home_of, left_of}
use Rattle.lk_workers.specs.declared.work.WorkItem.{WorkItem}
use Rattle.lk_workers.specs.declared.work.WorkItem.TheVariants.{ExportDynamic, LoadGcUnit, LoadGlobalSymbol}
use Rattle.lk_workers.specs.Items.{machine_item, machine_items, unit_of}
use Rattle.lk_workers.specs.Machines.{AreTurns, AsksAreTurns, Side, TurnsFlags, TurnsItem, side_of}
use Rattle.lk_workers.specs.States.{StateValue, group_of, is_done, with_items, with_sent}
use Rattle.lk_workers.specs.Steps.{DoesAsk, DoesAsks, PassesOn, Refers, flags_set, is_asked}

-- ---- one step, and then others

pub no_turn : (graph : Graph) (g : ℕ) (x : Side) → AreTurns graph g 0 x x
unfolding AreTurns
no_turn graph g x = refl

one_turn : (graph : Graph) (g n : ℕ) (old mid new : Side) → TurnsFlags graph old mid ⊎ TurnsItem graph g old mid → AreTurns graph g n mid new → AreTurns graph g (suc n) old new
unfolding AreTurns
one_turn graph g n old mid new turn rest = (mid, turn, rest)

-- some steps, and then others
abbrev pub Leads : Graph → ℕ → Side → Side → Type 0
Leads graph g old new = (n : ℕ) × AreTurns graph g n old new

first_turn : (graph : Graph) (g : ℕ) (old mid new : Side) → TurnsFlags graph old mid ⊎ TurnsItem graph g old mid → Leads graph g mid new → Leads graph g old new
first_turn graph g old mid new turn rest = (suc rest.0, one_turn graph g rest.0 old mid new turn rest.1)

pub last_turn : (graph : Graph) (g : ℕ) (old new : Side) → TurnsFlags graph old new ⊎ TurnsItem graph g old new → Leads graph g old new
last_turn graph g old new turn = first_turn graph g old new new turn (0, no_turn graph g new)

-- the same where the pass is another one by its name
leads_after : (graph : Graph) (g : ℕ) (groups : List (List InputFile)) (old : Side) (hand : List Task) (new other : StateValue) (sets after : List FlagSet) → other ≡ new → after ≡ sets
    → Leads graph g old (side_of groups hand new sets) → Leads graph g old (side_of groups hand other after)
leads_after graph g groups old hand new other sets after same e leads =
    subst (λ v. Leads graph g old (side_of groups hand v after)) (sym same) (subst (λ xs. Leads graph g old (side_of groups hand new xs)) (sym e) leads)

-- ---- items

-- an item goes to the group of its unit
home_is : (link : LinkInput) (item : WorkItem) → IsUnit link.groups (unit_of item) → home_of (graph_of link) (machine_item link.groups item) ≡ unit_group link.groups (Some (unit_of item))
home_is link (LoadGlobalSymbol s) is = ap (unit_group link.groups) is
home_is link (LoadGcUnit r) is = ap (unit_group link.groups) is
home_is link (ExportDynamic s) is = ap (unit_group link.groups) is

-- an item that is passed on is put down by a task
item_turn : (link : LinkInput) (item : WorkItem) (task : Task) (rest : List Task) (old new : StateValue) (sets : List FlagSet) → IsUnit link.groups (unit_of item)
    → PutsDown (graph_of link) task (machine_item link.groups item) → PassesOn link.groups item old new
    → TurnsItem (graph_of link) old.group (side_of link.groups (task ∷ rest) old sets) (side_of link.groups rest new sets)
item_turn link item task rest old new sets is puts passes =
    let groups = link.groups in
    let home = home_of (graph_of link) (machine_item groups item) in
    let group = unit_group groups (Some (unit_of item)) in
    let x = machine_item groups item in
    record {
      task = task;
      rest = rest;
      item = x;
      puts = puts;
      begins = refl;
      sets = refl;
      goes = elim (cases_eq group old.group) [
        | inl own ↦
            let state : new ≡ with_items old (old.items ++ item ∷ [])
            = subst (λ b. MatchBool b (new ≡ with_items old (old.items ++ item ∷ [])) (new ≡ with_sent old (old.sent ++ item ∷ []))) (eq-eqb group old.group own) passes in
            inl (
              home_is link item is ∙ own,
              record {
                hand = refl;
                active = ap (λ (v : StateValue). v.active) state;
                items = ap (λ (v : StateValue). machine_items groups v.items) state ∙ map-append (machine_item groups) old.items (item ∷ []);
                done = λ u. ap (λ (v : StateValue). is_done v u) state;
              },
              ap (λ (v : StateValue). machine_items groups v.sent) state,
            )
        | inr other ↦
            let state : new ≡ with_sent old (old.sent ++ item ∷ [])
            = subst (λ b. MatchBool b (new ≡ with_items old (old.items ++ item ∷ [])) (new ≡ with_sent old (old.sent ++ item ∷ []))) (ne_eqb group old.group other) passes in
            inr (
              (λ e. other (sym (home_is link item is) ∙ e)),
              record {
                hand = refl;
                active = ap (λ (v : StateValue). v.active) state;
                items = ap (λ (v : StateValue). machine_items groups v.items) state;
                done = λ u. ap (λ (v : StateValue). is_done v u) state;
              },
              ap (λ (v : StateValue). machine_items groups v.sent) state ∙ map-append (machine_item groups) old.sent (item ∷ []),
            )
      ];
    }

-- a step with an item, behind which nothing more was set
item_leads : (link : LinkInput) (item : WorkItem) (task : Task) (rest : List Task) (old new : StateValue) (before after : List FlagSet) → IsUnit link.groups (unit_of item)
    → PutsDown (graph_of link) task (machine_item link.groups item) → PassesOn link.groups item old new → after ≡ before
    → Leads (graph_of link) old.group (side_of link.groups (task ∷ rest) old before) (side_of link.groups rest new after)
item_leads link item task rest old new before after is puts passes same =
    let from = side_of link.groups (task ∷ rest) old before in
    leads_after (graph_of link) old.group link.groups from rest new new before after refl same
    (last_turn (graph_of link) old.group from (side_of link.groups rest new before) (inr (item_turn link item task rest old new before is puts passes)))

-- ---- asks

-- the hand becomes another, and nothing else of the group changes
hand_turns : (groups : List (List InputFile)) (first second : List Task) (v : StateValue) → Turns second (group_of groups first v) (group_of groups second v)
hand_turns groups first second v = record { hand = refl; active = refl; items = refl; done = λ u. refl }

pub flag_turn : (link : LinkInput) (task : Task) (left rest : List Task) (s : ℕ) (flags : ValueFlags) (found : ℕ) (v : StateValue) (sets : List FlagSet) → SetsFlags task s flags.0
    → left_of (graph_of link) found task ≡ left
    → TurnsFlags (graph_of link) (side_of link.groups (task ∷ rest) v sets) (side_of link.groups (left ++ rest) v (sets ++ flags_set s flags found ∷ []))
flag_turn link task left rest s flags found v sets does is = record {
  task = task;
  rest = rest;
  symbol = s;
  flags = flags.0;
  found = found;
  does = does;
  begins = refl;
  sets = refl;
  sent = refl;
  turns = subst (λ xs. Turns (xs ++ rest) (group_of link.groups (task ∷ rest) v) (group_of link.groups (left ++ rest) v)) (sym is) (hand_turns link.groups (task ∷ rest) (left ++ rest) v);
}

-- a reference whose flags are set, by whether it asks for its symbol
pub refer_leads : (link : LinkInput) (s : ℕ) (flags : ValueFlags) (rest : List Task) (old new : StateValue) (before : List FlagSet) (found : ℕ) (asked : Bool) → is_asked flags found ≡ asked
    → IsUnit link.groups (Sym s) → MatchBool asked (PassesOn link.groups (LoadGlobalSymbol s) old new) (new ≡ old)
    → Leads (graph_of link) old.group (side_of link.groups (Refer s flags.0 ∷ rest) old before) (side_of link.groups rest new (before ++ flags_set s flags found ∷ []))
refer_leads link s flags rest old new before found true e is passes =
    let graph = graph_of link in
    let after = before ++ flags_set s flags found ∷ [] in
    let left : left_of graph found (Refer s flags.0) ≡ Request (Load s) ∷ [] = ap (λ b. cond b (Request (Load s) ∷ []) []) e in
    let from = side_of link.groups (Refer s flags.0 ∷ rest) old before in
    let mid = side_of link.groups (Request (Load s) ∷ rest) old after in
    first_turn graph old.group from mid (side_of link.groups rest new after) (inl (flag_turn link (Refer s flags.0) (Request (Load s) ∷ []) rest s flags found old before (refl, refl) left))
    (item_leads link (LoadGlobalSymbol s) (Request (Load s)) rest old new after after is refl passes refl)
refer_leads link s flags rest old new before found false e is same =
    let graph = graph_of link in
    let after = before ++ flags_set s flags found ∷ [] in
    let left : left_of graph found (Refer s flags.0) ≡ [] = ap (λ b. cond b (Request (Load s) ∷ []) []) e in
    let from = side_of link.groups (Refer s flags.0 ∷ rest) old before in
    leads_after graph old.group link.groups from rest old new after after same refl
    (last_turn graph old.group from (side_of link.groups rest old after) (inl (flag_turn link (Refer s flags.0) [] rest s flags found old before (refl, refl) left)))

-- the same behind its pass
pub refers_leads : (link : LinkInput) (s : ℕ) (flags : ValueFlags) (rest : List Task) (old new : StateValue) (before after : List FlagSet) → IsUnit link.groups (Sym s)
    → Refers link.groups s flags old new before after
    → Leads (graph_of link) old.group (side_of link.groups (Refer s flags.0 ∷ rest) old before) (side_of link.groups rest new after)
refers_leads link s flags rest old new before after is refers =
    leads_after (graph_of link) old.group link.groups (side_of link.groups (Refer s flags.0 ∷ rest) old before) rest new new (before ++ flags_set s flags refers.found ∷ []) after refl refers.sets
    (refer_leads link s flags rest old new before refers.found (is_asked flags refers.found) refl is refers.asks)

reference_leads : (link : LinkInput) (s : ℕ) (flags : ValueFlags) (rest : List Task) (old new : StateValue) (before after : List FlagSet) (export : Bool) → (flags.0 == flag.EXPORT_DYNAMIC.0) ≡ export
    → IsUnit link.groups (Sym s)
    → MatchBool export (PassesOn link.groups (ExportDynamic s) old new × (after ≡ before)) (Refers link.groups s flags old new before after)
    → Leads (graph_of link) old.group (side_of link.groups (Refer s flags.0 ∷ rest) old before) (side_of link.groups rest new after)
reference_leads link s flags rest old new before after true e is passes =
    item_leads link (ExportDynamic s) (Refer s flags.0) rest old new before after is (eqb-true flags.0 flag.EXPORT_DYNAMIC.0 e, refl) passes.0 passes.1
reference_leads link s flags rest old new before after false e is refers = refers_leads link s flags rest old new before after is refers

ask_leads : (link : LinkInput) (a : Ask) (rest : List Task) (old new : StateValue) (before after : List FlagSet) → IsInside link.groups a → DoesAsk link.groups a old new before after
    → Leads (graph_of link) old.group (side_of link.groups (task_of link a ∷ rest) old before) (side_of link.groups rest new after)
ask_leads link (ask.Reference s flags) rest old new before after inside does =
    reference_leads link s flags rest old new before after (flags.0 == flag.EXPORT_DYNAMIC.0) refl (inside.target (Sym s) refl) does
ask_leads link (ask.Section id i) rest old new before after inside does =
    item_leads link (LoadGcUnit (record { file_id = id; gc_unit = i })) (Request (Load (unit_number link.groups (Sec id i)))) rest old new before after (inside.target (Sec id i) refl) refl does.0 does.1
ask_leads link (ask.Mark s flags) rest old new before after inside does =
    let task : Task = Mark s flags.0 in
    let from = side_of link.groups (task ∷ rest) old before in
    let sets = before ++ flags_set s flags does.1 ∷ [] in
    leads_after (graph_of link) old.group link.groups from rest old new sets after does.0 does.2
    (last_turn (graph_of link) old.group from (side_of link.groups rest old sets) (inl (flag_turn link task [] rest s flags does.1 old before (refl, refl) refl)))

-- the group stays the same
kept_pass : (old new : StateValue) (items sent : List WorkItem) (own : Bool) → MatchBool own (new ≡ with_items old items) (new ≡ with_sent old sent) → new.group ≡ old.group
kept_pass old new items sent true passes = ap (λ (v : StateValue). v.group) passes
kept_pass old new items sent false passes = ap (λ (v : StateValue). v.group) passes

kept_item : (groups : List (List InputFile)) (item : WorkItem) (old new : StateValue) → PassesOn groups item old new → new.group ≡ old.group
kept_item groups item old new passes = kept_pass old new (old.items ++ item ∷ []) (old.sent ++ item ∷ []) (unit_group groups (Some (unit_of item)) == old.group) passes

kept_refer : (groups : List (List InputFile)) (s : ℕ) (old new : StateValue) (asked : Bool) → MatchBool asked (PassesOn groups (LoadGlobalSymbol s) old new) (new ≡ old) → new.group ≡ old.group
kept_refer groups s old new true passes = kept_item groups (LoadGlobalSymbol s) old new passes
kept_refer groups s old new false same = ap (λ (v : StateValue). v.group) same

kept_reference : (groups : List (List InputFile)) (s : ℕ) (flags : ValueFlags) (old new : StateValue) (before after : List FlagSet) (export : Bool)
    → MatchBool export (PassesOn groups (ExportDynamic s) old new × (after ≡ before)) (Refers groups s flags old new before after) → new.group ≡ old.group
kept_reference groups s flags old new before after true passes = kept_item groups (ExportDynamic s) old new passes.0
kept_reference groups s flags old new before after false refers = kept_refer groups s old new (is_asked flags refers.found) refers.asks

kept_group : (link : LinkInput) (a : Ask) (old new : StateValue) (before after : List FlagSet) → DoesAsk link.groups a old new before after → new.group ≡ old.group
kept_group link (ask.Reference s flags) old new before after does = kept_reference link.groups s flags old new before after (flags.0 == flag.EXPORT_DYNAMIC.0) does
kept_group link (ask.Section id i) old new before after does = kept_item link.groups (LoadGcUnit (record { file_id = id; gc_unit = i })) old new does.0
kept_group link (ask.Mark s flags) old new before after does = ap (λ (v : StateValue). v.group) does.0

pub leads_both : (graph : Graph) (g n : ℕ) (old mid new : Side) → AreTurns graph g n old mid → Leads graph g mid new → Leads graph g old new
unfolding AreTurns
leads_both graph g zero old mid new first rest = subst (λ x. Leads graph g x new) first rest
leads_both graph g (suc n) old mid new first rest = first_turn graph g old first.0 new first.1 (leads_both graph g n first.0 mid new first.2 rest)

pub asks_are_turns : AsksAreTurns
unfolding DoesAsks
asks_are_turns link [] rest old new before after inside does =
    leads_after (graph_of link) old.group link.groups (side_of link.groups rest old before) rest old new before after does.0 does.1
    (0, no_turn (graph_of link) old.group (side_of link.groups rest old before))
asks_are_turns link (a ∷ asks) rest old new before after inside does =
    let graph = graph_of link in
    let mid : StateValue = does.0 in
    let hand : List Task = map (task_of link) asks ++ rest in
    let first = ask_leads link a hand old mid before does.1 (All-head (IsInside link.groups) a asks inside) does.2 in
    let later = asks_are_turns link asks rest mid new does.1 after (All-tail (IsInside link.groups) a asks inside) does.3 in
    leads_both graph old.group first.0 (side_of link.groups (task_of link a ∷ hand) old before) (side_of link.groups hand mid does.1) (side_of link.groups rest new after) first.1
    (subst (λ g. Leads graph g (side_of link.groups hand mid does.1) (side_of link.groups rest new after)) (kept_group link a old mid before does.1 does.2) later)
