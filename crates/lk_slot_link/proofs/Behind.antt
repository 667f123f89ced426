-- The laws on the slot machine over a link.
use Rattle.std.proofs.Common.{◌≡◌, ℕ, suc, ◌<◌, ◌^◌, false, List, length, Option, Some, None, refl, sym, ap, ◌∙◌, subst, inl, inr, arith, map}
use Rattle.std.specs.List.{Contains, range_with_len, slice_get, slice_index}
use Rattle.std.specs.Option.{option_map_or}
use Rattle.std.proofs.lemmas.Bool.{cases_lt}
use Rattle.std.proofs.lemmas.List.{get_or-map, get_or_past, length-map}
use Rattle.std.proofs.lemmas.List.FromFn.{length-range_with_len}
use Rattle.std.proofs.lemmas.Option.{get_or_from_slice_get, slice_get_within}
use Rattle.lk_link.specs.declared.file.InputFile.{InputFile}
use Rattle.lk_link.specs.declared.link.LinkInput.{LinkInput}
use Rattle.lk_link.specs.declared.symbol.InputSymbol.{InputSymbol}
use Rattle.lk_link.specs.Flags.{has_resolution}
use Rattle.lk_link.specs.Inputs.{NumberedFile, all_inputs}
use Rattle.lk_link.specs.Symbols.{all_symbols}
use Rattle.lk_link.specs.WellFormed.{IsWellFormed}
use Rattle.lk_link.proofs.Elements.{append_at, at_contained, at_index, map_at}
use Rattle.lk_link.proofs.GoodSymbols.{numbered_symbol}
use Rattle.lk_reach.specs.declared.units.Ask.{Ask}
use Rattle.lk_reach.specs.declared.units.Ask.TheVariants as ask
use Rattle.lk_reach.specs.declared.units.Unit.{Unit as LinkUnit}
use Rattle.lk_reach.specs.declared.units.Unit.TheVariants.{Sec, Sym}
use Rattle.lk_reach.specs.Marks.{IsUnit, flags_handed_in, handed_in, symbols_in_all, unit_number, word_of}
use Rattle.lk_reach.specs.Reach.{IsReached}
use Rattle.lk_reach.specs.Units.{follows, numbered_symbols, roots, unit_of}
use Rattle.lk_reach.proofs.PlainAsks.{IsPlainAsk, follows_plain, roots_plain}
use Rattle.lk_reach.proofs.ReachLemmas.{IsReachedAt, reached_unit}
use Rattle.lk_reach.proofs.SymbolNumbers.{numbered_count, unit_file}
use Rattle.lk_reach.proofs.UnitLemmas.{symbol_stands}
use Rattle.lk_slots.specs.Machine.{Mark}
use Rattle.lk_slots.specs.Reach as graph
use Rattle.lk_slots.proofs.Behind.{steps_are_complete, steps_are_sound}
use Rattle.lk_slot_link.specs.Laws.{GraphsAreWhole, IsSameReach, QuietStatesAreAll, StepsAreSoundIn}
use Rattle.lk_slot_link.specs.LinkGraphs.{graph_of, task_of, unit_group}
use Rattle.lk_slot_link.proofs.Reaching.{flag_meant, flag_set, follows_tasks, group_within, reached_at, reached_task, roots_tasks, task_from}
use Rattle.lk_slot_link.proofs.Resolving.{few_resolve, joined_resolve}

-- ---- whole

-- a symbol that is a unit has a number below their count
pub symbol_within : (groups : List (List InputFile)) (s : ℕ) → IsUnit groups (Sym s) → s < symbols_in_all groups
symbol_within groups s h =
    let numbers : List ℕ = range_with_len 0 (symbols_in_all groups) in
    elim (append_at (map Sym numbers) (map unit_of (all_inputs groups)) s (Sym s) h) [
      | inl a ↦ let at = map_at Sym numbers s (Sym s) a in omega (arith, slice_get_within numbers s at.0 at.1, length-range_with_len 0 (symbols_in_all groups))
      | inr b ↦ let at = map_at unit_of (all_inputs groups) b.0 (Sym s) b.2 in absurd (cc (at.2))
    ]

-- a symbol that is a unit is numbered
symbol_there : (link : LinkInput) (s : ℕ) → IsUnit link.groups (Sym s) → s < length (numbered_symbols link.groups)
symbol_there link s is = omega (arith, numbered_count link.groups, symbol_within link.groups s is)

known_inside : (link : LinkInput) (s : ℕ) (o : Option (NumberedFile × InputSymbol)) → slice_get (numbered_symbols link.groups) s ≡ o → s < length (numbered_symbols link.groups)
    → option_map_or (λ q. q.0.id.group) o 0 < length link.groups
known_inside link s None e lt =
    let x = at_index (numbered_symbols link.groups) s lt in
    absurd (cc (e, x.1))
known_inside link s (Some q) e lt = group_within link.groups q.0 (symbol_stands link.groups s q e).there

-- the group of a unit is one of the link's
unit_inside : (link : LinkInput) (unit : LinkUnit) → IsUnit link.groups unit → unit_group link.groups (Some unit) < length link.groups
unit_inside link (Sec id i) is =
    let file = unit_file link.groups id i is in
    group_within link.groups (record { id = id; file = file.0 }) file.1
unit_inside link (Sym s) is = known_inside link s (slice_get (numbered_symbols link.groups) s) refl (symbol_there link s is)

-- flags that are handed in are few
handed_few : (link : LinkInput) (s : ℕ) → IsWellFormed link → slice_index (handed_in link) (word_of s) < 2 ^ 6
handed_few link s wf =
    let symbols = all_symbols link.groups in
    let flags : InputSymbol → ℕ = flags_handed_in in
    let same : suc s ≡ word_of s = omega arith in
    subst (λ n. slice_index (handed_in link) n < 2 ^ 6) same (elim (cases_lt s (length symbols)) [
      | inl lt ↦
          let x = at_index symbols s lt in
          let read : slice_index (map flags symbols) s ≡ flags x.0 = get_or-map flags symbols s x.0 0 lt ∙ ap flags (get_or_from_slice_get symbols s x.0 x.0 x.1) in
          let few : flags x.0 < 2 ^ 6 = (numbered_symbol link s x.0 wf x.1).2.few_flags in
          subst (λ w. w < 2 ^ 6) (sym read) few
      | inr past ↦
          let read : slice_index (map flags symbols) s ≡ 0 = get_or_past (map flags symbols) s 0 (omega (arith, past, length-map symbols flags)) in
          subst (λ w. w < 2 ^ 6) (sym read) (omega arith)
    ])

plain_mark : (link : LinkInput) (a : Ask) (s flags : ℕ) → IsPlainAsk a → task_of link a ≡ Mark s flags → has_resolution flags ≡ false
plain_mark link (ask.Reference t f) s flags plain e = absurd (cc)
plain_mark link (ask.Section id i) s flags plain e = absurd (cc)
plain_mark link (ask.Mark t f) s flags plain e = let same : f.0 ≡ flags = cc in ap has_resolution (sym same ∙ plain)

marks_resolve : (link : LinkInput) (asks : List Ask) (s flags : ℕ) → ((k : ℕ) (a : Ask) → slice_get asks k ≡ Some a → IsPlainAsk a) → Contains (map (task_of link) asks) (Mark s flags)
    → has_resolution flags ≡ false
marks_resolve link asks s flags plain h =
    let of = task_from link asks (Mark s flags) h in
    let at = at_contained asks of.from of.among in
    plain_mark link of.from s flags (plain at.0 of.from at.1) of.gives

pub graphs_are_whole : GraphsAreWhole
graphs_are_whole link wf = record {
  inside = λ u r.
      let at = reached_at link wf r in
      let unit : IsUnit link.groups at.unit = reached_unit link at.unit wf at.reached in
      subst (λ o. unit_group link.groups o < length link.groups) (sym at.there) (unit_inside link at.unit unit);
  joins = joined_resolve;
  unresolved = λ s. few_resolve (slice_index (handed_in link) (word_of s)) (handed_few link s wf);
  marks = λ s flags is. elim is [
    | inl root ↦ marks_resolve link (roots link) s flags (roots_plain link) (roots_tasks link root.0 (Mark s flags) root.2)
    | inr unit ↦
        let from = reached_at link wf unit.1 in
        marks_resolve link (follows link from.unit) s flags (follows_plain link from.unit) (follows_tasks link unit.0 from.unit (Mark s flags) from.there unit.2)
  ];
}

-- ---- the same reach

same_unit : (link : LinkInput) (unit : LinkUnit) → IsUnit link.groups unit → IsReachedAt link (unit_number link.groups unit) → IsReached link unit
same_unit link unit is at =
    let both : Some at.unit ≡ Some unit = sym at.there ∙ is in
    let same : at.unit ≡ unit = cc in
    subst (IsReached link) same at.reached

unit_meant : (link : LinkInput) (unit : LinkUnit) → IsWellFormed link → IsUnit link.groups unit → graph.IsReached (graph_of link) (unit_number link.groups unit) → IsReached link unit
unit_meant link unit wf is r = same_unit link unit is (reached_at link wf r)

pub same_reach : IsSameReach
same_reach = record {
  units = λ link unit wf is. (unit_meant link unit wf is, reached_task link unit wf);
  numbers = λ link n wf r. let at = reached_at link wf r in (at.unit, at.there, at.reached);
  flags = λ link s i wf. (flag_meant link s i wf, flag_set link s i wf);
}

-- ---- steps

pub steps_are_sound_in : StepsAreSoundIn
steps_are_sound_in link steps st wf h =
    let sound = steps_are_sound (graph_of link) steps st h in
    record {
      reached = λ g n done.
          let found = sound.reached g n done in
          let at = reached_at link wf found.0 in
          (at.unit, at.there, at.reached, ap (unit_group link.groups) (sym at.there) ∙ found.1);
      flags = λ s i bit. flag_meant link s i wf (sound.flags s i bit);
      awake = sound.awake;
    }

pub quiet_states_are_all : QuietStatesAreAll
quiet_states_are_all link steps st wf stays h quiet =
    let all = steps_are_complete (graph_of link) steps st (graphs_are_whole link wf) stays h in
    record {
      done = λ unit is. let same = all.done quiet (unit_number link.groups unit) in (
        λ done. unit_meant link unit wf is (same.0 done),
        λ r. same.1 (reached_task link unit wf r),
      );
      flags = λ s i. let same = all.flags quiet s i in (λ bit. flag_meant link s i wf (same.0 bit), λ f. same.1 (flag_set link s i wf f));
    }
