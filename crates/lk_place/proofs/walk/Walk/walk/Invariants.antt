use Rattle.std.proofs.Common.{◌≡◌, ◌++◌, ℕ, drop, length}
use Rattle.std.specs.List.{enumerate_from, flat_map, slice_index}
use Rattle.lk_link.specs.Parts.{all_parts}
use Rattle.lk_place.specs.PlacedBefore.{last_before}
use Rattle.lk_expressions.specs.Records.{record_at}
use Rattle.lk_place.specs.ThreadLocal.{is_in_run}
use Rattle.lk_place.specs.Walk.{AllPass, counters_after, cursors_after, goes_on_after, record_after, setting_in, told_after}
use Rattle.lk_place.proofs.walk.Walk.walk.Given as goal

-- the cursors and the records behind the events so far, of which none is refused
abbrev pub invariant-loop-number : goal.invariant-loop-number
invariant-loop-number g l =
    let setting = setting_in g.P.Platform.segment_start l.self in
    record {
      ends : l.cursors ≡ cursors_after setting l.number;
      records : (p : ℕ) → record_at l.records p ≡ record_after setting l.number p;
      pass : AllPass setting l.number;
      run : l.in_run ≡ is_in_run setting.plan (last_before setting.plan.events l.number);
      each : length l.records ≡ length (all_parts setting.plan.sections);
      goes_on : (r : ℕ) → slice_index l.goes_on r ≡ goes_on_after setting l.number r;
      regions : length l.goes_on ≡ length setting.plan.regions;
      counters : l.counters.items ++ flat_map (told_after setting) (enumerate_from l.number (drop l.number setting.plan.events)) ≡ l.initial.counters.items ++ counters_after setting;
    }
