-- The laws, from what holds behind every list of steps.
use Rattle.lk_slots.specs.Laws.{StepsAreComplete, StepsAreSound}
use Rattle.lk_slots.proofs.Complete.{all_done, all_flags, kept_behind}
use Rattle.lk_slots.proofs.Sound.{holds_behind}

pub steps_are_sound : StepsAreSound
steps_are_sound graph steps st h = let all = holds_behind graph steps st h in record {
  reached = λ g u is. (all.groups g).done u is;
  flags = all.flags;
  awake = λ g is. (all.slots g).awake is;
}

pub steps_are_complete : StepsAreComplete
steps_are_complete graph steps st whole stays h =
    let all = holds_behind graph steps st h in
    let kept = kept_behind graph steps st whole stays h in
    record {
      roots = λ g t u is there. (kept.roots g t is there).asks u;
      follows = λ v t u is there. (kept.follows v t is there).asks u;
      done = λ quiet u. (λ is. ((all.groups (graph.group_of u)).done u is).0, λ is. all_done graph st whole all quiet kept is);
      flags = λ quiet s i. (all.flags s i, all_flags graph st whole all quiet kept s i);
    }
