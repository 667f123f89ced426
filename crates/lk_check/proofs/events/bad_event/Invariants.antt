use Rattle.std.proofs.Common.{◌≡◌, take, drop}
use Rattle.std.specs.List.{enumerate_from}
use Rattle.lk_check.specs.FirstAnswer.{first_of}
use Rattle.lk_check.specs.Marks.{AreMarks}
use Rattle.lk_check.proofs.MarkLemmas.{bad_event}
use Rattle.lk_check.proofs.events.bad_event.Given as goal

abbrev pub invariant-loop-place : goal.invariant-loop-place
invariant-loop-place l = record {
  marks : AreMarks l.plan (take l.place l.plan.events) l.placed l.opened l.closed;
  good : first_of (bad_event l.script l.plan) (enumerate_from l.place (drop l.place l.plan.events)) ≡ first_of (bad_event l.script l.plan) (enumerate_from 0 l.plan.events);
}
