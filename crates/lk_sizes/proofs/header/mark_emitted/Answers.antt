use Rattle.std.proofs.Common.{◌≡◌, Bool, List, map, length, ap, ◌∙◌, arith}
use Rattle.std.specs.List.{enumerate_from}
use Rattle.lk_link.specs.Marks.{is_marked}
use Rattle.lk_link.proofs.Numbers.{length-made}
use Rattle.lk_sizes.proofs.Emitting.{emitted_are, left_by}
use Rattle.lk_sizes.specs.Owners.{content_of}
use Rattle.lk_sizes.proofs.Limited.{sections_fit}
use Rattle.lk_sizes.proofs.header.mark_emitted.Goals as goal

pub mark_primaries-requires-clause-count : goal.mark_primaries-requires-clause-count
mark_primaries-requires-clause-count c = ap length c.deref-2.ensures.value ∙ c.in_ok-kept.ensures.count

pub mark_primaries-requires-clause-few : goal.mark_primaries-requires-clause-few
mark_primaries-requires-clause-few c = omega (arith, sections_fit c.args.link.now c.requires.good)

pub mark_kept-requires-clause-symbols : goal.mark_kept-requires-clause-symbols
mark_kept-requires-clause-symbols c = λ s below. ap (λ (ms : List Bool). is_marked ms s) c.deref.ensures.value ∙ c.in_ok-by_symbols.ensures s below

pub leave_out-requires-clause-few : goal.leave_out-requires-clause-few
leave_out-requires-clause-few c = omega (arith, sections_fit c.args.link.now c.requires.good)

pub returns : goal.returns
returns c =
    let plan = c.args.link.now.plan in
    let left : c.in_ok-emitted.emitted.items ≡ map (λ q. left_by plan c.in_ok-marks.marks.items q.0) (enumerate_from 0 plan.sections) =
    rw c.deref-3.ensures.value at c.in_ok-emitted.ensures in
    record {
      count = ap length left ∙ length-made (left_by plan c.in_ok-marks.marks.items) plan.sections 0;
      emitted = λ sizes lens first.
          left
          ∙ emitted_are (content_of c.args.link.now sizes c.args.live.now lens) c.in_ok-kept.kept.items c.in_ok-marks.marks.items (c.in_ok-kept.ensures.kept sizes lens first)
          (rw c.deref-2.ensures.value at c.in_ok-marks.ensures.marks);
    }
