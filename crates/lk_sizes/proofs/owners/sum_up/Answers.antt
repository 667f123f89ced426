use Rattle.std.proofs.Common.{◌∷◌, [], ◌++◌, arith, false, ap, sym, ◌∙◌, take, map, get_or}
use Rattle.std.specs.List.{sum_by}
use Rattle.std.proofs.lemmas.List.{take_all, take_more, map-append}
use Rattle.std.proofs.lemmas.List.Sums.{sum_by_more}
use Rattle.lk_sizes.specs.declared.owners.PartTotal.{PartTotal}
use Rattle.lk_sizes.proofs.Fitting.{as_contents, fitting, refused}
use Rattle.lk_sizes.proofs.owners.sum_up.Goals as goal

pub returns-then-sum-from : goal.returns-then-sum-from
returns-then-sum-from c = λ filling sums.
    let totals = c.args.totals.now in
    let more = sum_by_more (λ (t : PartTotal). t.bytes) totals c.loop-part.part (record { bytes = 0; has_image = false; attrs = 0 }) c.loop-part-test.true in
    refused filling totals c.loop-part.part sums c.loop-part-test.true (omega arith) (omega (arith, more))

pub loop-part-preserved : goal.loop-part-preserved
loop-part-preserved c =
    let totals = c.args.totals.now in
    let nothing : PartTotal = record { bytes = 0; has_image = false; attrs = 0 } in
    let more = sum_by_more (λ (t : PartTotal). t.bytes) totals c.loop-part.part nothing c.loop-part-test.true in
    let front = take_more totals c.loop-part.part nothing c.loop-part-test.true in
    let pushed = c.in_ok-push.ensures.items in
    record {
      contents =
          pushed
          ∙ ap (λ zs. zs ++ as_contents (get_or totals c.loop-part.part nothing) ∷ []) c.loop-part.invariant.contents
          ∙ sym (ap (map as_contents) front ∙ map-append as_contents (take c.loop-part.part totals) (get_or totals c.loop-part.part nothing ∷ []));
      summed = omega (arith, more);
      fits = omega arith;
    }

pub returns : goal.returns
returns c = λ filling sums.
    let totals = c.args.totals.now in
    let all = take_all c.loop-part.part totals c.loop-part-test.false in
    let fit = fitting filling totals sums (omega (arith, ap (sum_by (λ (t : PartTotal). t.bytes)) all)) in
    (fit.0, c.from_vec.ensures ∙ c.loop-part.invariant.contents ∙ ap (map as_contents) all ∙ fit.1)
