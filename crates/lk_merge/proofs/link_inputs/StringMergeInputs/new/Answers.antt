use Rattle.std.proofs.Common.{◌≡◌, ◌≤◌, length, ap, ◌∙◌, arith}
use Rattle.std.proofs.lemmas.List.FromFn.{length-map-range_with_len}
use Rattle.lk_link.proofs.GoodLinks.{few, good_options}
use Rattle.lk_merge.specs.LinkInputs.{merge_inputs}
use Rattle.lk_merge.proofs.link_inputs.StringMergeInputs.new.Goals as goal

pub invariant_of-result : goal.invariant_of-result
invariant_of-result c =
    let link = c.args.link.now in
    let options = good_options link.groups link.options c.requires.options in
    let most : length link.plan.sections ≤ 65279 = (few link c.requires).sections in
    let count : length c.in_ok-gather.field-0.items ≡ length link.plan.sections
    = ap length c.in_ok-gather.ensures ∙ length-map-range_with_len (merge_inputs link) 0 (length link.plan.sections) in
    let least = options.merge_group_least in
    (record { limited = options.bucket_limit; some = omega (arith, least); most = options.merge_group_most }, omega (arith, count, most))
