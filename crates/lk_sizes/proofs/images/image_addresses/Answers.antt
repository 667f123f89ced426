use Rattle.std.proofs.Common.{◌≡◌, ℕ, List, map, ap, ◌∙◌, arith}
use Rattle.std.specs.List.{range_with_len}
use Rattle.lk_link.specs.declared.plan.PlanSection.{PlanSection}
use Rattle.lk_link.specs.Parts.{first_part}
use Rattle.lk_sizes.specs.declared.owners.PartContents.{PartContents}
use Rattle.lk_sizes.specs.Owners.{in_link}
use Rattle.lk_sizes.proofs.ImageStarts.{all_addresses, start_among, start_by}
use Rattle.lk_sizes.proofs.Made.{one_pushed}
use Rattle.lk_sizes.proofs.images.image_addresses.Goals as goal

pub loop-number-preserved : goal.loop-number-preserved
loop-number-preserved c =
    let sections : List PlanSection = c.args.link.now.plan.sections in
    let contents : List PartContents = c.args.contents.now in
    let starts : List ℕ = c.args.starts.now in
    let n : ℕ = c.loop-number.number in
    let one : c.image_start.result ≡ start_by sections contents starts n =
    c.image_start.ensures
    ∙ ap (λ (a : ℕ). start_among contents starts a c.part_range-first.result.1) c.part_range-first.ensures.first
    ∙ ap (start_among contents starts (first_part sections n)) c.part_range-first.ensures.behind in
    one_pushed (start_by sections contents starts) n c.loop-number.addresses.items c.push.new.self.items c.image_start.result c.in_ok-push.ensures.items c.loop-number.invariant one

pub returns : goal.returns
returns c = λ given is.
    let filling = in_link c.args.link.now given in
    c.loop-number.invariant
    ∙ ap (λ (contents : List PartContents). map (start_by c.args.link.now.plan.sections contents c.args.starts.now) (range_with_len 0 c.loop-number.number)) is
    ∙ all_addresses filling c.args.starts.now c.loop-number.number (omega arith) c.requires.starts
