use Rattle.std.proofs.Common.{map, List, ap, ◌∙◌, arith}
use Rattle.std.specs.List.{range_with_len}
use Rattle.lk_sizes.specs.declared.owners.PartContents.{PartContents}
use Rattle.lk_sizes.specs.Owners.{in_link}
use Rattle.lk_sizes.proofs.Emitting.{all_attributes, all_joined, attributes_by}
use Rattle.lk_sizes.proofs.Limited.{sections_fit}
use Rattle.lk_sizes.proofs.Made.{one_pushed}
use Rattle.lk_sizes.proofs.attributes.attributes_of_contents.Goals as goal

pub overflow_cast-number : goal.overflow_cast-number
overflow_cast-number c = omega (arith, sections_fit c.args.link.now c.requires.good)

pub loop-number-preserved : goal.loop-number-preserved
loop-number-preserved c =
    let made = attributes_by c.args.link.now.plan c.args.contents.now in
    one_pushed made c.loop-number.number c.loop-number.all.items c.push.new.self.items c.section_attributes.result c.in_ok-push.ensures.items c.loop-number.invariant
    (c.section_attributes.ensures ∙ ap made c.from_u32-section.ensures)

pub returns-clause-contents : goal.returns-clause-contents
returns-clause-contents c = λ given is.
    let filling = in_link c.args.link.now given in
    c.loop-number.invariant
    ∙ ap (λ (contents : List PartContents). map (attributes_by c.args.link.now.plan contents) (range_with_len 0 c.loop-number.number)) is
    ∙ all_attributes filling c.loop-number.number (omega arith)

pub returns-clause-joined : goal.returns-clause-joined
returns-clause-joined c = λ live is. c.loop-number.invariant ∙ all_joined c.args.link.now live c.args.contents.now c.loop-number.number is (omega arith)
