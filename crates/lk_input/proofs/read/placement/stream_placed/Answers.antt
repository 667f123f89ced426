use Rattle.std.proofs.Common.{Some, ap, ◌∙◌, rules}
use Rattle.lk_input.specs.declared.read.symbol.PlacementForm.TheVariants as form
use Rattle.lk_input.specs.Plain.{no_elements, placed_behind}
use Rattle.lk_pieces.specs.Tokens.{items_at}
use Rattle.lk_input.proofs.Fixed.{fixed-made}
use Rattle.lk_input.proofs.Placements.{absolute_by, absolute_elements, absolute_from, section_by, section_elements, section_from, undef_by, undef_from}
use Rattle.lk_input.proofs.read.placement.stream_placed.Goals as goal

pub returns-in-Ok : goal.returns-in-Ok
returns-in-Ok c =
    let r = c.stream_elements.new.reader in
    rw c.in-Section.is
    (fixed-made (placed_behind form.Section) (section_elements 1) section_from section_by (items_at c.args.depth c.args.reader.now) _ r (c.in_ok-index-in-Section.ensures ∙ ap (λ y. Some (y, r)) c.in-Ok.is)
    ∙ search rules)

pub returns-in-Err : goal.returns-in-Err
returns-in-Err c =
    let r = c.stream_elements.new.reader in
    rw c.in-Section.is
    (fixed-made (placed_behind form.Section) (section_elements 1) section_from section_by (items_at c.args.depth c.args.reader.now) _ r (c.in_ok-index-in-Section.ensures ∙ ap (λ y. Some (y, r)) c.in-Err.is)
    ∙ search rules)

pub returns-in-Ok-2 : goal.returns-in-Ok-2
returns-in-Ok-2 c =
    let r = c.stream_elements-in-Absolute.new.reader in
    rw c.in-Absolute.is
    (fixed-made (placed_behind form.Absolute) (absolute_elements 1) absolute_from absolute_by (items_at c.args.depth c.args.reader.now) _ r (c.in_ok-value-in-Absolute.ensures ∙ ap (λ y. Some (y, r)) c.in-Ok-2.is)
    ∙ search rules)

pub returns-in-Err-2 : goal.returns-in-Err-2
returns-in-Err-2 c =
    let r = c.stream_elements-in-Absolute.new.reader in
    rw c.in-Absolute.is
    (fixed-made (placed_behind form.Absolute) (absolute_elements 1) absolute_from absolute_by (items_at c.args.depth c.args.reader.now) _ r (c.in_ok-value-in-Absolute.ensures ∙ ap (λ y. Some (y, r)) c.in-Err-2.is)
    ∙ search rules)

pub returns-in-Ok-3 : goal.returns-in-Ok-3
returns-in-Ok-3 c =
    let r = c.stream_elements-in-Undef.new.reader in
    rw c.in-Undef.is
    (fixed-made (placed_behind form.Undef) no_elements undef_from undef_by (items_at c.args.depth c.args.reader.now) _ r (c.in_ok-stream_elements-in-Undef.ensures ∙ ap (λ y. Some (y, r)) c.in-Ok-3.is)
    ∙ search rules)

pub returns-in-Err-3 : goal.returns-in-Err-3
returns-in-Err-3 c =
    let r = c.stream_elements-in-Undef.new.reader in
    rw c.in-Undef.is
    (fixed-made (placed_behind form.Undef) no_elements undef_from undef_by (items_at c.args.depth c.args.reader.now) _ r (c.in_ok-stream_elements-in-Undef.ensures ∙ ap (λ y. Some (y, r)) c.in-Err-3.is)
    ∙ search rules)
