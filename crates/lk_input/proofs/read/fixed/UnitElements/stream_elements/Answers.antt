use Rattle.std.proofs.Common.{◌≡◌, Some, None, Err, sym, ap, ◌∙◌, arith}
use Rattle.json.specs.Json.{parse_map, after_end_array}
use Rattle.lk_input.specs.Plain.{no_elements}
use Rattle.lk_pieces.specs.Tokens.{items_at}
use Rattle.lk_input.specs.Tokens.{anything}
use Rattle.lk_input.proofs.Fixed.{elements-more, elements-over}
use Rattle.lk_input.proofs.Lists.{list-over, made}
use Rattle.lk_input.proofs.read.fixed.UnitElements.stream_elements.Goals as goal

pub returns-then-take_end_array : goal.returns-then-take_end_array
returns-then-take_end_array c =
    let r = c.take_end_array.new.self in
    list-over no_elements c.args.depth c.args.reader.now r (grind arith) ∙ ap (λ y. Some (y, r)) elements-over

pub returns : goal.returns
returns c =
    let ts = c.args.reader.now in
    let r = c.pass_others.new.reader in
    let going : (after_end_array ts ≡ None) × (c.take_end_array.new.self ≡ ts) = grind arith in
    let passed = made anything (items_at c.args.depth c.take_end_array.new.self) c.in_ok-pass_others.field-0 r c.in_ok-pass_others.ensures in
    let stands : items_at c.args.depth ts ≡ Some (passed.0, r) = rw (← going.1) passed.1 in
    ap (parse_map no_elements) stands ∙ ap (λ y. Some (y, r)) (elements-more c.args.depth ts passed.0 r going.0 stands ∙ ap Err (sym c.new.ensures))
