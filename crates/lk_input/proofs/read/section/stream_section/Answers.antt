use Rattle.std.proofs.Common.{◌∷◌, Some, sym, ap, ◌∙◌}
use Rattle.json.specs.Json.{parse_map}
use Rattle.json.specs.Reads.{token_of}
use Rattle.serde_json.specs.Data.{no_members}
use Rattle.lk_input.specs.KnownSections.{section_from}
use Rattle.lk_input.specs.ReadingSections.{input_section_of}
use Rattle.lk_pieces.specs.Tokens.{data_at, members_at}
use Rattle.lk_input.proofs.KnownSections.{section-kept, section_wants_object}
use Rattle.lk_input.proofs.Objects.{object-read, object-none, no_object, settled-stands}
use Rattle.lk_input.proofs.Values.{lacks-so}
use Rattle.lk_input.proofs.read.section.stream_section.Goals as goal

pub returns-in-Err : goal.returns-in-Err
returns-in-Err c =
    let ts = c.args.reader.now in
    let d = c.in_ok-depth-in-BeginObject.depth in
    let lacks = (rw c.in-Err.is at c.stream_known.ensures) no_members c.none-known.ensures in
    let begins = ap (λ k. parse_map input_section_of (data_at c.args.depth (token_of k ∷ ts))) c.in-BeginObject.is in
    lacks-so c.in-Err.fail (members_at no_members d ts) _ lacks (λ none. begins ∙ object-none input_section_of c.args.depth d ts c.in_ok-depth-in-BeginObject.ensures none)

pub returns-in-Ok : goal.returns-in-Ok
returns-in-Ok c =
    let ts = c.args.reader.now in
    let d = c.in_ok-depth-in-BeginObject.depth in
    let rest = c.stream_known.new.reader in
    let all = (rw c.in-Ok.is at c.stream_known.ensures) no_members c.none-known.ensures in
    let begins = ap (λ k. parse_map input_section_of (data_at c.args.depth (token_of k ∷ ts))) c.in-BeginObject.is in
    let read = object-read input_section_of c.args.depth d ts rest all.0 c.in_ok-depth-in-BeginObject.ensures all.1 in
    let same = section-kept all.0 ∙ ap section_from (sym all.2) in
    rw c.settled.ensures
    (settled-stands c.section_from.result (section_from c.stream_known.new.known) _ rest c.section_from.ensures (begins ∙ read ∙ ap (λ y. Some (y, rest)) same))

pub returns-in_default : goal.returns-in_default
returns-in_default c = rw (no_object input_section_of section_wants_object c.args.depth c.args.token c.args.reader.now c.in_default.not-BeginObject) c.misfit_from.ensures
