use Rattle.std.proofs.Common.{◌≡◌, ◌∷◌, Some, Err, sym, ap, ◌∙◌, arith}
use Rattle.json.specs.Json.{parse_map}
use Rattle.json.specs.Reads.{token_of}
use Rattle.serde_json.specs.Data.{no_members}
use Rattle.serde_json.specs.View.{view, members_view}
use Rattle.serde_json.specs.declared.value.Value.{Object}
use Rattle.serde_json.proofs.Views.{view-Object}
use Rattle.lk_input.specs.LargeMembers.{link_from}
use Rattle.lk_input.specs.Reading.{link_of}
use Rattle.lk_pieces.specs.Tokens.{data_at, members_at}
use Rattle.lk_input.proofs.LargeMembers.{link_wants_object, link-split}
use Rattle.lk_input.proofs.Objects.{object-read, object-none, no_object, settled-stands}
use Rattle.lk_input.proofs.Values.{fails-so}
use Rattle.lk_input.proofs.read.stream_link.Goals as goal

pub returns-in_err-large-in-BeginObject : goal.returns-in_err-large-in-BeginObject
returns-in_err-large-in-BeginObject c =
    let ts = c.args.reader.now in
    let d = c.in_ok-depth-in-BeginObject.depth in
    let fail = c.in_err-large-in-BeginObject in
    let gone : c.from_residual-in_err-large-in-BeginObject.result ≡ Err fail.field-0.0 = grind arith in
    let begins = ap (λ k. parse_map link_of (data_at c.args.depth (token_of k ∷ ts))) c.in-BeginObject.is in
    fails-so _ _ _ (members_at no_members d ts) _ _ gone fail.ensures (λ none. begins ∙ object-none link_of c.args.depth d ts c.in_ok-depth-in-BeginObject.ensures none)

pub returns-in_ok-large-in-BeginObject : goal.returns-in_ok-large-in-BeginObject
returns-in_ok-large-in-BeginObject c =
    let ts = c.args.reader.now in
    let d = c.in_ok-depth-in-BeginObject.depth in
    let rest = c.stream_members.new.reader in
    let found = c.in_ok-large-in-BeginObject in
    let split = found.ensures in
    let begins = ap (λ k. parse_map link_of (data_at c.args.depth (token_of k ∷ ts))) c.in-BeginObject.is in
    let read = object-read link_of c.args.depth d ts rest split.0 c.in_ok-depth-in-BeginObject.ensures split.1 in
    let same = link-split split.0 (members_view found.others.entries) found.large split.2 ∙ ap (link_from found.large) (sym (view-Object found.others)) in
    rw c.settled.ensures (settled-stands c.link_from.result (link_from found.large (view (Object found.others))) _ rest c.link_from.ensures (begins ∙ read ∙ ap (λ y. Some (y, rest)) same))

pub returns-in_default : goal.returns-in_default
returns-in_default c = rw (no_object link_of link_wants_object c.args.depth c.args.token c.args.reader.now c.in_default.not-BeginObject) c.misfit_from.ensures
