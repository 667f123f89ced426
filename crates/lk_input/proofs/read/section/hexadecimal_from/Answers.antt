use Rattle.std.proofs.Common.{ap}
use Rattle.std.specs.Result.{result_ok}
use Rattle.json.specs.Json.{parse_map}
use Rattle.hex.specs.Hex.{decode_of}
use Rattle.lk_input.specs.ReadingSections.{hex_bytes}
use Rattle.lk_input.specs.ReadingSteps.{wanted}
use Rattle.lk_input.proofs.Objects.{settled-stands}
use Rattle.lk_pieces.proofs.Tokens.{data_at-string}
use Rattle.lk_input.proofs.read.section.hexadecimal_from.Goals as goal

pub returns-in-String : goal.returns-in-String
returns-in-String c =
    let text = c.in-String.text.now in
    let ts = c.args.reader.now in
    rw (c.in-String.is, c.settled.ensures) (settled-stands c.decoded.result (wanted (result_ok (decode_of text))) _ ts c.decoded.ensures
    (ap (parse_map hex_bytes) (data_at-string c.args.depth text ts)))
