use Rattle.std.proofs.Common.{sym}
use Rattle.lk_input.specs.Plain.{fixed_of, placement_elements}
use Rattle.lk_input.specs.ReadingSymbols.{symbol_placement_of}
use Rattle.lk_pieces.specs.Tokens.{data_at}
use Rattle.lk_input.proofs.Lists.{parse_map-same}
use Rattle.lk_input.proofs.Placements.{placement_by}
use Rattle.lk_input.proofs.read.placement.SymbolPlacementStreamed.stream.Goals as goal

pub returns : goal.returns
returns c =
    rw (sym (parse_map-same (fixed_of placement_elements) symbol_placement_of (data_at c.args.depth c.args.reader.now) placement_by)) c.stream_fixed.ensures
