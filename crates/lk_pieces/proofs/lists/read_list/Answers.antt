use Rattle.std.proofs.Common.{◌≡◌, [], ◌∷◌, ◌++◌, Some, arith}
use Rattle.json.specs.Json.{after_end_array}
use Rattle.lk_pieces.proofs.ListLaws.{empty_list, rest_told}
use Rattle.lk_pieces.proofs.lists.read_list.Goals as goal

pub returns-then-take_end_array : goal.returns-then-take_end_array
returns-then-take_end_array g c =
    let end : after_end_array c.args.reader.now ≡ Some c.take_end_array.new.self = grind arith in
    let more : c.push.new.self.items ≡ c.args.closed.now.items ++ [] ∷ [] = grind arith in
    empty_list g.T.Element.described c.args.depth c.args.reader.now c.args.closed.now.items c.push.new.self.items c.take_end_array.new.self end more

pub returns : goal.returns
returns g c =
    let same : c.take_end_array.new.self ≡ c.args.reader.now = grind arith in
    rest_told g.T.Element.described c.args.depth c.args.reader.now c.take_end_array.new.self c.new-2.result c.args.closed.now.items c.read_rest.new.closed.items c.read_rest.result c.read_rest.new.reader same c.new-2.ensures c.read_rest.ensures
