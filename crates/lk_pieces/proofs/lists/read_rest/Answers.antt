use Rattle.std.proofs.Common.{◌≡◌, [], ◌∷◌, ◌++◌, refl, arith}
use Rattle.lk_pieces.proofs.ListLaws.{rest_open, rest_ended}
use Rattle.lk_pieces.proofs.lists.read_rest.Goals as goal

pub returns-then-branch : goal.returns-then-branch
returns-then-branch g c =
    rest_open g.T.Element.described c.args.depth c.in_ok-read_items.field-0 c.args.reader.now c.args.row c.into_vec-items.result.items c.read_items.new.items.items c.from_vec.result c.args.closed.now.items
    c.args.closed.now.items c.read_items.new.reader c.into_vec-items.ensures c.if-branch.true c.in_ok-read_items.ensures c.from_vec.ensures refl

pub returns : goal.returns
returns g c =
    let all : c.from_vec-2.result ≡ c.read_items.new.items.items = grind arith in
    let more : c.push.new.self.items ≡ c.args.closed.now.items ++ c.from_vec-2.result ∷ [] = grind arith in
    rest_ended g.T.Element.described c.args.depth c.in_ok-read_items.field-0 c.args.reader.now c.args.row c.into_vec-items.result.items c.read_items.new.items.items c.from_vec-2.result c.args.closed.now.items
    c.push.new.self.items c.read_items.new.reader c.into_vec-items.ensures c.if-branch.false c.in_ok-read_items.ensures all more
