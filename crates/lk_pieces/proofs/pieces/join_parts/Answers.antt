use Rattle.std.proofs.Common.{◌≡◌, ◌++◌, false, refl, arith}
use Rattle.lk_pieces.proofs.Joined.{parts_between}
use Rattle.lk_pieces.proofs.pieces.join_parts.Goals as goal

pub returns-in_ok-ok-in-None : goal.returns-in_ok-ok-in-None
returns-in_ok-ok-in-None g c =
    let between : c.args.more.within ≡ false = grind arith in
    let both : c.append.new.self.items ≡ c.args.part.closed.items ++ c.args.more.closed.items = grind arith in
    parts_between g.T.Element.described c.args.part c.args.more (record { within = c.args.part.within; closed = c.append.new.self; unclosed = c.args.more.unclosed }) c.in-None.is between both refl
