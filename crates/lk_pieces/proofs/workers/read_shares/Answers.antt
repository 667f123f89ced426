use Rattle.std.proofs.Common.{◌≡◌, ◌≤◌, ◌*◌, length, sym, subst, arith}
use Rattle.lk_pieces.proofs.Shares.{in_shares}
use Rattle.lk_pieces.proofs.workers.read_shares.Goals as goal

pub returns : goal.returns
returns g c =
    let many : length c.in-Ok.answers.items ≡ c.share_size-sharers.result = grind arith in
    let few : length c.args.pieces.now ≤ c.share_size-sharers.result * c.max-size.result = grind arith in
    in_shares g.T.Element.described c.args.depth c.max-size.result c.args.pieces.now c.in-Ok.answers.items (subst (λ n. length c.args.pieces.now ≤ n * c.max-size.result) (sym many) few)
    (λ worker d h. c.in-Ok.ensures.each worker d (omega (arith, h, many)))
