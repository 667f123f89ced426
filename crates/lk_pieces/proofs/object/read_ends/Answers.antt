use Rattle.lk_pieces.proofs.object.read_ends.Goals as goal

pub returns : goal.returns
returns g c = (_, c.in_ok-front.front, c.in_ok-front.ensures, c.in_ok-opening.ensures, c.in_ok-ending.ensures)
