use Rattle.std.proofs.Common.{◌≡◌, ◌∷◌, ◌++◌, ℕ, List, ap, ◌∙◌, arith}
use Rattle.std.specs.Borrow.{Bor}
use Rattle.std.proofs.lemmas.List.{map-append}
use Rattle.lk_pieces.specs.Pieces.{joined, bytes_of}
use Rattle.lk_pieces.proofs.Around.{text_holds}
use Rattle.lk_pieces.proofs.object.read_object_by_workers.Goals as goal

pub returns-then-is_empty : goal.returns-then-is_empty
returns-then-is_empty g c =
    let is : c.args.text.now ≡ joined (c.in_ok-first.first.now.now ∷ bytes_of c.in_ok-first.pieces.now) c.in_ok-pieces.last.now = grind arith in
    text_holds g.T.Element.described g.M.Others.members c.args.key.now c.args.text.now _ c.read_alone.result is c.read_alone.ensures

pub returns : goal.returns
returns g c =
    let first = c.in_ok-first.first.now.now in
    let last = c.in_ok-pieces.last.now in
    let near = c.split_at.result.0.now in
    let far = c.split_at.result.1.now in
    let is : c.args.text.now ≡ joined (first ∷ bytes_of c.in_ok-first.pieces.now) last = grind arith in
    let parts : bytes_of c.in_ok-first.pieces.now ≡ bytes_of near ++ bytes_of far = ap bytes_of c.split_at.ensures.by_index.0 ∙ map-append (λ (piece : Bor (List ℕ)). piece.now) near far in
    text_holds g.T.Element.described g.M.Others.members c.args.key.now c.args.text.now _ c.read_beside.result (is ∙ ap (λ ps. joined (first ∷ ps) last) parts) c.read_beside.ensures
