use Rattle.std.proofs.Common.{◌≡◌, ◌<◌, [], ◌∷◌, ◌++◌, Some, length, refl, arith}
use Rattle.lk_pieces.proofs.Joined.{none_left, rows_open, rows_ended, first_removed, pushed_between}
use Rattle.lk_pieces.proofs.pieces.join_rows.Goals as goal

pub returns-then-is_empty : goal.returns-then-is_empty
returns-then-is_empty g c =
    let count : length c.args.more.items ≡ 0 = grind arith in
    let none : c.args.more.items ≡ [] = none_left c.args.more.items count in
    rows_open g.T.Element.described c.args.closed.items c.args.more.items c.args.row c.args.unclosed (record { within = c.args.within; closed = c.args.closed; unclosed = Some c.in_ok-both.field-0 }) c.in_ok-unclosed.field-0
    c.in_ok-both.field-0 none c.in_ok-unclosed.was refl refl c.in_ok-both.ensures

pub returns : goal.returns
returns g c =
    let some : 0 < length c.args.more.items = grind arith in
    let is : c.args.more.items ≡ c.remove-first.result ∷ c.remove-first.new.self.items = first_removed c.args.more.items c.remove-first.result c.remove-first.new.self.items some c.remove-first.ensures.value c.remove-first.ensures.items in
    let row : c.in_ok-both_closed.field-0 ≡ c.args.row ++ c.remove-first.result = c.in_ok-both_closed.ensures in
    let same : c.append.new.self.items ≡ (c.args.closed.items ++ c.in_ok-both_closed.field-0 ∷ []) ++ c.remove-first.new.self.items = grind arith in
    rows_ended g.T.Element.described c.args.closed.items c.args.more.items c.remove-first.new.self.items c.args.row c.remove-first.result c.args.unclosed
    (record { within = c.args.within; closed = c.append.new.self; unclosed = c.args.unclosed }) is (pushed_between c.args.closed.items c.in_ok-both_closed.field-0 (c.args.row ++ c.remove-first.result) c.remove-first.new.self.items c.append.new.self.items row same) refl
