use Rattle.std.proofs.Common.{◌≡◌, Some, None, false, arith}
use Rattle.std.specs.Str.{bytes_eq}
use Rattle.json.specs.Json.{read_key}
use Rattle.lk_pieces.proofs.Members.{more_behind, all_behind, member_shorter}
use Rattle.lk_pieces.proofs.object.read_behind_list.Goals as goal

pub members-smaller : goal.members-smaller
members-smaller g c =
    let key : read_key c.members.reader ≡ Some (Some c.in-Some.name.now, c.next_key.new.self) = grind arith in
    member_shorter 126 c.members.reader c.next_key.new.self c.add.new.reader c.in-Some.name.now _ _ key c.in_ok-add.ensures

pub members-preserved : goal.members-preserved
members-preserved g c =
    let key : read_key c.members.reader ≡ Some (Some c.in-Some.name.now, c.next_key.new.self) = grind arith in
    let other : bytes_eq c.in-Some.name.now c.args.key.now ≡ false = grind arith in
    more_behind c.args.key.now 126 _ _ _ c.args.reader.now c.members.reader c.next_key.new.self c.add.new.reader c.in-Some.name.now c.members.invariant key other c.in_ok-add.ensures

pub returns : goal.returns
returns g c =
    let end : read_key c.members.reader ≡ Some (None, c.next_key.new.self) = grind arith in
    all_behind c.args.key.now 126 _ _ c.args.reader.now c.members.reader c.next_key.new.self c.members.invariant end
