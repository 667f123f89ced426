use Rattle.std.proofs.Common.{◌≡◌, Some, true, arith}
use Rattle.std.specs.Str.{bytes_eq}
use Rattle.json.specs.Json.{read_key}
use Rattle.lk_pieces.proofs.Members.{same_bytes, more_so_far, list_begins, member_shorter}
use Rattle.lk_pieces.proofs.object.read_up_to_list.Goals as goal

pub returns-then-eq : goal.returns-then-eq
returns-then-eq g c =
    let key : read_key c.members.reader ≡ Some (Some c.in-Some.name.now, c.next_key.new.self) = grind arith in
    let same : bytes_eq c.in-Some.name.now c.args.key.now ≡ true = grind arith in
    list_begins 126 _ _ c.args.reader.now c.members.reader c.next_key.new.self c.open_list.new.reader c.in-Some.name.now c.args.key.now c.members.invariant key
    (same_bytes c.in-Some.name.now c.args.key.now same) c.in_ok-open_list.ensures

pub members-smaller : goal.members-smaller
members-smaller g c =
    let key : read_key c.members.reader ≡ Some (Some c.in-Some.name.now, c.next_key.new.self) = grind arith in
    member_shorter 126 c.members.reader c.next_key.new.self c.add.new.reader c.in-Some.name.now _ _ key c.in_ok-add.ensures

pub members-preserved : goal.members-preserved
members-preserved g c =
    let key : read_key c.members.reader ≡ Some (Some c.in-Some.name.now, c.next_key.new.self) = grind arith in
    more_so_far 126 _ _ _ c.args.reader.now c.members.reader c.next_key.new.self c.add.new.reader c.in-Some.name.now c.members.invariant key c.in_ok-add.ensures
