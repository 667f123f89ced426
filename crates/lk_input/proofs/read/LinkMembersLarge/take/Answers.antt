use Rattle.std.proofs.Common.{◌≡◌, true, false, refl, arith}
use Rattle.std.specs.Str.{bytes_eq}
use Rattle.lk_input.specs.declared.read.LinkKey.TheVariants as link
use Rattle.lk_input.proofs.LargeMembers.{link-groups, link-other}
use Rattle.lk_input.proofs.read.LinkMembersLarge.take.Goals as goal
use Rattle.lk_input.specs.Keys.{link_key_text}

pub returns-in_ok-reread : goal.returns-in_ok-reread
returns-in_ok-reread c =
    let name = c.args.key.now in
    let same : bytes_eq name (link_key_text link.Groups) ≡ true = grind arith in
    let read = c.in_ok-reread.ensures in
    (same, read.0, read.1, λ ms h. link-groups name read.0 ms _ same read.2)

pub returns-else-eq : goal.returns-else-eq
returns-else-eq c =
    let name = c.args.key.now in
    let other : bytes_eq name (link_key_text link.Groups) ≡ false = grind arith in
    (other, refl, refl, λ ms d. link-other name d ms other)
