use Rattle.std.proofs.Common.{◌≡◌, Some, Ok, ap, ◌∙◌, arith}
use Rattle.serde_json.specs.View.{members_view}
use Rattle.serde_json.proofs.Views.{view-Object}
use Rattle.lk_input.proofs.Pieces.{made_of, kept_by}
use Rattle.lk_input.proofs.read.pieces.link_with.Goals as goal

pub returns : goal.returns
returns c =
    let groups : c.in_ok-groups.groups ≡ c.args.groups.items = grind arith in
    made_of c.args.groups.items (members_view c.args.others.map.entries) c.link_from.result c.ok-2.result _ _ (ap kept_by (c.read.ensures ∙ ap (λ g. Some (Ok g)) groups)) (view-Object c.args.others.map) c.link_from.ensures c.ok-2.ensures.value
