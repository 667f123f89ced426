use Rattle.std.proofs.Common.{◌<◌, ◌∙◌, length, sym, ap, subst}
use Rattle.lk_merge.specs.MatrixCells.{BucketValue}
use Rattle.lk_merge.specs.MatrixWork.{cell_pieces}
use Rattle.lk_merge.proofs.EachOne.{cell_some}
use Rattle.lk_merge.proofs.OnTheWay.{next_right}
use Rattle.lk_merge.proofs.bucket_work.BucketWork.take_group.Goals as goal

pub add_group-requires : goal.add_group-requires
add_group-requires g c = record { some = cell_some g.J.Brings.work c.args.self.taken c.args.self.number c.args.strings.now c.requires.strings }

pub invariant_of-result : goal.invariant_of-result
invariant_of-result g c =
    let work = g.J.Brings.work in
    let i = c.self.inside in
    let v : BucketValue = record { number = i.number; taken = i.taken; state = i.state; places = i.places.items } in
    next_right work v c.in-Some.taken c.add_group.new.state c.add_group.new.places.items _ c.self.invariant (ap (λ (x : BucketValue). x.state.refusal) c.self.view_is ∙ c.requires.going)
    (subst (λ (x : BucketValue). x.taken < length work.groups) (sym c.self.view_is) c.requires.left)
    (c.requires.strings ∙ ap (λ (x : BucketValue). cell_pieces work x.taken x.number) (sym c.self.view_is)) c.in-Some.ensures c.in_ok-add_group.ensures
