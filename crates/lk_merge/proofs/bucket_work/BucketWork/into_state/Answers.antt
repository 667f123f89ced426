use Rattle.std.proofs.Common.{◌∙◌, length, ap, sym, subst}
use Rattle.lk_merge.specs.Hash.{fnv64}
use Rattle.lk_merge.specs.Image.{in_bucket}
use Rattle.lk_merge.specs.MatrixCells.{BucketValue, HasPlaces}
use Rattle.lk_merge.specs.MatrixWork.{front}
use Rattle.lk_merge.proofs.OnTheWay.{ended_right}
use Rattle.lk_merge.proofs.bucket_work.BucketWork.into_state.Goals as goal

pub returns-clause-places : goal.returns-clause-places
returns-clause-places g c =
    let work = g.J.Brings.work in
    let i = c.self.inside in
    let v : BucketValue = record { number = i.number; taken = i.taken; state = i.state; places = i.places.items } in
    subst (λ n. HasPlaces work.section work.limit n (in_bucket fnv64 n (front work (length work.groups))) i.state i.places.items) (ap (λ (x : BucketValue). x.number) c.self.view_is)
    (ended_right work v c.self.invariant (λ none. ap (λ (x : BucketValue). x.taken) c.self.view_is ∙ c.requires.ended (ap (λ (x : BucketValue). x.state.refusal) (sym c.self.view_is) ∙ none)))
