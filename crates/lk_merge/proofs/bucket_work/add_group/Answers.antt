use Rattle.std.proofs.Common.{◌≡◌, ◌++◌, ◌∙◌, sym, ap, append-nil}
use Rattle.std.specs.Option.{option_to_list}
use Rattle.lk_merge.proofs.OnTheWay.{next_places}
use Rattle.lk_merge.proofs.bucket_work.add_group.Goals as goal
use Rattle.lk_merge.proofs.bucket_work.add_group.Goals.{in-Some+in_ok-push, in_default}

pub loop-string-preserved : goal.loop-string-preserved
loop-string-preserved c =
    let after : c.match-branch-3.places.items ≡ c.loop-string.places.items ++ option_to_list c.in_ok-place.field-0
    = elim c.match-branch-3.branch [
      | in-Some+in_ok-push w ↦ ap (λ v. v.items) w.places-is ∙ w.in_ok-push.ensures.items ∙ ap (λ o. c.loop-string.places.items ++ option_to_list o) (sym w.in-Some.is)
      | in_default w ↦ ap (λ v. v.items) w.places-is ∙ sym (append-nil c.loop-string.places.items) ∙ ap (λ o. c.loop-string.places.items ++ option_to_list o) (sym w.in_default.is)
    ] in
    λ section limit b pieces h.
    next_places section limit b pieces c.args.strings.now c.loop-string.string-index c.string-item.result c.loop-string.state c.add.new.self c.in_ok-place.field-0 c.loop-string.places.items
    c.match-branch-3.places.items c.loop-string-test.true c.string-item.is (c.loop-string.invariant section limit b pieces h) c.in_ok-place.ensures after
