use Rattle.serde_json.specs.View.{view, members_view}
use Rattle.lk_input.proofs.Objects.{split-large, split-other}
use Rattle.lk_input.proofs.read.large.stream_member.Goals as goal

pub returns-then-branch : goal.returns-then-branch
returns-then-branch g c =
    let taken = rw c.if-branch.true at c.in_ok-take.ensures in
    (taken.1, taken.2, λ ms h. split-large g.L.Large.is_large g.L.Large.kept c.args.key.now taken.1 ms _ _ c.take.new.self taken.0 (taken.3 ms h.are_kept) h)

pub returns : goal.returns
returns g c =
    let left = rw c.if-branch.false at c.in_ok-take.ensures in
    let v = c.in_ok-member.member in
    let name = c.args.key.now in (
      view v,
      rw left.1 at c.in_ok-member.ensures,
      λ ms h.
          rw (c.in_ok-put_member.ensures, left.2) (split-other g.L.Large.is_large g.L.Large.kept name (view v) ms (members_view c.args.others.now.entries) c.args.large.now (left.3 ms (view v)) h),
    )
