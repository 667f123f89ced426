use Rattle.std.proofs.Common.{◌≡◌, ◌+◌, ◌++◌, List, Some, drop, refl, sym, ◌∙◌, subst, take}
use Rattle.std.specs.List.{flat_map, slice_get}
use Rattle.lk_link.specs.Inputs.{NumberedFile}
use Rattle.lk_reach.specs.declared.units.Ask.{Ask}
use Rattle.lk_reach.specs.Units.{file_roots}
use Rattle.lk_slot_link.specs.LinkGraphs.{files_of_group}
use Rattle.lk_workers.specs.Asked.{IsRootsOf}
use Rattle.lk_workers.specs.Steps.{DoesAsks, DoesSome}
use Rattle.lk_workers.proofs.Doing.{does_both, does_first, does_none, does_some, on_err, roots_cut, roots_more, roots_split}
use Rattle.lk_workers.proofs.state.GroupState.do_files.Goals as goal

pub loop-index-init : goal.loop-index-init
loop-index-init g c = (refl, refl, refl, does_none g.J.Reach.lists.groups c.args.self.now c.args.pass.now.sets)

pub loop-index-preserved : goal.loop-index-preserved
loop-index-preserved g c =
    let groups = g.J.Reach.lists.groups in
    let link = c.args.traversal.now.link in
    let files : List NumberedFile = files_of_group link.groups c.args.self.now.group in
    let k = c.loop-index.index in
    let of : IsRootsOf link c.group-group.result k c.in-Some.asks = c.in-Some.ensures.some.0 in
    let there : slice_get files k ≡ Some of.file = subst (λ n. slice_get (files_of_group link.groups n) k ≡ Some of.file) c.group-group.ensures of.there in
    let old = c.args.self.now in
    let mid = c.loop-index.self in
    let new = c.do_asks.new.self in
    let before = c.args.pass.now.sets in
    let between = c.loop-index.pass.sets in
    let after = c.do_asks.new.pass.sets in
    let next : DoesAsks groups (file_roots link of.file) mid new between after
    = subst (λ (asks : List Ask). DoesAsks groups asks mid new between after) of.roots c.in_ok-do_asks-in-Some.ensures.does in
    let both : DoesAsks groups (flat_map (file_roots link) (take k files) ++ file_roots link of.file) old new before after
    = does_both groups (flat_map (file_roots link) (take k files)) (file_roots link of.file) old mid new before between after c.loop-index.invariant.3 next in (
      c.do_asks.ensures.table ∙ c.loop-index.invariant.0,
      c.do_asks.ensures.parts ∙ c.loop-index.invariant.1,
      c.do_asks.ensures.group ∙ c.loop-index.invariant.2,
      subst (λ (asks : List Ask). DoesAsks groups asks old new before after) (sym (roots_more (file_roots link) files k of.file there)) both,
    )

pub returns-in_err-do_asks-in-Some-clause-some : goal.returns-in_err-do_asks-in-Some-clause-some
returns-in_err-do_asks-in-Some-clause-some g c =
    let groups = g.J.Reach.lists.groups in
    let link = c.args.traversal.now.link in
    let files : List NumberedFile = files_of_group link.groups c.args.self.now.group in
    let k = c.loop-index.index in
    let of : IsRootsOf link c.group-group.result k c.in-Some.asks = c.in-Some.ensures.some.0 in
    let there : slice_get files k ≡ Some of.file = subst (λ n. slice_get (files_of_group link.groups n) k ≡ Some of.file) c.group-group.ensures of.there in
    let old = c.args.self.now in
    let mid = c.loop-index.self in
    let new = c.do_asks.new.self in
    let before = c.args.pass.now.sets in
    let between = c.loop-index.pass.sets in
    let after = c.do_asks.new.pass.sets in
    let some : DoesSome groups (file_roots link of.file) mid new between after
    = subst (λ (asks : List Ask). DoesSome groups asks mid new between after) of.roots c.in_err-do_asks-in-Some.ensures.some in
    on_err c.from_residual.result
    (does_some groups (flat_map (file_roots link) files) (flat_map (file_roots link) (take k files)) (file_roots link of.file) (flat_map (file_roots link) (drop (k + 1) files)) old mid new before between after
    (roots_split (file_roots link) files k of.file there) c.loop-index.invariant.3 some)

pub returns-clause-some : goal.returns-clause-some
returns-clause-some g c =
    let link = c.args.traversal.now.link in
    let files : List NumberedFile = files_of_group link.groups c.args.self.now.group in
    let k = c.loop-index.index in
    does_first g.J.Reach.lists.groups (flat_map (file_roots link) files) (flat_map (file_roots link) (take k files)) (flat_map (file_roots link) (drop k files)) c.args.self.now c.loop-index.self
    c.args.pass.now.sets c.loop-index.pass.sets (roots_cut (file_roots link) files k) c.loop-index.invariant.3
