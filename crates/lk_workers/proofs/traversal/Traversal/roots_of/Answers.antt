use Rattle.std.proofs.Common.{◌≡◌, None, Some, sym, ap, subst}
use Rattle.std.specs.List.{slice_get}
use Rattle.lk_link.specs.declared.link.LinkInput.{LinkInput}
use Rattle.lk_link.specs.Files.{file_in}
use Rattle.lk_slot_link.specs.LinkGraphs.{files_of_group}
use Rattle.lk_workers.specs.Asked.{AreMet, IsRootsOf}
use Rattle.lk_workers.specs.Traversals.{TraversalValue}
use Rattle.lk_workers.proofs.Asked.{file_met}
use Rattle.lk_workers.proofs.GroupFiles.{file_here, file_with, no_file_here}
use Rattle.lk_workers.proofs.traversal.Traversal.roots_of.Goals as goal

pub returns-in-Some-clause-some : goal.returns-in-Some-clause-some
returns-in-Some-clause-some g c =
    let lists = g.J.Reach.lists in
    let link : LinkInput = c.self.inside.link.now in
    let group = c.args.group in
    let index = c.args.index in
    let file = c.in-Some.file.now in
    let there : file_in link.groups (record { group = group; file = index }) ≡ Some file = sym c.in-Some.ensures in
    let roots : IsRootsOf link group index c.file_roots.result
    = record { file = file_with group index file; there = file_here link.groups group index file there; roots = c.file_roots.ensures } in (
      subst (λ (l : LinkInput). IsRootsOf l group index c.file_roots.result) (ap (λ (t : TraversalValue). t.link) c.self.view_is) roots,
      subst (AreMet lists) (sym c.file_roots.ensures) (file_met lists link (file_with group index file) c.self.invariant.0 there),
    )

pub returns-in-None-clause-none : goal.returns-in-None-clause-none
returns-in-None-clause-none g c =
    let link : LinkInput = c.self.inside.link.now in
    subst (λ (l : LinkInput). slice_get (files_of_group l.groups c.args.group) c.args.index ≡ None) (ap (λ (t : TraversalValue). t.link) c.self.view_is)
    (no_file_here link.groups c.args.group c.args.index (sym c.in-None.ensures))
