use Rattle.std.proofs.Common.{◌≡◌, [], ◌++◌, All, sym, ap, subst, ◌∙◌}
use Rattle.std.specs.List.{flat_map}
use Rattle.std.proofs.lemmas.List.Elements.{All-tail}
use Rattle.lk_link.specs.Walks.{file_of}
use Rattle.lk_reach.specs.Askers.{IsFileOf}
use Rattle.lk_reach.specs.Units.{file_roots}
use Rattle.lk_reach.proofs.root_asks.RootsIterator.next.Goals as goal

pub invariant_of-self-in-Some-next-2 : goal.invariant_of-self-in-Some-next-2
invariant_of-self-in-Some-next-2 c =
    let link = c.loop-file.self-inside.link.now in
    let file = file_of c.in-Some-next.file in
    (c.loop-file.invariant.2, All-tail (IsFileOf link) file c.next-in-loop-file.new.self (subst (All (IsFileOf link)) c.in-Some-next.ensures.steps c.loop-file.invariant.3))

pub loop-file-preserved : goal.loop-file-preserved
loop-file-preserved c =
    let link = c.loop-file.self-inside.link.now in
    let file = file_of c.in-Some-next.file in
    let ended = c.in_default-next-2.ensures.steps in
    let here = c.in-Some-next.ensures.steps in
    let rest = c.next-in-loop-file.new.self in
    let passed : file_roots link file ≡ [] = sym c.file_roots-self-inside.ensures ∙ ended.0 in
    let left = sym (ap (flat_map (file_roots link)) here ∙ ap (λ asks. asks ++ flat_map (file_roots link) rest) passed) ∙ c.loop-file.invariant.1 in
    (ended.1, left, c.loop-file.invariant.2, All-tail (IsFileOf link) file c.next-in-loop-file.new.self (subst (All (IsFileOf link)) here c.loop-file.invariant.3))
