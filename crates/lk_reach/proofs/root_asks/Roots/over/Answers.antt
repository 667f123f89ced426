use Rattle.std.proofs.Common.{All, subst, sym}
use Rattle.lk_reach.specs.Askers.{IsFileOf}
use Rattle.lk_reach.proofs.Numbered.{are_numbered, files_there}
use Rattle.lk_reach.proofs.root_asks.Roots.over.Goals as goal

pub files-requires : goal.files-requires
files-requires c = are_numbered c.args.link.now c.requires

pub invariant_of-result : goal.invariant_of-result
invariant_of-result c = (c.requires, subst (All (IsFileOf c.args.link.now)) (sym c.files.ensures) (files_there c.args.link.now))
