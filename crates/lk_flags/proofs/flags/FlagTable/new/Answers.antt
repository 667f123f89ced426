use Rattle.std.proofs.Common.{List, [], ◌∷◌, ℕ, sym, subst}
use Rattle.lk_flags.specs.Flags.{all_parts}
use Rattle.lk_flags.specs.Rule.{IsKept, view_of}
use Rattle.lk_flags.proofs.Keeping.{starts_kept}
use Rattle.lk_flags.proofs.flags.FlagTable.new.Goals as goal

pub of_words-requires : goal.of_words-requires
of_words-requires g c =
    let lists = g.J.Reach.lists in
    subst (λ (ws : List ℕ). IsKept lists.handed lists.words ws (view_of all_parts [] ∷ [])) (sym c.requires.handed) (starts_kept lists.handed lists.words c.requires.count c.requires.bounded)
