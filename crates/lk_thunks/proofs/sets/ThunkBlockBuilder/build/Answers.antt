use Rattle.std.proofs.Common.{List, ℕ, subst, sym, ◌∙◌}
use Rattle.lk_thunks.specs.Noting.{AreNoted}
use Rattle.lk_thunks.proofs.Noting.{set_made}
use Rattle.lk_thunks.proofs.sets.ThunkBlockBuilder.build.Goals as goal

pub returns : goal.returns
returns c = λ stamp test stamps given.
    c.from_vec.ensures
    ∙ set_made stamp test stamps c.self.inside.symbols.items c.in_ok-symbols.symbols.items (subst (λ (xs : List ℕ). AreNoted stamp test stamps xs) (sym c.self.view_is) given)
    c.in_ok-symbols.ensures.rising c.in_ok-symbols.ensures.kept
