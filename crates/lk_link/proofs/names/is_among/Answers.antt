use Rattle.std.proofs.Common.{rules, ◌∙◌}
use Rattle.std.specs.Cmp.Lexicographic.{slice_cmp}
use Rattle.std.specs.Ordering.{nat_cmp}
use Rattle.std.proofs.lemmas.Fn.{always_returns_same}
use Rattle.lk_link.specs.Names.{name_at}
use Rattle.lk_link.proofs.NameLemmas.{search_answers}
use Rattle.lk_link.proofs.names.is_among.Goals as goal

pub returns : goal.returns
returns c =
    c.is_ok.ensures.value
    ∙ search_answers c.args.names.now c.args.order.now c.args.text.now c.binary_search_by.result c.requires c.binary_search_by.ensures.bound
    (c.binary_search_by.ensures.position (λ place. slice_cmp nat_cmp (name_at c.args.names.now place) c.args.text.now) (always_returns_same _ _ _ (λ a r q k. search rules)))
