use Rattle.std.proofs.Common.{◌++◌, ℕ, List, take, length, ap, ◌∙◌}
use Rattle.std.specs.List.{flat_map}
use Rattle.std.proofs.lemmas.List.{take-append-drop}
use Rattle.std.proofs.Math.Seq.{take-append_seam}
use Rattle.lk_link.specs.Walks.{file_of}
use Rattle.lk_tables.specs.declared.commons.Common.{Common}
use Rattle.lk_sizes.specs.Owners.{commons_of}
use Rattle.lk_sizes.specs.Tables.{reach_from}
use Rattle.lk_sizes.proofs.CommonOnes.{left_split}
use Rattle.lk_sizes.proofs.commons.split_commons.Goals as goal

pub returns-clause-own : goal.returns-clause-own
returns-clause-own c = λ live h.
    let link = c.args.link.now in
    let f = file_of c.args.file in
    let left : List Common = c.args.left.now in
    let own : List Common = commons_of link live f in
    c.split_at_symbol.ensures.front
    ∙ ap (λ (n : ℕ). take (reach_from n left) left) c.symbols_end.ensures
    ∙ ap (λ (n : ℕ). take n left) (left_split link live f left h)
    ∙ ap (take (length own)) h.commons
    ∙ take-append_seam own (flat_map (commons_of link live) h.rest)

pub returns-clause-all : goal.returns-clause-all
returns-clause-all c =
    let left : List Common = c.args.left.now in
    let n : ℕ = reach_from c.symbols_end.result left in
    ap (λ (xs : List Common). xs ++ c.split_at_symbol.result.1.now) c.split_at_symbol.ensures.front
    ∙ ap (λ (xs : List Common). take n left ++ xs) c.split_at_symbol.ensures.behind
    ∙ take-append-drop n left
