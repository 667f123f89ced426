use Rattle.std.proofs.Common.{◌≡◌, length, ap, sym, ◌∙◌, rules}
use Rattle.lk_deltas.specs.LinkDeletions.{Deletions}
use Rattle.lk_relax.specs.Positions.{symbol_positions}
use Rattle.lk_relax.proofs.Beginning.{first_sizes}
use Rattle.lk_relax.proofs.relaxation.begin.Goals as goal

pub returns-then-is_empty : goal.returns-then-is_empty
returns-then-is_empty c = λ filling h.
    let none : length c.in_ok-scan.scan.items ≡ 0 = search rules in
    (c.in_ok-deltas.ensures, ap length (sym c.in_ok-scan.ensures) ∙ none)

pub compute_input_section_positions-requires-clause-sizes : goal.compute_input_section_positions-requires-clause-sizes
compute_input_section_positions-requires-clause-sizes c =
    first_sizes c.nothing_deleted_leaves_all.ensures c.args.link.now c.args.owners.now c.in_ok-deltas.deltas.items c.deref.result.now c.deref.ensures.value c.in_ok-deltas.ensures c.requires.own

pub returns : goal.returns
returns c = λ filling h. record {
  deltas = c.in_ok-deltas.ensures;
  scan = c.in_ok-scan.ensures;
  sections = c.in_ok-sections.ensures.sections filling h;
  symbols = c.in_ok-sections.ensures.symbols ∙ ap (λ (ds : Deletions). symbol_positions c.args.link.now.groups ds c.in_ok-sections.sections.items) c.deref.ensures.value;
}
