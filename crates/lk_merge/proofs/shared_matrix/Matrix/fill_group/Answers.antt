use Rattle.std.proofs.Common.{◌≡◌, ◌<◌, ◌∙◌, List, Some, get_or, sym, ap, subst}
use Rattle.std.specs.List.{slice_get}
use Rattle.std.proofs.lemmas.Option.{slice_get-get_or}
use Rattle.lk_merge.specs.declared.groups.SectionGroup.{SectionGroup}
use Rattle.lk_merge.specs.Between.{between}
use Rattle.lk_merge.specs.GroupStrings.{HasBrought}
use Rattle.lk_merge.specs.Inputs.{located, padded_total}
use Rattle.lk_merge.proofs.GroupFills.{group_begins, starts_told, strings_brought}
use Rattle.lk_merge.proofs.shared_matrix.Matrix.fill_group.Goals as goal

pub strings_of_group-requires-clause-within : goal.strings_of_group-requires-clause-within
strings_of_group-requires-clause-within g c =
    let work = g.J.Brings.work in
    let gs : List SectionGroup = c.self.inside.groups.now in
    let k = c.args.group in
    let x : SectionGroup = get_or gs k c.index-self-group.result in
    let there : slice_get work.groups k ≡ Some x = ap (λ l. slice_get l k) (sym c.self.invariant.2) ∙ slice_get-get_or gs k c.index-self-group.result c.if-group-self.false in
    subst (λ xs. x.start < padded_total xs) (sym c.self.invariant.1) (group_begins work k x there c.self.invariant.0)

pub tell_starts-requires : goal.tell_starts-requires
tell_starts-requires g c =
    let work = g.J.Brings.work in
    let gs : List SectionGroup = c.self.inside.groups.now in
    let k = c.args.group in
    let x : SectionGroup = get_or gs k c.index-self-group.result in
    let there : slice_get work.groups k ≡ Some x = ap (λ l. slice_get l k) (sym c.self.invariant.2) ∙ slice_get-get_or gs k c.index-self-group.result c.if-group-self.false in
    starts_told work k x there c.in-Ok.brought (subst (λ xs. HasBrought (between x.start x.end (located xs)) c.in-Ok.brought) c.self.invariant.1 c.in-Ok.ensures)

pub fill_cells-requires-clause-strings : goal.fill_cells-requires-clause-strings
fill_cells-requires-clause-strings g c =
    let work = g.J.Brings.work in
    let gs : List SectionGroup = c.self.inside.groups.now in
    let k = c.args.group in
    let x : SectionGroup = get_or gs k c.index-self-group.result in
    let there : slice_get work.groups k ≡ Some x = ap (λ l. slice_get l k) (sym c.self.invariant.2) ∙ slice_get-get_or gs k c.index-self-group.result c.if-group-self.false in
    strings_brought work k x there c.in-Ok.brought (subst (λ xs. HasBrought (between x.start x.end (located xs)) c.in-Ok.brought) c.self.invariant.1 c.in-Ok.ensures)
