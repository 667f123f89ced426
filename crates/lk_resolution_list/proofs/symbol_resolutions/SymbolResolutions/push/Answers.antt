use Rattle.std.proofs.Common.{◌++◌, ◌∷◌, [], List, Option, map, ap, ◌∙◌}
use Rattle.lk_link.specs.declared.resolution.Resolution.{Resolution}
use Rattle.lk_resolution_list.specs.Kept.{told_of}
use Rattle.lk_resolution_list.proofs.Keeping.{one_more_told}
use Rattle.lk_resolution_list.proofs.symbol_resolutions.SymbolResolutions.push.Goals as goal

pub returns : goal.returns
returns c =
    let new : List Resolution = c.keep.new.wholes.items in
    ap (map (told_of new)) c.in_ok-push.ensures.items
    ∙ one_more_told c.self.inside.wholes.items new c.self.inside.kept.items c.in_ok-kept.kept c.args.resolution c.keep.ensures.stays c.self.invariant c.in_ok-kept.ensures.told
    ∙ ap (λ (os : List (Option Resolution)). os ++ c.args.resolution ∷ []) c.self.view_is
