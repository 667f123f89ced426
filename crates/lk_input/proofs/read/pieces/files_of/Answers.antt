use Rattle.std.proofs.Common.{◌≡◌, List, map, map-id, ◌∙◌, rules}
use Rattle.lk_link.specs.declared.file.InputFile.{InputFile}
use Rattle.lk_input.proofs.read.pieces.files_of.Goals as goal

pub returns : goal.returns
returns c =
    let files : c.in_ok-files.files.items ≡ map (λ (group : List InputFile). group) c.args.groups.items = search rules in
    c.from_vec.ensures ∙ files ∙ map-id c.args.groups.items
