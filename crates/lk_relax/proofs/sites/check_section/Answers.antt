use Rattle.std.proofs.Common.{ℕ, List, ap, is_some, sym, ◌∙◌}
use Rattle.std.specs.Prelude.{option_and_then}
use Rattle.std.specs.Option.{option_copied}
use Rattle.lk_link.specs.Inputs.{input_number}
use Rattle.lk_link.proofs.InputLemmas.{inputs_follow}
use Rattle.lk_deltas.specs.DeltaMaps.{deltas_at}
use Rattle.lk_relax.specs.ScanWords.{pass_state_of}
use Rattle.lk_relax.proofs.PastSites.{whole_section}
use Rattle.lk_relax.proofs.sites.check_section.Goals as goal

pub check_candidates-requires-clause-can : goal.check_candidates-requires-clause-can
check_candidates-requires-clause-can c =
    let groups = c.args.by.link.now.groups in
    let id = c.args.file.id in
    let entry = ap (option_and_then (λ (es : List (ℕ × List (ℕ × ℕ))). deltas_at es c.args.index)) c.requires.map ∙ sym c.get.ensures ∙ ap option_copied c.in-Some.is in
    c.requires.scanned (input_number groups id c.args.index) (record { file = id; index = c.args.index; section = c.args.section.now })
    (inputs_follow.at groups id c.args.file.file.now c.args.index c.args.section.now c.requires.there c.requires.section)
    (ap is_some entry)

pub returns-in-None : goal.returns-in-None
returns-in-None c =
    let none = ap (option_and_then (λ (es : List (ℕ × List (ℕ × ℕ))). deltas_at es c.args.index)) c.requires.map ∙ sym c.get.ensures ∙ ap option_copied c.in-None.is in
    whole_section (pass_state_of c.args.by) c.args.file.id (c.args.index, c.args.section.now) none
