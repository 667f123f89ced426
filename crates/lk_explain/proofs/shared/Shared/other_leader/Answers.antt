use Rattle.std.proofs.Common.{◌≡◌, Some, sym, ap, ◌∙◌, subst}
use Rattle.lk_link.specs.declared.file.InputFile.{InputFile}
use Rattle.lk_link.specs.Files.{file_in}
use Rattle.lk_reach.specs.declared.units.Unit.TheVariants.{Sym}
use Rattle.lk_reach.specs.Units.{candidate_asks, follows}
use Rattle.lk_explain.specs.declared.shared.EdgeAt.{EdgeAt}
use Rattle.lk_explain.proofs.shared.Shared.other_leader.Goals as goal

pub returns-then-is_same : goal.returns-then-is_same
returns-then-is_same c s is =
    let link = c.args.link.now in
    let own = c.args.symbol in
    let first : EdgeAt = c.in_ok-first.first in
    let last : EdgeAt = c.in_ok-own.own in
    let one : first ≡ last = c.is_same.ensures c.if-is_same.true in
    let a = c.edge_at.ensures first c.in_ok-first.was in
    let b = c.edge_at-2.ensures last c.in_ok-own.was in
    let files : Some a.file ≡ Some b.file = sym a.there ∙ ap (λ (e : EdgeAt). file_in link.groups e.file) one ∙ b.there in
    let same : a.file ≡ b.file = cc in
    let leads : follows link (Sym c.from_u32-leader.result) ≡ follows link (Sym own)
    = a.asks ∙ ap (λ (f : InputFile). candidate_asks f.candidates first.output) same ∙ ap (λ (e : EdgeAt). candidate_asks b.file.candidates e.output) one ∙ sym b.asks in
    let is_leader : c.from_u32-leader.result ≡ s = cc in
    subst (λ n. follows link (Sym n) ≡ follows link (Sym own)) is_leader leads
