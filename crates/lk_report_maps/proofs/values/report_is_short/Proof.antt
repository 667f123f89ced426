-- A walk: whoever has a link and a layout lent has what they tell of their numbers.
use mathlib.Core.Path.{refl}
use mathlib.Core.List.{[], ◌∷◌}
use mir.Syntax.{named}
use mir.Val.{vunit}
use base.Fml.{Fml, fsep, ftrue}
use base.Logic.{guard_i}
use contract.Lifetimes.{Lfts}
use contract.Monad.{fact, fact_use}
use denote.Exit.{yes}
use denote.Known.{Says, Says-both, Says-first, shr_known}
use denote.RattleType.{RattleType, owns}
use denote.Ref.{ShrRef, shr_Tells, shr_vals}
use denote.Signature.{named_lft, plain, types_at}
use denote.Steps.{heard}
use denote.Triple.Entry.{Vals, alive}
use denote.Triple.Walked.{Goes-none_ref, Stays, ends_at, says, stay_none_ref, walk_of}
use types.ByLocal.{alloc_all, free_all, look_at, pass_all, sets}
use types.Kit.{ !, done, feq_i, given, learn, move, qed, raw, split, suffices, use1, ‵, ◌$◌, ◌∵◌, ◌⊛◌}
use types.Logic.{sem}
use types.Run.{enter, of_opd, returns, unit_lit}
use Rattle.std.proofs.raw_atomic.Walks.{proved}
use Rattle.lk_layout.specs.contracts.layout.Layout as layout_row
use Rattle.lk_link.specs.WellFormed.{IsWellFormed}
use Rattle.lk_link.specs.contracts.link.LinkInput as link_row
use Rattle.lk_report_maps.proofs.LayoutFacts.{layout_tells, of_layout}
use Rattle.lk_report_maps.proofs.LinkFacts.{link_tells, of_link}
use Rattle.lk_report_maps.proofs.ShortLines.{report_short}
use Rattle.lk_report_maps.proofs.values.report_is_short.Code as code
use Rattle.lk_report_maps.proofs.values.report_is_short.Statement.{statement}
use Rattle.lk_report_maps.specs.contracts.values.report_is_short as f

abbrev layout_at : Lfts 3 → RattleType
layout_at κs = layout_row.the_row (named_lft 3 2 tt κs)

abbrev stayed : Stays f.ended.signature.params f.ended.kept
stayed = (stay_none_ref (0 ∷ []) tt (plain (λ _. link_row.the_row)) yes, (stay_none_ref (1 ∷ []) tt (plain layout_at) yes, tt))

pub report_is_short_spec : {M : Type 1} → statement M
report_is_short_spec 𝓤 𝓛 𝓜 𝓡 wired =
    let c = f.clauses 𝓛 𝓜.mem 𝓡.returns in
    let W = walk_of 𝓛 f.ended stayed c in
    proved 𝓛 f.ended stayed c 𝓜 𝓡 (Goes-none_ref 𝓛 3 (0 ∷ []) tt (plain (λ _. link_row.the_row)) yes, (Goes-none_ref 𝓛 3 (1 ∷ []) tt (plain layout_at) yes, tt))
    f.Key.name code.function (code.unfolded 𝓤 𝓛.H 𝓜 𝓡 wired)
    (λ κs. (shr_vals, (shr_vals, tt))) (λ κs. (shr_Tells (named 0) κs.0 link_row.the_row, (shr_Tells (named 1) κs.1.0 (layout_at κs), tt)))
    (λ κs qs bounds a n are.
    let link = a.0 in
    let layout = a.1.0 in
    let vss : Vals f.signature κs = (shr_vals link, (shr_vals layout, tt)) in
    let y : W.Ghost = ((κs, qs, bounds, a, vss), tt) in
    -- what the references own, and what this tells
    let passed : Fml = owns (types_at f.signature.params κs) a vss in
    let of_lent = of_layout (named_lft 3 2 tt κs) in
    let Told : Type 0 = of_link.Fact link.now × of_lent.Fact layout.now in
    let lent : Fml = (ShrRef (named 1) κs.1.0 (layout_at κs)).own_val layout (shr_vals layout) in
    let tells : Says passed Told
    = Says-both ((ShrRef (named 0) κs.0 link_row.the_row).own_val link (shr_vals link)) (fsep lent ftrue)
    ((shr_known link_row.the_row of_link (named 0) κs.0).owned link (shr_vals link))
    (Says-first lent ftrue ((shr_known (layout_at κs) of_lent (named 1) κs.1.0).owned layout (shr_vals layout))) in
    qed 𝓛 ((raw (alive 𝓛 f.signature κs qs) ⊛ ‵ passed) ∷ raw (fact 𝓤 (IsWellFormed link.now)) ∷ []) ∵
    move ! (1 ∷ 0 ∷ []) $ heard ! _ (λ good. split ! $ move ! (1 ∷ []) $
    use1 𝓛 (given Told (‵ passed)) (fact_use 𝓤 Told (tells.go _ 𝓤 𝓛) (guard_i 𝓤 Told (sem 𝓛 passed))) $ learn ! (λ told. move ! (1 ∷ 0 ∷ []) $
    enter ! _ _ _ _ _ $ alloc_all ! (λ l. pass_all ! refl ((tt, tt), ((tt, tt), tt)) $
    sets ! (of_opd ! (unit_lit !)) refl (tt, tt) $ returns ! (look_at ! 0 refl) $ free_all ! refl $
    suffices ! _ (ends_at 𝓛 f.ended stayed c y vunit tt (tt, (tt, tt)) (tt, (tt, tt))) $
    says ! (report_short link.now layout.now good (link_tells link.now told.0) (layout_tells (named_lft 3 2 tt κs) layout.now told.1)) $
    feq_i ! _ (vunit ∷ []) _ refl $ move ! (1 ∷ 2 ∷ 0 ∷ []) $ done !))))
