use Rattle.std.proofs.Common.{◌≡◌, IfOk, Option, None, Some, Result, Ok, Err, length, refl, ap, sym, subst, ◌∙◌}
use Rattle.std.specs.Result.{IsErrAnd}
use Rattle.lk_link.specs.Files.{first_some}
use Rattle.lk_link.specs.Marks.{is_marked}
use Rattle.lk_link.specs.Parts.{all_parts}
use Rattle.lk_link.specs.TableSizes.{TableSizes}
use Rattle.lk_link.proofs.Numbers.{length-made}
use Rattle.lk_tables.specs.declared.header_info.HeaderInfo.{HeaderInfo}
use Rattle.lk_sizes.specs.declared.error.SizeError.{SizeError}
use Rattle.lk_sizes.specs.declared.error.SizeError.TheVariants.{AddressOverflow, NoMemory}
use Rattle.lk_sizes.specs.Contents.{contents_of, size_refusal, sum_refusal}
use Rattle.lk_sizes.specs.Emitted.{is_emitted}
use Rattle.lk_sizes.specs.Header.{header_info}
use Rattle.lk_sizes.specs.Owners.{Filling, content_of, sized_filling, with_thunks, without_thunks}
use Rattle.lk_sizes.specs.OwnersRecord.{OwnersRecord}
use Rattle.lk_sizes.specs.Sizing.{GivesAdded, GivesOwners}
use Rattle.lk_sizes.proofs.part_owners.owners.Goals as goal

-- what the first sum refuses is refused
earlier : {X : Type 0} (o p : Option X) (x : X) → first_some o o ≡ Some x → first_some o p ≡ Some x
unfolding first_some
earlier None p x h = absurd (cc)
earlier (Some y) p x h = h

-- where it refuses nothing, the second one speaks
later : {X : Type 0} (o p : Option X) → first_some o o ≡ None → first_some o p ≡ p
unfolding first_some
later None p h = refl
later (Some y) p h = absurd (cc)

refused : (filling : Filling) (e : SizeError) → GivesOwners (without_thunks filling) (Err e) → GivesOwners filling (Err e)
refused filling (AddressOverflow place) h = earlier (sum_refusal (without_thunks filling)) (sum_refusal filling) (AddressOverflow place) h
refused filling NoMemory h = tt

given : (filling : Filling) (answer : Result OwnersRecord SizeError) → size_refusal (without_thunks filling) ≡ None → GivesAdded filling answer → GivesOwners filling answer
given filling (Ok owners) none h = (later (sum_refusal (without_thunks filling)) (sum_refusal filling) none ∙ h.0, h.1)
given filling (Err (AddressOverflow place)) none h = later (sum_refusal (without_thunks filling)) (sum_refusal filling) none ∙ h
given filling (Err NoMemory) none h = tt

-- the exit of the `?`
exit : (filling : Filling) (P : SizeError → Type 0) (answer : Result OwnersRecord SizeError) → IsErrAnd answer P → ((e : SizeError) → P e → GivesOwners filling (Err e))
    → GivesOwners filling answer
exit filling P (Ok owners) h f = absurd h
exit filling P (Err e) h f = f e h

pub returns-in_err-owners-clause-owners : goal.returns-in_err-owners-clause-owners
returns-in_err-owners-clause-owners g c =
    let tables : TableSizes = g.P.Platform.table_sizes c.args.platform.now in
    let filling : Filling = with_thunks (sized_filling (content_of c.args.link.now tables c.args.live.now c.args.merged_lens.now) c.args.sizes.now) c.args.thunk_owners.now in
    exit filling _ c.from_residual-in_err-owners.result c.from_residual-in_err-owners.ensures.1
    (λ e is. subst (λ (x : SizeError). GivesOwners filling (Err x)) (sym is) (refused filling c.in_err-owners.field-0.0 c.in_err-owners.ensures.owners))

pub add_thunks-requires-clause-count : goal.add_thunks-requires-clause-count
add_thunks-requires-clause-count g c =
    let link = c.args.link.now in
    let tables : TableSizes = g.P.Platform.table_sizes c.args.platform.now in
    let filling : Filling = sized_filling (content_of link tables c.args.live.now c.args.merged_lens.now) c.args.sizes.now in
    ap length (c.in_ok-owners.ensures.owners).1.contents ∙ length-made (contents_of filling) (all_parts link.plan.sections) 0

pub returns-clause-owners : goal.returns-clause-owners
returns-clause-owners g c =
    let tables : TableSizes = g.P.Platform.table_sizes c.args.platform.now in
    let sized : Filling = sized_filling (content_of c.args.link.now tables c.args.live.now c.args.merged_lens.now) c.args.sizes.now in
    let filling : Filling = with_thunks sized c.args.thunk_owners.now in
    given filling c.add_thunks.result c.in_ok-owners.ensures.owners.0 (c.add_thunks.ensures sized c.in_ok-owners.ensures.owners.1)

-- with thunks, the same sections are emitted
same_marks : (filling : Filling) (found : OwnersRecord) (answer : Result OwnersRecord SizeError) → is_marked found.header.emitted ≡ is_emitted filling.content
    → found.header ≡ header_info filling.content → GivesAdded filling answer → IfOk answer (λ owners. is_marked owners.header.emitted ≡ is_emitted filling.content)
same_marks filling found (Err e) marks was h = tt
same_marks filling found (Ok owners) marks was h =
    ap (λ (info : HeaderInfo). is_marked info.emitted) (h.1.header ∙ sym was) ∙ marks

pub returns-clause-marks : goal.returns-clause-marks
returns-clause-marks g c =
    let tables : TableSizes = g.P.Platform.table_sizes c.args.platform.now in
    let sized : Filling = sized_filling (content_of c.args.link.now tables c.args.live.now c.args.merged_lens.now) c.args.sizes.now in
    same_marks (with_thunks sized c.args.thunk_owners.now) c.in_ok-owners.owners c.add_thunks.result c.in_ok-owners.ensures.marks
    c.in_ok-owners.ensures.owners.1.header (c.add_thunks.ensures sized c.in_ok-owners.ensures.owners.1)
