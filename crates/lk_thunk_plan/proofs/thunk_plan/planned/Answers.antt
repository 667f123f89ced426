use Rattle.std.proofs.Common.{◌≡◌, ℕ, ◌+◌, ◌<◌, ◌^◌, ◌-◌, All, Bool, List, length, map, min, None, sum_by, refl, sym, ap, subst, ◌∙◌, arith}
use Rattle.std.specs.List.{enumerate_from}
use Rattle.std.proofs.lemmas.Option.{slice_get_within}
use Rattle.lk_link.specs.declared.ids.FileId.{FileId}
use Rattle.lk_link.specs.declared.link.LinkInput.{LinkInput}
use Rattle.lk_link.specs.Parts.{all_parts}
use Rattle.lk_link.specs.TableSizes.{TableSizes}
use Rattle.lk_link.specs.WellFormed.{IsWellFormed}
use Rattle.lk_link.proofs.GoodPartFields.{good_part_fields}
use Rattle.lk_link.proofs.Numbers.{length-made}
use Rattle.lk_live.specs.declared.live.Live.{Live}
use Rattle.lk_sizes.specs.declared.owners.PartContents.{PartContents}
use Rattle.lk_sizes.specs.Attributes.{all_section_attributes}
use Rattle.lk_sizes.specs.Contents.{contents_of, sum_refusal}
use Rattle.lk_sizes.specs.Owners.{Filling, content_of, plain_filling}
use Rattle.lk_thunks.specs.declared.arch.ThunkConfig.{ThunkConfig}
use Rattle.lk_thunks.specs.declared.sets.ThunkBlock.{ThunkBlock}
use Rattle.lk_thunks.specs.Blocks.{assigned}
use Rattle.lk_thunks.specs.Configs.{IsLawfulConfig}
use Rattle.lk_thunks.specs.Ranges.{planned_objects, total_primary_bytes}
use Rattle.lk_thunks.specs.ThunkSets.{thunk_sets}
use Rattle.lk_thunk_plan.specs.Planning.{other_code_by}
use Rattle.lk_thunk_plan.specs.ThunkPlans.{code_before, owners_among}
use Rattle.lk_thunk_plan.proofs.CodeFits.{code_fits}
use Rattle.lk_thunk_plan.proofs.OtherCode.{code_of_contents}
use Rattle.lk_thunk_plan.proofs.PlannedSets.{sets_few}
use Rattle.lk_thunk_plan.proofs.thunk_plan.planned.Goals as goal

pub code_before-requires-clause-count : goal.code_before-requires-clause-count
code_before-requires-clause-count c =
    let link : LinkInput = c.args.link.now in
    let filling : Filling = plain_filling (content_of link c.requires.filled.0 c.args.live.now c.requires.filled.1) in
    ap (λ (cs : List PartContents). length cs) c.requires.filled.2 ∙ length-made (contents_of filling) (all_parts link.plan.sections) 0

-- where the first object stands is told exactly
abbrev Start : LinkInput → Live → TableSizes → List ℕ → ℕ → Type 0
Start link live sizes lens start =
    let filling : Filling = plain_filling (content_of link sizes live lens) in
    (start ≡ code_before filling) × (start + total_primary_bytes link live < 2 ^ 64)

start_is : (link : LinkInput) (live : Live) (config : ThunkConfig) (sizes : TableSizes) (lens : List ℕ) (start : ℕ) → IsWellFormed link → IsLawfulConfig link config
    → sum_refusal (plain_filling (content_of link sizes live lens)) ≡ None → start ≡ min (code_before (plain_filling (content_of link sizes live lens))) (2 ^ 64 - 1)
    → Start link live sizes lens start
start_is link live config sizes lens start good lawful none is =
    let p : ℕ = config.primary_function_part_id in
    let free = (good_part_fields link good).primary p lawful.primary in
    let fits = code_fits (content_of link sizes live lens) p good lawful.primary (slice_get_within (all_parts link.plan.sections) p free.0.part free.0.there) none in
    (omega (arith, is, fits), omega (arith, is, fits))

pub build-requires-clause-room : goal.build-requires-clause-room
build-requires-clause-room c =
    let from = c.requires.filled in
    (start_is c.args.link.now c.args.live.now c.args.making.config from.0 from.1 c.in_ok-start.start c.requires.good c.requires.lawful from.3 (c.in_ok-start.ensures from.0 from.1 from.2)).1

pub owners_among-requires : goal.owners_among-requires
owners_among-requires c = record {
  small = c.requires.lawful.small;
  few = subst (All (λ (set : List ℕ). length set < 2 ^ 32))
      (sym (ap (map (λ (b : ThunkBlock). b.symbols)) c.deref.ensures.value ∙ c.in_ok-blocks.ensures.sets))
      (sets_few c.args.link.now c.args.live.now c.args.making.builder c.in_ok-start.start c.requires.good);
}

pub returns : goal.returns
returns c sizes lens is =
    let link : LinkInput = c.args.link.now in
    let live : Live = c.args.live.now in
    let from = c.requires.filled in
    let filling : Filling = plain_filling (content_of link sizes live lens) in
    let other : Filling = plain_filling (content_of link from.0 live from.1) in
    let start = (start_is link live c.args.making.config from.0 from.1 c.in_ok-start.start c.requires.good c.requires.lawful from.3 (c.in_ok-start.ensures from.0 from.1 from.2)).0 in
    let code : List PartContents → ℕ = λ cs. sum_by (other_code_by link (all_section_attributes link live)) (enumerate_from 0 cs) in
    let begins : c.in_ok-start.start ≡ code_before filling = start ∙ sym (code_of_contents other) ∙ ap code (sym from.2 ∙ is) ∙ code_of_contents filling in
    let symbols : List ThunkBlock → List (List ℕ) = map (λ (b : ThunkBlock). b.symbols) in
    record {
      config = refl;
      sets = ap symbols c.from_vec.ensures ∙ c.in_ok-blocks.ensures.sets ∙ ap (thunk_sets link live c.args.making.builder) begins;
      users = c.from_vec-2.ensures ∙ c.in_ok-blocks.ensures.users ∙ ap (λ n. assigned c.args.making.builder (planned_objects link live n)) begins;
      owners = c.from_vec-3.ensures ∙ c.in_ok-owners.ensures
          ∙ ap (λ (bs : List ThunkBlock). owners_among c.args.making.config.thunk_size (symbols bs) c.deref-2.result.now) (c.deref.ensures.value ∙ sym c.from_vec.ensures)
          ∙ ap (λ (us : List (FileId × ℕ × Bool)). owners_among c.args.making.config.thunk_size (symbols c.from_vec.result) us) (c.deref-2.ensures.value ∙ sym c.from_vec-2.ensures);
    }
