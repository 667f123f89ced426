use Rattle.std.proofs.Common.{◌≡◌, ℕ, ◌<◌, List, [], ◌∷◌, ◌++◌, true, length, get_or, Some, sym, ap, ◌∙◌, arith}
use Rattle.std.specs.List.{slice_get}
use Rattle.std.proofs.lemmas.List.{get_or_default}
use Rattle.std.proofs.lemmas.Option.{get_or_from_slice_get}
use Rattle.lk_link.specs.declared.section.InputSection.{InputSection}
use Rattle.lk_link.specs.InputSlots.{is_merge}
use Rattle.lk_merge.specs.LinkInputTables.{CanGo}
use Rattle.lk_merge.specs.Pieces.{MergeInput}
use Rattle.lk_merge.proofs.Constants.{on_ok}
use Rattle.lk_merge.proofs.Gathering.{each_with}
use Rattle.lk_merge.proofs.link_inputs.add_input.Goals as goal

pub returns-clause-each : goal.returns-clause-each
returns-clause-each c =
    let x : InputSection = c.args.input.now in
    let outputs : List (List MergeInput) = c.args.outputs.now.items in
    let merged : is_merge x.slot ≡ true = sym c.is_merge.ensures ∙ c.if-not-is_merge.false in
    let go : CanGo c.args.sections.now outputs c.args.number x = c.requires merged in
    let t : ℕ = get_or c.args.sections.now c.as_usize.result 0 in
    let at : t ≡ go.output = ap (λ n. get_or c.args.sections.now n 0) c.as_usize.ensures ∙ get_or_from_slice_get c.args.sections.now x.part go.output 0 go.goes in
    let there : slice_get c.args.sections.now x.part ≡ Some t = go.goes ∙ ap (λ (n : ℕ). Some n) (sym at) in
    let within : t < length outputs = omega (arith, at, go.there) in
    let old : c.index_mut-inputs.result.now ≡ get_or outputs t [] = c.index_mut-inputs.ensures.value ∙ get_or_default outputs t c.index_mut-inputs.result.now [] within in
    let bytes : c.as_slice.result.now ≡ x.bytes = c.as_slice.ensures in
    let one : List ℕ → List MergeInput = λ b. record { number = c.args.number; bytes = b; strings = x.strings } ∷ [] in
    on_ok c.push.result _ _ (λ is s below.
    each_with c.args.sections.now outputs t c.args.number x c.push.new.self merged there within
    (is ∙ (λ i. old i ++ one (bytes i))) s) c.push.ensures.ok
