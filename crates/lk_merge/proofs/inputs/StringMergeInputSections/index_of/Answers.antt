use Rattle.std.proofs.Common.{◌≡◌, ◌≢◌, ℕ, List, Some, map, option_map, sym, ap, ◌∙◌, subst, arith}
use Rattle.std.specs.List.{slice_get}
use Rattle.std.specs.Option.{MatchOption}
use Rattle.std.proofs.lemmas.Option.{slice_get-get_or, slice_get-map}
use Rattle.lk_merge.specs.declared.inputs.StringMergeInputSection.{StringMergeInputSection}
use Rattle.lk_merge.specs.Inputs.{AreInputs, input_of}
use Rattle.lk_merge.specs.Pieces.{MergeInput}
use Rattle.lk_merge.proofs.LocatedLemmas.{slice_within}
use Rattle.lk_merge.proofs.Numbers.{nowhere}
use Rattle.lk_merge.proofs.SymbolPlaces.{some_one}
use Rattle.lk_merge.proofs.inputs.StringMergeInputSections.index_of.Goals as goal

pub returns-then-found-number : goal.returns-then-found-number
returns-then-found-number c =
    let ss : List StringMergeInputSection = c.as_slice-sections.result.now in
    let found : StringMergeInputSection = c.in_ok-found.found.now in
    let there : slice_get ss c.loop-low.low ≡ Some found
    = slice_get-get_or ss c.loop-low.low found c.in_ok-found.ensures.lookup.3.0 ∙ ap (λ (s : StringMergeInputSection). Some s) (sym c.in_ok-found.ensures.lookup.1) in (
      input_of found,
      ap (λ (xs : List MergeInput). slice_get xs c.loop-low.low) (sym c.self.view_is)
          ∙ ap (λ (l : List StringMergeInputSection). slice_get (map input_of l) c.loop-low.low) (sym c.as_slice-sections.ensures.value)
          ∙ slice_get-map input_of ss c.loop-low.low ∙ ap (option_map input_of) there,
      c.if-found-number.true,
    )

pub returns-else-found-number : goal.returns-else-found-number
returns-else-found-number c k x at is =
    let ss : List StringMergeInputSection = c.as_slice-sections.result.now in
    let found : StringMergeInputSection = c.in_ok-found.found.now in
    let h : AreInputs c.self.inside.total ss = subst (λ (l : List StringMergeInputSection). AreInputs c.self.inside.total l) (sym c.as_slice-sections.ensures.value) c.self.invariant in
    let there : slice_get ss c.loop-low.low ≡ Some found
    = slice_get-get_or ss c.loop-low.low found c.in_ok-found.ensures.lookup.3.0 ∙ ap (λ (s : StringMergeInputSection). Some s) (sym c.in_ok-found.ensures.lookup.1) in
    let inside : slice_get (map input_of ss) k ≡ Some x
    = ap (λ (l : List StringMergeInputSection). slice_get (map input_of l) k) c.as_slice-sections.ensures.value ∙ ap (λ (xs : List MergeInput). slice_get xs k) c.self.view_is ∙ at in
    nowhere c.self.inside.total ss h c.args.number c.loop-low.low c.loop-low.high k x c.loop-low.invariant c.loop-low-test.false inside
    (λ e e_at same. c.if-found-number.false (ap (λ (s : StringMergeInputSection). s.number) (some_one found e (sym there ∙ e_at)) ∙ same)) is

pub returns-in_err-found : goal.returns-in_err-found
returns-in_err-found c =
    let ss : List StringMergeInputSection = c.as_slice-sections.result.now in
    let h : AreInputs c.self.inside.total ss = subst (λ (l : List StringMergeInputSection). AreInputs c.self.inside.total l) (sym c.as_slice-sections.ensures.value) c.self.invariant in
    let none : (k : ℕ) (x : MergeInput) → slice_get c.args.self.now k ≡ Some x → x.number ≢ c.args.number
    = λ k x at.
    let inside : slice_get (map input_of ss) k ≡ Some x
    = ap (λ (l : List StringMergeInputSection). slice_get (map input_of l) k) c.as_slice-sections.ensures.value ∙ ap (λ (xs : List MergeInput). slice_get xs k) c.self.view_is ∙ at in
    nowhere c.self.inside.total ss h c.args.number c.loop-low.low c.loop-low.high k x c.loop-low.invariant c.loop-low-test.false inside
    (λ e e_at same. absurd (omega (arith, slice_within ss c.loop-low.low e e_at, c.in_err-found.ensures.lookup.3))) in
    subst (λ o. MatchOption o ((k : ℕ) (x : MergeInput) → slice_get c.args.self.now k ≡ Some x → x.number ≢ c.args.number)
    (λ k. (x : MergeInput) × (slice_get c.args.self.now k ≡ Some x) × (x.number ≡ c.args.number))) (sym c.from_residual.ensures) none
