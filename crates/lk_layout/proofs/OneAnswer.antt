-- Every link has a defined answer, and it is one.
use Rattle.std.proofs.Common.{◌≡◌, Option, Some, None, Result, Ok, Err, refl, sym, subst, ◌∙◌}
use Rattle.std.specs.Prelude.{option_map}
use Rattle.lk_check.specs.FirstFault.{first_fault, WellFormedExactlyUnfaulted}
use Rattle.lk_live.specs.declared.live.Live.{Live}
use Rattle.lk_live.specs.Laws.{LiveExists, LiveIsOne}
use Rattle.lk_live.specs.Reach.{AreLive}
use Rattle.lk_link.specs.declared.link.LinkInput.{LinkInput}
use Rattle.lk_layout.specs.Machines.{Machine}
use Rattle.lk_link.specs.WellFormed.{IsWellFormed}
use Rattle.lk_relax.specs.Stages.{RelaxedExists, RelaxedIsOne}
use Rattle.lk_layout.specs.declared.error.LayoutError.{LayoutError}
use Rattle.lk_layout.specs.LayoutRecord.{LayoutRecord}
use Rattle.lk_layout.specs.Defined.{IsMadeAnswer, Unless, layout_of}
use Rattle.lk_layout.specs.Made.{Made, made_of, relaxing_for}
use Rattle.lk_layout.specs.Errors.{fault_error}
use Rattle.lk_layout.specs.Merging.{merging_refusal}
use Rattle.lk_layout.specs.Redirects.{redirects_refusal}
use Rattle.lk_layout.specs.Laws.{DefinedAnswerExists, DefinedAnswerIsOne}
use Rattle.lk_layout.proofs.Refusals.{IsCheckedAnswer, IsLiveAnswer, IsMergedAnswer, IsPlacedAnswer, IsSizedAnswer, IsSpannedAnswer, branch_refusal, fault_refusal, joining_refusal, offsets_refusal, segment_refusal, sites_refusal, sizes_refusal, unmet_refusal, walk_refusal}

-- what isn't refused isn't there
pub none_of : {X : Type 0} (f : X → LayoutError) (o : Option X) → option_map f o ≡ None → o ≡ None
none_of f None h = refl
none_of f (Some x) h = absurd (cc)

-- a link that isn't refused for a fault is well formed
pub unrefused : WellFormedExactlyUnfaulted → (link : LinkInput) → fault_refusal link ≡ None → IsWellFormed link
unrefused exactly link h = (exactly link).1 (none_of fault_error (first_fault link) h)

-- ---- there is one

-- what is refused has an answer, and so has all else, if what comes behind has one
unless_exists : (refusal : Option LayoutError) (P : Result LayoutRecord LayoutError → Type 0) → (refusal ≡ None → (answer : Result LayoutRecord LayoutError) × P answer)
    → (answer : Result LayoutRecord LayoutError) × Unless refusal answer (P answer)
unless_exists None P rest = rest refl
unless_exists (Some e) P rest = (Err e, refl)

placed_exists : (made : Made) → (answer : Result LayoutRecord LayoutError) × IsPlacedAnswer made answer
placed_exists made =
    unless_exists (joining_refusal made) (λ a. Unless (segment_refusal made) a (IsSpannedAnswer made a)) (λ fit.
    unless_exists (segment_refusal made) (IsSpannedAnswer made) (λ none.
    unless_exists (offsets_refusal made) (λ a. Unless (redirects_refusal made) a (Unless (branch_refusal made) a (Unless (sites_refusal made) a (a ≡ Ok (layout_of made))))) (λ inside.
    unless_exists (redirects_refusal made) (λ a. Unless (branch_refusal made) a (Unless (sites_refusal made) a (a ≡ Ok (layout_of made)))) (λ redirected.
    unless_exists (branch_refusal made) (λ a. Unless (sites_refusal made) a (a ≡ Ok (layout_of made))) (λ reach.
    unless_exists (sites_refusal made) (λ a. a ≡ Ok (layout_of made)) (λ near. (Ok (layout_of made), refl)))))))

sized_exists : RelaxedExists → (machine : Machine) (link : LinkInput) (live : Live) → IsWellFormed link
    → (answer : Result LayoutRecord LayoutError) × IsSizedAnswer machine link live answer
sized_exists relaxed machine link live good =
    let end = relaxed (relaxing_for machine link live) good in
    let made : Made = made_of machine link live end.0 in
    let rest = unless_exists (walk_refusal made) (IsPlacedAnswer made) (λ none. placed_exists made) in
    (rest.0, (end.0, end.1, rest.1))

merged_exists : LiveExists → RelaxedExists → (machine : Machine) (link : LinkInput) → IsWellFormed link → (answer : Result LayoutRecord LayoutError) × IsMergedAnswer machine link answer
merged_exists live relaxed machine link good =
    unless_exists (unmet_refusal link) (λ a. (l : Live) × AreLive link l × IsLiveAnswer machine link l a) (λ none.
    let l = live link good in
    let rest = unless_exists (sizes_refusal machine link l.0) (IsSizedAnswer machine link l.0) (λ none. sized_exists relaxed machine link l.0 good) in
    (rest.0, (l.0, l.1, rest.1)))

checked_exists : LiveExists → RelaxedExists → (machine : Machine) (link : LinkInput) → IsWellFormed link → (answer : Result LayoutRecord LayoutError) × IsCheckedAnswer machine link answer
checked_exists live relaxed machine link good =
    unless_exists (merging_refusal link) (IsMergedAnswer machine link) (λ none. merged_exists live relaxed machine link good)

pub answer_exists : WellFormedExactlyUnfaulted → LiveExists → RelaxedExists → DefinedAnswerExists
answer_exists exactly live relaxed machine link =
    unless_exists (fault_refusal link) (IsCheckedAnswer machine link) (λ none.
    checked_exists live relaxed machine link (unrefused exactly link none))

-- ---- and no other

-- two answers that a refusal comes before are one, if they are one where it doesn't come
unless_one : (refusal : Option LayoutError) (a b : Result LayoutRecord LayoutError) (P Q : Type 0) → Unless refusal a P → Unless refusal b Q → (refusal ≡ None → P → Q → a ≡ b) → a ≡ b
unless_one None a b P Q h g rest = rest refl h g
unless_one (Some e) a b P Q h g rest = h ∙ sym g

placed_one : (made : Made) (a b : Result LayoutRecord LayoutError) → IsPlacedAnswer made a → IsPlacedAnswer made b → a ≡ b
placed_one made a b h g =
    unless_one (joining_refusal made) a b _ _ h g (λ fit s t.
    unless_one (segment_refusal made) a b _ _ s t (λ none x y.
    unless_one (offsets_refusal made) a b _ _ x y (λ inside m n.
    unless_one (redirects_refusal made) a b _ _ m n (λ redirected q r.
    unless_one (branch_refusal made) a b _ _ q r (λ reach u v.
    unless_one (sites_refusal made) a b _ _ u v (λ near e f. e ∙ sym f))))))

sized_one : RelaxedIsOne → (machine : Machine) (link : LinkInput) (live : Live) (a b : Result LayoutRecord LayoutError) → IsWellFormed link
    → IsSizedAnswer machine link live a → IsSizedAnswer machine link live b → a ≡ b
sized_one relaxed machine link live a b good h g =
    let one : h.0 ≡ g.0 = relaxed (relaxing_for machine link live) h.0 g.0 good h.1 g.1 in
    let made : Made = made_of machine link live g.0 in
    let there : IsMadeAnswer made a = subst (λ stage. IsMadeAnswer (made_of machine link live stage) a) one h.2 in
    unless_one (walk_refusal made) a b _ _ there g.2 (λ none x y. placed_one made a b x y)

merged_one : LiveIsOne → RelaxedIsOne → (machine : Machine) (link : LinkInput) (a b : Result LayoutRecord LayoutError) → IsWellFormed link
    → IsMergedAnswer machine link a → IsMergedAnswer machine link b → a ≡ b
merged_one live relaxed machine link a b good h g =
    unless_one (unmet_refusal link) a b _ _ h g (λ met x y.
    let one : x.0 ≡ y.0 = live link x.0 y.0 x.1 y.1 in
    let there : IsLiveAnswer machine link y.0 a = subst (λ l. IsLiveAnswer machine link l a) one x.2 in
    unless_one (sizes_refusal machine link y.0) a b _ _ there y.2 (λ none u v. sized_one relaxed machine link y.0 a b good u v))

checked_one : LiveIsOne → RelaxedIsOne → (machine : Machine) (link : LinkInput) (a b : Result LayoutRecord LayoutError) → IsWellFormed link
    → IsCheckedAnswer machine link a → IsCheckedAnswer machine link b → a ≡ b
checked_one live relaxed machine link a b good h g =
    unless_one (merging_refusal link) a b _ _ h g (λ none x y. merged_one live relaxed machine link a b good x y)

pub answer_one : WellFormedExactlyUnfaulted → LiveIsOne → RelaxedIsOne → DefinedAnswerIsOne
answer_one exactly live relaxed machine link a b h g =
    unless_one (fault_refusal link) a b _ _ h g (λ none x y.
    checked_one live relaxed machine link a b (unrefused exactly link none) x y)
