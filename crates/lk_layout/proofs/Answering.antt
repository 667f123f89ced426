-- How the steps of a computation give the defined answer.
use Rattle.std.proofs.Common.{◌≡◌, Bool, true, false, Option, Some, None, Result, Ok, Err, sym, ap, subst, ◌∙◌, refl, ℕ, List, [], ◌∷◌}
use Rattle.std.specs.Prelude.{option_map, slice_get}
use Rattle.std.specs.Result.{IsErrAnd}
use Rattle.lk_check.specs.FirstFault.{check_of, first_fault}
use Rattle.lk_link.specs.declared.fault.LinkFault.{LinkFault}
use Rattle.lk_link.specs.declared.flags.ValueFlags.{ValueFlags}
use Rattle.lk_link.specs.declared.ids.FileId.{FileId}
use Rattle.lk_link.specs.declared.link.LinkInput.{LinkInput}
use Rattle.lk_layout.specs.Machines.{Machine}
use Rattle.lk_layout.specs.declared.error.LayoutError.{LayoutError}
use Rattle.lk_layout.specs.declared.error.LayoutError.TheVariants.{NoMemory}
use Rattle.lk_layout.specs.LayoutRecord.{LayoutRecord}
use Rattle.lk_link.specs.declared.resolution.Resolution.{Resolution}
use Rattle.lk_layout.specs.Defined.{Gives, Unless, WithMemory, is_memory, made_sections, made_standing, references_refusal}
use Rattle.lk_layout.specs.Errors.{branch_error, fault_error, gc_error, offset_error, place_error, site_error}
use Rattle.lk_resolutions.specs.declared.outside.MergeOffsetPlace.{MergeOffsetPlace}
use Rattle.lk_resolutions.specs.Outside.{merge_offsets}
use Rattle.lk_live.specs.declared.error.GcError.{GcError}
use Rattle.lk_live.specs.declared.error.GcError.TheVariants as gc
use Rattle.lk_live.specs.Reach.{GivesLive}
use Rattle.lk_merge.specs.Pieces.{MergeInput}
use Rattle.lk_expressions.specs.Records.{Record}
use Rattle.lk_place.specs.declared.segments.SegmentLayout.{SegmentLayout}
use Rattle.lk_place.specs.declared.segments.SegmentFileLayout.TheVariants.{FromSections}
use Rattle.lk_place.specs.Secondaries.{merge_refusal}
use Rattle.lk_place.specs.declared.error.PlaceError.{PlaceError}
use Rattle.lk_place.specs.declared.error.PlaceError.TheVariants as place
use Rattle.lk_place.specs.Segments.{Refuses, segments_refusal}
use Rattle.lk_relax.specs.declared.sites.RelaxedPlace.{RelaxedPlace}
use Rattle.lk_deltas.specs.LinkDeletions.{Deletions}
use Rattle.lk_relax.specs.Sites.{past_limit}
use Rattle.lk_sizes.specs.declared.sorted.InputSortedSection.{InputSortedSection}
use Rattle.lk_sizes.specs.Emitted.{active_segments, is_emitted}
use Rattle.lk_tables.specs.declared.header_info.HeaderInfo.{HeaderInfo}
use Rattle.lk_tables.specs.declared.partial_link.PartialLinkPlan.{PartialLinkPlan}
use Rattle.lk_group_starts.specs.declared.group_starts.GroupStarts.{GroupStarts}
use Rattle.lk_layout.specs.Made.{Made, made_content}
use Rattle.lk_layout.specs.Redirects.{made_redirected, redirects_refusal, refused_by}
use Rattle.lk_layout.specs.Stages.{Reaches}
use Rattle.lk_layout.specs.Thunks.{made_branching}
use Rattle.lk_thunk_plan.specs.declared.check.BranchPlace.{BranchPlace}
use Rattle.lk_thunk_plan.specs.Branches.{unreached}
use Rattle.lk_layout.proofs.Refusals.{IsMergedAnswer, IsPlacedAnswer, IsSpannedAnswer, branch_refusal, fault_refusal, joining_refusal, offsets_refusal, segment_refusal, sites_refusal, unmet_refusal}

-- the exit of a `?`: what holds of each error that may come through it
pub err_exit : {X : Type 0} (Q : Result X LayoutError → Type 0) (P : LayoutError → Type 0) (r : Result X LayoutError) → IsErrAnd r P → ((e : LayoutError) → P e → Q (Err e)) → Q r
err_exit Q P (Ok x) h f = absurd h
err_exit Q P (Err e) h f = f e h

-- ---- refusals

pub unless_some : (refusal : Option LayoutError) (e : LayoutError) (P : Type 0) → refusal ≡ Some e → Unless refusal (Err e) P
unless_some refusal e P h = subst (λ (o : Option LayoutError). Unless o (Err e) P) (sym h) refl

pub unless_none : (refusal : Option LayoutError) (answer : Result LayoutRecord LayoutError) (P : Type 0) → refusal ≡ None → P → Unless refusal answer P
unless_none refusal answer P h p = subst (λ (o : Option LayoutError). Unless o answer P) (sym h) p

-- want of memory is no answer
pub no_answer : (e : LayoutError) → e ≡ NoMemory → is_memory e ≡ false → ⊥
no_answer e is some = let never : true ≡ false = ap is_memory (sym is) ∙ some in cc

pub out_of_memory : (P : Result LayoutRecord LayoutError → Type 0) (e : LayoutError) → e ≡ NoMemory → WithMemory P (Err e)
out_of_memory P e is = λ some. absurd (no_answer e is some)

-- what P answers Q answers too
pub passed_on : (P Q : Result LayoutRecord LayoutError → Type 0) (answer : Result LayoutRecord LayoutError) → ((a : Result LayoutRecord LayoutError) → P a → Q a)
    → WithMemory P answer → WithMemory Q answer
passed_on P Q (Ok layout) f h = f (Ok layout) h
passed_on P Q (Err e) f h = λ some. f (Err e) (h some)

-- the exit of a `?` on an answer: it is handed on as it is
pub handed_on : (machine : Machine) (link : LinkInput) (e : LayoutError) (r : Result LayoutRecord LayoutError) → IsErrAnd r (λ x. x ≡ e)
    → Gives machine link (Err e) → Gives machine link r
handed_on machine link e (Ok layout) h given = absurd h
handed_on machine link e (Err x) h given = subst (λ (y : LayoutError). Gives machine link (Err y)) (sym h) given

-- and so it is where a stage could be reached
pub reached_on : {S : Type 0} (machine : Machine) (link : LinkInput) (Is : S → Type 0) (e : LayoutError) (r : Result S LayoutError) → IsErrAnd r (λ x. x ≡ e)
    → Gives machine link (Err e) → Reaches machine link Is r
reached_on machine link Is e (Ok stage) h given = absurd h
reached_on machine link Is e (Err x) h given = subst (λ (y : LayoutError). Gives machine link (Err y)) (sym h) given

-- ---- the whole

-- what a check that passed or failed says of the first fault
pub fault_none : (o : Option LinkFault) → Ok tt ≡ check_of o → o ≡ None
unfolding check_of
fault_none None h = refl
fault_none (Some f) h = absurd (cc)

pub fault_some : (o : Option LinkFault) (f : LinkFault) → Err f ≡ check_of o → o ≡ Some f
unfolding check_of
fault_some None f h = absurd (cc)
fault_some (Some g) f h = let same : g ≡ f = cc in ap (λ (x : LinkFault). Some x) same

-- a link with a fault
pub faulty : (machine : Machine) (link : LinkInput) (f : LinkFault) (e : LayoutError) → first_fault link ≡ Some f → e ≡ fault_error f → Gives machine link (Err e)
faulty machine link f e h is = λ some.
    unless_some (fault_refusal link) e _ (ap (option_map fault_error) h ∙ ap (λ (x : LayoutError). Some x) (sym is))

-- ---- references

-- what the traversal refuses
pub unmet : (machine : Machine) (link : LinkInput) (g : GcError) (e : LayoutError) → GivesLive link (Err g) → e ≡ gc_error g → WithMemory (IsMergedAnswer machine link) (Err e)
unmet machine link gc.NoMemory e h is = out_of_memory (IsMergedAnswer machine link) e is
unmet machine link (gc.References []) e h is = absurd (h.1 refl)
unmet machine link (gc.References (fault ∷ faults)) e h is = λ some.
    unless_some (unmet_refusal link) e _ (ap references_refusal (sym h.0) ∙ ap (λ (x : LayoutError). Some x) (sym is))

-- ---- behind the placement

-- what a placement refuses, if it isn't for want of memory
refuses_some : (e : PlaceError) (x : LayoutError) (refusal : Option PlaceError) → Refuses e refusal → x ≡ place_error e → is_memory x ≡ false
    → option_map place_error refusal ≡ Some x
refuses_some e x refusal refuses is some =
    let none : (e ≡ place.NoMemory) → ⊥ = λ memory. let never : true ≡ false = sym (ap is_memory (is ∙ ap place_error memory)) ∙ some in cc in
    ap (option_map place_error) (refuses none) ∙ ap (λ (y : LayoutError). Some y) (sym is)

-- a primary that passes 64 bits is refused
pub unjoined : (made : Made) (e : PlaceError) (x : LayoutError) → Refuses e (merge_refusal made.link.plan.sections (made_sections made)) → x ≡ place_error e
    → WithMemory (IsPlacedAnswer made) (Err x)
unjoined made e x refuses is = λ some. unless_some (joining_refusal made) x _ (refuses_some e x _ refuses is some)

-- what the segments refuse
abbrev pub segments_of : Made → Option PlaceError
segments_of made =
    segments_refusal FromSections made.link (made_sections made) (is_emitted (made_content made)) (active_segments (made_content made))

-- a section outside the segments is refused
pub outside_segments : (made : Made) (e : PlaceError) (x : LayoutError) → joining_refusal made ≡ None → Refuses e (segments_of made) → x ≡ place_error e
    → WithMemory (IsPlacedAnswer made) (Err x)
outside_segments made e x fit refuses is = λ some.
    unless_none (joining_refusal made) (Err x) _ fit (unless_some (segment_refusal made) x _ (refuses_some e x _ refuses is some))

-- where no offset is chosen outside, none is refused
pub none_chosen : (made : Made) → merge_offsets made.link made.live ≡ [] → offsets_refusal made ≡ None
none_chosen made none = ap (λ (places : List MergeOffsetPlace). option_map offset_error (slice_get places 0)) none

-- the first offset that is chosen outside is refused
pub refused : (made : Made) (at : MergeOffsetPlace) (e : LayoutError) → slice_get (merge_offsets made.link made.live) 0 ≡ Some at → e ≡ offset_error at
    → IsSpannedAnswer made (Err e)
refused made at e first is =
    unless_some (offsets_refusal made) e _ (ap (option_map offset_error) first ∙ ap (λ (x : LayoutError). Some x) (sym is))

-- where redirects come to resolutions, none is refused
pub none_redirected : (made : Made) (resolutions : List (Option Resolution)) → made_redirected made ≡ Ok resolutions → redirects_refusal made ≡ None
none_redirected made resolutions redirected = ap (λ (r : Result (List (Option Resolution)) PlaceError). option_map place_error (refused_by r)) redirected

-- what they refuse is refused
pub unredirected : (made : Made) (e : LayoutError) → merge_offsets made.link made.live ≡ [] → redirects_refusal made ≡ Some e → IsSpannedAnswer made (Err e)
unredirected made e inside refused =
    unless_none (offsets_refusal made) (Err e) _ (none_chosen made inside) (unless_some (redirects_refusal made) e _ refused)

-- where all branches reach, none is refused
pub none_unreached : (made : Made) → unreached (made_branching made) ≡ [] → branch_refusal made ≡ None
none_unreached made none = ap (λ (places : List BranchPlace). option_map branch_error (slice_get places 0)) none

-- the first branch that doesn't reach is refused
pub unreached_refused : (made : Made) (resolutions : List (Option Resolution)) (at : BranchPlace) (e : LayoutError) → merge_offsets made.link made.live ≡ []
    → made_redirected made ≡ Ok resolutions → slice_get (unreached (made_branching made)) 0 ≡ Some at → e ≡ branch_error at → IsSpannedAnswer made (Err e)
unreached_refused made resolutions at e inside redirected first is =
    unless_none (offsets_refusal made) (Err e) _ (none_chosen made inside)
    (unless_none (redirects_refusal made) (Err e) _ (none_redirected made resolutions redirected)
    (unless_some (branch_refusal made) e _ (ap (option_map branch_error) first ∙ ap (λ (x : LayoutError). Some x) (sym is))))

-- where no deleted candidate is past its limit, none is refused
pub none_past : (made : Made) → past_limit (made_standing made) ≡ [] → sites_refusal made ≡ None
none_past made none = ap (λ (places : List RelaxedPlace). option_map site_error (slice_get places 0)) none

-- the first that is past its limit is refused
pub past_refused : (made : Made) (resolutions : List (Option Resolution)) (e : LayoutError) → merge_offsets made.link made.live ≡ []
    → made_redirected made ≡ Ok resolutions → unreached (made_branching made) ≡ [] → sites_refusal made ≡ Some e → IsSpannedAnswer made (Err e)
past_refused made resolutions e inside redirected reach refused =
    unless_none (offsets_refusal made) (Err e) _ (none_chosen made inside)
    (unless_none (redirects_refusal made) (Err e) _ (none_redirected made resolutions redirected)
    (unless_none (branch_refusal made) (Err e) _ (none_unreached made reach)
    (unless_some (sites_refusal made) e _ refused)))

-- layouts with the same lists are the same
pub same_layout : (link : LinkInput) (s s' j j' r r' : List Record) (t t' : List ℕ) (i i' : List (Option ℕ)) (g g' : List SegmentLayout) (h h' : Option Record)
    (m : List Bool) (l l' : List ℕ) (x x' : Deletions) (d d' : List (List MergeInput)) (b b' : List ℕ) (v v' : List (Option Resolution)) (e e' : Option ℕ) (o o' : List InputSortedSection) (p p' : Option PartialLinkPlan) (k k' : List (List ℕ)) (n n' : List (Option FileId)) (a a' : List (Option ℕ)) (u u' : List (FileId × ℕ × Bool)) (z z' : ℕ) (w w' : HeaderInfo) (y y' : ℕ) (q q' : GroupStarts) (f f' : List ValueFlags)
    → s ≡ s' → j ≡ j' → r ≡ r' → t ≡ t' → i ≡ i' → g ≡ g' → h ≡ h' → l ≡ l' → x ≡ x' → d ≡ d' → b ≡ b' → v ≡ v' → e ≡ e' → o ≡ o' → p ≡ p' → k ≡ k' → n ≡ n' → a ≡ a' → u ≡ u' → z ≡ z' → w ≡ w' → y ≡ y' → q ≡ q' → f ≡ f'
    → ◌≡◌ {A = LayoutRecord} (record {
      link = link;
      section_layouts = s;
      merged_section_layouts = j;
      section_part_layouts = r;
      section_attributes = t;
      output_section_indexes = i;
      header_info = w;
      segment_layouts = g;
      tls_layout = h;
      live_marks = m;
      section_addresses = l;
      section_deletions = x;
      merged_strings = d;
      merged_string_start_addresses = b;
      symbol_resolutions = v;
      flags = f;
      entry_symbol_id = e;
      script_sorted_sections = o;
      partial_link = p;
      thunk_blocks = k;
      thunk_block_owners = n;
      thunk_block_addresses = a;
      thunk_users = u;
      thunk_size = z;
      dynsym_start_index = y;
      group_starts = q;
    })
    (record {
      link = link;
      section_layouts = s';
      merged_section_layouts = j';
      section_part_layouts = r';
      section_attributes = t';
      output_section_indexes = i';
      header_info = w';
      segment_layouts = g';
      tls_layout = h';
      live_marks = m;
      section_addresses = l';
      section_deletions = x';
      merged_strings = d';
      merged_string_start_addresses = b';
      symbol_resolutions = v';
      flags = f';
      entry_symbol_id = e';
      script_sorted_sections = o';
      partial_link = p';
      thunk_blocks = k';
      thunk_block_owners = n';
      thunk_block_addresses = a';
      thunk_users = u';
      thunk_size = z';
      dynsym_start_index = y';
      group_starts = q';
    })
same_layout link s s' j j' r r' t t' i i' g g' h h' m l l' x x' d d' b b' v v' e e' o o' p p' k k' n n' a a' u u' z z' w w' y y' q q' f f' es ej er et ei eg eh el ex ed eb ev ee eo ep ek en ea eu ez ew ey eq ef = cc
