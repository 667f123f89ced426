-- The first stage.
use Rattle.std.proofs.Common.{◌≡◌, ◌==◌, ℕ, true, false, List, [], None, length, refl, sym, ap, subst, ◌∙◌, eq-eqb}
use Rattle.std.specs.Prelude.{is_some, unwrap_or}
use Rattle.lk_link.specs.declared.ids.FileId.{FileId}
use Rattle.lk_link.specs.declared.link.LinkInput.{LinkInput}
use Rattle.lk_expressions.specs.Records.{Record}
use Rattle.lk_place.specs.declared.cursors.Cursors.{Cursors}
use Rattle.lk_place.specs.declared.walk.Placed.{Placed}
use Rattle.lk_place.specs.Answers.{ArePlaced}
use Rattle.lk_place.specs.Placement.{IsPlaced}
use Rattle.lk_sizes.specs.OwnersRecord.{OwnersRecord}
use Rattle.lk_sizes.specs.Owners.{AreThunkOwners, own_sizes}
use Rattle.lk_sizes.specs.Sizing.{AreFilled, with_sizes}
use Rattle.lk_relax.specs.declared.passes.InHand.{InHand}
use Rattle.lk_relax.specs.declared.relaxation.Begun.TheVariants as begun
use Rattle.lk_relax.specs.declared.relaxation.Looks.{Looks}
use Rattle.lk_relax.specs.declared.relaxation.RelaxedParts.{RelaxedParts}
use Rattle.lk_deltas.specs.LinkDeletions.{Deletions, sizes_after}
use Rattle.lk_relax.specs.PassWords.{AreWhole, StandOnce}
use Rattle.lk_relax.specs.Positions.{section_positions}
use Rattle.lk_relax.specs.RelaxationWords.{AreLooks, HasBegun, IsStage, first_sections, in_hand, stage_in, stage_of}
use Rattle.lk_relax.specs.Relaxed.{AreRelaxed}
use Rattle.lk_relax.specs.RelaxedLaws.{FirstIsShrunk, NothingDeletedLeavesAll, nothing_deleted}
use Rattle.lk_relax.specs.Stages.{IsFirst, Relaxing, Stage, filling_after, first_scan, is_done, link_of, refusal_of, setting_after}
use Rattle.lk_relax.proofs.Ending.{first_or, lead_ended}
use Rattle.lk_relax.proofs.FirstLooks.{first_once}
use Rattle.lk_relax.proofs.Turning.{made_whole}

-- where nothing is deleted, input sections have the sizes that fill the parts
first_kept : NothingDeletedLeavesAll → (by : Relaxing) (deltas : Deletions) (owners : OwnersRecord) → deltas ≡ nothing_deleted (link_of by) → unwrap_or owners.sizes (own_sizes (link_of by)) ≡ own_sizes (link_of by)
    → AreFilled by.filling owners → by.filling.sizes ≡ sizes_after (link_of by).groups deltas
first_kept law by deltas owners none own h =
    let link : LinkInput = link_of by in
    sym h.sizes ∙ own ∙ sym (law link).sizes ∙ ap (sizes_after link.groups) (sym none)

-- so parts are filled as they were
first_filled : NothingDeletedLeavesAll → (by : Relaxing) (deltas : Deletions) (owners : OwnersRecord) → deltas ≡ nothing_deleted (link_of by) → unwrap_or owners.sizes (own_sizes (link_of by)) ≡ own_sizes (link_of by)
    → AreFilled by.filling owners → AreFilled (filling_after by deltas) owners
first_filled law by deltas owners none own h =
    subst (λ (ns : List ℕ). AreFilled (with_sizes by.filling ns) owners) (first_kept law by deltas owners none own h) h

-- input sections have the sizes of the description then
pub first_sizes : NothingDeletedLeavesAll → (link : LinkInput) (owners : OwnersRecord) (deltas seen : Deletions) → seen ≡ deltas → deltas ≡ nothing_deleted link → unwrap_or owners.sizes (own_sizes link) ≡ own_sizes link
    → unwrap_or owners.sizes (own_sizes link) ≡ sizes_after link.groups seen
first_sizes law link owners deltas seen same none own = own ∙ sym (law link).sizes ∙ ap (sizes_after link.groups) (sym (same ∙ none))

-- a stage at which nothing is deleted
first_is : (by : Relaxing) (deltas : Deletions) (scan : List (FileId × ℕ)) (states : List Cursors) (records : List Record) → deltas ≡ nothing_deleted (link_of by) → scan ≡ first_scan by
    → IsPlaced (setting_after by deltas) states records → IsFirst by (stage_of deltas scan None states records)
first_is by deltas scan states records none looks placed = record { deletions = none; scan = looks; fell = refl; walk = record { walked = refl; placed = placed } }

-- with what the first pass goes by, what is handed in is a stage
first_stage : FirstIsShrunk → NothingDeletedLeavesAll → (by : Relaxing) (owners : OwnersRecord) (placed : Placed) (looks : Looks) → AreThunkOwners (link_of by) owners.thunks
    → unwrap_or owners.sizes (own_sizes (link_of by)) ≡ own_sizes (link_of by) → AreFilled by.filling owners → ArePlaced (setting_after by (nothing_deleted (link_of by))) placed → AreLooks by.filling looks
    → (is : IsStage by (in_hand owners placed looks)) × IsFirst by (stage_in (in_hand owners placed looks) is)
first_stage shrinks law by owners placed looks thunks own filled stood are =
    let link : LinkInput = link_of by in
    let deltas : Deletions = looks.deltas.items in
    let stands : ArePlaced (setting_after by deltas) placed = subst (λ (ds : Deletions). ArePlaced (setting_after by ds) placed) (sym are.deltas) stood in
    let a : Stage = stage_of deltas looks.scan.items None stands.states placed.parts in
    let first : IsFirst by a = first_is by deltas looks.scan.items stands.states placed.parts are.deltas are.scan stands.is in
    let is : IsStage by (in_hand owners placed looks) = record {
      fell = None;
      going = refl;
      thunks = subst (AreThunkOwners link) filled.thunks thunks;
      filled = first_filled law by deltas owners are.deltas own filled;
      stands = stands;
      shrunk = shrinks by a first;
      whole = subst (AreWhole link) (sym are.deltas) (made_whole link (λ _. []));
      once = subst StandOnce (sym are.scan) (first_once link by.filling.content.live);
      sections = are.sections ∙ ap (λ (ns : List ℕ). section_positions (with_sizes by.filling ns)) (first_kept law by deltas owners are.deltas own filled);
      symbols = are.symbols;
    } in
    (is, first)

pub first_in_hand : FirstIsShrunk → NothingDeletedLeavesAll → (by : Relaxing) (owners : OwnersRecord) (placed : Placed) (looks : Looks) (hand : InHand) → hand ≡ in_hand owners placed looks
    → AreThunkOwners (link_of by) owners.thunks → unwrap_or owners.sizes (own_sizes (link_of by)) ≡ own_sizes (link_of by) → AreFilled by.filling owners
    → ArePlaced (setting_after by (nothing_deleted (link_of by))) placed → AreLooks by.filling looks → (is : IsStage by hand) × IsFirst by (stage_in hand is)
first_in_hand shrinks law by owners placed looks hand same thunks own filled stood are =
    subst (λ (h : InHand). (is : IsStage by h) × IsFirst by (stage_in h is)) (sym same) (first_stage shrinks law by owners placed looks thunks own filled stood are)

-- where no section can lose bytes, that is the end
pub ends_at_once : NothingDeletedLeavesAll → (by : Relaxing) (parts : RelaxedParts) → unwrap_or parts.owners.sizes (own_sizes (link_of by)) ≡ own_sizes (link_of by)
    → AreFilled by.filling parts.owners → ArePlaced (setting_after by (nothing_deleted (link_of by))) parts.placed → HasBegun by.filling (begun.Ended parts.deltas) → AreRelaxed by parts
ends_at_once law by parts own filled placed ended_so =
    let nothing : Deletions = nothing_deleted (link_of by) in
    let none : parts.deltas.items ≡ nothing = ended_so.0 in
    let scan : List (FileId × ℕ) = first_sections (link_of by) by.filling.content.live in
    let empty : length scan ≡ 0 = ended_so.1 in
    let a : Stage = stage_of nothing scan None placed.states parts.placed.parts in
    let done : is_done a ≡ true = first_or (length scan == 0) false (eq-eqb (length scan) 0 empty) in
    let ended = lead_ended by 5 a (first_or (is_done a) (is_some (refusal_of by a)) done) in
    record {
      last = a;
      ends = record {
        relaxed = record { first = a; begins = first_is by nothing scan placed.states parts.placed.parts refl refl placed.is; leads = ended };
        unrefused = placed.unrefused;
        deletions = none;
        stands = placed;
        states = refl;
        records = refl;
      };
      filled = first_filled law by nothing parts.owners refl own filled;
    }
