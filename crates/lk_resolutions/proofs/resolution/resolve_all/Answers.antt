use Rattle.std.proofs.Common.{◌≡◌, ◌∷◌, [], ◌++◌, ◌+◌, ℕ, List, Option, length, map, sum_by, sym, ap, subst, ◌∙◌}
use Rattle.std.specs.List.{flat_map}
use Rattle.std.proofs.lemmas.List.{map_push}
use Rattle.std.proofs.lemmas.List.Sums.{sum_by_push}
use Rattle.lk_link.specs.declared.resolution.Resolution.{Resolution}
use Rattle.lk_link.specs.Inputs.{NumberedFile, numbered_files}
use Rattle.lk_link.specs.Symbols.{first_symbol, symbols_in}
use Rattle.lk_link.specs.Walks.{file_of}
use Rattle.lk_reach.proofs.Numbered.{are_numbered, file_at}
use Rattle.lk_reach.proofs.WalkLemmas.{all_files_done, file_turn, one_file_more}
use Rattle.lk_resolutions.specs.AtHand.{places_at_hand, setting_at_hand}
use Rattle.lk_resolutions.specs.Entries.{EntrySetting}
use Rattle.lk_resolutions.specs.EntryWords.{AreNextAt}
use Rattle.lk_resolutions.specs.Resolutions.{file_resolutions}
use Rattle.lk_resolutions.proofs.EntriesTaken.{first_next}
use Rattle.lk_resolutions.proofs.Pushing.{first_is}
use Rattle.lk_stops.proofs.Stopping.{files_so_far}
use Rattle.lk_resolutions.proofs.resolution.resolve_all.Goals as goal

pub files-file-items-requires : goal.files-file-items-requires
files-file-items-requires g c = are_numbered c.args.tables.now.merged.link.now c.requires.tables.belong.good

pub loop-file-init : goal.loop-file-init
loop-file-init g c =
    let by : EntrySetting = setting_at_hand (g.P.Platform.table_sizes c.args.platform.now) c.args.tables.now in
    record { pushed = c.in_ok-resolutions.ensures; next = first_next by _ c.requires.numbers c.first_cursors.ensures }

pub push_file_resolutions-requires-clause-there : goal.push_file_resolutions-requires-clause-there
push_file_resolutions-requires-clause-there g c =
    let groups = c.args.tables.now.merged.link.now.groups in
    let at = file_turn (numbered_files groups) c.into_iter-file-iterator.result c.loop-file.file-iterator c.next.new.self c.loop-file.yielded c.in-Some.file (cc) c.loop-file.yielded_by c.in-Some.ensures.steps in
    (file_at groups _ (file_of c.in-Some.file) at).there

pub push_file_resolutions-requires-clause-next : goal.push_file_resolutions-requires-clause-next
push_file_resolutions-requires-clause-next g c =
    let groups = c.args.tables.now.merged.link.now.groups in
    let by : EntrySetting = setting_at_hand (g.P.Platform.table_sizes c.args.platform.now) c.args.tables.now in
    let begins : c.into_iter-file-iterator.result ≡ numbered_files groups = cc in
    let at = file_turn (numbered_files groups) c.into_iter-file-iterator.result c.loop-file.file-iterator c.next.new.self c.loop-file.yielded c.in-Some.file begins c.loop-file.yielded_by c.in-Some.ensures.steps in
    let far = files_so_far (numbered_files groups) c.into_iter-file-iterator.result c.loop-file.file-iterator c.loop-file.yielded begins c.loop-file.yielded_by in
    let number : sum_by (λ (f : NumberedFile). symbols_in f.file) (map file_of c.loop-file.yielded) ≡ first_symbol groups c.in-Some.file.id
    = ap (sum_by (λ (f : NumberedFile). symbols_in f.file)) far ∙ sym (first_is groups (length c.loop-file.yielded) (file_of c.in-Some.file) at) in
    subst (λ (n : ℕ). AreNextAt by n c.loop-file.entries) number c.loop-file.invariant.next

pub loop-file-preserved : goal.loop-file-preserved
loop-file-preserved g c =
    let groups = c.args.tables.now.merged.link.now.groups in
    let by : EntrySetting = setting_at_hand (g.P.Platform.table_sizes c.args.platform.now) c.args.tables.now in
    let begins : c.into_iter-file-iterator.result ≡ numbered_files groups = cc in
    let x = c.in-Some.file in
    let done = c.loop-file.yielded in
    let count : NumberedFile → ℕ = λ f. symbols_in f.file in
    let of_file : NumberedFile → List (Option Resolution) = file_resolutions (places_at_hand c.args.tables.now) by in
    let at = file_turn (numbered_files groups) c.into_iter-file-iterator.result c.loop-file.file-iterator c.next.new.self done x begins c.loop-file.yielded_by c.in-Some.ensures.steps in
    let far = files_so_far (numbered_files groups) c.into_iter-file-iterator.result c.loop-file.file-iterator done begins c.loop-file.yielded_by in
    let first : first_symbol groups x.id ≡ sum_by count (map file_of done) = first_is groups (length done) (file_of x) at ∙ ap (sum_by count) (sym far) in
    let more : sum_by count (map file_of (done ++ x ∷ [])) ≡ sum_by count (map file_of done) + symbols_in x.file.now
    = ap (sum_by count) (map_push file_of done x) ∙ sum_by_push count (map file_of done) (file_of x) in
    let number : first_symbol groups x.id + length x.file.now.symbols ≡ sum_by count (map file_of (done ++ x ∷ [])) = ap (λ n. n + length x.file.now.symbols) first ∙ sym more in
    record {
      pushed = c.in_ok-push_file_resolutions.ensures.pushed ∙ ap (λ (rs : List (Option Resolution)). rs ++ of_file (file_of x)) c.loop-file.invariant.pushed ∙ sym (one_file_more of_file done x);
      next = subst (λ (n : ℕ). AreNextAt by n c.push_file_resolutions.new.next) number c.in_ok-push_file_resolutions.ensures.moved;
    }

pub returns : goal.returns
returns g c =
    let files : List NumberedFile = numbered_files c.args.tables.now.merged.link.now.groups in
    let done = all_files_done files c.into_iter-file-iterator.result c.loop-file.file-iterator c.next.new.self c.loop-file.yielded (cc) c.loop-file.yielded_by c.in-None.ensures.steps in
    c.loop-file.invariant.pushed
    ∙ ap (flat_map (file_resolutions (places_at_hand c.args.tables.now) (setting_at_hand (g.P.Platform.table_sizes c.args.platform.now) c.args.tables.now))) done
