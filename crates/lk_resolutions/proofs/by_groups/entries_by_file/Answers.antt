use Rattle.std.proofs.Common.{◌≡◌, ◌∷◌, [], ◌++◌, ◌+◌, ℕ, List, length, map, sum_by, sym, ap, subst, ◌∙◌}
use Rattle.std.specs.List.{AllZip}
use Rattle.std.proofs.lemmas.List.{map_push}
use Rattle.std.proofs.lemmas.List.Sums.{sum_by_push}
use Rattle.std.proofs.lemmas.Slice.Zip.{all_zipped_more}
use Rattle.lk_link.specs.Inputs.{NumberedFile, numbered_files}
use Rattle.lk_link.specs.Symbols.{first_symbol, symbols_in}
use Rattle.lk_link.specs.Walks.{file_of}
use Rattle.lk_reach.proofs.Numbered.{are_numbered, file_at}
use Rattle.lk_reach.proofs.WalkLemmas.{all_files_done, file_turn}
use Rattle.lk_resolutions.specs.declared.entries.NextEntries.{NextEntries}
use Rattle.lk_resolutions.specs.AtHand.{setting_at_hand}
use Rattle.lk_resolutions.specs.ByGroups.{AreNextOf}
use Rattle.lk_resolutions.specs.Entries.{EntrySetting}
use Rattle.lk_resolutions.specs.EntryWords.{AreNextAt}
use Rattle.lk_resolutions.proofs.EntriesTaken.{first_next}
use Rattle.lk_resolutions.proofs.Pushing.{first_is}
use Rattle.lk_stops.proofs.Stopping.{files_so_far}
use Rattle.lk_resolutions.proofs.by_groups.entries_by_file.Goals as goal

pub files-file-items-requires : goal.files-file-items-requires
files-file-items-requires g c = are_numbered c.args.tables.now.merged.link.now c.requires.tables.belong.good

pub loop-file-init : goal.loop-file-init
loop-file-init g c =
    let by : EntrySetting = setting_at_hand (g.P.Platform.table_sizes c.args.platform.now) c.args.tables.now in
    let none : AllZip (AreNextOf by) [] c.new-starts.result.items = subst (AllZip (AreNextOf by) []) (sym c.new-starts.ensures.items) tt in
    record { each = none; next = first_next by _ c.requires.numbers c.first_cursors.ensures }

pub pass_file-requires-clause-there : goal.pass_file-requires-clause-there
pass_file-requires-clause-there g c =
    let groups = c.args.tables.now.merged.link.now.groups in
    let at = file_turn (numbered_files groups) c.into_iter-file-iterator.result c.loop-file.file-iterator c.next.new.self c.loop-file.yielded c.in-Some.file (cc) c.loop-file.yielded_by c.in-Some.ensures.steps in
    (file_at groups _ (file_of c.in-Some.file) at).there

pub pass_file-requires-clause-next : goal.pass_file-requires-clause-next
pass_file-requires-clause-next g c =
    let groups = c.args.tables.now.merged.link.now.groups in
    let by : EntrySetting = setting_at_hand (g.P.Platform.table_sizes c.args.platform.now) c.args.tables.now in
    let begins : c.into_iter-file-iterator.result ≡ numbered_files groups = cc in
    let at = file_turn (numbered_files groups) c.into_iter-file-iterator.result c.loop-file.file-iterator c.next.new.self c.loop-file.yielded c.in-Some.file begins c.loop-file.yielded_by c.in-Some.ensures.steps in
    let far = files_so_far (numbered_files groups) c.into_iter-file-iterator.result c.loop-file.file-iterator c.loop-file.yielded begins c.loop-file.yielded_by in
    let number : sum_by (λ (f : NumberedFile). symbols_in f.file) (map file_of c.loop-file.yielded) ≡ first_symbol groups c.in-Some.file.id
    = ap (sum_by (λ (f : NumberedFile). symbols_in f.file)) far ∙ sym (first_is groups (length c.loop-file.yielded) (file_of c.in-Some.file) at) in
    subst (λ (n : ℕ). AreNextAt by n c.loop-file.next) number c.loop-file.invariant.next

pub loop-file-preserved : goal.loop-file-preserved
loop-file-preserved g c =
    let groups = c.args.tables.now.merged.link.now.groups in
    let by : EntrySetting = setting_at_hand (g.P.Platform.table_sizes c.args.platform.now) c.args.tables.now in
    let begins : c.into_iter-file-iterator.result ≡ numbered_files groups = cc in
    let x = c.in-Some.file in
    let done = c.loop-file.yielded in
    let old : List NextEntries = c.loop-file.starts.items in
    let here : NextEntries = c.loop-file.next in
    let count : NumberedFile → ℕ = λ f. symbols_in f.file in
    let at = file_turn (numbered_files groups) c.into_iter-file-iterator.result c.loop-file.file-iterator c.next.new.self done x begins c.loop-file.yielded_by c.in-Some.ensures.steps in
    let far = files_so_far (numbered_files groups) c.into_iter-file-iterator.result c.loop-file.file-iterator done begins c.loop-file.yielded_by in
    let first : first_symbol groups x.id ≡ sum_by count (map file_of done) = first_is groups (length done) (file_of x) at ∙ ap (sum_by count) (sym far) in
    let more : sum_by count (map file_of (done ++ x ∷ [])) ≡ sum_by count (map file_of done) + symbols_in x.file.now
    = ap (sum_by count) (map_push file_of done x) ∙ sum_by_push count (map file_of done) (file_of x) in
    let number : first_symbol groups x.id + length x.file.now.symbols ≡ sum_by count (map file_of (done ++ x ∷ [])) = ap (λ n. n + length x.file.now.symbols) first ∙ sym more in
    let own : AreNextOf by (file_of x) here = subst (λ (n : ℕ). AreNextAt by n here) (sym first) c.loop-file.invariant.next in
    let all : AllZip (AreNextOf by) (map file_of done ++ file_of x ∷ []) (old ++ here ∷ [])
    = all_zipped_more (AreNextOf by) (map file_of done) old (file_of x) here c.loop-file.invariant.each own in
    record {
      each = subst (λ (ns : List NextEntries). AllZip (AreNextOf by) (map file_of (done ++ x ∷ [])) ns) (sym c.in_ok-push.ensures.items)
          (subst (λ (fs : List NumberedFile). AllZip (AreNextOf by) fs (old ++ here ∷ [])) (sym (map_push file_of done x)) all);
      next = subst (λ (n : ℕ). AreNextAt by n c.pass_file.new.next) number c.pass_file.ensures;
    }

pub returns : goal.returns
returns g c =
    let files : List NumberedFile = numbered_files c.args.tables.now.merged.link.now.groups in
    let by : EntrySetting = setting_at_hand (g.P.Platform.table_sizes c.args.platform.now) c.args.tables.now in
    let done = all_files_done files c.into_iter-file-iterator.result c.loop-file.file-iterator c.next.new.self c.loop-file.yielded (cc) c.loop-file.yielded_by c.in-None.ensures.steps in
    subst (λ (fs : List NumberedFile). AllZip (AreNextOf by) fs c.loop-file.starts.items) done c.loop-file.invariant.each
