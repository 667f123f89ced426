use Rattle.std.proofs.Common.{◌≡◌, true, false, refl, arith}
use Rattle.std.specs.Str.{bytes_eq}
use Rattle.std.proofs.lemmas.Slice.Eq.{bytes_eq-Decides}
use Rattle.lk_input.specs.declared.read.file.FileKey.TheVariants as key
use Rattle.lk_input.specs.KnownFiles.{file_kept}
use Rattle.lk_input.specs.ReadingFiles.{file_kinds, file_candidates_of}
use Rattle.lk_input.specs.ReadingSections.{input_sections_of}
use Rattle.lk_input.specs.ReadingSteps.{list_of, one_of, text_of, truth_of, written}
use Rattle.lk_input.specs.ReadingSymbols.{input_symbol_of}
use Rattle.lk_input.proofs.Known.{passed-keeps, reread-keeps}
use Rattle.lk_input.proofs.KnownFiles.{file-put, file_put}
use Rattle.lk_input.proofs.read.file.FileMembersKnown.take.Goals as goal
use Rattle.lk_input.specs.Keys.{file_key_text}

pub returns-then-eq : goal.returns-then-eq
unfolding written
returns-then-eq c =
    let name = c.args.key.now in
    let same : bytes_eq name (file_key_text key.Kind) ≡ true = grind arith in
    let is : name ≡ file_key_text key.Kind = (bytes_eq-Decides name (file_key_text key.Kind)).0 same in
    reread-keeps (one_of file_kinds) file_kept file_put file-put name c.args.depth _ _ _ _ _ _ c.reread.ensures (λ d e. rw (is, e) refl)

pub returns-then-eq-2 : goal.returns-then-eq-2
unfolding written
returns-then-eq-2 c =
    let name = c.args.key.now in
    let same : bytes_eq name (file_key_text key.Name) ≡ true = grind arith in
    let is : name ≡ file_key_text key.Name = (bytes_eq-Decides name (file_key_text key.Name)).0 same in
    reread-keeps text_of file_kept file_put file-put name c.args.depth _ _ _ _ _ _ c.reread-then-eq-2.ensures (λ d e. rw (is, e) refl)

pub returns-then-eq-3 : goal.returns-then-eq-3
unfolding written
returns-then-eq-3 c =
    let name = c.args.key.now in
    let same : bytes_eq name (file_key_text key.Symbols) ≡ true = grind arith in
    let is : name ≡ file_key_text key.Symbols = (bytes_eq-Decides name (file_key_text key.Symbols)).0 same in
    reread-keeps (list_of input_symbol_of) file_kept file_put file-put name c.args.depth _ _ _ _ _ _ c.reread-then-eq-3.ensures (λ d e. rw (is, e) refl)

pub returns-then-eq-4 : goal.returns-then-eq-4
unfolding written
returns-then-eq-4 c =
    let name = c.args.key.now in
    let same : bytes_eq name (file_key_text key.Sections) ≡ true = grind arith in
    let is : name ≡ file_key_text key.Sections = (bytes_eq-Decides name (file_key_text key.Sections)).0 same in
    reread-keeps input_sections_of file_kept file_put file-put name c.args.depth _ _ _ _ _ _ c.reread-then-eq-4.ensures (λ d e. rw (is, e) refl)

pub returns-then-eq-5 : goal.returns-then-eq-5
unfolding written
returns-then-eq-5 c =
    let name = c.args.key.now in
    let same : bytes_eq name (file_key_text key.Archive) ≡ true = grind arith in
    let is : name ≡ file_key_text key.Archive = (bytes_eq-Decides name (file_key_text key.Archive)).0 same in
    reread-keeps truth_of file_kept file_put file-put name c.args.depth _ _ _ _ _ _ c.reread-then-eq-5.ensures (λ d e. rw (is, e) refl)

pub returns-then-eq-6 : goal.returns-then-eq-6
unfolding written
returns-then-eq-6 c =
    let name = c.args.key.now in
    let same : bytes_eq name (file_key_text key.Export) ≡ true = grind arith in
    let is : name ≡ file_key_text key.Export = (bytes_eq-Decides name (file_key_text key.Export)).0 same in
    reread-keeps truth_of file_kept file_put file-put name c.args.depth _ _ _ _ _ _ c.reread-then-eq-6.ensures (λ d e. rw (is, e) refl)

pub returns-then-eq-7 : goal.returns-then-eq-7
unfolding written
returns-then-eq-7 c =
    let name = c.args.key.now in
    let same : bytes_eq name (file_key_text key.Check) ≡ true = grind arith in
    let is : name ≡ file_key_text key.Check = (bytes_eq-Decides name (file_key_text key.Check)).0 same in
    reread-keeps truth_of file_kept file_put file-put name c.args.depth _ _ _ _ _ _ c.reread-then-eq-7.ensures (λ d e. rw (is, e) refl)

pub returns-then-eq-8 : goal.returns-then-eq-8
unfolding written
returns-then-eq-8 c =
    let name = c.args.key.now in
    let same : bytes_eq name (file_key_text key.Candidates) ≡ true = grind arith in
    let is : name ≡ file_key_text key.Candidates = (bytes_eq-Decides name (file_key_text key.Candidates)).0 same in
    reread-keeps file_candidates_of file_kept file_put file-put name c.args.depth _ _ _ _ _ _ c.reread-then-eq-8.ensures (λ d e. rw (is, e) refl)

pub returns-else-eq-8 : goal.returns-else-eq-8
unfolding written
returns-else-eq-8 c =
    let name = c.args.key.now in
    let no_kind : bytes_eq name (file_key_text key.Kind) ≡ false = grind arith in
    let no_name : bytes_eq name (file_key_text key.Name) ≡ false = grind arith in
    let no_symbols : bytes_eq name (file_key_text key.Symbols) ≡ false = grind arith in
    let no_sections : bytes_eq name (file_key_text key.Sections) ≡ false = grind arith in
    let no_archive : bytes_eq name (file_key_text key.Archive) ≡ false = grind arith in
    let no_export : bytes_eq name (file_key_text key.Export) ≡ false = grind arith in
    let no_check : bytes_eq name (file_key_text key.Check) ≡ false = grind arith in
    let no_candidates : bytes_eq name (file_key_text key.Candidates) ≡ false = grind arith in
    passed-keeps file_kept file_put file-put name c.args.depth _ _ _ _ c.pass_value.ensures (λ d. rw (no_kind, no_name, no_symbols, no_sections, no_archive, no_export, no_check, no_candidates) refl)
