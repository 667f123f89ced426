-- What a pass finds in one section.
use Rattle.std.proofs.Common.{◌≡◌, ℕ, ◌+◌, ◌<◌, ◌^◌, All, List, [], false, length, Option, Some, true, refl, ap, subst, sym, ◌∙◌, arith, get_or}
use Rattle.std.specs.Prelude.{option_and_then, slice_get}
use Rattle.std.specs.Option.{option_map_or}
use Rattle.std.proofs.lemmas.Option.{slice_get-get_or}
use Rattle.lk_link.specs.declared.file.InputFile.{InputFile}
use Rattle.lk_link.specs.declared.ids.FileId.{FileId}
use Rattle.lk_link.specs.declared.link.LinkInput.{LinkInput}
use Rattle.lk_link.specs.declared.relocation.RelaxCandidate.{RelaxCandidate}
use Rattle.lk_link.specs.declared.section.InputSection.{InputSection}
use Rattle.lk_link.specs.declared.section.InputSlot.{InputSlot}
use Rattle.lk_link.specs.declared.section.InputSlot.TheVariants as slot
use Rattle.lk_link.specs.Files.{file_in}
use Rattle.lk_link.specs.InputRules.{IsGoodInput}
use Rattle.lk_link.specs.InputSlots.{is_discarded, is_regular}
use Rattle.lk_link.specs.declared.symbol.InputSymbol.{InputSymbol}
use Rattle.lk_link.specs.Symbols.{first_symbol, symbol_at}
use Rattle.lk_link.specs.WellFormed.{IsWellFormed}
use Rattle.lk_link.proofs.GoodInputs.{inputs_are_good}
use Rattle.lk_link.proofs.SymbolLemmas.{symbols_follow, symbols_within}
use Rattle.lk_reach.proofs.SymbolNumbers.{symbols_few}
use Rattle.lk_deltas.specs.Candidates.{AreCandidates, AreOf}
use Rattle.lk_deltas.specs.Laws.{GoodCandidatesCanGo}
use Rattle.lk_deltas.specs.LinkDeletions.{Deletions}
use Rattle.lk_relax.specs.declared.judge.SectionJudge.{SectionJudge}
use Rattle.lk_relax.specs.Scan.{CanBeScanned, candidates_of, ranges_of}
use Rattle.lk_relax.specs.ScanWords.{IsNumbered}

-- what is regular isn't left out
pub loaded : (s : InputSlot) → is_regular s ≡ true → is_discarded s ≡ false
loaded slot.Discard h = absurd (cc)
loaded slot.Unloaded h = refl
loaded slot.MustLoad h = refl
loaded slot.DebugInfo h = refl
loaded slot.MustLoadDebugInfo h = refl
loaded slot.Merge h = refl

-- the candidates of a section that can be looked at
pub record AreGood (link : LinkInput) (deletions : Deletions) (id : FileId) (index : ℕ) (cs : List RelaxCandidate) : Type 0 where
  pub rising : AreCandidates cs
  pub few : All (λ (c : RelaxCandidate). first_symbol link.groups id + c.symbol < 2 ^ 32) cs
  pub own : (file : InputFile) → file_in link.groups id ≡ Some file → All (λ (c : RelaxCandidate). symbol_at link.groups (first_symbol link.groups id + c.symbol) ≡ slice_get file.symbols c.symbol) cs
  pub of : AreOf (ranges_of link.groups deletions id index) cs

-- the section that is found
pub found : (link : LinkInput) (deletions : Deletions) (id : FileId) (index : ℕ) (h : CanBeScanned link.groups deletions id index) → option_and_then (λ (f : InputFile). slice_get f.sections index) (file_in link.groups id) ≡ Some h.section
found link deletions id index h = ap (option_and_then (λ (f : InputFile). slice_get f.sections index)) h.there ∙ h.at

-- a file that is there is one
same_file : (a b : InputFile) → Some a ≡ Some b → a ≡ b
same_file a b e = cc

pub are_good : GoodCandidatesCanGo → (link : LinkInput) (deletions : Deletions) (id : FileId) (index : ℕ) (cs : List RelaxCandidate) → IsWellFormed link → CanBeScanned link.groups deletions id index → cs ≡ candidates_of link.groups id index
    → ((section : InputSection) → option_and_then (λ (f : InputFile). slice_get f.sections index) (file_in link.groups id) ≡ Some section → section.size < 2 ^ 64) → AreGood link deletions id index cs
are_good law link deletions id index cs well h are small =
    let at : option_and_then (λ (f : InputFile). slice_get f.sections index) (file_in link.groups id) ≡ Some h.section = found link deletions id index h in
    let same : h.section.relax ≡ cs = sym (are ∙ ap (λ (o : Option InputSection). option_map_or (λ (s : InputSection). s.relax) o []) at) in
    let good : IsGoodInput link.plan (length h.file.symbols) h.section = inputs_are_good link id index h.file h.section well h.there h.at (loaded h.section.slot h.regular) in
    subst (AreGood link deletions id index) same (record {
      rising = (law link.plan (length h.file.symbols) h.section good (small h.section at)).0;
      few = λ k d lt. omega (arith, (good.in_relax k (get_or h.section.relax k d) (slice_get-get_or h.section.relax k d lt)).2, symbols_within link.groups id h.file h.there, symbols_few link well);
      own = λ file there k d lt. symbols_follow link.groups id file (get_or h.section.relax k d).symbol there
          (subst (λ (f : InputFile). (get_or h.section.relax k d).symbol < length f.symbols) (same_file h.file file (sym h.there ∙ there))
          (good.in_relax k (get_or h.section.relax k d) (slice_get-get_or h.section.relax k d lt)).2);
      of = h.of;
    })

-- what a judge asks of them
pub are_numbered : (link : LinkInput) (deletions : Deletions) (id : FileId) (index : ℕ) (cs : List RelaxCandidate) (judge : SectionJudge) (file : InputFile) → AreGood link deletions id index cs → file_in link.groups id ≡ Some file
    → judge.first ≡ first_symbol link.groups id → judge.link.now ≡ link → judge.own.now ≡ file.symbols → All (IsNumbered judge) cs
are_numbered link deletions id index cs judge file good there first same own = λ k d lt.
    let c : RelaxCandidate = get_or cs k d in
    record {
      few = subst (λ (n : ℕ). n + c.symbol < 2 ^ 32) (sym first) (good.few k d lt);
      own = ap (λ (l : LinkInput). symbol_at l.groups (judge.first + c.symbol)) same ∙ ap (λ (n : ℕ). symbol_at link.groups (n + c.symbol)) first
          ∙ good.own file there k d lt ∙ ap (λ (xs : List InputSymbol). slice_get xs c.symbol) (sym own);
    }
