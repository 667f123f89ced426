-- What is deleted of a section is read back, and stays the bytes of candidates.
use Rattle.std.proofs.Common.{◌≡◌, ◌==◌, ◌<◌, ℕ, zero, suc, ◌+◌, Bool, true, false, cond, List, [], ◌∷◌, Option, Some, None, length, option_map, refl, sym, ap, subst, ◌∙◌, arith, eq-eqb, ne_eqb}
use Rattle.std.specs.Prelude.{if◌then◌else◌, option_and_then, slice_get}
use Rattle.std.specs.List.{cons_option, filter_map, find}
use Rattle.lk_link.specs.declared.ids.FileId.{FileId}
use Rattle.lk_link.specs.declared.section.InputSection.{InputSection}
use Rattle.lk_link.specs.declared.link.LinkInput.{LinkInput}
use Rattle.lk_link.specs.Inputs.{Input, NumberedFile, all_inputs, inputs_from, numbered_files}
use Rattle.lk_link.specs.Symbols.{file_number}
use Rattle.lk_link.proofs.Elements.{map_in}
use Rattle.lk_link.proofs.InputLemmas.{file_stands}
use Rattle.lk_reach.proofs.Numbered.{file_of_input}
use Rattle.lk_deltas.specs.Candidates.{ranges_in}
use Rattle.lk_deltas.specs.DeltaMaps.{deltas_at}
use Rattle.lk_deltas.specs.LinkDeletions.{deleted_of}
use Rattle.lk_relax.specs.Stages.{DeletionsAreRead, deletions_by, entry_of, file_entries}

abbrev pub Entry : Type 0
Entry = ℕ × List (ℕ × ℕ)

abbrev is_for : ℕ → Entry → Bool
is_for i e = e.0 == i

-- the entry of a section, by its ranges
abbrev pub by_ranges : ℕ → List (ℕ × ℕ) → Bool → Option Entry
by_ranges i ranges none = if none then None else Some (i, ranges)

abbrev pub input : FileId → ℕ → InputSection → Input
input id i s = record { file = id; index = i; section = s }

-- sections behind an index have no entry for it
none_behind : (r : Input → List (ℕ × ℕ)) (id : FileId) (i o : ℕ) (ss : List InputSection) → i < o → find (is_for i) (filter_map (entry_of r) (inputs_from id o ss)) ≡ None
none_behind r id i o [] lt = refl
none_behind r id i o (s ∷ ss) lt = by (none_behind r id i (o + 1) ss (omega (arith, lt))) (length (r (input id o s)) == 0)
  where
    rest : List Entry
    rest = filter_map (entry_of r) (inputs_from id (o + 1) ss)

    by : find (is_for i) rest ≡ None → (b : Bool) → find (is_for i) (cons_option (by_ranges o (r (input id o s)) b) rest) ≡ None
    by later true = later
    by later false = ap (λ b. cond b (Some (o, r (input id o s))) (find (is_for i) rest)) (ne_eqb o i (λ same. absurd (omega (arith, same, lt)))) ∙ later

-- the one of a section is found
entry_found : (r : Input → List (ℕ × ℕ)) (id : FileId) (o k : ℕ) (ss : List InputSection) (s : InputSection) → slice_get ss k ≡ Some s
    → find (is_for (o + k)) (filter_map (entry_of r) (inputs_from id o ss)) ≡ entry_of r (input id (o + k) s)
entry_found r id o k [] s there = absurd (cc)
entry_found r id o zero (q ∷ ss) s there = by (length (r (input id o q)) == 0) refl
  where
    rest : List Entry
    rest = filter_map (entry_of r) (inputs_from id (o + 1) ss)

    at : o ≡ o + 0
    at = omega arith

    same : entry_of r (input id o q) ≡ entry_of r (input id (o + 0) s)
    same = let is : q ≡ s = cc in ap (λ (x : InputSection). entry_of r (input id o x)) is ∙ ap (λ (n : ℕ). entry_of r (input id n s)) at

    by : (b : Bool) → (length (r (input id o q)) == 0) ≡ b → find (is_for (o + 0)) (cons_option (by_ranges o (r (input id o q)) (length (r (input id o q)) == 0)) rest) ≡ entry_of r (input id (o + 0) s)
    by true is =
        ap (λ b. find (is_for (o + 0)) (cons_option (by_ranges o (r (input id o q)) b) rest)) is
        ∙ none_behind r id (o + 0) (o + 1) ss (omega arith)
        ∙ sym (ap (by_ranges o (r (input id o q))) is)
        ∙ same
    by false is =
        ap (λ b. find (is_for (o + 0)) (cons_option (by_ranges o (r (input id o q)) b) rest)) is
        ∙ ap (λ b. cond b (Some (o, r (input id o q))) (find (is_for (o + 0)) rest)) (eq-eqb o (o + 0) at)
        ∙ sym (ap (by_ranges o (r (input id o q))) is)
        ∙ same
entry_found r id o (suc k) (q ∷ ss) s there = by (entry_found r id (o + 1) k ss s there) (length (r (input id o q)) == 0)
  where
    rest : List Entry
    rest = filter_map (entry_of r) (inputs_from id (o + 1) ss)

    at : o + 1 + k ≡ o + suc k
    at = omega arith

    moved : find (is_for (o + 1 + k)) rest ≡ entry_of r (input id (o + 1 + k) s) → find (is_for (o + suc k)) rest ≡ entry_of r (input id (o + suc k) s)
    moved later = subst (λ (n : ℕ). find (is_for n) rest ≡ entry_of r (input id n s)) at later

    by : find (is_for (o + 1 + k)) rest ≡ entry_of r (input id (o + 1 + k) s) → (b : Bool) → find (is_for (o + suc k)) (cons_option (by_ranges o (r (input id o q)) b) rest) ≡ entry_of r (input id (o + suc k) s)
    by later true = moved later
    by later false = ap (λ b. cond b (Some (o, r (input id o q))) (find (is_for (o + suc k)) rest)) (ne_eqb o (o + suc k) (λ same. absurd (omega (arith, same)))) ∙ moved later

-- its ranges are those that it is made of
entry_tells : (i : ℕ) (ranges : List (ℕ × ℕ)) → ranges_in (option_map (λ (e : Entry). e.1) (by_ranges i ranges (length ranges == 0))) ≡ ranges
entry_tells i [] = refl
entry_tells i (x ∷ xs) =
    ap (λ b. ranges_in (option_map (λ (e : Entry). e.1) (by_ranges i (x ∷ xs) b))) (ne_eqb (suc (length xs)) 0 (λ same. absurd (omega (arith, same))))

-- what stands for a section is its entry, if it has one
pub entries_are_read : (link : LinkInput) (r : Input → List (ℕ × ℕ)) (k : ℕ) (x : Input) → slice_get (all_inputs link.groups) k ≡ Some x
    → deleted_of link.groups (deletions_by link r) x.file x.index ≡ option_map (λ (e : Entry). e.1) (entry_of r x)
entries_are_read link r k x there =
    let f = file_of_input link.groups k x there in
    let numbered : NumberedFile = record { id = x.file; file = f.0 } in
    let stands : slice_get (deletions_by link r) (file_number link.groups x.file) ≡ Some (file_entries r numbered)
    = map_in (file_entries r) (numbered_files link.groups) (file_number link.groups x.file) numbered (file_stands link.groups x.file f.0 f.1) in
    let number : 0 + x.index ≡ x.index = omega arith in
    let found : find (is_for x.index) (file_entries r numbered) ≡ entry_of r x
    = subst (λ (n : ℕ). find (is_for n) (file_entries r numbered) ≡ entry_of r (input x.file n x.section)) number (entry_found r x.file 0 x.index f.0.sections x.section f.2) in
    ap (option_and_then (λ (es : List Entry). deltas_at es x.index)) stands ∙ ap (option_map (λ (e : Entry). e.1)) found

pub deletions_are_read : DeletionsAreRead
deletions_are_read link r k x there = ap ranges_in (entries_are_read link r k x there) ∙ entry_tells x.index (r x)
