-- Every unit of a link is one of its file's, and a link is closed whose groups all are.
use Rattle.std.proofs.Common.{◌≡◌, ℕ, ◌+◌, ◌<◌, ◌&&◌, ◌||◌, not, Bool, true, false, List, length, map, take, Option, None, Some, get_or, refl, sym, ap, ◌∙◌, subst, arith, inl, inr, min}
use Rattle.std.specs.Int.{bit_at}
use Rattle.std.specs.Int.Bits.{bit_and}
use Rattle.std.specs.List.{All, flat_map, list_all, range_with_len, slice_get, slice_index}
use Rattle.std.specs.Option.{ForSome, option_map_or}
use Rattle.std.specs.Prelude.{option_map}
use Rattle.std.proofs.lemmas.Bool.{eqb-true}
use Rattle.std.proofs.lemmas.List.{length-map}
use Rattle.std.proofs.lemmas.List.Concat.{length-flat_map}
use Rattle.std.proofs.lemmas.List.FromFn.{length-range_with_len}
use Rattle.std.proofs.lemmas.Nat.Bits.{bit_at-lt, bit_at_and}
use Rattle.std.proofs.lemmas.Option.{slice_get-get_or, slice_get_within}
use Rattle.std.proofs.Math.Nat.{min-le_left}
use Rattle.lk_link.specs.declared.file.InputFile.{InputFile}
use Rattle.lk_link.specs.declared.link.LinkInput.{LinkInput}
use Rattle.lk_link.specs.declared.symbol.InputSymbol.{InputSymbol}
use Rattle.lk_link.specs.Files.{file_in}
use Rattle.lk_link.specs.Flags.{has_flag}
use Rattle.lk_link.specs.Inputs.{NumberedFile, all_inputs, numbered_files}
use Rattle.lk_link.specs.Symbols.{all_files, file_number, first_symbol, symbols_before, symbols_in}
use Rattle.lk_link.proofs.Elements.{append_at, append_left, append_right, at_index, flat_map_at, map_at}
use Rattle.lk_link.proofs.InputLemmas.{file_stands, files_from_are, sum_taken}
use Rattle.lk_link.proofs.Places.{all_at}
use Rattle.lk_flags.specs.Lists.{Lists}
use Rattle.lk_reach.specs.declared.units.Ask.{Ask}
use Rattle.lk_reach.specs.declared.units.Unit.{Unit as LinkUnit}
use Rattle.lk_reach.specs.declared.units.Unit.TheVariants.{Sec, Sym}
use Rattle.lk_reach.specs.Marks.{IsClosed, IsHit, IsJoined, IsMarked, all_units, asking, symbols_in_all, unit_at, unit_number, word_of}
use Rattle.lk_reach.specs.Units.{file_roots, flags_of, follows, numbered_symbols, symbols_of, target_of, unit_of}
use Rattle.lk_reach.proofs.MarkLemmas.{marked_within}
use Rattle.lk_reach.proofs.Numbered.{file_at, file_of_input}
use Rattle.lk_reach.proofs.ReachLemmas.{follows_at}
use Rattle.lk_reach.proofs.SymbolNumbers.{numbered_count}
use Rattle.lk_reach.proofs.UnitLemmas.{all_joined, number_of}
use Rattle.lk_slot_link.specs.LinkGraphs.{files_of_group}
use Rattle.lk_slot_link.specs.LinkLists.{AreInside, lists_of}
use Rattle.lk_slot_link.proofs.Fitting.{lists_fit}
use Rattle.lk_slot_link.proofs.Reaching.{group_within}
use Rattle.lk_workers.specs.Asked.{AreListsOf}
use Rattle.lk_workers.specs.Closings.{ClosedValue, are_groups_closed, file_units, has_flags, is_ask_met, is_file_closed, is_group_closed, is_unit_closed, is_unit_done, section_units, symbol_units}
use Rattle.lk_workers.proofs.Closing.{mapped_at, number_at}
use Rattle.lk_workers.proofs.GroupFiles.{file_here}

-- ---- units of files

-- a symbol's place in its file
record IsPlaced (groups : List (List InputFile)) (s : ℕ) (q : NumberedFile × InputSymbol) : Type 0 where
  pub there : file_in groups q.0.id ≡ Some q.0.file
  pub index : ℕ
  pub within : index < length q.0.file.symbols
  pub place : first_symbol groups q.0.id + index ≡ s

many : (f : NumberedFile) → length (symbols_of f) ≡ symbols_in f.file
many f = length-map f.file.symbols (λ s. (f, s))

symbol_placed : (groups : List (List InputFile)) (s : ℕ) (q : NumberedFile × InputSymbol) → slice_get (numbered_symbols groups) s ≡ Some q → IsPlaced groups s q
symbol_placed groups s q h =
    let at = flat_map_at symbols_of (numbered_files groups) s q h in
    let f : NumberedFile = at.from in
    let pair : InputSymbol → NumberedFile × InputSymbol = λ x. (f, x) in
    let x = map_at pair f.file.symbols at.inner q at.gives in
    let here = file_at groups at.outer f at.there in
    let stands = file_at groups (file_number groups f.id) f (file_stands groups f.id f.file here.there) in
    let number : at.outer ≡ file_number groups f.id = here.place ∙ sym stands.place in
    let before : length (flat_map symbols_of (take at.outer (numbered_files groups))) ≡ symbols_before at.outer (all_files groups)
    = length-flat_map symbols_of (take at.outer (numbered_files groups))
    ∙ sum_taken (λ f. length (symbols_of f)) symbols_in (λ f. f.file) many at.outer (numbered_files groups)
    ∙ ap (λ fs. symbols_before at.outer fs) (files_from_are 0 groups) in
    let first : symbols_before at.outer (all_files groups) ≡ first_symbol groups f.id = ap (λ n. symbols_before n (all_files groups)) number in
    let placed : IsPlaced groups s (pair x.0)
    = record { there = here.there; index = at.inner; within = slice_get_within f.file.symbols at.inner x.0 x.1; place = omega (arith, at.place, before, first) } in
    subst (IsPlaced groups s) x.2 placed

-- a unit is one of a file that is there
record IsOfFile (groups : List (List InputFile)) (unit : LinkUnit) : Type 0 where
  pub file : NumberedFile
  pub there : file_in groups file.id ≡ Some file.file
  pub place : ℕ
  pub among : slice_get (file_units groups file) place ≡ Some unit

symbol_of_file : (groups : List (List InputFile)) (s : ℕ) → s < symbols_in_all groups → IsOfFile groups (Sym s)
symbol_of_file groups s lt =
    let q = at_index (numbered_symbols groups) s (omega (arith, lt, numbered_count groups)) in
    let placed = symbol_placed groups s q.0 q.1 in
    let f : NumberedFile = q.0.0 in
    let first = first_symbol groups f.id in
    let among : slice_get (symbol_units groups f) placed.index ≡ Some (Sym s) = mapped_at Sym first (length f.file.symbols) placed.index placed.within ∙ ap (λ n. Some (Sym n)) placed.place in
    record { file = f; there = placed.there; place = placed.index; among = append_left (symbol_units groups f) (section_units f) placed.index (Sym s) among }

covered : (groups : List (List InputFile)) (n : ℕ) (unit : LinkUnit) → unit_at groups n ≡ Some unit → IsOfFile groups unit
covered groups n unit h =
    let numbers : List ℕ = range_with_len 0 (symbols_in_all groups) in
    elim (append_at (map Sym numbers) (map unit_of (all_inputs groups)) n unit h) [
      | inl a ↦
          let at = map_at Sym numbers n unit a in
          let within : n < symbols_in_all groups = omega (arith, slice_get_within numbers n at.0 at.1, length-range_with_len 0 (symbols_in_all groups)) in
          let same : Some at.0 ≡ Some n = sym at.1 ∙ number_at (symbols_in_all groups) n within in
          let number : at.0 ≡ n = cc in
          subst (IsOfFile groups) (ap Sym (sym number) ∙ at.2) (symbol_of_file groups n within)
      | inr b ↦
          let at = map_at unit_of (all_inputs groups) b.0 unit b.2 in
          let x = at.0 in
          let from = file_of_input groups b.0 x at.1 in
          let f : NumberedFile = record { id = x.file; file = from.0 } in
          let within = slice_get_within from.0.sections x.index x.section from.2 in
          let among : slice_get (section_units f) x.index ≡ Some unit = mapped_at (Sec x.file) 0 (length from.0.sections) x.index within ∙ ap (λ i. Some (Sec x.file i)) (omega arith) ∙ ap Some at.2 in
          record {
            file = f;
            there = from.1;
            place = length (symbol_units groups f) + x.index;
            among = append_right (symbol_units groups f) (section_units f) x.index (length (symbol_units groups f) + x.index) unit refl among;
          }
    ]

-- ---- asks that are met

left_true : (a b : Bool) → (a && b) ≡ true → a ≡ true
left_true true b h = refl
left_true false b h = h

right_true : (a b : Bool) → (a && b) ≡ true → b ≡ true
right_true true b h = h
right_true false b h = absurd (cc)

pub second_true : (a b : Bool) → a ≡ true → (not a || b) ≡ true → b ≡ true
second_true true b e h = h
second_true false b e h = absurd (cc)

hit : (v : ClosedValue) (groups : List (List InputFile)) (o : Option LinkUnit) → option_map_or (is_unit_done v groups) o true ≡ true → ForSome (option_map (unit_number groups) o) (IsMarked v.done)
hit v groups None h n is = absurd (cc)
hit v groups (Some unit) h n is = let same : unit_number groups unit ≡ n = cc in subst (IsMarked v.done) same h

-- a word that has flags has each bit of them
bit_there : (one w i : ℕ) → has_flag one w ≡ true → bit_at one i ≡ 1 → bit_at w i ≡ 1
bit_there one w i h bit =
    let same : bit_and w one ≡ one = eqb-true (bit_and w one) one h in
    let both : min (bit_at w i) (bit_at one i) ≡ 1 = sym (bit_at_and w one i) ∙ ap (λ n. bit_at n i) same ∙ bit in
    omega (arith, both, min-le_left (bit_at w i) (bit_at one i), bit_at-lt w i)

joined : (v : ClosedValue) (o : Option (ℕ × ℕ)) → option_map_or (has_flags v) o true ≡ true → ForSome o (λ p. (i : ℕ) → bit_at p.1 i ≡ 1 → bit_at (slice_index v.words (word_of p.0)) i ≡ 1)
joined v None h p is = absurd (cc)
joined v (Some q) h p is =
    let same : q ≡ p = cc in
    subst (λ (r : ℕ × ℕ). (i : ℕ) → bit_at r.1 i ≡ 1 → bit_at (slice_index v.words (word_of r.0)) i ≡ 1) same (λ i bit. bit_there q.1 (slice_index v.words (word_of q.0)) i h bit)

abbrev IsFitted : LinkInput → ClosedValue → Ask → Type 0
IsFitted link v a = IsHit (asking link) v.done a × IsJoined v.words a

fitted : (link : LinkInput) (v : ClosedValue) (a : Ask) → is_ask_met v link.groups a ≡ true → IsFitted link v a
fitted link v a h =
    let first = option_map_or (is_unit_done v link.groups) (target_of a) true in
    let second = option_map_or (has_flags v) (flags_of a) true in
    (hit v link.groups (target_of a) (left_true first second h), joined v (flags_of a) (right_true first second h))

all_fitted : (link : LinkInput) (v : ClosedValue) (asks : List Ask) → list_all (is_ask_met v link.groups) asks ≡ true → All (IsFitted link v) asks
all_fitted link v asks h k d lt = fitted link v (get_or asks k d) (all_at (is_ask_met v link.groups) asks k (get_or asks k d) h (slice_get-get_or asks k d lt))

-- ---- a link that is closed

pub file_closed : (link : LinkInput) (v : ClosedValue) (f : NumberedFile) → are_groups_closed v link ≡ true → file_in link.groups f.id ≡ Some f.file → is_file_closed v link f ≡ true
file_closed link v f h there =
    let g = f.id.group in
    let group = all_at (is_group_closed v link) (range_with_len 0 (length link.groups)) g g h (number_at (length link.groups) g (group_within link.groups f there)) in
    all_at (is_file_closed v link) (files_of_group link.groups g) f.id.file f group (file_here link.groups g f.id.file f.file there)

unit_closed : (link : LinkInput) (v : ClosedValue) (n : ℕ) (unit : LinkUnit) → are_groups_closed v link ≡ true → unit_at link.groups n ≡ Some unit → is_unit_closed v link unit ≡ true
unit_closed link v n unit h at =
    let of = covered link.groups n unit at in
    let f = of.file in
    let units = right_true (list_all (is_ask_met v link.groups) (file_roots link f)) (list_all (is_unit_closed v link) (file_units link.groups f)) (file_closed link v f h of.there) in
    all_at (is_unit_closed v link) (file_units link.groups f) of.place unit units of.among

done_closed : (link : LinkInput) (v : ClosedValue) (u : ℕ) (unit : LinkUnit) → are_groups_closed v link ≡ true → unit_at link.groups u ≡ Some unit → IsMarked v.done u → All (IsFitted link v) ((asking link).follows u)
done_closed link v u unit h at marked =
    let done : is_unit_done v link.groups unit ≡ true = subst (IsMarked v.done) (sym (number_of link.groups u unit at)) marked in
    let met = second_true (is_unit_done v link.groups unit) (list_all (is_ask_met v link.groups) (follows link unit)) done (unit_closed link v u unit h at) in
    subst (All (IsFitted link v)) (sym (follows_at link u unit at)) (all_fitted link v (follows link unit) met)

pub closed_link : (link : LinkInput) (v : ClosedValue) → length v.done ≡ length (all_units link.groups) → are_groups_closed v link ≡ true → IsClosed (asking link) v.done v.words
closed_link link v count h = record {
  by_roots = all_joined (IsFitted link v) (file_roots link) (numbered_files link.groups) (λ k f at.
      all_fitted link v (file_roots link f)
      (left_true (list_all (is_ask_met v link.groups) (file_roots link f)) (list_all (is_unit_closed v link) (file_units link.groups f)) (file_closed link v f h (file_at link.groups k f at).there)));
  by_units = λ u marked.
      let unit = at_index (all_units link.groups) u (omega (arith, count, marked_within v.done u marked)) in
      done_closed link v u unit.0 h unit.1 marked;
}

-- where all groups are closed, marks and words are all
pub closed_is_all : (l : Lists) (link : LinkInput) (v : ClosedValue) → AreListsOf l link → AreInside l v.done v.words → are_groups_closed v link ≡ true → (v.done ≡ l.units) × (v.words ≡ l.words)
closed_is_all l link v of inside h =
    let fit = lists_fit link of.well_formed in
    let own : AreInside (lists_of link) v.done v.words = subst (λ m. AreInside m v.done v.words) of.lists inside in
    let count : length v.done ≡ length (all_units link.groups) = own.marks_count ∙ fit.marks_count in
    subst (λ (m : Lists). (v.done ≡ m.units) × (v.words ≡ m.words)) (sym of.lists) (fit.all v.done v.words own (closed_link link v count h))
