-- What is live of a link: what marks and words tell is, and only that.
use Rattle.std.proofs.Common.{◌≡◌, ℕ, zero, suc, ◌+◌, ◌<◌, Bool, true, false, ◌&&◌, ◌||◌, List, [], ◌∷◌, length, map, drop, Option, Some, None, ◌⊎◌, ◌==◌, refl, sym, ap, ◌∙◌, subst, inl, inr, arith, length-drop}
use Rattle.std.specs.Int.{bit_at}
use Rattle.std.specs.List.{enumerate_from, filter, list_any, slice_get, slice_index, slice_index_or}
use Rattle.std.proofs.lemmas.Bool.{and_from, and_parts, cases_Bool, eq-eqb, eqb-true, or_left, or_right}
use Rattle.std.proofs.lemmas.List.Folds.{Any-from_list_any}
use Rattle.std.proofs.lemmas.List.{ext_get_or, get_or-drop, length-map}
use Rattle.std.proofs.lemmas.List.FromFn.{length-enumerate_from}
use Rattle.std.proofs.lemmas.Option.{get_or_from_slice_get, slice_get-get_or, slice_get_within}
use Rattle.std.specs.Option.{option_map_or}
use Rattle.lk_link.specs.declared.file.FileKind.{FileKind}
use Rattle.lk_link.specs.declared.file.FileKind.TheVariants as kind
use Rattle.lk_link.specs.declared.file.InputFile.{InputFile}
use Rattle.lk_link.specs.declared.flags.ValueFlags.{ValueFlags}
use Rattle.lk_link.specs.declared.link.LinkInput.{LinkInput}
use Rattle.lk_link.specs.declared.section.InputSlot.{InputSlot}
use Rattle.lk_link.specs.declared.section.InputSlot.TheVariants as slot
use Rattle.lk_link.specs.Files.{file_in}
use Rattle.lk_link.specs.FileKinds.{is_object, is_script}
use Rattle.lk_link.specs.Inputs.{Input, NumberedFile, all_inputs, numbered_files}
use Rattle.lk_link.specs.InputSlots.{can_be_kept}
use Rattle.lk_link.specs.Marks.{is_marked}
use Rattle.lk_link.specs.Symbols.{all_symbols, file_number, first_symbol}
use Rattle.lk_link.specs.WellFormed.{IsWellFormed}
use Rattle.lk_link.proofs.InputLemmas.{file_stands, numbered_get}
use Rattle.lk_link.proofs.SymbolLemmas.{symbols_within}
use Rattle.lk_link.proofs.Numbers.{length-made, made_at}
use Rattle.lk_live.specs.declared.live.Live.{Live}
use Rattle.lk_live.specs.Laws.{LiveExists, LiveIsOne, RootsAreLive}
use Rattle.lk_reach.specs.Marks.{IsMarked, IsUnit, asked, asking, flag_words, handed_in, reached_marks, symbols_in_all, unit_at, unit_number, word_of}
use Rattle.lk_reach.specs.declared.units.Unit.TheVariants.{Sym}
use Rattle.lk_live.specs.KeptParts.{kept_marks, live_by, live_marks, names_output, redirect_keeps, script_keeps, section_keeps}
use Rattle.lk_live.specs.Reach.{AreLive, IsKeptByRedirect, IsLive, keeps_output, marked, redirect_output}
use Rattle.lk_reach.specs.Reach.{IsReached}
use Rattle.lk_reach.specs.Units.{ask_for, export_roots, file_roots, flags_from, is_root, kind_roots, roots, section_roots, unit_of}
use Rattle.lk_link.proofs.Elements.{numbered_at, append_left, at_index, contains_at, filter_in, flat_map_at, flat_map_in, map_at, map_in}
use Rattle.lk_reach.proofs.Numbered.{IsSectionOf, file_at, section_of, sections_of}
use Rattle.lk_reach.proofs.Passing.{some_holds}
use Rattle.lk_reach.proofs.ReachLemmas.{handed_length, marks_are_reached, reach_root, words_are_flags}
use Rattle.lk_reach.proofs.UnitLemmas.{input_place, input_unit, symbol_unit, symbols_length}
use Rattle.lk_reach.proofs.WordLemmas.{join_all_length, same_flags}

-- ---- input sections

live_mark : (link : LinkInput) (marks : List Bool) (k : ℕ) (x : Input) → slice_get (all_inputs link.groups) k ≡ Some x
    → slice_index_or (live_marks link marks) k false ≡ (slice_index_or marks (symbols_in_all link.groups + k) false && can_be_kept x.section.slot)
live_mark link marks k x h =
    let told : ℕ × Input → Bool = λ q. slice_index_or marks (symbols_in_all link.groups + q.0) false && can_be_kept q.1.section.slot in
    let here = map_in told (enumerate_from 0 (all_inputs link.groups)) k (0 + k, x) (numbered_get 0 (all_inputs link.groups) k x h) in
    let zero_more : 0 + k ≡ k = omega arith in
    get_or_from_slice_get (live_marks link marks) k (told (0 + k, x)) false here ∙ ap (λ n. told (n, x)) zero_more

live_count : (link : LinkInput) (marks : List Bool) → length (live_marks link marks) ≡ length (all_inputs link.groups)
live_count link marks = length-map (enumerate_from 0 (all_inputs link.groups)) _ ∙ length-enumerate_from 0 (all_inputs link.groups)

input_is_unit : (link : LinkInput) (k : ℕ) (x : Input) → slice_get (all_inputs link.groups) k ≡ Some x
    → (unit_number link.groups (unit_of x) ≡ symbols_in_all link.groups + k) × IsUnit link.groups (unit_of x)
input_is_unit link k x h =
    let number : unit_number link.groups (unit_of x) ≡ symbols_in_all link.groups + k = ap (λ n. symbols_in_all link.groups + n) (input_place link.groups k x h) in
    (number, ap (unit_at link.groups) number ∙ input_unit link.groups k x h)

marked_live : (link : LinkInput) (k : ℕ) (x : Input) → IsWellFormed link → slice_get (all_inputs link.groups) k ≡ Some x → slice_index_or (live_marks link (reached_marks link)) k false ≡ true → IsLive link x
marked_live link k x wf h set =
    let marks = reached_marks link in
    let unit = input_is_unit link k x h in
    let parts = and_parts (slice_index_or marks (symbols_in_all link.groups + k) false) (can_be_kept x.section.slot) (sym (live_mark link marks k x h) ∙ set) in
    record { reached = (marks_are_reached link (unit_of x) wf unit.1).0 (subst (IsMarked marks) (sym unit.0) parts.0); slot = parts.1 }

live_marked : (link : LinkInput) (k : ℕ) (x : Input) → IsWellFormed link → slice_get (all_inputs link.groups) k ≡ Some x → IsLive link x → slice_index_or (live_marks link (reached_marks link)) k false ≡ true
live_marked link k x wf h live =
    let marks = reached_marks link in
    let unit = input_is_unit link k x h in
    let is : IsMarked marks (symbols_in_all link.groups + k) = subst (IsMarked marks) unit.0 ((marks_are_reached link (unit_of x) wf unit.1).1 live.reached) in
    live_mark link marks k x h ∙ and_from (slice_index_or marks (symbols_in_all link.groups + k) false) (can_be_kept x.section.slot) is live.slot

-- ---- symbols

flag_count : (link : LinkInput) → length (map flags_from (drop 1 (flag_words link))) ≡ length (all_symbols link.groups)
flag_count link = omega (
  arith,
  length-map (drop 1 (flag_words link)) flags_from,
  length-drop 1 (flag_words link),
  join_all_length (handed_in link) (asked (asking link) (reached_marks link)),
  handed_length link,
  symbols_length link.groups,
)

flag_at : (words : List ℕ) (s : ℕ) (f : ValueFlags) → slice_get (map flags_from (drop 1 words)) s ≡ Some f → f.0 ≡ slice_index words (word_of s)
flag_at words s f h =
    let w = map_at flags_from (drop 1 words) s f h in
    let read : slice_index (drop 1 words) s ≡ w.0 = get_or_from_slice_get (drop 1 words) s w.0 0 w.1 in
    let place : 1 + s ≡ word_of s = omega arith in
    ap (λ (g : ValueFlags). g.0) (sym w.2) ∙ sym read ∙ get_or-drop 1 words s 0 ∙ ap (slice_index words) place

-- ---- output sections

any_marked : (p : Input → Bool) (marks : List Bool) (xs : List Input) → list_any p (marked marks xs) ≡ true
    → (k : ℕ) × (x : Input) × (slice_get xs k ≡ Some x) × (slice_index_or marks k false ≡ true) × (p x ≡ true)
any_marked p [] xs h = absurd (cc)
any_marked p (m ∷ marks) [] h = absurd (cc)
any_marked p (false ∷ marks) (x ∷ xs) h =
    let r = any_marked p marks xs h in
    (suc r.0, r.1, r.2, r.3, r.4)
any_marked p (true ∷ marks) (x ∷ xs) h = elim (cases_Bool (p x)) [
  | inl is ↦ (0, x, refl, refl, is)
  | inr isnt ↦ let r = any_marked p marks xs (ap (λ b. b || list_any p (marked marks xs)) (sym isnt) ∙ h) in (suc r.0, r.1, r.2, r.3, r.4)
]

marked_any : (p : Input → Bool) (marks : List Bool) (xs : List Input) (k : ℕ) (x : Input) → slice_get xs k ≡ Some x → slice_index_or marks k false ≡ true → p x ≡ true → list_any p (marked marks xs) ≡ true
marked_any p [] xs k x h m e = absurd (cc)
marked_any p (n ∷ marks) [] k x h m e = absurd (cc)
marked_any p (false ∷ marks) (y ∷ xs) zero x h m e = absurd (cc)
marked_any p (true ∷ marks) (y ∷ xs) zero x h m e =
    let same : y ≡ x = cc in
    or_left (p y) (list_any p (marked marks xs)) (ap p same ∙ e)
marked_any p (false ∷ marks) (y ∷ xs) (suc k) x h m e = marked_any p marks xs k x h m e
marked_any p (true ∷ marks) (y ∷ xs) (suc k) x h m e = or_right (p y) (list_any p (marked marks xs)) (marked_any p marks xs k x h m e)

-- ---- all together

kept_at : (link : LinkInput) (live marks : List Bool) (o : ℕ) → o < length link.plan.sections
    → slice_index_or (kept_marks link live marks) o false ≡ (section_keeps link live o || redirect_keeps link marks o)
kept_at link live marks o lt =
    let told : ℕ → Bool = λ n. section_keeps link live n || redirect_keeps link marks n in
    let zero_more : 0 + o ≡ o = omega arith in
    made_at told false link.plan.sections 0 o lt ∙ ap told zero_more

either : (a b : Bool) → (a || b) ≡ true → (a ≡ true) ⊎ (b ≡ true)
either true b h = inl refl
either false b h = inr h

-- an element for which it holds, where there is one
pub record Holds {X : Type 0} (p : X → Bool) (xs : List X) : Type 0 where
  pub place : ℕ
  pub element : X
  pub there : slice_get xs place ≡ Some element
  pub holds : p element ≡ true

pub holds_of : {X : Type 0} (p : X → Bool) (xs : List X) → list_any p xs ≡ true → Holds p xs
holds_of p xs h =
    let x = Any-from_list_any p xs h in
    record { place = x.0; element = x.1; there = slice_get-get_or xs x.0 x.1 x.2 ∙ ap Some x.3; holds = x.4 }

output_is : (p : Option ℕ) (o : ℕ) → option_map_or (λ n. n == o) p false ≡ true → p ≡ Some o
output_is None o h = absurd (cc)
output_is (Some n) o h = ap Some (eqb-true n o h)

is_output : (p : Option ℕ) (o : ℕ) → p ≡ Some o → option_map_or (λ n. n == o) p false ≡ true
is_output p o h = ap (λ q. option_map_or (λ n. n == o) q false) h ∙ eq-eqb o o refl

marked_redirect : (link : LinkInput) (o : ℕ) → IsWellFormed link → redirect_keeps link (reached_marks link) o ≡ true → IsKeptByRedirect link o
marked_redirect link o wf h =
    let groups : List (List InputFile) = link.groups in
    let marks = reached_marks link in
    let f = holds_of (script_keeps link marks o) (numbered_files groups) h in
    let file : InputFile = f.element.file in
    let first = first_symbol groups f.element.id in
    let there = (file_at groups f.place f.element f.there).there in
    let both = and_parts (is_script file.kind) (list_any (names_output marks o) (enumerate_from first file.symbols)) f.holds in
    let q = holds_of (names_output marks o) (enumerate_from first file.symbols) both.1 in
    let x = numbered_at first file.symbols q.place q.element q.there in
    let number : q.element.0 ≡ first + q.place = x.0 in
    let names = and_parts (is_marked marks q.element.0) (option_map_or (λ n. n == o) (redirect_output q.element.1.at) false) q.holds in
    let within : q.element.0 < symbols_in_all groups
    = omega (arith, number, slice_get_within file.symbols q.place q.element.1 x.1, symbols_within groups f.element.id file there) in
    let reached : IsReached link (Sym q.element.0) = (marks_are_reached link (Sym q.element.0) wf (symbol_unit groups q.element.0 within)).0 names.0 in
    record {
      id = f.element.id;
      file = file;
      there = there;
      script = both.0;
      index = q.place;
      symbol = q.element.1;
      at_index = x.1;
      redirect = output_is (redirect_output q.element.1.at) o names.1;
      reached = subst (λ n. IsReached link (Sym n)) number reached;
    }

redirect_marked : (link : LinkInput) (o : ℕ) → IsWellFormed link → IsKeptByRedirect link o → redirect_keeps link (reached_marks link) o ≡ true
redirect_marked link o wf r =
    let groups : List (List InputFile) = link.groups in
    let marks = reached_marks link in
    let first = first_symbol groups r.id in
    let f : NumberedFile = record { id = r.id; file = r.file } in
    let within : first + r.index < symbols_in_all groups = omega (arith, slice_get_within r.file.symbols r.index r.symbol r.at_index, symbols_within groups r.id r.file r.there) in
    let mark : is_marked marks (first + r.index) ≡ true = (marks_are_reached link (Sym (first + r.index)) wf (symbol_unit groups (first + r.index) within)).1 r.reached in
    let names = and_from (is_marked marks (first + r.index)) _ mark (is_output (redirect_output r.symbol.at) o r.redirect) in
    let some = some_holds (names_output marks o) (enumerate_from first r.file.symbols) r.index (first + r.index, r.symbol) (numbered_get first r.file.symbols r.index r.symbol r.at_index) names in
    some_holds (script_keeps link marks o) (numbered_files groups) (file_number groups r.id) f (file_stands groups r.id r.file r.there) (and_from (is_script r.file.kind) _ r.script some)

pub are_live : (link : LinkInput) → IsWellFormed link → AreLive link (live_by link (reached_marks link) (flag_words link))
are_live link wf =
    let marks = live_marks link (reached_marks link) in
    let inputs : List Input = all_inputs link.groups in
    record {
      count = live_count link (reached_marks link);
      marks = λ k x h. (marked_live link k x wf h, live_marked link k x wf h);
      symbols = flag_count link;
      flags = λ s f h i.
          let same = flag_at (flag_words link) s f h in
          let within : s < symbols_in_all link.groups = omega (arith, slice_get_within (map flags_from (drop 1 (flag_words link))) s f h, flag_count link, symbols_length link.groups) in
          let law = words_are_flags link s i wf within in
          (λ bit. law.0 (ap (λ w. bit_at w i) (sym same) ∙ bit), λ flag. ap (λ w. bit_at w i) same ∙ law.1 flag);
      sections = length-made (λ n. section_keeps link marks n || redirect_keeps link (reached_marks link) n) link.plan.sections 0;
      kept = λ o lt.
          let at = kept_at link marks (reached_marks link) o lt in (
            λ set. elim (either (section_keeps link marks o) (redirect_keeps link (reached_marks link) o) (sym at ∙ set)) [
              | inl section ↦
                  let r = any_marked (keeps_output link o) marks inputs section in
                  inl (record { input = r.1; number = r.0; there = r.2; live = marked_live link r.0 r.1 wf r.2 r.3; keeps = r.4 })
              | inr redirect ↦ inr (marked_redirect link o wf redirect)
            ],
            λ kept. at ∙ elim kept [
              | inl s ↦
                  or_left (section_keeps link marks o) (redirect_keeps link (reached_marks link) o)
                  (marked_any (keeps_output link o) marks inputs s.number s.input s.there (live_marked link s.number s.input wf s.there s.live) s.keeps)
              | inr r ↦ or_right (section_keeps link marks o) (redirect_keeps link (reached_marks link) o) (redirect_marked link o wf r)
            ],
          );
    }

pub live_exists : LiveExists
live_exists link wf = (live_by link (reached_marks link) (flag_words link), are_live link wf)

-- ---- there is one

same_mark : (a b : Bool) → (a ≡ true → b ≡ true) → (b ≡ true → a ≡ true) → a ≡ b
same_mark true b f g = sym (f refl)
same_mark false true f g = g refl
same_mark false false f g = refl

same_sets : (xs ys : List ValueFlags) → length xs ≡ length ys → ((i : ℕ) (f g : ValueFlags) → slice_get xs i ≡ Some f → slice_get ys i ≡ Some g → f ≡ g) → xs ≡ ys
same_sets [] [] e h = refl
same_sets [] (g ∷ ys) e h = absurd (omega (arith, e))
same_sets (f ∷ xs) [] e h = absurd (omega (arith, e))
same_sets (f ∷ xs) (g ∷ ys) e h =
    let first : f ≡ g = h 0 f g refl refl in
    let rest : xs ≡ ys = same_sets xs ys (omega (arith, e)) (λ i. h (suc i)) in
    cc

abbrev live_from : List Bool → List ValueFlags → List Bool → Live
live_from marks flags kept = record { marks = marks; flags = flags; kept = kept }

pub live_is_one : LiveIsOne
live_is_one link a b h k =
    let inputs : List Input = all_inputs link.groups in
    let marks : a.marks ≡ b.marks = ext_get_or false a.marks b.marks (h.count ∙ sym k.count) (λ i less.
    let within : i < length inputs = omega (arith, h.count) in
    let there = at_index inputs i within in
    let in_a = h.marks i there.0 there.1 in
    let in_b = k.marks i there.0 there.1 in
    same_mark (slice_index_or a.marks i false) (slice_index_or b.marks i false) (λ set. in_b.1 (in_a.0 set)) (λ set. in_a.1 (in_b.0 set))) in
    let kept : a.kept ≡ b.kept = ext_get_or false a.kept b.kept (h.sections ∙ sym k.sections) (λ o less.
    let within : o < length link.plan.sections = omega (arith, h.sections) in
    let in_a = h.kept o within in
    let in_b = k.kept o within in
    same_mark (slice_index_or a.kept o false) (slice_index_or b.kept o false) (λ set. in_b.1 (in_a.0 set)) (λ set. in_a.1 (in_b.0 set))) in
    let flags : a.flags ≡ b.flags = same_sets a.flags b.flags (h.symbols ∙ sym k.symbols) (λ s f g in_a in_b.
    ap flags_from (same_flags f.0 g.0 (λ i bit. (k.flags s g in_b i).1 ((h.flags s f in_a i).0 bit)) (λ i bit. (h.flags s f in_a i).1 ((k.flags s g in_b i).0 bit)))) in
    ap (λ ms. live_from ms a.flags a.kept) marks ∙ ap (λ fs. live_from b.marks fs a.kept) flags ∙ ap (live_from b.marks b.flags) kept

-- ---- roots

kept_root : (gc : Bool) (s : InputSlot) → is_root gc s ≡ true → can_be_kept s ≡ true
kept_root gc slot.Discard h = absurd (cc)
kept_root gc slot.Unloaded h = refl
kept_root gc slot.MustLoad h = refl
kept_root gc slot.DebugInfo h = refl
kept_root gc slot.MustLoadDebugInfo h = refl
kept_root gc slot.Merge h = absurd (cc)

object_kind : (k : FileKind) → is_object k ≡ true → k ≡ kind.Object
object_kind kind.Prelude h = absurd (cc)
object_kind kind.Object h = refl
object_kind kind.Dynamic h = absurd (cc)
object_kind kind.NotLoaded h = absurd (cc)
object_kind kind.SyntheticSymbols h = absurd (cc)
object_kind kind.LinkerScript h = absurd (cc)

pub roots_are_live : RootsAreLive
roots_are_live link k x file h at_file object root =
    let files : List NumberedFile = numbered_files link.groups in
    let at = flat_map_at sections_of files k x h in
    let is : IsSectionOf at.from x = (section_of at.from at.inner x at.gives).1 in
    let found : Some at.from.file ≡ Some file = sym (file_at link.groups at.outer at.from at.there).there ∙ ap (file_in link.groups) (sym is.id) ∙ at_file in
    let one : at.from.file ≡ file = cc in
    let kind_is : at.from.file.kind ≡ kind.Object = ap (λ (f : InputFile). f.kind) one ∙ object_kind file.kind object in
    let passes : Input → Bool = λ y. is_root link.options.gc y.section.slot in
    let kept = filter_in passes (sections_of at.from) x.index x is.numbered root in
    let asks : slice_get (section_roots link.options.gc at.from.id 0 at.from.file.sections) kept.0 ≡ Some (ask_for x) = map_in ask_for (filter passes (sections_of at.from)) kept.0 x kept.1 in
    let both : slice_get (kind_roots link at.from kind.Object) kept.0 ≡ Some (ask_for x)
    = append_left (section_roots link.options.gc at.from.id 0 at.from.file.sections) (export_roots link at.from) kept.0 (ask_for x) asks in
    let there : slice_get (file_roots link at.from) kept.0 ≡ Some (ask_for x) = ap (λ kd. slice_get (kind_roots link at.from kd) kept.0) kind_is ∙ both in
    let among = flat_map_in (file_roots link) files at.outer kept.0 at.from (ask_for x) at.there there in
    record {
      reached = reach_root link (unit_of x) (record { ask = ask_for x; among = contains_at (roots link) among.0 (ask_for x) among.1; target = refl });
      slot = kept_root link.options.gc x.section.slot root;
    }
