-- A text is read as lines exactly where it is the map of them.
use Rattle.std.proofs.Common.{◌≡◌, ℕ, ◌+◌, ◌^◌, ◌<◌, ◌≤◌, Bool, true, false, List, [], ◌∷◌, ◌++◌, Option, Some, None, Result, Ok, Err, map, refl, ⊎_elim, sym, ap, ◌∙◌, subst, arith}
use Rattle.std.specs.Prelude.{◌&&◌, nat_lt, if◌then◌else◌}
use Rattle.std.specs.Fmt.{digits}
use Rattle.std.specs.List.{All, flat_map, join_with_byte, list_all, slice_split}
use Rattle.std.specs.Str.{bytes_eq}
use Rattle.std.specs.Str.Parse.{AllDigits}
use Rattle.std.specs.Char.{digit_value}
use Rattle.std.proofs.lemmas.Bool.{cases_lt, false≢true}
use Rattle.std.proofs.lemmas.Bool.Decides.{nat_tests}
use Rattle.std.proofs.lemmas.List.{append_assoc}
use Rattle.std.proofs.lemmas.List.Elements.{All-append, All-cons, All-nil}
use Rattle.std.proofs.lemmas.List.Splits.{join_with_byte-slice_split, slice_split_at, slice_split_none}
use Rattle.lk_map.specs.declared.forms.Word.{Word}
use Rattle.lk_map.specs.declared.forms.Word.TheVariants as word
use Rattle.lk_map.specs.declared.forms.Field.{Field}
use Rattle.lk_map.specs.declared.forms.Field.TheVariants as is
use Rattle.lk_map.specs.declared.forms.Form.{Form}
use Rattle.lk_map.specs.declared.forms.Form.TheVariants as form
use Rattle.lk_map.specs.Cutting.{is_byte}
use Rattle.lk_map.specs.Forms.{fields_of, follows, rank, row_of, word_text}
use Rattle.lk_map.specs.Lines.{Line}
use Rattle.lk_map.specs.Reading.{forms, is_end, line_among, line_of, line_then, lines_from, map_lines, onto, ReadsMaps, words_of}
use Rattle.lk_map.specs.Written.{CanStand, GoOn, IsMap, line_text, parts_of, StandAt, value_text, words_for}
use Rattle.lk_map.proofs.Spelled.{first_word, form_again, line_is_of, numeral, text_is}

-- ---- no word has a blank or a line feed

-- whether all bytes of a word are above the blank
abbrev is_high : List ℕ → Bool
is_high xs = list_all (λ b. nat_lt 32 b) xs

digit_high : (c : ℕ) → digit_value c < 16 → nat_lt 32 c ≡ true
digit_high c h =
    ⊎_elim
    (λ (low : c < 48).
    let test : nat_lt c 48 ≡ true = grind (arith, nat_tests) in
    let much : digit_value c ≡ 36 = rw test refl in
    absurd (omega arith))
    (λ (high : 48 ≤ c). grind (arith, nat_tests))
    (cases_lt c 48)

digits_high : (base : ℕ) (ds : List ℕ) → base ≤ 16 → AllDigits base ds → is_high ds ≡ true
digits_high base [] low h = refl
digits_high base (d ∷ ds) low (first, rest) =
    let high : nat_lt 32 d ≡ true = digit_high d (omega arith) in
    rw high (digits_high base ds low rest)

number_high : (base n : ℕ) → 2 ≤ base → base ≤ 16 → n < 2 ^ 64 → is_high (digits base false n) ≡ true
number_high base n low high small = digits_high base (digits base false n) high (numeral base n low high small).0.1

value_high : (f : Field) (v : Option ℕ) → CanStand f v → is_high (value_text f v) ≡ true
unfolding CanStand value_text
value_high (is.Word w) v h = absurd h
value_high is.Number (Some n) h = number_high 10 n (omega arith) (omega arith) h
value_high is.Number None h = absurd h
value_high is.Address (Some n) h = number_high 16 n (omega arith) (omega arith) h
value_high is.Address None h = absurd h
value_high is.NumberOrNone (Some n) h = number_high 10 n (omega arith) (omega arith) h
value_high is.NumberOrNone None h = refl
value_high is.AddressOrNone (Some n) h = number_high 16 n (omega arith) (omega arith) h
value_high is.AddressOrNone None h = refl

word_high : (w : Word) → is_high (word_text w) ≡ true
unfolding word_text
word_high word.Layout = refl
word_high word.Section = refl
word_high word.Index = refl
word_high word.Mem = refl
word_high word.File = refl
word_high word.Align = refl
word_high word.Lma = refl
word_high word.Attrs = refl
word_high word.Part = refl
word_high word.Segment = refl
word_high word.Live = refl
word_high word.Single = refl
word_high word.Merged = refl
word_high word.Piece = refl
word_high word.Block = refl
word_high word.Thunk = refl
word_high word.Symbol = refl
word_high word.Got = refl
word_high word.Plt = refl
word_high word.Dyn = refl
word_high word.Entry = refl
word_high word.Not = refl
word_high word.Loaded = refl
word_high word.An = refl
word_high word.Address = refl
word_high word.End = refl

high_both : {a b : Bool} → a ≡ true → b ≡ true → (a && b) ≡ true
high_both p q = rw (p, q) refl

words_high : (fs : List Field) (vs : List (Option ℕ)) → StandAt fs vs → list_all is_high (words_for fs vs) ≡ true
unfolding words_for StandAt
words_high [] vs h = refl
words_high (is.Word w ∷ fs) vs h = high_both (word_high w) (words_high fs vs h)
words_high (is.Number ∷ fs) [] h = absurd h
words_high (is.Number ∷ fs) (v ∷ vs) h = high_both (value_high is.Number v h.0) (words_high fs vs h.1)
words_high (is.Address ∷ fs) [] h = absurd h
words_high (is.Address ∷ fs) (v ∷ vs) h = high_both (value_high is.Address v h.0) (words_high fs vs h.1)
words_high (is.NumberOrNone ∷ fs) [] h = absurd h
words_high (is.NumberOrNone ∷ fs) (v ∷ vs) h = high_both (value_high is.NumberOrNone v h.0) (words_high fs vs h.1)
words_high (is.AddressOrNone ∷ fs) [] h = absurd h
words_high (is.AddressOrNone ∷ fs) (v ∷ vs) h = high_both (value_high is.AddressOrNone v h.0) (words_high fs vs h.1)

and_parts : (a b : Bool) → (a && b) ≡ true → (a ≡ true) × (b ≡ true)
and_parts true b e = (refl, e)
and_parts false b e = absurd (false≢true e)

other_byte : (byte x : ℕ) → byte ≤ 32 → nat_lt 32 x ≡ true → is_byte byte x ≡ false
other_byte byte x low h = grind (arith, nat_tests)

free : (byte : ℕ) → byte ≤ 32 → (xs : List ℕ) → is_high xs ≡ true → All (λ x. is_byte byte x ≡ false) xs
free byte low [] h = All-nil (λ x. is_byte byte x ≡ false)
free byte low (x ∷ xs) h =
    let (first, rest) = and_parts (nat_lt 32 x) (is_high xs) h in
    All-cons (λ x. is_byte byte x ≡ false) x xs (other_byte byte x low first) (free byte low xs rest)

above : (xs : List ℕ) → is_high xs ≡ true → All (λ x. 32 < x) xs
above [] h = All-nil (λ x. 32 < x)
above (x ∷ xs) h =
    let (first, rest) = and_parts (nat_lt 32 x) (is_high xs) h in
    All-cons (λ x. 32 < x) x xs (grind (arith, nat_tests)) (above xs rest)

-- a form's word has no blank and no line feed
pub word_above : (w : Word) → All (λ x. 32 < x) (word_text w)
word_above w = above (word_text w) (word_high w)

line_free : (ws : List (List ℕ)) → list_all is_high ws ≡ true → All (λ x. is_byte 10 x ≡ false) (join_with_byte 32 ws)
line_free [] h = All-nil (λ x. is_byte 10 x ≡ false)
line_free (w ∷ []) h = free 10 (omega arith) w (and_parts (is_high w) true h).0
line_free (w ∷ y ∷ ws) h =
    let (first, rest) = and_parts (is_high w) (list_all is_high (y ∷ ws)) h in
    All-append (λ x. is_byte 10 x ≡ false) w (32 ∷ join_with_byte 32 (y ∷ ws)) (free 10 (omega arith) w first)
    (All-cons (λ x. is_byte 10 x ≡ false) 32 (join_with_byte 32 (y ∷ ws)) refl (line_free (y ∷ ws) rest))

-- words with a blank between each two are parted at the blanks
parted : (w : List ℕ) (ws : List (List ℕ)) → list_all is_high (w ∷ ws) ≡ true → slice_split (is_byte 32) (join_with_byte 32 (w ∷ ws)) ≡ w ∷ ws
parted w [] h = slice_split_none (is_byte 32) w (free 32 (omega arith) w (and_parts (is_high w) true h).0)
parted w (y ∷ ws) h =
    let (first, rest) = and_parts (is_high w) (list_all is_high (y ∷ ws)) h in
    slice_split_at (is_byte 32) w 32 (join_with_byte 32 (y ∷ ws)) (free 32 (omega arith) w first) refl ∙ ap (λ parts. w ∷ parts) (parted y ws rest)

parted_all : (words : List (List ℕ)) (w : List ℕ) (ws : List (List ℕ)) → words ≡ w ∷ ws → list_all is_high words ≡ true → slice_split (is_byte 32) (join_with_byte 32 words) ≡ words
parted_all words w ws is h = subst (λ all. slice_split (is_byte 32) (join_with_byte 32 all) ≡ all) (sym is) (parted w ws (subst (λ all. list_all is_high all ≡ true) is h))

-- ---- a line

-- a line as it is written is read as that line
pub line_again : (l : Line) → StandAt (fields_of l.form) l.values → line_of (line_text l) ≡ Some l
line_again l h =
    let (w, ws, is) = first_word l.form l.values in
    ap (line_among forms) (parted_all (words_for (fields_of l.form) l.values) w ws is (words_high (fields_of l.form) l.values h)) ∙ form_again l.form l.values h

-- what is read as a line is what is written of it
pub line_is : (text : List ℕ) (l : Line) → line_of text ≡ Some l → (text ≡ line_text l) × StandAt (fields_of l.form) l.values
line_is text l e =
    let (same, stand) = line_is_of (words_of text) l e in
    (sym (join_with_byte-slice_split 32 text) ∙ ap (join_with_byte 32) same, stand)

-- ---- a text

-- lines, and nothing behind the last line feed
pub parts_for : List Line → List (List ℕ)
parts_for lines = map line_text lines ++ [] ∷ []

some_part : (ls : List Line) → (part : List ℕ) × (parts : List (List ℕ)) × (parts_for ls ≡ part ∷ parts)
unfolding parts_for
some_part [] = ([], [], refl)
some_part (l ∷ ls) = (line_text l, parts_for ls, refl)

-- each line ended by a line feed
feeds : List Line → List ℕ
feeds lines = flat_map (λ line. line_text line ++ 10 ∷ []) lines

feeds_parted : (before : Option Form) (ls : List Line) → GoOn before ls → parts_of (feeds ls) ≡ parts_for ls
unfolding GoOn parts_for feeds
feeds_parted before [] h = refl
feeds_parted before (l ∷ ls) (can, stand, rest) =
    ap (slice_split (is_byte 10)) (append_assoc (line_text l) (10 ∷ []) (feeds ls))
    ∙ slice_split_at (is_byte 10) (line_text l) 10 (feeds ls) (line_free (words_for (fields_of l.form) l.values) (words_high (fields_of l.form) l.values stand)) refl
    ∙ ap (λ parts. line_text l ∷ parts) (feeds_parted (Some l.form) ls rest)

joined_feeds : (ls : List Line) → join_with_byte 10 (parts_for ls) ≡ feeds ls
unfolding parts_for feeds
joined_feeds [] = refl
joined_feeds (l ∷ ls) =
    let (part, parts, is) = some_part ls in
    subst (λ all. join_with_byte 10 (line_text l ∷ all) ≡ line_text l ++ (10 ∷ join_with_byte 10 all)) (sym is) refl
    ∙ ap (λ xs. line_text l ++ (10 ∷ xs)) (joined_feeds ls)
    ∙ sym (append_assoc (line_text l) (10 ∷ []) (feeds ls))

-- ---- lines that follow one another

-- a map ends with the form that is its end
last_so : (before : Option Form) → before ≡ Some form.End → is_end before ≡ true
unfolding is_end rank row_of
last_so before is = ap is_end is

last_is : (before : Option Form) → is_end before ≡ true → before ≡ Some form.End
unfolding is_end rank row_of
last_is None e = absurd (false≢true e)
last_is (Some form.Layout) e = absurd (false≢true e)
last_is (Some form.Section) e = absurd (false≢true e)
last_is (Some form.Part) e = absurd (false≢true e)
last_is (Some form.Segment) e = absurd (false≢true e)
last_is (Some form.Live) e = absurd (false≢true e)
last_is (Some form.Single) e = absurd (false≢true e)
last_is (Some form.Merged) e = absurd (false≢true e)
last_is (Some form.Piece) e = absurd (false≢true e)
last_is (Some form.Block) e = absurd (false≢true e)
last_is (Some form.Thunk) e = absurd (false≢true e)
last_is (Some form.Symbol) e = absurd (false≢true e)
last_is (Some form.Entry) e = absurd (false≢true e)
last_is (Some form.NotLoaded) e = absurd (false≢true e)
last_is (Some form.NotAnAddress) e = absurd (false≢true e)
last_is (Some form.End) e = refl

lines_step : (n : ℕ) (before : Option Form) (here : List ℕ) (all : List (List ℕ)) (part : List ℕ) (parts : List (List ℕ)) → all ≡ part ∷ parts →
    lines_from n before (here ∷ all) ≡ line_then n before (line_of here) (λ form. lines_from (n + 1) (Some form) all)
unfolding lines_from
lines_step n before here all part parts is = subst (λ ps. lines_from n before (here ∷ ps) ≡ line_then n before (line_of here) (λ form. lines_from (n + 1) (Some form) ps)) (sym is) refl

then_on : (n : ℕ) (before : Option Form) (l : Line) (more : Form → Result (List Line) ℕ) → follows before l.form ≡ true → line_then n before (Some l) more ≡ onto l (more l.form)
unfolding line_then
then_on n before l more can = ap (λ b. if b then onto l (more l.form) else Err n) can

lines_again : (n : ℕ) (before : Option Form) (ls : List Line) → GoOn before ls → lines_from n before (parts_for ls) ≡ Ok ls
unfolding GoOn parts_for lines_from
lines_again n before [] last = ap (λ b. if b then Ok [] else Err n) (last_so before last)
lines_again n before (l ∷ ls) (can, stand, rest) =
    let (part, parts, is) = some_part ls in
    let more : Form → Result (List Line) ℕ = λ form. lines_from (n + 1) (Some form) (parts_for ls) in
    lines_step n before (line_text l) (parts_for ls) part parts is
    ∙ ap (λ o. line_then n before o more) (line_again l stand)
    ∙ then_on n before l more can
    ∙ ap (onto l) (lines_again (n + 1) (Some l.form) ls rest)

ok_is : (x y : List Line) → ◌≡◌ {A = Result (List Line) ℕ} (Ok x) (Ok y) → x ≡ y
ok_is x y h = cc

end_is : (b c : Bool) (n : ℕ) (ls : List Line) → (if b && c then Ok [] else Err n) ≡ Ok ls → (b ≡ true) × (c ≡ true) × (ls ≡ [])
end_is true true n ls e = (refl, refl, sym (ok_is [] ls e))
end_is true false n ls e = cc
end_is false c n ls e = cc

onto_is : (l : Line) (r : Result (List Line) ℕ) (ls : List Line) → onto l r ≡ Ok ls → (rest : List Line) × (r ≡ Ok rest) × (ls ≡ l ∷ rest)
onto_is l (Ok rest) ls e = (rest, refl, cc)
onto_is l (Err n) ls e = cc

-- what a line that is read says
ThenIs : Option Form → Option Line → (Form → Result (List Line) ℕ) → List Line → Type 0
ThenIs before o more ls = (l : Line) × (rest : List Line) × (o ≡ Some l) × (follows before l.form ≡ true) × (more l.form ≡ Ok rest) × (ls ≡ l ∷ rest)

then_case : (n : ℕ) (before : Option Form) (l : Line) (more : Form → Result (List Line) ℕ) (ls : List Line) (b : Bool) → follows before l.form ≡ b → (if b then onto l (more l.form) else Err n) ≡ Ok ls → ThenIs before (Some l) more ls
unfolding ThenIs
then_case n before l more ls true can e = let (rest, is, same) = onto_is l (more l.form) ls e in (l, rest, refl, can, is, same)
then_case n before l more ls false can e = cc

then_is : (n : ℕ) (before : Option Form) (o : Option Line) (more : Form → Result (List Line) ℕ) (ls : List Line) → line_then n before o more ≡ Ok ls → ThenIs before o more ls
unfolding line_then
then_is n before None more ls e = cc
then_is n before (Some l) more ls e = then_case n before l more ls (follows before l.form) refl e

lines_are : (n : ℕ) (before : Option Form) (parts : List (List ℕ)) (ls : List Line) → lines_from n before parts ≡ Ok ls → GoOn before ls × (parts ≡ parts_for ls)
unfolding GoOn parts_for lines_from ThenIs
lines_are n before [] ls e = cc
lines_are n before (rest ∷ []) ls e =
    let (empty, last, none) = end_is (bytes_eq rest []) (is_end before) n ls e in
    (subst (GoOn before) (sym none) (last_is before last), ap (λ x. x ∷ []) (text_is rest [] empty) ∙ ap parts_for (sym none))
lines_are n before (text ∷ part ∷ parts) ls e =
    let (l, rest, says, can, more, same) = then_is n before (line_of text) (λ form. lines_from (n + 1) (Some form) (part ∷ parts)) ls e in
    let (go_on, are) = lines_are (n + 1) (Some l.form) (part ∷ parts) rest more in
    let (written, stand) = line_is text l says in
    (subst (GoOn before) (sym same) (can, stand, go_on), ap (λ t. t ∷ part ∷ parts) written ∙ ap (λ ps. line_text l ∷ ps) are ∙ ap parts_for (sym same))

-- ---- the law

pub is_map : (text : List ℕ) (lines : List Line) → map_lines text ≡ Ok lines → IsMap text lines
unfolding feeds
is_map text lines e =
    let (go_on, are) = lines_are 1 None (parts_of text) lines e in
    (go_on, sym (join_with_byte-slice_split 10 text) ∙ ap (join_with_byte 10) are ∙ joined_feeds lines)

pub map_is : (text : List ℕ) (lines : List Line) → IsMap text lines → map_lines text ≡ Ok lines
unfolding feeds
map_is text lines (go_on, is) =
    ap (λ t. lines_from 1 None (parts_of t)) is
    ∙ ap (lines_from 1 None) (feeds_parted None lines go_on)
    ∙ lines_again 1 None lines go_on

pub reads_maps : ReadsMaps
reads_maps text lines = (is_map text lines, map_is text lines)
