-- What is refused is refused at the first line at which no map goes on; and what is read of a text is what it says.
use Rattle.std.proofs.Common.{◌≡◌, ℕ, suc, ◌+◌, ◌<◌, ◌≤◌, Bool, true, false, List, [], ◌∷◌, Option, Some, None, Result, Ok, Err, length, map, take, refl, sym, ap, ◌∙◌, subst, ⊎_elim, arith}
use Rattle.std.specs.Prelude.{◌&&◌, if◌then◌else◌}
use Rattle.std.specs.Str.{bytes_eq}
use Rattle.std.proofs.lemmas.Bool.{cases_lt, false≢true}
use Rattle.std.proofs.lemmas.List.{take-take}
use Rattle.lk_map.specs.declared.forms.Form.{Form}
use Rattle.lk_map.specs.declared.forms.Form.TheVariants as form
use Rattle.lk_map.specs.declared.map_text.SectionLine.{SectionLine}
use Rattle.lk_map.specs.declared.map_text.SegmentLine.{SegmentLine}
use Rattle.lk_map.specs.Cutting.{is_byte}
use Rattle.lk_map.specs.Forms.{fields_of, follows, rank, row_of}
use Rattle.lk_map.specs.Lines.{Line}
use Rattle.lk_map.specs.MapText.{sections_of, segments_of}
use Rattle.lk_map.specs.Reading.{is_end, line_of, line_then, lines_from, map_lines, map_of, onto, RefusesFirst, TextsAreRead, told_map}
use Rattle.lk_map.specs.Written.{CanStand, GoOn, IsFirstWrong, line_text, parts_of, StandAt, TextSays, TextsSayOneThing}
use Rattle.lk_map.proofs.Reading.{first_part}
use Rattle.lk_map.proofs.WrittenMaps.{is_map, line_again, line_is, map_is}

-- ---- behind each line a map goes on

first_line : Line
first_line = record { form = form.Layout; values = [] }

entry_line : Line
entry_line = record { form = form.Entry; values = None ∷ [] }

end_line : Line
end_line = record { form = form.End; values = [] }

to_end : GoOn (Some form.Entry) (end_line ∷ []) × GoOn (Some form.NotLoaded) (end_line ∷ []) × GoOn (Some form.NotAnAddress) (end_line ∷ [])
unfolding GoOn follows rank StandAt fields_of row_of end_line
to_end = ((refl, tt, refl), (refl, tt, refl), (refl, tt, refl))

to_entry : (before : Option Form) → follows before form.Entry ≡ true → GoOn before (entry_line ∷ end_line ∷ [])
unfolding GoOn StandAt CanStand fields_of row_of entry_line
to_entry before can = (can, (tt, tt), to_end.0)

from_start : GoOn None (first_line ∷ entry_line ∷ end_line ∷ [])
unfolding GoOn StandAt fields_of first_line follows rank row_of
from_start = (refl, tt, to_entry (Some form.Layout) refl)

at_end : GoOn (Some form.End) []
unfolding GoOn
at_end = refl

ending : (before : Option Form) → (ls : List Line) × GoOn before ls
unfolding follows rank row_of
ending None = (first_line ∷ entry_line ∷ end_line ∷ [], from_start)
ending (Some form.Layout) = (entry_line ∷ end_line ∷ [], to_entry (Some form.Layout) refl)
ending (Some form.Section) = (entry_line ∷ end_line ∷ [], to_entry (Some form.Section) refl)
ending (Some form.Part) = (entry_line ∷ end_line ∷ [], to_entry (Some form.Part) refl)
ending (Some form.Segment) = (entry_line ∷ end_line ∷ [], to_entry (Some form.Segment) refl)
ending (Some form.Live) = (entry_line ∷ end_line ∷ [], to_entry (Some form.Live) refl)
ending (Some form.Single) = (entry_line ∷ end_line ∷ [], to_entry (Some form.Single) refl)
ending (Some form.Merged) = (entry_line ∷ end_line ∷ [], to_entry (Some form.Merged) refl)
ending (Some form.Piece) = (entry_line ∷ end_line ∷ [], to_entry (Some form.Piece) refl)
ending (Some form.Block) = (entry_line ∷ end_line ∷ [], to_entry (Some form.Block) refl)
ending (Some form.Thunk) = (entry_line ∷ end_line ∷ [], to_entry (Some form.Thunk) refl)
ending (Some form.Symbol) = (entry_line ∷ end_line ∷ [], to_entry (Some form.Symbol) refl)
ending (Some form.Entry) = (end_line ∷ [], to_end.0)
ending (Some form.NotLoaded) = (end_line ∷ [], to_end.1)
ending (Some form.NotAnAddress) = (end_line ∷ [], to_end.2)
ending (Some form.End) = ([], at_end)

-- ---- the first line that is wrong, among lines behind one of this form

-- line n + k is it, and the lines before it begin what goes on a map
record IsWrongAt (before : Option Form) (parts : List (List ℕ)) (n e : ℕ) : Type 0 where
  k : ℕ
  is : e ≡ n + k
  within : k < length parts
  begun : (ls : List Line) × GoOn before ls × (take k parts ≡ take k (map line_text ls))
  wrong : (ls : List Line) → GoOn before ls → k + 1 < length parts → take (k + 1) parts ≡ take (k + 1) (map line_text ls) → ⊥

no_lines : (ls : List Line) (e : ℕ) → ◌≡◌ {A = Result (List Line) ℕ} (Ok ls) (Err e) → ⊥
no_lines ls e h = cc

none_is : (l : Line) → None ≡ Some l → ⊥
none_is l e = cc

first_is : (x y : List ℕ) (xs ys : List (List ℕ)) → x ∷ xs ≡ y ∷ ys → x ≡ y
first_is x y xs ys e = cc

rest_is : (x y : List ℕ) (xs ys : List (List ℕ)) → x ∷ xs ≡ y ∷ ys → xs ≡ ys
rest_is x y xs ys e = cc

never_one : (before : Option Form) (text : List ℕ) (parts : List (List ℕ)) → ((l : Line) → text ≡ line_text l → follows before l.form ≡ true → StandAt (fields_of l.form) l.values → ⊥) →
    (ls : List Line) → GoOn before ls → take 1 (text ∷ parts) ≡ take 1 (map line_text ls) → ⊥
unfolding GoOn
never_one before text parts never [] h same = cc
never_one before text parts never (l ∷ ls) (can, stand, rest) same = never l (first_is text (line_text l) [] [] same) can stand

-- the line that comes next is wrong
wrong_here : (before : Option Form) (text : List ℕ) (parts : List (List ℕ)) (n e : ℕ) → e ≡ n → ((l : Line) → text ≡ line_text l → follows before l.form ≡ true → StandAt (fields_of l.form) l.values → ⊥) → IsWrongAt before (text ∷ parts) n e
wrong_here before text parts n e at never =
    let (ls, go_on) = ending before in
    record {
      k = 0;
      is = omega arith;
      within = omega arith;
      begun = (ls, go_on, refl);
      wrong = λ ls h more same. never_one before text parts never ls h same;
    }

-- what stands behind the last line feed is
wrong_end : (before : Option Form) (text : List ℕ) (n e : ℕ) → e ≡ n → IsWrongAt before (text ∷ []) n e
wrong_end before text n e at =
    let (ls, go_on) = ending before in
    record {
      k = 0;
      is = omega arith;
      within = omega arith;
      begun = (ls, go_on, refl);
      wrong = λ ls h more same. absurd (omega arith);
    }

some_is : (x y : Line) → Some x ≡ Some y → x ≡ y
some_is x y e = cc

later : (before : Option Form) (text : List ℕ) (parts : List (List ℕ)) (l : Line) (k : ℕ) → line_of text ≡ Some l →
    ((ls : List Line) → GoOn (Some l.form) ls → k + 1 < length parts → take (k + 1) parts ≡ take (k + 1) (map line_text ls) → ⊥) →
    (ls : List Line) → GoOn before ls → suc k + 1 < length (text ∷ parts) → text ∷ take (k + 1) parts ≡ take (suc (k + 1)) (map line_text ls) → ⊥
unfolding GoOn
later before text parts l k says wrong [] h more same = cc
later before text parts l k says wrong (m ∷ ls) (can, stand, rest) more same =
    let written : text ≡ line_text m = first_is text (line_text m) (take (k + 1) parts) (take (k + 1) (map line_text ls)) same in
    let line : l ≡ m = some_is l m (sym says ∙ ap line_of written ∙ line_again m stand) in
    wrong ls (subst (λ x. GoOn (Some x.form) ls) (sym line) rest) (omega arith) (rest_is text (line_text m) (take (k + 1) parts) (take (k + 1) (map line_text ls)) same)

-- a later line is
wrong_later : (before : Option Form) (text : List ℕ) (parts : List (List ℕ)) (n e : ℕ) (l : Line) → line_of text ≡ Some l → follows before l.form ≡ true → IsWrongAt (Some l.form) parts (n + 1) e → IsWrongAt before (text ∷ parts) n e
unfolding GoOn
wrong_later before text parts n e l says can at =
    let (written, stand) = line_is text l says in
    let (ls, go_on, same) = at.begun in
    let there = at.is in
    let inside = at.within in
    record {
      k = suc at.k;
      is = omega arith;
      within = omega arith;
      begun = (l ∷ ls, (can, stand, go_on), ap (λ t. t ∷ take at.k parts) written ∙ ap (λ ts. line_text l ∷ ts) same);
      wrong = λ ls h more same.
          let step : suc at.k + 1 ≡ suc (at.k + 1) = omega arith in
          later before text parts l at.k says at.wrong ls h more (subst (λ m. take m (text ∷ parts) ≡ take m (map line_text ls)) step same);
    }

err_is : (x y : ℕ) → ◌≡◌ {A = Result (List Line) ℕ} (Err x) (Err y) → x ≡ y
err_is x y e = cc

end_wrong : (before : Option Form) (text : List ℕ) (n e : ℕ) (b : Bool) → ◌≡◌ {A = Result (List Line) ℕ} (if b then Ok [] else Err n) (Err e) → IsWrongAt before (text ∷ []) n e
end_wrong before text n e true h = absurd (no_lines [] e h)
end_wrong before text n e false h = wrong_end before text n e (sym (err_is n e h))

onto_err : (l : Line) (r : Result (List Line) ℕ) (e : ℕ) → onto l r ≡ Err e → r ≡ Err e
onto_err l (Ok ls) e h = absurd (no_lines (l ∷ ls) e h)
onto_err l (Err n) e h = h

follow_case : (before : Option Form) (text : List ℕ) (parts : List (List ℕ)) (n e : ℕ) (l : Line) (b : Bool) → line_of text ≡ Some l → follows before l.form ≡ b →
    (if b then onto l (lines_from (n + 1) (Some l.form) parts) else Err n) ≡ Err e → (lines_from (n + 1) (Some l.form) parts ≡ Err e → IsWrongAt (Some l.form) parts (n + 1) e) → IsWrongAt before (text ∷ parts) n e
follow_case before text parts n e l true says can h rest = wrong_later before text parts n e l says can (rest (onto_err l (lines_from (n + 1) (Some l.form) parts) e h))
follow_case before text parts n e l false says can h rest =
    wrong_here before text parts n e (sym (err_is n e h)) (λ m written can_m stand.
    let line : l ≡ m = some_is l m (sym says ∙ ap line_of written ∙ line_again m stand) in
    false≢true (sym can ∙ ap (λ x. follows before x.form) line ∙ can_m))

line_case : (before : Option Form) (text : List ℕ) (parts : List (List ℕ)) (n e : ℕ) (o : Option Line) → line_of text ≡ o → line_then n before o (λ form. lines_from (n + 1) (Some form) parts) ≡ Err e →
    ((f : Form) → lines_from (n + 1) (Some f) parts ≡ Err e → IsWrongAt (Some f) parts (n + 1) e) → IsWrongAt before (text ∷ parts) n e
unfolding line_then
line_case before text parts n e None says h rest =
    wrong_here before text parts n e (sym (err_is n e h)) (λ m written can stand. none_is m (sym says ∙ ap line_of written ∙ line_again m stand))
line_case before text parts n e (Some l) says h rest = follow_case before text parts n e l (follows before l.form) says refl h (rest l.form)

wrong_at : (n : ℕ) (before : Option Form) (part : List ℕ) (parts : List (List ℕ)) (e : ℕ) → lines_from n before (part ∷ parts) ≡ Err e → IsWrongAt before (part ∷ parts) n e
unfolding lines_from
wrong_at n before text [] e h = end_wrong before text n e (bytes_eq text [] && is_end before) h
wrong_at n before text (part ∷ parts) e h = line_case before text (part ∷ parts) n e (line_of text) refl h (λ f. wrong_at (n + 1) (Some f) part parts e)

-- ---- the laws

pub refuses_first_wrong : RefusesFirst
refuses_first_wrong text line e =
    let (part, parts, is) = first_part (is_byte 10) text in
    let at = wrong_at 1 None part parts line (ap (lines_from 1 None) (sym is) ∙ e) in
    let there = at.is in
    let inside = at.within in
    let long : length (parts_of text) ≡ length (part ∷ parts) = ap length is in
    record {
      within = omega arith;
      before = (at.k, omega arith, at.begun.0, at.begun.1, ap (take at.k) is ∙ at.begun.2);
      wrong = λ ls h more same.
          let same_line : line ≡ at.k + 1 = omega arith in
          at.wrong ls h (omega arith) (ap (take (at.k + 1)) (sym is) ∙ subst (λ m. take m (parts_of text) ≡ take m (map line_text ls)) same_line same);
      other = λ ls h. no_lines ls line (sym (map_is text ls h) ∙ e);
    }

-- parts that are the same up to a place are so up to an earlier one
same_before : (m n : ℕ) (xs ys : List (List ℕ)) → m ≤ n → take n xs ≡ take n ys → take m xs ≡ take m ys
same_before m n xs ys low same = sym (take-take m n xs low) ∙ ap (take m) same ∙ take-take m n ys low

-- a map goes on at each line before the first at which none does
not_before : (text : List ℕ) (a b : ℕ) → IsFirstWrong text a → IsFirstWrong text b → a < b → ⊥
not_before text a b one other less =
    let (n, is, lines, go_on, same) = other.before in
    let within = other.within in
    one.wrong lines go_on (omega (arith, less, within)) (same_before a n (parts_of text) (map line_text lines) (omega (arith, is, less)) same)

one_line : (text : List ℕ) (a b : ℕ) → IsFirstWrong text a → IsFirstWrong text b → a ≡ b
one_line text a b one other =
    ⊎_elim
    (λ (less : a < b). absurd (not_before text a b one other less))
    (λ (high : b ≤ a). ⊎_elim
    (λ (more : b < a). absurd (not_before text b a other one more))
    (λ (low : a ≤ b). omega (arith, high, low))
    (cases_lt b a))
    (cases_lt a b)

told_says : (text : List ℕ) (r : Result (List Line) ℕ) (said : Result (List SectionLine × List SegmentLine) ℕ) → map_lines text ≡ r → told_map r ≡ said → TextSays text said
unfolding told_map
told_says text (Ok lines) said read is =
    let so : TextSays text (Ok (sections_of 1 lines, segments_of 1 lines)) = (lines, is_map text lines read, refl) in
    subst (TextSays text) is so
told_says text (Err n) said read is =
    let so : TextSays text (Err n) = refuses_first_wrong text n read in
    subst (TextSays text) is so

told_wrong : (text : List ℕ) (line : ℕ) (r : Result (List Line) ℕ) → IsFirstWrong text line → map_lines text ≡ r → told_map r ≡ Err line
unfolding told_map
told_wrong text line (Ok lines) first read = absurd (first.other lines (is_map text lines read))
told_wrong text line (Err n) first read = ap (λ k. Err k) (one_line text n line (refuses_first_wrong text n read) first)

-- what is read of a text is what it says
pub read_says : (text : List ℕ) (said : Result (List SectionLine × List SegmentLine) ℕ) → map_of text ≡ said → TextSays text said
read_says text said is = told_says text (map_lines text) said refl is

says_read : (text : List ℕ) (said : Result (List SectionLine × List SegmentLine) ℕ) → TextSays text said → map_of text ≡ said
unfolding told_map
says_read text (Ok told) (lines, is, same) = ap told_map (map_is text lines is) ∙ ap (λ both. Ok both) (sym same)
says_read text (Err line) first = told_wrong text line (map_lines text) first refl

pub texts_are_read : TextsAreRead
texts_are_read text said = (read_says text said, says_read text said)

-- a text says what is read of it, and that is one thing
pub texts_say_one_thing : TextsSayOneThing
texts_say_one_thing = record {
  one = λ text said other h k. sym ((texts_are_read text said).1 h) ∙ (texts_are_read text other).1 k;
  some = λ text. (map_of text, (texts_are_read text (map_of text)).0 refl);
}
