-- Which words are a command.
use Rattle.std.proofs.Common.{◌≡◌, ◌⊎◌, ◌-◌, ◌^◌, inl, inr, cond, ◌==◌, length-drop, ℕ, zero, suc, ◌<◌, ◌≤◌, List, [], ◌∷◌, length, drop, Bool, true, false, true≢false, ◌&&◌, Option, None, Some, Result, Ok, refl, sym, ap, subst, ◌∙◌, arith, if◌then◌else◌}
use Rattle.std.specs.Fmt.{decimal}
use Rattle.std.specs.Prelude.{◌↔◌, IsTrue, bytes_eq, codes, nat_le, slice_index}
use Rattle.std.specs.Str.Parse.{digits_value, IsNumeral, ParsesUnsigned, without_leading_plus}
use Rattle.std.proofs.lemmas.Fmt.{decimal_digit, decimal_is_IsNumeral, decimal-digits_value, first_decimal, parse-decimal}
use Rattle.std.proofs.lemmas.Bool.{cases_lt, eqb-true, leb-true, le-leb}
use Rattle.std.proofs.lemmas.Str.Parse.{numerals_by_value, tells_digits}
use Rattle.std.proofs.lemmas.Slice.Eq.{bytes_eq-Decides}
use Rattle.lk_run.specs.RunAlone.{AsksForWorkers}
use Rattle.lk_run.specs.Steps.{CanBeAsked, IsPadded}
use Rattle.lk_run.specs.Words.{IsCommand, command_of, number_in, workers_of, seed_of, short_of, size_of, layout_with, gen_with, image_with, why_with, workers_for}
use Rattle.lk_run.specs.declared.words.Command.{Command}
use Rattle.lk_run.specs.declared.words.Command.TheVariants.{Layout, Gen, Why, Check, Image}
use Rattle.lk_run.specs.declared.words.TheConstants.{MOST_WORKERS, MOST_OBJECTS}

-- all tests hold where there is a number
both : (is_least is_most is_written : Bool) (m n : ℕ) → (if (is_least && is_most) && is_written then Some m else None) ≡ Some n →
    (is_least ≡ true) × (is_most ≡ true) × (is_written ≡ true) × (m ≡ n)
both true true true m n read = (refl, refl, refl, cc)
both true true false m n read = absurd (cc)
both true false is_written m n read = absurd (cc)
both false is_most is_written m n read = absurd (cc)

-- and where they hold there is one
given : (is_least is_most is_written : Bool) (m n : ℕ) → is_least ≡ true → is_most ≡ true → is_written ≡ true → m ≡ n
    → (if (is_least && is_most) && is_written then Some m else None) ≡ Some n
given true true true m n least most written same = ap Some same
given true true false m n least most written same = absurd (cc)
given true false is_written m n least most written same = absurd (cc)
given false is_most is_written m n least most written same = absurd (cc)

-- what is read as a number writes it
pub numbers_are_written : (least most : ℕ) (word : List ℕ) (n : ℕ) → number_in least most word ≡ Some n → (least ≤ n) × (n ≤ most) × (word ≡ decimal n)
unfolding number_in
numbers_are_written least most word n read =
    let m : ℕ = digits_value 10 word in
    let tests = both (nat_le least m) (nat_le m most) (bytes_eq word (decimal m)) m n read in (
      subst (λ k. least ≤ k) tests.3 (leb-true least m tests.0),
      subst (λ k. k ≤ most) tests.3 (leb-true m most tests.1),
      (bytes_eq-Decides word (decimal m)).0 tests.2 ∙ ap decimal tests.3,
    )

-- what writes a number is read as it
pub written_numbers : (least most : ℕ) (word : List ℕ) (n : ℕ) → least ≤ n → n ≤ most → n < 2 ^ 64 → word ≡ decimal n → number_in least most word ≡ Some n
unfolding number_in
written_numbers least most word n some few small is =
    let m : ℕ = digits_value 10 word in
    let same : m ≡ n = ap (digits_value 10) is ∙ (decimal_is_IsNumeral n small).1 in
    given (nat_le least m) (nat_le m most) (bytes_eq word (decimal m)) m n
    (le-leb least m (subst (λ k. least ≤ k) (sym same) some)) (le-leb m most (subst (λ k. k ≤ most) (sym same) few))
    ((bytes_eq-Decides word (decimal m)).1 (is ∙ ap decimal (sym same))) same

-- a word that writes no number is read as none
pub no_numbers : (least most : ℕ) (word : List ℕ) → ((n : ℕ) → least ≤ n → n ≤ most → word ≡ decimal n → ⊥) → number_in least most word ≡ None
no_numbers least most word never = none_unless (number_in least most word) (λ n read.
    let is = numbers_are_written least most word n read in
    never n is.0 is.1 is.2)
  where
    none_unless : (o : Option ℕ) → ((n : ℕ) → o ≡ Some n → ⊥) → o ≡ None
    none_unless None never = refl
    none_unless (Some n) never = absurd (never n refl)

unpadded : (n : ℕ) → n < 2 ^ 64 → IsPadded (decimal n) → ⊥
unpadded zero small padded = absurd (omega (arith, padded.0, ap length (decimal_digit 0 (omega arith))))
unpadded (suc n) small padded =
    let first = first_decimal (suc n) (omega arith) small in
    elim padded.1 [
      | inl nought ↦ absurd (omega (arith, first, nought))
      | inr plus ↦ absurd (omega (arith, first, plus))
    ]

-- in front of a number nothing stands
pub padded_is_none : (least most : ℕ) (word : List ℕ) → most < 2 ^ 64 → IsPadded word → number_in least most word ≡ None
padded_is_none least most word small padded = no_numbers least most word (λ n some few is. unpadded n (omega (arith, few, small)) (subst IsPadded is padded))

without_plus : (word : List ℕ) (is_plus : Bool) → (is_plus ≡ true → slice_index word 0 ≡ 43) → ¬ (IsPadded word) → 0 < length (drop (cond is_plus 1 0) word)
    → drop (cond is_plus 1 0) word ≡ word
without_plus word false is plain some = refl
without_plus word true is plain some = absurd (plain (omega (arith, some, length-drop 1 word), inr (is refl)))

-- what is read of a word in front of which nothing stands
whole_word : (word : List ℕ) → ¬ (IsPadded word) → 0 < length (without_leading_plus word) → without_leading_plus word ≡ word
whole_word word plain some = without_plus word (slice_index word 0 == 43) (λ is. eqb-true (slice_index word 0) 43 is) plain some

lone : (word : List ℕ) → ¬ (IsPadded word) → 0 < length word → slice_index word 0 ≡ 48 → length word ≡ 1
lone word plain some nought = elim (cases_lt 1 (length word)) [
  | inl more ↦ absurd (plain (more, inl nought))
  | inr one ↦ omega (arith, one, some)
]

-- a number that is read of such a word
pub numbers_are_read : {E : Type 0} (least most : ℕ) (word : List ℕ) (r : Result ℕ E) (n : ℕ) → ¬ (IsPadded word) → ParsesUnsigned 64 10 word r → r ≡ Ok n
    → least ≤ n → n ≤ most → most < 2 ^ 64 → number_in least most word ≡ Some n
numbers_are_read least most word r n plain parsed is some few small =
    let read = subst (ParsesUnsigned 64 10 word) is parsed in
    let same = whole_word word plain read.0.0.0 in
    let numeral : IsNumeral 10 word = subst (IsNumeral 10) same read.0.0 in
    let value : digits_value 10 word ≡ n = ap (digits_value 10) (sym same) ∙ sym read.1 in
    let written = decimal-digits_value (numerals_by_value _ tells_digits) word numeral.1 numeral.0 (lone word plain numeral.0) (omega (arith, value, few, small)) in
    written_numbers least most word n some few (omega (arith, few, small)) (sym written ∙ ap decimal value)

-- where no number is read, or one out of range, the word writes none
pub others_are_none : {E : Type 0} (least most : ℕ) (word : List ℕ) (r : Result ℕ E) → ParsesUnsigned 64 10 word r → most < 2 ^ 64
    → ((n : ℕ) → r ≡ Ok n → least ≤ n → n ≤ most → ⊥) → number_in least most word ≡ None
others_are_none least most word r parsed small never =
    no_numbers least most word (λ n some few is. never n (parse-decimal 64 n word r (omega (arith, few, small)) (omega (arith, few, small)) is parsed) some few)

-- a number of 32 bits is read of the word that writes it
short_written : (n : ℕ) → n < 2 ^ 32 → short_of (decimal n) ≡ Some n
short_written n small = written_numbers 0 (2 ^ 32 - 1) (decimal n) n (omega arith) (omega (arith, small)) (omega (arith, small)) refl

-- the words of a command are read as that command
pub reads_command : (words : List (List ℕ)) (command : Command) → IsCommand words command → command_of words ≡ Some command
unfolding command_of
reads_command words (Layout n) is =
    rw is.1 (ap layout_with (written_numbers 0 MOST_WORKERS (decimal n) n (omega arith) is.0 (omega (arith, is.0)) refl))
reads_command words (Gen seed size) is =
    let first : seed_of (decimal seed) ≡ Some seed = written_numbers 0 (2 ^ 64 - 1) (decimal seed) seed (omega arith) (omega (arith, is.0)) is.0 refl in
    let second : size_of (decimal size) ≡ Some size = written_numbers 1 MOST_OBJECTS (decimal size) size is.1 is.2 (omega (arith, is.2)) refl in
    rw is.3 (ap (λ (o : Option ℕ). gen_with o (size_of (decimal size))) first ∙ ap (gen_with (Some seed)) second)
reads_command words (Why file index) is =
    let first = short_written file.group is.0 in
    let second = short_written file.file is.1 in
    let third = short_written index is.2 in
    rw is.3 (
    ap (λ (o : Option ℕ). why_with o (short_of (decimal file.file)) (short_of (decimal index))) first
    ∙ ap (λ (o : Option ℕ). why_with (Some file.group) o (short_of (decimal index))) second
    ∙ ap (why_with (Some file.group) (Some file.file)) third
    )
reads_command words Check is = rw is refl
reads_command words (Image n) is =
    rw is.1 (ap image_with (written_numbers 0 MOST_WORKERS (decimal n) n (omega arith) is.0 (omega (arith, is.0)) refl))

-- a number that a word behind `layout` or `image` was read as
numbered_read : (verb : List ℕ) (is_layout is_image : Bool) (workers : Option ℕ) (command : Command)
    → (is_layout ≡ true → verb ≡ codes "layout") → (is_image ≡ true → verb ≡ codes "image")
    → (if is_layout then layout_with workers else if is_image then image_with workers else None) ≡ Some command
    → ((verb ≡ codes "layout") × ((n : ℕ) × (workers ≡ Some n) × (command ≡ Layout n)))
    ⊎ ((verb ≡ codes "image") × ((n : ℕ) × (workers ≡ Some n) × (command ≡ Image n)))
numbered_read verb true is_image (Some m) command layout image read = inl (layout refl, (m, refl, cc))
numbered_read verb true is_image None command layout image read = absurd (cc)
numbered_read verb false true (Some m) command layout image read = inr (image refl, (m, refl, cc))
numbered_read verb false true None command layout image read = absurd (cc)
numbered_read verb false false workers command layout image read = absurd (cc)

-- the numbers that two words behind `gen` were read as
gen_read : (is_verb : Bool) (seed size : Option ℕ) (command : Command) → (if is_verb then gen_with seed size else None) ≡ Some command
    → (is_verb ≡ true) × ((n m : ℕ) × (seed ≡ Some n) × (size ≡ Some m) × (command ≡ Gen n m))
gen_read true (Some n) (Some m) command read = (refl, (n, m, refl, refl, cc))
gen_read true (Some n) None command read = absurd (cc)
gen_read true None size command read = absurd (cc)
gen_read false seed size command read = absurd (cc)

-- the numbers that three words behind `why` were read as
why_read : (is_verb : Bool) (group file index : Option ℕ) (command : Command) → (if is_verb then why_with group file index else None) ≡ Some command
    → (is_verb ≡ true) × ((g f i : ℕ) × (group ≡ Some g) × (file ≡ Some f) × (index ≡ Some i) × (command ≡ Why (record { group = g; file = f }) i))
why_read true (Some g) (Some f) (Some i) command read = (refl, (g, f, i, refl, refl, refl, cc))
why_read true (Some g) (Some f) None command read = absurd (cc)
why_read true (Some g) None index command read = absurd (cc)
why_read true None file index command read = absurd (cc)
why_read false group file index command read = absurd (cc)

-- a word alone was read as `check`
check_read : (is_verb : Bool) (command : Command) → (if is_verb then Some Check else None) ≡ Some command → (is_verb ≡ true) × (command ≡ Check)
check_read true command read = (refl, cc)
check_read false command read = absurd (cc)

-- a word that was read as a number of 32 bits writes it
short_is_written : (word : List ℕ) (n : ℕ) → short_of word ≡ Some n → (n < 2 ^ 32) × (word ≡ decimal n)
short_is_written word n read =
    let is = numbers_are_written 0 (2 ^ 32 - 1) word n read in
    (omega (arith, is.1), is.2)

-- what is read as a command are its words
pub command_is_read : (words : List (List ℕ)) (command : Command) → command_of words ≡ Some command → IsCommand words command
unfolding command_of
command_is_read [] command read = absurd (cc)
command_is_read (verb ∷ []) command read =
    let tests = check_read (bytes_eq verb (codes "check")) command read in
    let is_verb = (bytes_eq-Decides verb (codes "check")).0 tests.0 in
    subst (IsCommand (verb ∷ [])) (sym tests.1) (ap (λ v. v ∷ []) is_verb)
command_is_read (verb ∷ workers ∷ []) command read =
    elim (numbered_read verb (bytes_eq verb (codes "layout")) (bytes_eq verb (codes "image")) (workers_of workers) command
    (bytes_eq-Decides verb (codes "layout")).0 (bytes_eq-Decides verb (codes "image")).0 read) [
      | inl layout ↦
          let written = numbers_are_written 0 MOST_WORKERS workers layout.1.0 layout.1.1 in
          subst (IsCommand (verb ∷ workers ∷ [])) (sym layout.1.2)
          (written.1, ap (λ v. v ∷ workers ∷ []) layout.0 ∙ ap (λ w. codes "layout" ∷ w ∷ []) written.2)
      | inr image ↦
          let written = numbers_are_written 0 MOST_WORKERS workers image.1.0 image.1.1 in
          subst (IsCommand (verb ∷ workers ∷ [])) (sym image.1.2)
          (written.1, ap (λ v. v ∷ workers ∷ []) image.0 ∙ ap (λ w. codes "image" ∷ w ∷ []) written.2)
    ]
command_is_read (verb ∷ seed ∷ size ∷ []) command read =
    let tests = gen_read (bytes_eq verb (codes "gen")) (seed_of seed) (size_of size) command read in
    let is_verb = (bytes_eq-Decides verb (codes "gen")).0 tests.0 in
    let n : ℕ = tests.1.0 in
    let m : ℕ = tests.1.1 in
    let first = numbers_are_written 0 (2 ^ 64 - 1) seed n tests.1.2 in
    let second = numbers_are_written 1 MOST_OBJECTS size m tests.1.3 in
    subst (IsCommand (verb ∷ seed ∷ size ∷ [])) (sym tests.1.4) (
      omega (arith, first.1),
      second.0,
      second.1,
      ap (λ v. v ∷ seed ∷ size ∷ []) is_verb ∙ ap (λ w. codes "gen" ∷ w ∷ size ∷ []) first.2 ∙ ap (λ w. codes "gen" ∷ decimal n ∷ w ∷ []) second.2,
    )
command_is_read (verb ∷ group ∷ file ∷ index ∷ []) command read =
    let tests = why_read (bytes_eq verb (codes "why")) (short_of group) (short_of file) (short_of index) command read in
    let is_verb = (bytes_eq-Decides verb (codes "why")).0 tests.0 in
    let found = tests.1 in
    let first = short_is_written group found.0 found.3 in
    let second = short_is_written file found.1 found.4 in
    let third = short_is_written index found.2 found.5 in
    subst (IsCommand (verb ∷ group ∷ file ∷ index ∷ [])) (sym found.6) (
      first.0,
      second.0,
      third.0,
      ap (λ v. v ∷ group ∷ file ∷ index ∷ []) is_verb
          ∙ ap (λ w. codes "why" ∷ w ∷ file ∷ index ∷ []) first.1
          ∙ ap (λ w. codes "why" ∷ decimal found.0 ∷ w ∷ index ∷ []) second.1
          ∙ ap (λ w. codes "why" ∷ decimal found.0 ∷ decimal found.1 ∷ w ∷ []) third.1,
    )
command_is_read (verb ∷ group ∷ file ∷ index ∷ more ∷ others) command read = absurd (cc)

-- words are those of one command at most
pub one_command : (words : List (List ℕ)) (c d : Command) → IsCommand words c → IsCommand words d → c ≡ d
one_command words c d first second =
    let same : Some c ≡ Some d = sym (reads_command words c first) ∙ reads_command words d second in
    cc

-- what is read as no command isn't the words of any
pub no_command : (words : List (List ℕ)) (command : Command) → command_of words ≡ None → IsCommand words command → ⊥
no_command words command none asked =
    let read : None ≡ Some command = sym none ∙ reads_command words command asked in
    absurd (cc)

-- the words of no command are read as none
pub reads_none : (words : List (List ℕ)) → ((command : Command) → IsCommand words command → ⊥) → command_of words ≡ None
reads_none words never = none_unless (command_of words) (λ command read. never command (command_is_read words command read))
  where
    none_unless : (o : Option Command) → ((command : Command) → o ≡ Some command → ⊥) → o ≡ None
    none_unless None never = refl
    none_unless (Some command) never = absurd (never command refl)

-- a command that asks for several workers
pub asks : (words : List (List ℕ)) (command : Command) → command_of words ≡ Some command → 2 ≤ workers_for command → AsksForWorkers words
asks words command read several = record { command = command; asked = command_is_read words command read; several = several }

-- what is read as a command can be asked for
pub can_be_asked : (words : List (List ℕ)) (command : Command) → command_of words ≡ Some command → CanBeAsked command
can_be_asked words command read = (words, command_is_read words command read)

-- words that are a command ask for several workers exactly where it does
pub asks_as_told : (words : List (List ℕ)) (command : Command) (n : ℕ) → command_of words ≡ Some command → n ≡ workers_for command → IsTrue (nat_le 2 n) ↔ AsksForWorkers words
asks_as_told words command n read same = (
  λ several. asks words command read (subst (λ k. 2 ≤ k) same (leb-true 2 n several)),
  λ asked.
      let is : command ≡ asked.command = one_command words command asked.command (command_is_read words command read) asked.asked in
      le-leb 2 n (omega (arith, same, ap workers_for is, asked.several)),
)

-- words that are no command ask for none
pub asks_for_none : (words : List (List ℕ)) → command_of words ≡ None → IsTrue false ↔ AsksForWorkers words
asks_for_none words none = (
  λ never. absurd (true≢false (sym never)),
  λ asked. absurd (no_command words asked.command none asked.asked),
)

-- the numbers of `gen` are in range
pub gen_in_range : (seed size : ℕ) → CanBeAsked (Gen seed size) → (1 ≤ size) × (size ≤ MOST_OBJECTS)
gen_in_range seed size asked = (asked.1.1, asked.1.2)
