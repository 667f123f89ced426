-- Whether bytes are text, and what a text is as JSON.
use Rattle.std.proofs.Common.{◌≡◌, ℕ, List, [], ◌∷◌, Bool, true, false, Option, Some, None, option_map, option_and_then, Result, Err, refl, ap, ◌∙◌}
use Rattle.std.specs.Str.{IsUtf8, is_utf8}
use Rattle.json.specs.Json.{Json, parse_map, value, if_last}
use Rattle.json.specs.Lex.{tokens}
use Rattle.json.specs.Token.{Token}
use Rattle.serde_json.specs.Data.{Data}
use Rattle.serde_json.specs.Read.{of_json, converted, read}
use Rattle.lk_link.specs.declared.link.LinkInput.{LinkInput}
use Rattle.lk_input.specs.declared.read.error.InputError.{InputError}
use Rattle.lk_input.specs.declared.read.error.InputError.TheVariants.{NotJson}
use Rattle.lk_input.specs.declared.read.fail.Fail.{Fail}
use Rattle.lk_input.specs.declared.read.fail.Fail.TheVariants as fail
use Rattle.lk_input.specs.Reading.{link_of, shaped, reading_of_json, Answers}
use Rattle.lk_input.specs.ReadingSteps.{Path}
use Rattle.lk_pieces.specs.Tokens.{data_at}
use Rattle.lk_input.specs.Tokens.{Lacks, input_error}
use Rattle.lk_input.proofs.Lists.{made, made-none}
use Rattle.std.proofs.lemmas.Str.{IsUtf8-from_is_utf8, is_utf8-from_IsUtf8}

no_text : (b : Bool) (P : Type 0) → (b ≡ true → P) → ¬ P → b ≡ false
no_text true P f h = absurd (h (f refl))
no_text false P f h = refl

pub is_utf8-no : (bytes : List ℕ) → ¬ (IsUtf8 bytes) → is_utf8 bytes ≡ false
is_utf8-no bytes h = no_text (is_utf8 bytes) (IsUtf8 bytes) (IsUtf8-from_is_utf8 bytes) h

-- the test and the fact
pub ruleset utf8_tests = (is_utf8-no, is_utf8-from_IsUtf8)

-- ---- the JSON value that a text is

-- a value behind which nothing stands
abbrev last_there : Data × List Token → Option Data
last_there (d, []) = Some d
last_there (d, t ∷ ts) = None

at_end : (x : Option Data) → x ≡ option_and_then last_there (option_map (λ d. (d, [])) x)
at_end None = refl
at_end (Some d) = refl

before_more : (t : Token) (ts : List Token) (x : Option Data) → None ≡ option_and_then last_there (option_map (λ d. (d, t ∷ ts)) x)
before_more t ts None = refl
before_more t ts (Some d) = refl

whole : (o : Option (Json × List Token)) → option_and_then of_json (option_and_then (λ p. if_last p.0 p.1) o) ≡ option_and_then last_there (converted of_json o)
whole None = refl
whole (Some (j, [])) = at_end (of_json j)
whole (Some (j, t ∷ ts)) = before_more t ts (of_json j)

-- it is the one that its tokens begin with, if nothing stands behind it
read-by_tokens : (text : List ℕ) → read text ≡ option_and_then last_there (data_at 127 (tokens text))
unfolding data_at
read-by_tokens text = whole (value 127 (tokens text))

-- ---- what a text gives

read_so : (text : List ℕ) (o : Option (Data × List Token)) → data_at 127 (tokens text) ≡ o → reading_of_json (read text) ≡ reading_of_json (option_and_then last_there o)
read_so text o e = ap reading_of_json (read-by_tokens text ∙ ap (option_and_then last_there) e)

-- all of it is a value
pub text-read : (text : List ℕ) (r : Result LinkInput Path) → parse_map link_of (data_at 127 (tokens text)) ≡ Some (r, []) → reading_of_json (read text) ≡ shaped r
text-read text r e = let there = made link_of (data_at 127 (tokens text)) r [] e in read_so text (Some (there.0, [])) there.1 ∙ ap shaped there.2

-- something stands behind the value
pub text-more : (text : List ℕ) (r : Result LinkInput Path) (t : Token) (ts : List Token) → parse_map link_of (data_at 127 (tokens text)) ≡ Some (r, t ∷ ts) → reading_of_json (read text) ≡ Err NotJson
text-more text r t ts e = let there = made link_of (data_at 127 (tokens text)) r (t ∷ ts) e in read_so text (Some (there.0, t ∷ ts)) there.1

-- it has no value
pub text-fails : (text : List ℕ) (e : Fail) (result : Result LinkInput InputError) → result ≡ Err (input_error e) → Lacks e (parse_map link_of (data_at 127 (tokens text))) → Answers result (reading_of_json (read text))
text-fails text fail.NotJson result is none = rw is (read_so text None (made-none link_of (data_at 127 (tokens text)) none))
text-fails text fail.NoMemory result is none = rw is tt
