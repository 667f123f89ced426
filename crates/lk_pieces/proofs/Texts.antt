-- What a text is as JSON, by its tokens.
use Rattle.std.proofs.Common.{◌≡◌, ℕ, List, [], ◌∷◌, Option, Some, None, option_map, option_and_then, refl, ap, ◌∙◌}
use Rattle.json.specs.Json.{Json, value, if_last}
use Rattle.json.specs.Lex.{tokens}
use Rattle.json.specs.Token.{Token}
use Rattle.serde_json.specs.Data.{Data}
use Rattle.serde_json.specs.Read.{of_json, converted, read}
use Rattle.lk_pieces.specs.Tokens.{data_at}

-- a value behind which nothing stands
abbrev pub last_there : Data × List Token → Option Data
last_there (d, []) = Some d
last_there (d, t ∷ ts) = None

at_end : (x : Option Data) → x ≡ option_and_then last_there (option_map (λ d. (d, [])) x)
at_end None = refl
at_end (Some d) = refl

before_more : (t : Token) (ts : List Token) (x : Option Data) → None ≡ option_and_then last_there (option_map (λ d. (d, t ∷ ts)) x)
before_more t ts None = refl
before_more t ts (Some d) = refl

whole : (o : Option (Json × List Token)) → option_and_then of_json (option_and_then (λ p. if_last p.0 p.1) o) ≡ option_and_then last_there (converted of_json o)
whole None = refl
whole (Some (j, [])) = at_end (of_json j)
whole (Some (j, t ∷ ts)) = before_more t ts (of_json j)

-- it is the value that its tokens begin with, if nothing stands behind it
pub read-by_tokens : (text : List ℕ) → read text ≡ option_and_then last_there (data_at 127 (tokens text))
unfolding data_at
read-by_tokens text = whole (value 127 (tokens text))

pub read_whole : (text : List ℕ) (d : Data) → data_at 127 (tokens text) ≡ Some (d, []) → read text ≡ Some d
read_whole text d e = read-by_tokens text ∙ ap (option_and_then last_there) e
