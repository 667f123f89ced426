-- What stands at a place among the tokens of a JSON text.
use Rattle.std.specs.Prelude.{ℕ, List, length, Option}
use Rattle.json.specs.Token.{Token}
use Rattle.json.specs.Json.{items, members, value}
use Rattle.serde_json.specs.Data.{Data, Items, Members}
use Rattle.serde_json.specs.Read.{of_json, of_items, of_members, converted}

-- the value that the tokens begin with, which nests no deeper than the number, and the tokens behind it
unfoldable pub data_at : ℕ → List Token → Option (Data × List Token)
data_at depth ts = converted of_json (value depth ts)

-- the items up to the end of a list, and the tokens behind it
unfoldable pub items_at : ℕ → List Token → Option (Items × List Token)
items_at depth ts = converted of_items (items (value depth) (length ts) ts)

-- the members up to the end of an object, put to those that were found before, and the tokens behind it
unfoldable pub members_at : Members → ℕ → List Token → Option (Members × List Token)
members_at found depth ts = converted (λ ms. of_members ms found) (members (value depth) (length ts) ts)
