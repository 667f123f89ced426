-- Values in the order in which they are read.
use Rattle.std.proofs.Common.{◌≡◌, ℕ, List, [], ◌∷◌, ◌++◌, Option, Some, None, Result, Err, Bool as Truth, String as Text, Global, string_bytes, string_cmp, refl, ap, ◌∙◌, rules}
use Rattle.json.specs.Token.{Token}
use Rattle.json.specs.Json.{parse_map}
use Rattle.std.specs.BTreeMap.{insert_entry}
use Rattle.serde_json.specs.Data.{null, boolean, number, string, Items, no_items, item, put}
use Rattle.serde_json.specs.View.{view, number_view, items_view, members_view}
use Rattle.serde_json.proofs.Views.{Entry, members_view-insert_entry}
use Rattle.serde_json.specs.declared.number.Number.{Number as Numeral}
use Rattle.serde_json.specs.declared.value.Value.{Value, Null, Bool, Number, String, the_lemmas}
use Rattle.lk_input.specs.declared.read.fail.Fail.{Fail}
use Rattle.lk_input.specs.declared.read.fail.Fail.TheVariants.{NotJson, NoMemory}
use Rattle.lk_input.specs.Tokens.{Lacks, Stands}
use Rattle.lk_input.proofs.Lists.{map_twice, parse_map-same}

-- ---- the items that were read, and the others

-- the one list behind the other
abbrev pub joined : Items → Items → Items
joined no_items more = more
joined (item d ds) more = item d (joined ds more)

joined-nothing : (ds : Items) → joined ds no_items ≡ ds
joined-nothing no_items = refl
joined-nothing (item d ds) = ap (item d) (joined-nothing ds)

-- an item passes from those that follow to those that were read
joined-passes : (vs : List Value) (v : Value) (more : Items) → joined (items_view vs) (item (view v) more) ≡ joined (items_view (vs ++ v ∷ [])) more
joined-passes [] v more = refl
joined-passes (w ∷ vs) v more = ap (item (view w)) (joined-passes vs v more)

pub joined-more : (vs : List Value) (v : Value) (o : Option (Items × List Token)) → parse_map (joined (items_view vs)) (parse_map (item (view v)) o) ≡ parse_map (joined (items_view (vs ++ v ∷ []))) o
joined-more vs v o = map_twice (joined (items_view vs)) (item (view v)) o ∙ parse_map-same (λ ds. joined (items_view vs) (item (view v) ds)) (joined (items_view (vs ++ v ∷ []))) o (joined-passes vs v)

pub joined-over : (ds : Items) (r : List Token) → parse_map (joined ds) (Some (no_items, r)) ≡ Some (ds, r)
joined-over ds r = ap (λ all. Some (all, r)) (joined-nothing ds)

-- ---- the members that were read

-- what goes in by a copy of its key is put
pub put-copied : (es : List Entry) (copy : Text Global) (key : List ℕ) (v : Value) → string_bytes copy ≡ key → members_view (insert_entry string_cmp es copy v) ≡ put key (view v) (members_view es)
put-copied es copy key v same = rw (← same) (members_view-insert_entry es copy v)

-- ---- what fails passes on

pub lacks-so : {C D : Type 0} (e : Fail) (r : Option (C × List Token)) (s : Option (D × List Token)) → Lacks e r → (r ≡ None → s ≡ None) → Lacks e s
lacks-so NotJson r s h none = none h
lacks-so NoMemory r s h none = tt

pub fails-so : {B C D : Type 0} (g : B → D) (result : Result B Fail) (e : Fail) (r : Option (C × List Token)) (s : Option (D × List Token)) (y : List Token) → result ≡ Err e → Lacks e r → (r ≡ None → s ≡ None)
    → Stands g result s y
fails-so g result e r s y is h none = rw is (lacks-so e r s h none)

-- ---- what each is

pub view-Null : view Null ≡ null
view-Null = search (rules, the_lemmas)

pub view-Bool : (b : Truth) → view (Bool b) ≡ boolean b
view-Bool b = search (rules, the_lemmas)

pub view-Number : (n : Numeral) → view (Number n) ≡ number (number_view n)
view-Number n = search (rules, the_lemmas)

pub view-String : (s : Text Global) → view (String s) ≡ string (string_bytes s)
view-String s = search (rules, the_lemmas)
