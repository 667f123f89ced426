-- Fixed lists that are read item by item where they stand.
use Rattle.std.proofs.Common.{◌≡◌, ℕ, ◌+◌, List, [], ◌∷◌, ◌++◌, Option, Some, None, Result, Ok, Err, refl, sym, ap, ◌∙◌}
use Rattle.std.specs.Fmt.{decimal}
use Rattle.json.specs.Token.{Token}
use Rattle.json.specs.Json.{parse_map, after_end_array}
use Rattle.serde_json.specs.Data.{Data, Items, no_items, item}
use Rattle.lk_input.specs.declared.read.fail.Fail.{Fail}
use Rattle.lk_input.specs.declared.read.fail.Fail.TheVariants.{NotJson, NoMemory}
use Rattle.lk_input.specs.Plain.{elements_with, no_elements}
use Rattle.lk_input.specs.ReadingSteps.{Path, ◌>>=◌}
use Rattle.lk_pieces.specs.Tokens.{data_at, items_at}
use Rattle.lk_input.specs.Tokens.{IsDeeper, Stands, as_is}
use Rattle.lk_input.proofs.Lists.{from_items, items-too_deep, made}
use Rattle.lk_pieces.proofs.Tokens.{and_next, items_at-next}

-- ---- an item

pub element-missing : {A B : Type 0} (f : Data → Result A Path) (g : ℕ → Items → Result B Path) (i : ℕ) → elements_with f g i no_items ≡ Err (47 ∷ decimal i ++ [])
unfolding elements_with
element-missing f g i = refl

pub element-read : {A B : Type 0} (f : Data → Result A Path) (g : ℕ → Items → Result B Path) (i : ℕ) (x : A) (d : Data) → f d ≡ Ok x → (ds : Items)
    → elements_with f g i (item d ds) ≡ (g (i + 1) ds >>= λ xs. Ok (x, xs))
unfolding elements_with
element-read f g i x d e ds = rw e refl

pub element-fault : {A B : Type 0} (f : Data → Result A Path) (g : ℕ → Items → Result B Path) (i : ℕ) (path : Path) (d : Data) → f d ≡ Err path → (ds : Items)
    → elements_with f g i (item d ds) ≡ Err (47 ∷ decimal i ++ path)
unfolding elements_with
element-fault f g i path d e ds = rw e refl

-- ---- the end

pub elements-over : no_elements no_items ≡ Ok tt
unfolding no_elements
elements-over = refl

one_more : (o : Option (Data × List Token)) (next : List Token → Option (Items × List Token)) (ds : Items) (r : List Token)
    → and_next (λ d s. parse_map (item d) (next s)) o ≡ Some (ds, r) → no_elements ds ≡ Err []
unfolding no_elements
one_more None next ds r e = absurd cc
one_more (Some (d, s)) next ds r e = let read = made (item d) (next s) ds r e in rw (← read.2) refl

-- where the list goes on, there are more items
pub elements-more : (depth : ℕ) (ts : List Token) (ds : Items) (r : List Token) → after_end_array ts ≡ None → items_at depth ts ≡ Some (ds, r) → no_elements ds ≡ Err []
elements-more depth ts ds r going e = one_more (data_at depth ts) (items_at depth) ds r (sym (items_at-next depth ts going) ∙ e)

-- ---- what is made of what was read

pub fixed-made : {A B C : Type 0} (f : A → Result C Path) (g : A → Result B Path) (k : B → Result C Path) → ((a : A) → f a ≡ (g a >>= k))
    → (o : Option (A × List Token)) (x : Result B Path) (r : List Token) → parse_map g o ≡ Some (x, r) → parse_map f o ≡ Some (x >>= k, r)
fixed-made f g k same None x r e = absurd cc
fixed-made f g k same (Some (a, s)) x r e =
    let read = made g (Some (a, s)) x r e in
    ap (parse_map f) read.1 ∙ ap (λ y. Some (y, r)) (same read.0 ∙ ap (λ y. y >>= k) read.2)

pub fixed-lacks : {A B C : Type 0} (f : A → Result C Path) (g : A → Result B Path) (o : Option (A × List Token)) → parse_map g o ≡ None → parse_map f o ≡ None
fixed-lacks f g None e = refl
fixed-lacks f g (Some p) e = absurd cc

-- ---- a list that nests too deep

pub fixed-too_deep : {B : Type 0} (g : Items → Result B Path) (depth : ℕ) (ts left : List Token) (e : Fail) (result : Result (Result B Path) Fail) → result ≡ Err e → IsDeeper depth (Err e)
    → Stands as_is result (parse_map (from_items g) (data_at depth (Token.begin_array ∷ ts))) left
fixed-too_deep g depth ts left NotJson result is deep = rw is (items-too_deep g depth ts deep)
fixed-too_deep g depth ts left NoMemory result is deep = absurd deep
