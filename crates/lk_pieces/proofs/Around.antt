-- An object with a long list of lists in it, in pieces.
use Rattle.std.proofs.Common.{◌≡◌, ℕ, Bool, false, cond, List, [], ◌∷◌, ◌++◌, Option, Some, None, Result, refl, sym, ap, ◌∙◌, subst, append_assoc, arith}
use Rattle.std.specs.Prelude.{IfSome}
use Rattle.std.specs.Str.{IsUtf8}
use Rattle.std.specs.declared.alloc.Global.{Global}
use Rattle.std.specs.declared.vec.Vec.{Vec}
use Rattle.json.specs.Token.{Token}
use Rattle.json.specs.Lex.{Place, fresh, after_value, tokens}
use Rattle.json.specs.Json.{parse_map, after_end_array}
use Rattle.serde_json.specs.Data.{Data, object, array, Items, Members, no_members, put}
use Rattle.serde_json.specs.Read.{read}
use Rattle.lk_pieces.specs.declared.pieces.Part.{Part}
use Rattle.lk_pieces.specs.Around.{IsBut, LeadsIn, Completes, OpensObject, ClosesObject, ReadsEnds, HoldsList}
use Rattle.lk_pieces.specs.Joining.{left_at, Begins}
use Rattle.lk_pieces.specs.Lists.{AreLists, GoesOn}
use Rattle.lk_pieces.specs.Pieces.{joined, tokens_of, Continue, Joins}
use Rattle.lk_pieces.specs.Reading.{GiveLists}
use Rattle.lk_pieces.specs.Tokens.{data_at, items_at, members_at}
use Rattle.lk_pieces.proofs.Joined.{joined_tokens, first_utf8, both_continue}
use Rattle.lk_pieces.proofs.ListLaws.{lists_read, no_lists}
use Rattle.lk_pieces.proofs.Members.{but_put}
use Rattle.lk_pieces.proofs.Texts.{read_whole}
use Rattle.lk_pieces.proofs.Tokens.{data_at-array, data_at-object}

behind_brace : (q : Place) (x : List Token) → left_at q (Token.begin_object ∷ x) ≡ left_at fresh x
unfolding left_at
behind_brace q x = refl

object_there : (ts : List Token) (all : Members) → members_at no_members 126 ts ≡ Some (all, []) → data_at 127 (Token.begin_object ∷ ts) ≡ Some (object all, [])
object_there ts all e = data_at-object 127 126 ts (omega arith) ∙ ap (parse_map object) e

list_there : (ts left : List Token) (ds : Items) → items_at 125 ts ≡ Some (ds, left) → data_at 126 (Token.begin_array ∷ ts) ≡ Some (array ds, left)
list_there ts left ds e = data_at-array 126 125 ts (omega arith) ∙ ap (parse_map array) e

-- members, then lists, then members
whole_object : {A E : Type 0} (f : Data → Result A E) (key text : List ℕ) (found others : Members) (ts us more left : List Token) (ds : Items) (xss : List (List A)) → tokens text ≡ Token.begin_object ∷ (ts ++ more)
    → LeadsIn key 126 no_members ts found us → items_at 125 (us ++ more) ≡ Some (ds, left) → Completes key 126 found left others [] → GiveLists f ds xss
    → (ms : Members) × (read text ≡ Some (object ms)) × (all : Items) × IsBut key (array all) ms others × GiveLists f all xss
whole_object f key text found others ts us more left ds xss is leads items completes give =
    let members = leads.1 more left (array ds) (list_there (us ++ more) left ds items) in
    let complete = completes (put key (array ds) found) (array ds) (but_put key (array ds) found) in
    (complete.0, read_whole text (object complete.0) (ap (data_at 127) is ∙ object_there (ts ++ more) complete.0 (members ∙ complete.1)), ds, complete.2, give)

object_read : {A E : Type 0} (f : Data → Result A E) (key first : List ℕ) (ps : List (List ℕ)) (last : List ℕ) (found others : Members) (front opening ending all : Part A) → OpensObject f key first front found
    → Continue f 124 ps front opening → ClosesObject f key last ending found others → Joins f opening ending all → all.unclosed ≡ None → HoldsList f key (joined (first ∷ ps) last) all.closed.items others
object_read f key first ps last found others front opening ending all opens goes closes join none =
    let text = joined (first ∷ ps) last in
    let ts = opens.2 in
    let us = opens.3 in
    let more = tokens_of ps ++ tokens last in
    let whole : tokens text ≡ Token.begin_object ∷ (ts ++ more) = joined_tokens first ps last opens.1 goes.0 closes.1 ∙ ap (λ l. l ++ more) opens.4 in
    let joint = join 124 false (us ++ tokens_of ps) (tokens last) closes.2 (goes.1 false us opens.6) closes.4 in
    let lists : AreLists f 124 false (us ++ more) all.closed.items None closes.2 =
    subst (λ o. AreLists f 124 false (us ++ more) all.closed.items o closes.2) none (subst (λ l. AreLists f 124 false l all.closed.items all.unclosed closes.2) (append_assoc us (tokens_of ps) (tokens last)) joint) in
    let items = lists_read f 124 125 (us ++ more) all.closed.items closes.2 closes.3 (omega arith) lists closes.5 in
    let made = whole_object f key text found others ts us more closes.3 items.0 all.closed.items whole opens.5 items.1 closes.6 items.2 in
    (first_utf8 first ps last opens.0 goes.0 closes.0, made.0, made.1, made.2, made.3, made.4)

-- ---- what was read of the first piece and the last

pub opens_object : {A E : Type 0} (f : Data → Result A E) (key piece : List ℕ) (before found : Members) (start ts us : List Token) (none : List (List A)) (part : Part A) → IsUtf8 piece → start ≡ tokens piece
    → start ≡ Token.begin_object ∷ ts → before ≡ no_members → LeadsIn key 126 before ts found us → none ≡ []
    → Begins us × (left_at fresh us ≡ Some after_value) × GoesOn f 124 us none None part.closed.items part.unclosed [] → OpensObject f key piece part found
unfolding left_at
opens_object f key piece before found start ts us none part text is opened empty leads nothing items = (
  text,
  ap (left_at fresh) (sym is ∙ opened) ∙ behind_brace fresh ts ∙ leads.0 ∙ items.1,
  ts,
  us,
  sym is ∙ opened,
  subst (λ ms. LeadsIn key 126 ms ts found us) empty leads,
  items.2 false [] (no_lists f 124 false [] none None nothing refl),
)

pub closes_object : {A E : Type 0} (f : Data → Result A E) (key piece : List ℕ) (before now : Members) (start us left : List Token) (within : Bool) (none : List (List A)) (unclosed : Option (List A)) (part : Part A) → IsUtf8 piece
    → start ≡ tokens piece → none ≡ [] → unclosed ≡ cond within (Some []) None → Begins start × (r : List Token) × GoesOn f 124 start none unclosed part.closed.items None r × (after_end_array r ≡ Some us)
    → Completes key 126 before us now left → left ≡ [] → part.within ≡ within → part.unclosed ≡ None → ClosesObject f key piece part before now
closes_object f key piece before now start us left within none unclosed part text is nothing opens items behind end same closed =
    let lists = items.2 within [] (no_lists f 124 within [] none unclosed nothing opens) in (
      text,
      subst Begins is items.0,
      items.1,
      us,
      subst (λ ts. AreLists f 124 part.within ts part.closed.items part.unclosed items.1) is
          (subst (λ w. AreLists f 124 w start part.closed.items part.unclosed items.1) (sym same) (subst (λ o. AreLists f 124 within start part.closed.items o items.1) (sym closed) lists)),
      items.3,
      subst (Completes key 126 before us now) end behind,
    )

-- ---- what was answered

-- all pieces were read by one reader
pub ends_read : {A E : Type 0} (f : Data → Result A E) (key first : List ℕ) (near : List (List ℕ)) (last : List ℕ) (opening ending all : Part A) (others : Members) (lists : List (List A))
    → ReadsEnds f key first near last opening ending others → Joins f opening ending all → (lists ≡ all.closed.items) × (all.unclosed ≡ None) → HoldsList f key (joined (first ∷ near) last) lists others
ends_read f key first near last opening ending all others lists h k e =
    subst (λ l. HoldsList f key (joined (first ∷ near) last) l others) (sym e.0) (object_read f key first near last h.0 others h.1 opening ending all h.2 h.3 h.4 k e.1)

-- other readers read those between
pub beside_read : {A E : Type 0} (f : Data → Result A E) (key first : List ℕ) (near far : List (List ℕ)) (last : List ℕ) (opening between ending all : Part A) (others : Members) (lists : List (List A))
    → ReadsEnds f key first near last opening ending others → Continue f 124 far opening between → Joins f between ending all → (lists ≡ all.closed.items) × (all.unclosed ≡ None)
    → HoldsList f key (joined (first ∷ (near ++ far)) last) lists others
beside_read f key first near far last opening between ending all others lists h k j e =
    ends_read f key first (near ++ far) last between ending all others lists (h.0, h.1, h.2, both_continue f 124 near far h.1 opening between h.3 k, h.4) j e

-- the text is that of all pieces
pub text_holds : {A E O : Type 0} (f : Data → Result A E) (members : O → Members) (key text whole : List ℕ) (answer : Option (Vec (List A) Global × O)) → text ≡ whole
    → IfSome answer (λ r. HoldsList f key whole r.0.items (members r.1)) → IfSome answer (λ r. HoldsList f key text r.0.items (members r.1))
text_holds f members key text whole None is h = tt
text_holds f members key text whole (Some r) is h = subst (λ t. HoldsList f key t r.0.items (members r.1)) (sym is) h
