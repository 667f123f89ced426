-- What redirects come to, read at the end: each has the value of its expression by the values behind all of them.
use Rattle.std.proofs.Common.{◌≡◌, ◌∙◌, ap, arith, refl, sym, ℕ, zero, suc, ◌+◌, ◌<◌, ◌≤◌, Bool, true, false, List, [], ◌∷◌, inl, inr, ◌⊎◌, subst, eq-eqb}
use Rattle.std.proofs.Math.Path.{fun_ext}
use Rattle.std.specs.Prelude.{◌==◌, ◌&&◌, if◌then◌else◌, not, Option, Some, None, Result, Ok, Err, is_some, nat_le, option_and_then, option_map, slice_get}
use Rattle.std.specs.List.{cons_option}
use Rattle.std.proofs.lemmas.Bool.{cases_Bool, eqb-true}
use Rattle.std.proofs.lemmas.Bool.Decides.{nat_tests}
use Rattle.lk_link.specs.declared.expression.Operand.{Operand}
use Rattle.lk_link.specs.declared.expression.Operand.TheVariants as operand
use Rattle.lk_link.specs.declared.file.FileKind.{FileKind}
use Rattle.lk_link.specs.declared.file.InputFile.{InputFile}
use Rattle.lk_link.specs.declared.symbol.InputSymbol.{InputSymbol}
use Rattle.lk_link.specs.declared.symbol.SymbolPlacement.{SymbolPlacement}
use Rattle.lk_link.specs.declared.symbol.SymbolPlacement.TheVariants as at
use Rattle.lk_link.specs.Expressions.{Term, Leaf, Node}
use Rattle.lk_link.specs.SymbolPlacements.{is_undefined}
use Rattle.lk_link.specs.SymbolRules.{file_symbols}
use Rattle.lk_link.specs.Symbols.{all_files, definition_of, symbol_at}
use Rattle.lk_expressions.specs.declared.no_value.NoValue.TheVariants.{SelfReference}
use Rattle.lk_expressions.specs.Expressions.{Valued, ◌>>=◌, applied, expression_value}
use Rattle.lk_expressions.specs.Surroundings.{Late, by_definition, defined, late_operand, late_symbol, told}
use Rattle.lk_own_symbols.specs.Redirects.{AllPlaced, HasItsValue, Redirect, RedirectsHold, SetsAlone, Store, is_left_out, is_redirect, known_for}
use Rattle.lk_own_symbols.specs.Redirects.{redirect_at, redirect_of, redirect_value, redirected, redirected_by, redirects_from, redirects_of, updated, values_before}

-- what goes on to a value had one before
taken : {A B E : Type 0} (x : Result A E) (f : A → Result B E) (y : B) → (x >>= f) ≡ Ok y → (a : A) × (x ≡ Ok a) × (f a ≡ Ok y)
taken (Ok a) f y h = (a, refl, h)
taken (Err e) f y h = absurd (cc)

-- ---- the order of redirects

-- redirects at symbols from n on, each before the next
unfoldable AreBehind : (ℕ → Bool) → ℕ → List Redirect → Type 0
AreBehind is n [] = Unit {0}
AreBehind is n (q ∷ qs) = (n ≤ q.symbol) × (is q.symbol ≡ true) × AreBehind is (q.symbol + 1) qs

wider : (is : ℕ → Bool) (m n : ℕ) (qs : List Redirect) → m ≤ n → AreBehind is n qs → AreBehind is m qs
unfolding AreBehind
wider is m n [] le h = tt
wider is m n (q ∷ qs) le h = (omega (arith, h.0), h.1, h.2)

-- a redirect at a placement is one of its symbol
symbol_at_placement : (kind : FileKind) (s : ℕ) (p : SymbolPlacement) (q : Redirect) → redirect_at kind s p ≡ Some q → q.symbol ≡ s
symbol_at_placement kind s (at.Redirect e l provide) q h =
    sym (ap (λ (o : Option Redirect). elim o [ None ↦ s | Some r ↦ r.symbol ]) h)
symbol_at_placement kind s at.Undef q h = absurd (cc)
symbol_at_placement kind s at.Undefined q h = absurd (cc)
symbol_at_placement kind s at.ForceUndefined q h = absurd (cc)
symbol_at_placement kind s (at.Absolute n) q h = absurd (cc)
symbol_at_placement kind s (at.Section i o) q h = absurd (cc)
symbol_at_placement kind s (at.Common p n) q h = absurd (cc)
symbol_at_placement kind s at.Dynamic q h = absurd (cc)
symbol_at_placement kind s (at.SectionStart t) q h = absurd (cc)
symbol_at_placement kind s (at.SectionEnd t) q h = absurd (cc)
symbol_at_placement kind s (at.SectionGroupEnd t) q h = absurd (cc)
symbol_at_placement kind s at.TlsEnd q h = absurd (cc)
symbol_at_placement kind s at.LoadBaseAddress q h = absurd (cc)

if_told : (b : Bool) (o : Option Redirect) (q : Redirect) → (if b then o else None) ≡ Some q → o ≡ Some q
if_told true o q h = h
if_told false o q h = absurd (cc)

symbol_is : (s : ℕ) (p : InputFile × InputSymbol) (q : Redirect) → redirect_of s p ≡ Some q → q.symbol ≡ s
symbol_is s p q h = symbol_at_placement p.0.kind s p.1.at q (if_told _ (redirect_at p.0.kind s p.1.at) q h)

-- those of symbols that stand among all from n on
behind_next : (is : ℕ → Bool) (n : ℕ) (o : Option Redirect) (qs : List Redirect) → ((q : Redirect) → o ≡ Some q → (q.symbol ≡ n) × (is n ≡ true))
    → AreBehind is (n + 1) qs → AreBehind is n (cons_option o qs)
unfolding AreBehind
behind_next is n None qs one rest = wider is n (n + 1) qs (omega arith) rest
behind_next is n (Some q) qs one rest =
    let here = one q refl in
    (omega (arith, here.0), ap is here.0 ∙ here.1, subst (λ (m : ℕ). AreBehind is (m + 1) qs) (sym here.0) rest)

are_behind : (groups : List (List InputFile)) (n : ℕ) (ps : List (InputFile × InputSymbol))
    → ((i : ℕ) (p : InputFile × InputSymbol) → slice_get ps i ≡ Some p → slice_get (file_symbols (all_files groups)) (n + i) ≡ Some p)
    → AreBehind (is_redirect groups) n (redirects_from n ps)
unfolding AreBehind
are_behind groups n [] there = tt
are_behind groups n (p ∷ ps) there =
    behind_next (is_redirect groups) n (redirect_of n p) (redirects_from (n + 1) ps)
    (λ q some.
    let at : slice_get (file_symbols (all_files groups)) n ≡ Some p
    = ap (slice_get (file_symbols (all_files groups))) (omega arith) ∙ there 0 p refl in
    (symbol_is n p q some, ap (λ (o : Option (InputFile × InputSymbol)). is_some (option_and_then (redirect_of n) o)) at ∙ ap is_some some))
    (are_behind groups (n + 1) ps (λ i x h.
    ap (slice_get (file_symbols (all_files groups))) (omega arith) ∙ there (suc i) x h))

all_behind : (groups : List (List InputFile)) → AreBehind (is_redirect groups) 0 (redirects_of groups)
all_behind groups = are_behind groups 0 (file_symbols (all_files groups)) (λ i p h. ap (slice_get (file_symbols (all_files groups))) (omega arith) ∙ h)

-- one of them
found_behind : (is : ℕ → Bool) (n : ℕ) (qs : List Redirect) (k : ℕ) (q : Redirect) → AreBehind is n qs → slice_get qs k ≡ Some q → n ≤ q.symbol
unfolding AreBehind
found_behind is n [] k q h at = absurd (cc)
found_behind is n (r ∷ qs) zero q h at = let same : r ≡ q = cc in omega (arith, h.0, ap (λ (x : Redirect). x.symbol) same)
found_behind is n (r ∷ qs) (suc k) q h at = omega (arith, h.0, found_behind is (r.symbol + 1) qs k q h.2 at)

-- ---- one redirect

-- what is kept behind one: what was kept before where it is left out, else that with its value
came : {S : Type 0} (store : Store S) (kept next : S) (s : ℕ) (left : Bool) (value : Valued) → (if left then Ok kept else updated store kept s value) ≡ Ok next
    → ((left ≡ true) × (kept ≡ next)) ⊎ ((left ≡ false) × ((n : ℕ) × (value ≡ Ok n) × (store.with_value kept s n ≡ next)))
came store kept next s true value h = inl (refl, cc)
came store kept next s false (Ok n) h = inr (refl, (n, refl, cc))
came store kept next s false (Err e) h = absurd (cc)

-- a symbol that isn't its own keeps its value
not_own : (t s : ℕ) (n : ℕ) (o : Option ℕ) → (t == s) ≡ false → (if t == s then option_map (λ _. n) o else o) ≡ o
not_own t s n o h = ap (λ (b : Bool). if b then option_map (λ _. n) o else o) h

one_keeps : {S : Type 0} (store : Store S) → SetsAlone store → (placed : AllPlaced) (kept next : S) (q : Redirect) (t : ℕ)
    → redirected_by store placed kept q ≡ Ok next → (t == q.symbol) ≡ false → store.value_of next t ≡ store.value_of kept t
one_keeps {S} store alone placed kept next q t h other =
    elim (came store kept next q.symbol (is_left_out q (store.value_of kept)) (redirect_value placed q (values_before placed.groups q.symbol (store.value_of kept))) h) [
      | inl left ↦ ap (λ (k : S). store.value_of k t) (sym left.1)
      | inr set ↦
          ap (λ (k : S). store.value_of k t) (sym set.1.2)
          ∙ alone kept q.symbol set.1.0 t
          ∙ not_own t q.symbol set.1.0 (store.value_of kept t) other
    ]

-- none gets or loses one
still_some : (b : Bool) (n : ℕ) (o : Option ℕ) → is_some (if b then option_map (λ _. n) o else o) ≡ is_some o
still_some true n None = refl
still_some true n (Some v) = refl
still_some false n o = refl

one_had : {S : Type 0} (store : Store S) → SetsAlone store → (placed : AllPlaced) (kept next : S) (q : Redirect) (t : ℕ)
    → redirected_by store placed kept q ≡ Ok next → is_some (store.value_of next t) ≡ is_some (store.value_of kept t)
one_had {S} store alone placed kept next q t h =
    elim (came store kept next q.symbol (is_left_out q (store.value_of kept)) (redirect_value placed q (values_before placed.groups q.symbol (store.value_of kept))) h) [
      | inl left ↦ ap (λ (k : S). is_some (store.value_of k t)) (sym left.1)
      | inr set ↦
          ap (λ (k : S). is_some (store.value_of k t)) (sym set.1.2)
          ∙ ap is_some (alone kept q.symbol set.1.0 t)
          ∙ still_some (t == q.symbol) set.1.0 (store.value_of kept t)
    ]

-- ---- several redirects

-- a symbol that is none of them keeps its value
stays : {S : Type 0} (store : Store S) → SetsAlone store → (placed : AllPlaced) (is : ℕ → Bool) (n t : ℕ) (kept final : S) (qs : List Redirect)
    → AreBehind is n qs → redirected store placed kept qs ≡ Ok final → ((m : ℕ) → n ≤ m → is m ≡ true → (t == m) ≡ false)
    → store.value_of final t ≡ store.value_of kept t
unfolding redirected AreBehind
stays {S} store alone placed is n t kept final [] behind h other = ap (λ (k : S). store.value_of k t) (cc)
stays {S} store alone placed is n t kept final (q ∷ qs) behind h other =
    let on = taken (redirected_by store placed kept q) (λ (next : S). redirected store placed next qs) final h in
    stays store alone placed is (q.symbol + 1) t on.0 final qs behind.2 on.2 (λ m le one. other m (omega (arith, le, behind.0)) one)
    ∙ one_keeps store alone placed kept on.0 q t on.1 (other q.symbol behind.0 behind.1)

-- none gets or loses one
all_had : {S : Type 0} (store : Store S) → SetsAlone store → (placed : AllPlaced) (t : ℕ) (kept final : S) (qs : List Redirect)
    → redirected store placed kept qs ≡ Ok final → is_some (store.value_of final t) ≡ is_some (store.value_of kept t)
unfolding redirected
all_had {S} store alone placed t kept final [] h = ap (λ (k : S). is_some (store.value_of k t)) (cc)
all_had {S} store alone placed t kept final (q ∷ qs) h =
    let on = taken (redirected_by store placed kept q) (λ (next : S). redirected store placed next qs) final h in
    all_had store alone placed t on.0 final qs on.2 ∙ one_had store alone placed kept on.0 q t on.1

-- ---- what one reads

below_other : (t n m : ℕ) → t < n → n ≤ m → (t == m) ≡ false
below_other t n m lt le = grind (arith, nat_tests)

above_other : (t s : ℕ) → s + 1 ≤ t → (t == s) ≡ false
above_other t s le = grind (arith, nat_tests)

-- a symbol that isn't a redirect is none of them
not_one : (is : ℕ → Bool) (t m : ℕ) → is t ≡ false → is m ≡ true → (t == m) ≡ false
not_one is t m none one =
    elim (cases_Bool (t == m)) [
      | inl same ↦ absurd (let both : true ≡ false = sym one ∙ sym (ap is (eqb-true t m same)) ∙ none in cc)
      | inr other ↦ other
    ]

and_false : (a b : Bool) → (a && b) ≡ false → (a ≡ false) ⊎ (b ≡ false)
and_false true b h = inr h
and_false false b h = inl refl

not_from : (own t : ℕ) → nat_le own t ≡ false → t < own
not_from own t h = grind (arith, nat_tests)

-- of symbols a redirect reads the same values behind all as in its turn
read_alike : (b : Bool) (v w : Option ℕ) → (b ≡ false → v ≡ w) → (if b then None else v) ≡ (if b then None else w)
read_alike true v w h = refl
read_alike false v w h = h refl

reads_same : {S : Type 0} (store : Store S) → SetsAlone store → (placed : AllPlaced) (kept final : S) (q : Redirect) (qs : List Redirect)
    → AreBehind (is_redirect placed.groups) q.symbol (q ∷ qs) → redirected store placed kept (q ∷ qs) ≡ Ok final
    → values_before placed.groups q.symbol (store.value_of final) ≡ values_before placed.groups q.symbol (store.value_of kept)
unfolding AreBehind
reads_same store alone placed kept final q qs behind h =
    let is : ℕ → Bool = is_redirect placed.groups in
    fun_ext (λ t. read_alike (nat_le q.symbol t && is t) (store.value_of final t) (store.value_of kept t) (λ differs.
    stays store alone placed is q.symbol t kept final (q ∷ qs) behind h (λ m le one.
    elim (and_false (nat_le q.symbol t) (is t) differs) [
      | inl before ↦ below_other t q.symbol m (not_from q.symbol t before) le
      | inr none ↦ not_one is t m none one
    ])))

-- ---- values by all values

told_more : (b : Bool) (o : Option ℕ) (n : ℕ) → told (λ v. v) (if b then None else o) ≡ Ok n → told (λ v. v) o ≡ Ok n
told_more true o n h = absurd (cc)
told_more false o n h = h

late_more : (c b : Bool) (o : Option ℕ) (n : ℕ) → (if c then Err SelfReference else told (λ v. v) (if b then None else o)) ≡ Ok n
    → (if c then Err SelfReference else told (λ v. v) o) ≡ Ok n
late_more true b o n h = absurd (cc)
late_more false b o n h = told_more b o n h

undefined_more : (u : Bool) (x y : Valued) (n : ℕ) (e : Valued) → ((m : ℕ) → x ≡ Ok m → y ≡ Ok m) → (if u then e else x) ≡ Ok n → (if u then e else y) ≡ Ok n
undefined_more true x y n e more h = h
undefined_more false x y n e more h = more n h

defined_more : (f g : SymbolPlacement → Valued) (o : Option InputSymbol) (n : ℕ) → ((p : SymbolPlacement) (m : ℕ) → f p ≡ Ok m → g p ≡ Ok m)
    → defined f o ≡ Ok n → defined g o ≡ Ok n
defined_more f g None n more h = absurd (cc)
defined_more f g (Some x) n more h = undefined_more (is_undefined x.at) (f x.at) (g x.at) n _ (more x.at) h

definition_more : (f g : ℕ → SymbolPlacement → Valued) (groups : List (List InputFile)) (o : Option ℕ) (n : ℕ)
    → ((d : ℕ) (p : SymbolPlacement) (m : ℕ) → f d p ≡ Ok m → g d p ≡ Ok m) → by_definition f groups o ≡ Ok n → by_definition g groups o ≡ Ok n
definition_more f g groups None n more h = absurd (cc)
definition_more f g groups (Some d) n more h = defined_more (f d) (g d) (symbol_at groups d) n (more d) h

-- an operand that has a value by those before a redirect has it by all values
operand_more : (placed : AllPlaced) (q : Redirect) (values : ℕ → Option ℕ) (o : Operand) (n : ℕ)
    → late_operand (known_for placed q (values_before placed.groups q.symbol values)) o ≡ Ok n → late_operand (known_for placed q values) o ≡ Ok n
operand_more placed q values (operand.Number m) n h = h
operand_more placed q values (operand.Symbol s) n h =
    let before : Late = known_for placed q (values_before placed.groups q.symbol values) in
    let all : Late = known_for placed q values in
    definition_more (λ d p. late_symbol before d) (λ d p. late_symbol all d) placed.groups (definition_of placed.groups s) n
    (λ d p m one. late_more (d == q.symbol) (nat_le q.symbol d && is_redirect placed.groups d) (values d) m one) h
operand_more placed q values operand.Dot n h = h
operand_more placed q values (operand.Address s) n h = h
operand_more placed q values (operand.SizeOf s) n h = h
operand_more placed q values (operand.Origin r) n h = h
operand_more placed q values (operand.Length r) n h = h
operand_more placed q values operand.SizeOfHeaders n h = h

value_more : (f g : Operand → Valued) (t : Term) (n : ℕ) → ((o : Operand) (m : ℕ) → f o ≡ Ok m → g o ≡ Ok m) → expression_value f t ≡ Ok n → expression_value g t ≡ Ok n
unfolding expression_value
value_more f g (Leaf o) n more h = more o n h
value_more f g (Node o l r) n more h =
    let a = taken (expression_value f l) (λ x. expression_value f r >>= (λ y. applied o x y)) n h in
    let b = taken (expression_value f r) (λ y. applied o a.0 y) n a.2 in
    ap (λ (x : Valued). x >>= (λ x. expression_value g r >>= (λ y. applied o x y))) (value_more f g l a.0 more a.1)
    ∙ ap (λ (y : Valued). y >>= (λ y. applied o a.0 y)) (value_more f g r b.0 more b.1)
    ∙ b.2

by_all : (placed : AllPlaced) (q : Redirect) (values : ℕ → Option ℕ) (n : ℕ)
    → redirect_value placed q (values_before placed.groups q.symbol values) ≡ Ok n → redirect_value placed q values ≡ Ok n
by_all placed q values n h =
    value_more (late_operand (known_for placed q (values_before placed.groups q.symbol values))) (late_operand (known_for placed q values)) q.term n
    (operand_more placed q values) h

-- ---- all of them

-- the first of some, by all that come behind it
first_holds : {S : Type 0} (store : Store S) → SetsAlone store → (placed : AllPlaced) (kept next final : S) (n : ℕ) (q : Redirect) (qs : List Redirect)
    → AreBehind (is_redirect placed.groups) n (q ∷ qs) → redirected_by store placed kept q ≡ Ok next → redirected store placed next qs ≡ Ok final
    → redirected store placed kept (q ∷ qs) ≡ Ok final → is_left_out q (store.value_of kept) ≡ false
    → HasItsValue placed (store.value_of kept) (store.value_of final) q
unfolding AreBehind
first_holds {S} store alone placed kept next final n q qs behind here rest all told =
    let is : ℕ → Bool = is_redirect placed.groups in
    let before : ℕ → Option ℕ = values_before placed.groups q.symbol (store.value_of kept) in
    elim (came store kept next q.symbol (is_left_out q (store.value_of kept)) (redirect_value placed q before) here) [
      | inl left ↦ absurd (let both : true ≡ false = sym left.0 ∙ told in cc)
      | inr set ↦
          let value : ℕ = set.1.0 in
          let same : values_before placed.groups q.symbol (store.value_of final) ≡ before
          = reads_same store alone placed kept final q qs (omega arith, behind.1, behind.2) all in
          record {
            value = value;
            is = by_all placed q (store.value_of final) value (ap (redirect_value placed q) same ∙ set.1.1);
            by_earlier = ap (redirect_value placed q) same ∙ set.1.1;
            own = stays store alone placed is (q.symbol + 1) q.symbol next final qs behind.2 rest (λ m le one. below_other q.symbol (q.symbol + 1) m (omega arith) le)
                ∙ ap (λ (k : S). store.value_of k q.symbol) (sym set.1.2)
                ∙ alone kept q.symbol value q.symbol
                ∙ ap (λ (b : Bool). if b then option_map (λ _. value) (store.value_of kept q.symbol) else store.value_of kept q.symbol) (eq-eqb q.symbol q.symbol refl);
          }
    ]

-- what was left out by these values is by others that are the same for its symbol
alike_left : (q : Redirect) (v w : ℕ → Option ℕ) → w q.symbol ≡ v q.symbol → is_left_out q v ≡ false → is_left_out q w ≡ false
alike_left q v w same h = ap (λ (o : Option ℕ). q.provide && not (is_some o)) same ∙ h

each_holds : {S : Type 0} (store : Store S) → SetsAlone store → (placed : AllPlaced) (kept final : S) (n : ℕ) (qs : List Redirect) (k : ℕ) (q : Redirect)
    → AreBehind (is_redirect placed.groups) n qs → redirected store placed kept qs ≡ Ok final → slice_get qs k ≡ Some q
    → is_left_out q (store.value_of kept) ≡ false → HasItsValue placed (store.value_of kept) (store.value_of final) q
unfolding redirected AreBehind
each_holds store alone placed kept final n [] k q behind h at told = absurd (cc)
each_holds {S} store alone placed kept final n (r ∷ qs) zero q behind h at told =
    let same : r ≡ q = cc in
    let on = taken (redirected_by store placed kept r) (λ (next : S). redirected store placed next qs) final h in
    subst (λ (x : Redirect). is_left_out x (store.value_of kept) ≡ false → HasItsValue placed (store.value_of kept) (store.value_of final) x) same
    (first_holds store alone placed kept on.0 final n r qs behind on.1 on.2 h) told
each_holds {S} store alone placed kept final n (r ∷ qs) (suc k) q behind h at told =
    let on = taken (redirected_by store placed kept r) (λ (next : S). redirected store placed next qs) final h in
    let far : r.symbol + 1 ≤ q.symbol = found_behind (is_redirect placed.groups) (r.symbol + 1) qs k q behind.2 at in
    let same : store.value_of on.0 q.symbol ≡ store.value_of kept q.symbol = one_keeps store alone placed kept on.0 r q.symbol on.1 (above_other q.symbol r.symbol far) in
    let there = each_holds store alone placed on.0 final (r.symbol + 1) qs k q behind.2 on.2 at (alike_left q (store.value_of kept) (store.value_of on.0) same told) in
    record { value = there.value; is = there.is; by_earlier = there.by_earlier; own = there.own ∙ ap (λ (o : Option ℕ). option_map (λ _. there.value) o) same }

pub redirects_hold : {S : Type 0} (store : Store S) → SetsAlone store → (placed : AllPlaced) (kept final : S)
    → redirected store placed kept (redirects_of placed.groups) ≡ Ok final → RedirectsHold placed (store.value_of kept) (store.value_of final)
redirects_hold store alone placed kept final h =
    let is : ℕ → Bool = is_redirect placed.groups in
    record {
      each = λ k q at told. each_holds store alone placed kept final 0 (redirects_of placed.groups) k q (all_behind placed.groups) h at told;
      others = λ s none. stays store alone placed is 0 s kept final (redirects_of placed.groups) (all_behind placed.groups) h (λ m le one. not_one is s m none one);
      had = λ s. all_had store alone placed s kept final (redirects_of placed.groups) h;
    }

-- ---- what is kept, whatever it is

one_behind : (is : ℕ → Bool) (n : ℕ) (qs : List Redirect) (k : ℕ) (q : Redirect) → AreBehind is n qs → slice_get qs k ≡ Some q → is q.symbol ≡ true
unfolding AreBehind
one_behind is n [] k q h at = absurd (cc)
one_behind is n (r ∷ qs) zero q h at =
    let same : r ≡ q = cc in
    ap (λ (x : Redirect). is x.symbol) (sym same) ∙ h.1
one_behind is n (r ∷ qs) (suc k) q h at = one_behind is (r.symbol + 1) qs k q h.2 at

-- each redirect of a link is one by its symbol
pub each_is_one : (groups : List (List InputFile)) (k : ℕ) (q : Redirect) → slice_get (redirects_of groups) k ≡ Some q → is_redirect groups q.symbol ≡ true
each_is_one groups k q at = one_behind (is_redirect groups) 0 (redirects_of groups) k q (all_behind groups) at

-- what is so of what is kept, and stays so with any value of a redirect's symbol, is so behind all of them
pub goes_through : {S : Type 0} (store : Store S) (placed : AllPlaced) (P : S → Type 0) (kept final : S) (qs : List Redirect)
    → ((k : ℕ) (q : Redirect) (now : S) (n : ℕ) → slice_get qs k ≡ Some q → P now → P (store.with_value now q.symbol n))
    → redirected store placed kept qs ≡ Ok final → P kept → P final
unfolding redirected
goes_through {S} store placed P kept final [] step h is =
    let same : kept ≡ final = cc in
    subst P same is
goes_through {S} store placed P kept final (q ∷ qs) step h is =
    let on = taken (redirected_by store placed kept q) (λ (next : S). redirected store placed next qs) final h in
    let next : P on.0
    = elim (came store kept on.0 q.symbol (is_left_out q (store.value_of kept)) (redirect_value placed q (values_before placed.groups q.symbol (store.value_of kept))) on.1) [
      | inl left ↦ subst P left.1 is
      | inr set ↦ subst P set.1.2 (step 0 q kept set.1.0 refl is)
    ] in
    goes_through store placed P on.0 final qs (λ k r now n at. step (suc k) r now n at) on.2 next
