-- The walk over tokens from back to front tells how deep an expression is.
use Rattle.std.proofs.Common.{◌≡◌, ℕ, ◌+◌, ◌-◌, ◌<◌, ◌≤◌, ◌&&◌, Bool, true, false, List, [], ◌∷◌, ◌++◌, length, get_or, take, max, nat_le, reverse, refl, subst, ap, sym, ◌∙◌, arith}
use Rattle.std.proofs.Common.{⊎_elim}
use Rattle.std.proofs.Math.Nat.{le-max_left, max-eq_left, max-eq_right}
use Rattle.std.proofs.lemmas.Bool.{cases_lt, le-ltb, lt-ltb}
use Rattle.std.proofs.lemmas.Bool.Decides.{nat_tests}
use Rattle.std.proofs.lemmas.List.{append_assoc, append-nil, reverse-append, take_all, take_more}
use Rattle.lk_link.specs.declared.expression.Operator.{Operator}
use Rattle.lk_link.specs.declared.expression.Token.{Token}
use Rattle.lk_link.specs.declared.expression.Token.TheVariants as token
use Rattle.lk_link.specs.declared.limits.TheConstants.{MOST_DEPTH}
use Rattle.lk_link.specs.Expressions.{Term, Leaf, Node, postfix}
use Rattle.lk_link.specs.ExpressionRules.{depth}
use Rattle.lk_check.specs.DepthWalk.{are_shallow, Rise}

-- ---- what the walk tells

-- an expression is 1 deep at least
depth-pos : (t : Term) → 1 ≤ depth t
unfolding depth
depth-pos (Leaf o) = omega arith
depth-pos (Node o l r) = omega arith

-- the tokens from back to front
backwards : (o : Operator) (l r : Term) → reverse (postfix (Node o l r)) ≡ token.Operator o ∷ (reverse (postfix r) ++ reverse (postfix l))
backwards o l r =
    reverse-append (postfix l ++ postfix r) (token.Operator o ∷ [])
    ∙ ap (λ ts. token.Operator o ∷ ts) (reverse-append (postfix l) (postfix r))

leaf_fits : (n : ℕ) (b : Bool) → n ≤ MOST_DEPTH → b ≡ (nat_le (n + 1) (MOST_DEPTH + 1) && b)
leaf_fits n b h = grind (arith, nat_tests)

left_deeper : (n a c : ℕ) (b : Bool) → c ≤ a → n < MOST_DEPTH → (nat_le (n + 1 + c) (MOST_DEPTH + 1) && (nat_le (n + 1 + a) (MOST_DEPTH + 1) && b)) ≡ (nat_le (n + (a + 1)) (MOST_DEPTH + 1) && b)
left_deeper n a c b h lt = grind (arith, nat_tests)

right_deeper : (n a c : ℕ) (b : Bool) → a ≤ c → n < MOST_DEPTH → (nat_le (n + 1 + c) (MOST_DEPTH + 1) && (nat_le (n + 1 + a) (MOST_DEPTH + 1) && b)) ≡ (nat_le (n + (c + 1)) (MOST_DEPTH + 1) && b)
right_deeper n a c b h lt = grind (arith, nat_tests)

-- what joins two fits where both do, one deeper
node_fits : (n a c : ℕ) (b : Bool) → n < MOST_DEPTH → (nat_le (n + 1 + c) (MOST_DEPTH + 1) && (nat_le (n + 1 + a) (MOST_DEPTH + 1) && b)) ≡ (nat_le (n + (max a c + 1)) (MOST_DEPTH + 1) && b)
node_fits n a c b lt =
    ⊎_elim
    (λ less. let h : a ≤ c = omega (arith, less) in
    right_deeper n a c b h lt ∙ ap (λ (m : ℕ). nat_le (n + (m + 1)) (MOST_DEPTH + 1) && b) (sym (max-eq_right h)))
    (λ most. left_deeper n a c b most lt ∙ ap (λ (m : ℕ). nat_le (n + (m + 1)) (MOST_DEPTH + 1) && b) (sym (max-eq_left most)))
    (cases_lt a c)

-- at the greatest depth it doesn't
node_fails : (n a : ℕ) (b : Bool) → 1 ≤ a → MOST_DEPTH ≤ n → (nat_le (n + (a + 1)) (MOST_DEPTH + 1) && b) ≡ false
node_fails n a b deep most = grind (arith, nat_tests)

-- an expression at a depth that isn't too great passes where its own depth from there on isn't too great
walked : (t : Term) (n : ℕ) (ts : List Token) (depths : List ℕ) → n ≤ MOST_DEPTH → are_shallow (reverse (postfix t) ++ ts) (n ∷ depths) ≡ (nat_le (n + depth t) (MOST_DEPTH + 1) && are_shallow ts depths)
unfolding are_shallow depth
walked (Leaf o) n ts depths h = leaf_fits n (are_shallow ts depths) h
walked (Node o l r) n ts depths h =
    let left = reverse (postfix l) in
    let right = reverse (postfix r) in
    let both : List ℕ = (n + 1) ∷ (n + 1) ∷ depths in
    let below : Bool = are_shallow ((right ++ left) ++ ts) both in
    let deepest : ℕ = max (depth l) (depth r) in
    ap (λ us. are_shallow (us ++ ts) (n ∷ depths)) (backwards o l r)
    ∙ ⊎_elim
    (λ lt. ap (λ b. b && below) (lt-ltb n MOST_DEPTH lt)
    ∙ ap (λ us. are_shallow us both) (append_assoc right left ts)
    ∙ walked r (n + 1) (left ++ ts) ((n + 1) ∷ depths) (omega (arith, lt))
    ∙ ap (λ b. nat_le (n + 1 + depth r) (MOST_DEPTH + 1) && b) (walked l (n + 1) ts depths (omega (arith, lt)))
    ∙ node_fits n (depth l) (depth r) (are_shallow ts depths) lt)
    (λ most. ap (λ b. b && below) (le-ltb n MOST_DEPTH most)
    ∙ sym (node_fails n deepest (are_shallow ts depths) (omega (arith, depth-pos l, le-max_left (depth l) (depth r))) most))
    (cases_lt n MOST_DEPTH)

one_more : (d : ℕ) → (nat_le (1 + d) (MOST_DEPTH + 1) && true) ≡ nat_le d MOST_DEPTH
one_more d = grind (arith, nat_tests)

-- the walk over a whole expression, which stands at depth 1
pub whole : (t : Term) → are_shallow (reverse (postfix t)) (1 ∷ []) ≡ nat_le (depth t) MOST_DEPTH
unfolding are_shallow
whole t =
    ap (λ us. are_shallow us (1 ∷ [])) (sym (append-nil (reverse (postfix t))))
    ∙ walked t 1 [] [] (omega arith)
    ∙ one_more (depth t)

-- ---- from back to front

-- the last token of those that are left is the next
pub next_back : (ts : List Token) (i : ℕ) (d : Token) → i < length ts → reverse (take (length ts - i) ts) ≡ get_or ts (length ts - 1 - i) d ∷ reverse (take (length ts - (i + 1)) ts)
next_back ts i d h =
    let k = length ts - 1 - i in
    let above : length ts - i ≡ k + 1 = omega (arith, h) in
    let same : k ≡ length ts - (i + 1) = omega (arith, h) in
    ap (λ (n : ℕ). reverse (take n ts)) above
    ∙ ap reverse (take_more ts k d (omega (arith, h)))
    ∙ reverse-append (take k ts) (get_or ts k d ∷ [])
    ∙ ap (λ (n : ℕ). get_or ts k d ∷ reverse (take n ts)) same

-- at the end none is left
pub none_back : (ts : List Token) (i : ℕ) → length ts ≤ i → reverse (take (length ts - i) ts) ≡ []
none_back ts i h =
    let none : length ts - i ≡ 0 = omega (arith, h) in
    ap (λ (n : ℕ). reverse (take n ts)) none

-- at the start all are
pub all_back : (ts : List Token) → reverse (take (length ts - 0) ts) ≡ reverse ts
all_back ts = ap reverse (take_all (length ts - 0) ts (omega arith))

-- where nothing waits, nothing is too deep
pub nothing_waits : (ts : List Token) → are_shallow ts [] ≡ true
unfolding are_shallow
nothing_waits [] = refl
nothing_waits (t ∷ ts) = refl

-- at the start one expression waits, at depth 1
pub begins : (ts : List Token) (t : Term) (depths : List ℕ) → ts ≡ postfix t → depths ≡ 1 ∷ [] → Rise depths × (are_shallow (reverse (take (length ts - 0) ts)) depths ≡ nat_le (depth t) MOST_DEPTH)
unfolding Rise
begins ts t depths h e =
    let one : Rise (1 ∷ []) = (omega arith, omega arith, tt) in (
      subst (λ (ds : List ℕ). Rise ds) (sym e) one,
      ap (λ ds. are_shallow (reverse (take (length ts - 0) ts)) ds) e
          ∙ ap (λ us. are_shallow us (1 ∷ [])) (all_back ts)
          ∙ ap (λ us. are_shallow (reverse us) (1 ∷ [])) h
          ∙ whole t,
    )

-- at the end no token is left
pub ends : (ts : List Token) (i : ℕ) (depths : List ℕ) → length ts ≤ i → are_shallow (reverse (take (length ts - i) ts)) depths ≡ true
unfolding are_shallow
ends ts i depths h = ap (λ us. are_shallow us depths) (none_back ts i h)

pub ruleset walk = (next_back, nothing_waits)
