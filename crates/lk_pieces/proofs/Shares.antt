-- Pieces in shares.
use Rattle.std.proofs.Common.{◌≡◌, ℕ, suc, ◌+◌, ◌*◌, ◌<◌, ◌≤◌, List, [], ◌∷◌, ◌++◌, length, take, drop, get_or, Bool, cond, Option, Some, None, Result, refl, sym, ap, ◌∙◌, subst, append_assoc, append-nil, length-drop, arith}
use Rattle.std.proofs.lemmas.List.{map-append, take-append-drop, drop-drop}
use Rattle.std.specs.Prelude.{IfSome}
use Rattle.std.specs.Borrow.{Bor}
use Rattle.serde_json.specs.Data.{Data}
use Rattle.lk_pieces.specs.declared.pieces.Part.{Part}
use Rattle.lk_pieces.specs.Pieces.{bytes_of, AreHeld, Continue, Joins}
use Rattle.lk_pieces.specs.Workers.{share_of, ReadsShare, AreShares}
use Rattle.lk_pieces.proofs.Joined.{none_continue, both_continue, part_continues, held_from}

no_pieces : (ps : List (Bor (List ℕ))) → length ps ≤ 0 → bytes_of ps ≡ []
no_pieces [] h = refl
no_pieces (p ∷ ps) h = absurd (omega (arith, h))

-- the pieces of the worker behind the first
next_share : {X : Type 0} (size worker : ℕ) (ps : List X) → share_of size (suc worker) ps ≡ share_of size worker (drop size ps)
next_share size worker ps =
    let many : suc worker * size ≡ size + worker * size = omega arith in
    ap (λ n. take size (drop n ps)) many ∙ ap (take size) (sym (drop-drop (worker * size) size ps))

module _ {A E : Type 0} (f : Data → Result A E) (depth : ℕ) where
  -- all pieces are in some worker's share
  pub in_shares : (size : ℕ) (ps : List (Bor (List ℕ))) (answers : List (Option (Part A))) → length ps ≤ length answers * size
      → ((worker : ℕ) (d : Option (Part A)) → worker < length answers → ReadsShare f depth size ps worker (get_or answers worker d)) → AreShares f depth (bytes_of ps) answers
  unfolding AreShares
  in_shares size ps [] few each = no_pieces ps (omega (arith, few))
  in_shares size ps (answer ∷ answers) few each =
      let none : 0 * size ≡ 0 = omega arith in
      let own : IfSome answer (λ part. AreHeld f depth (bytes_of (take size ps)) part) = subst (λ n. IfSome answer (λ part. AreHeld f depth (bytes_of (take size (drop n ps))) part)) none (each 0 answer (omega arith)) in (
        bytes_of (take size ps),
        bytes_of (drop size ps),
        ap bytes_of (sym (take-append-drop size ps)) ∙ map-append (λ (q : Bor (List ℕ)). q.now) (take size ps) (drop size ps),
        own,
        in_shares size (drop size ps) answers (omega (arith, few, length-drop size ps))
            (λ worker d h. subst (λ l. IfSome (get_or answers worker d) (λ part. AreHeld f depth (bytes_of l) part)) (next_share size worker ps) (each (suc worker) d (omega (arith, h)))),
      )

  -- a worker's share
  pub share_held : (size worker : ℕ) (ps qs : List (Bor (List ℕ))) (within : Bool) (start all part : Part A) → qs ≡ share_of size worker ps → start.closed.items ≡ [] → start.unclosed ≡ cond within (Some []) None
      → Continue f depth (bytes_of qs) start all → part.within ≡ within → part.closed.items ≡ all.closed.items → part.unclosed ≡ all.unclosed → AreHeld f depth (bytes_of (share_of size worker ps)) part
  share_held size worker ps qs within start all part is none unclosed h same closed opens =
      subst (λ l. AreHeld f depth (bytes_of l) part) is (held_from f depth (bytes_of qs) within start all part none unclosed h same closed opens)

  -- ---- what workers answered, from the first on

  -- so far
  abbrev pub Heard : List (Option (Part A)) → List (Option (Part A)) → Part A → Part A → Type 0
  Heard answers left part all =
      (ps : List (List ℕ)) → AreShares f depth ps answers → (done rest : List (List ℕ)) × (ps ≡ done ++ rest) × AreShares f depth rest left × Continue f depth done part all

  pub none_heard : (answers left : List (Option (Part A))) (part all : Part A) → left ≡ answers → all ≡ part → Heard answers left part all
  none_heard answers left part all same is ps shares = ([], ps, refl, subst (AreShares f depth ps) (sym same) shares, none_continue f depth part all is)

  pub next_heard : (answers left others : List (Option (Part A))) (answer : Option (Part A)) (told part all both : Part A) → left ≡ answer ∷ others → answer ≡ Some told → Joins f all told both
      → Heard answers left part all → Heard answers others part both
  unfolding AreShares
  next_heard answers left others answer told part all both is some joins heard ps shares =
      let before = heard ps shares in
      let now : AreShares f depth before.1 (answer ∷ others) = subst (AreShares f depth before.1) is before.3 in
      let own : AreHeld f depth now.0 told = subst (λ a. IfSome a (λ part. AreHeld f depth now.0 part)) some now.3 in (
        before.0 ++ now.0,
        now.1,
        before.2 ∙ ap (λ l. before.0 ++ l) now.2 ∙ sym (append_assoc before.0 now.0 now.1),
        now.4,
        both_continue f depth before.0 now.0 part all both before.4 (part_continues f depth now.0 all told both joins own),
      )

  pub all_heard : (answers left : List (Option (Part A))) (part all : Part A) → left ≡ [] → Heard answers left part all → (ps : List (List ℕ)) → AreShares f depth ps answers → Continue f depth ps part all
  unfolding AreShares
  all_heard answers left part all none heard ps shares =
      let told = heard ps shares in
      let over : told.1 ≡ [] = subst (AreShares f depth told.1) none told.3 in
      subst (λ l. Continue f depth l part all) (sym (told.2 ∙ ap (λ l. told.0 ++ l) over ∙ append-nil told.0)) told.4
