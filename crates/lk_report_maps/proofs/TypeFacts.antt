-- What values of types tell: what whoever owns a value, or has it lent, knows of its numbers, put together from what its parts tell.
use Rattle.std.proofs.Common.{◌≡◌, ◌<◌, ◌^◌, List, Option, None, Some, length, arith, subst}
use Rattle.std.specs.List.{All}
use Rattle.std.specs.Option.{IfSome}
use Rattle.std.proofs.lemmas.List.Elements.{All-weaker}
use base.Fml.{ftrue, fex}
use base.Stored.{Coded}
use denote.RattleType.{RattleType}
use denote.Known.{Known, Says-map, nothing_known, declared_enum_known, declared_known, such_known, view_known}
use denote.Model.{Fixed, Through}
use Rattle.std.specs.formers.vec.Vec as vec_former
use Rattle.std.specs.contracts.alloc.Global as global_row
use Rattle.std.specs.contracts.impls.GlobalAllocator.TheImpl as global_allocator
use Rattle.std.specs.contracts.option.Option as option_row
use Rattle.std.specs.contracts.vec.Vec as vec_row
use Rattle.lk_link.specs.contracts.list.List as list_row
use Rattle.lk_link.specs.contracts.list.List.TheInside as list_inside

-- one type's and those of the types behind it
infixr 5 ◌&◌
abbrev pub ◌&◌ : {A B : Type 2} → A → B → A × B
a & b = (a, b)

-- nothing
abbrev pub nothing : {R : RattleType} → Known R
nothing {R} = nothing_known R

-- what follows of what a value tells, it tells too
module _ (R : RattleType) (k : Known R) (F : R.Denot → Type 0) (follows : (x : R.Denot) → k.Fact x → F x) where
  abbrev pub told_so : Known R
  told_so = record {
    Fact = F;
    owned = λ x vs. Says-map (R.own_val x vs) (follows x) (k.owned x vs);
    shared = λ x b o κ. Says-map (R.shr_at x b o κ) (follows x) (k.shared x b o κ);
  }

-- a value with a model that gives its fields back tells what these do, and its invariant
module _ (I : RattleType) (k : Known I) (D : Type 0) (c : Coded D) (inverse : D → I.Denot) (view : I.Denot → D) (holds : I.Denot → Type 0) where
  abbrev pub through : Known (Through I D c inverse)
  through = record { Fact = λ d. k.Fact (inverse d); owned = λ d vs. k.owned (inverse d) vs; shared = λ d b o κ. k.shared (inverse d) b o κ }

  abbrev pub of_fixed : Known (Fixed I D c inverse view holds)
  of_fixed = such_known (Through I D c inverse) through (λ d. fex ((view (inverse d) ≡ d) × holds (inverse d)) (λ _. ftrue)) (λ d _. tt)

-- ---- lists

-- fewer than 2^63 items, of each of which a fact holds
pub record AreFew {X : Type 0} (F : X → Type 0) (xs : List X) : Type 0 where
  pub count : length xs < 2 ^ 63
  pub each : All F xs

-- so does what follows of it
pub few_so : {X : Type 0} {F G : X → Type 0} {xs : List X} → AreFew F xs → ((x : X) → F x → G x) → AreFew G xs
few_so {F = F} {G = G} {xs = xs} h follows = record { count = h.count; each = All-weaker F G follows xs h.each }

module _ (R : RattleType) (k : Known R) where
  abbrev pub of_items : Known (vec_row.the_row R global_row.the_row global_allocator.ghosts)
  of_items = vec_former.the_facts R global_row.the_row global_allocator.ghosts k (nothing_known global_row.the_row)

  pub vec_few : (xs : (vec_row.the_row R global_row.the_row global_allocator.ghosts).Denot) → of_items.Fact xs → AreFew k.Fact xs.items
  vec_few xs f = record { count = omega (arith, xs.ok.0, xs.ok.1, xs.small); each = f }

  -- so does a vector
  abbrev pub of_vec : Known (vec_row.the_row R global_row.the_row global_allocator.ghosts)
  of_vec = told_so (vec_row.the_row R global_row.the_row global_allocator.ghosts) of_items (λ xs. AreFew k.Fact xs.items) vec_few

  abbrev pub of_inside : Known (list_inside.the_row R)
  of_inside = declared_known (list_inside.the_type R) (of_vec, tt)

  abbrev pub of_view : Known (list_row.the_row R)
  of_view = view_known (list_inside.the_row R) of_inside (List R.Denot) (list_row.the_row R).coded (list_row.the_view R) (list_row.the_invariant R)

  pub list_few : (xs : List R.Denot) → of_view.Fact xs → AreFew k.Fact xs
  list_few xs f = subst (AreFew k.Fact) f.1.0 f.2.0

  -- and a list of the description
  abbrev pub of_list : Known (list_row.the_row R)
  of_list = told_so (list_row.the_row R) of_view (AreFew k.Fact) list_few

  -- ---- options

  abbrev pub of_variants : Known (option_row.the_row R)
  of_variants = declared_enum_known (option_row.the_type R) (tt, ((k, tt), tt))

  pub some_tells : (o : Option R.Denot) → of_variants.Fact o → IfSome o k.Fact
  some_tells None f = tt
  some_tells (Some x) f = f.0

  abbrev pub of_option : Known (option_row.the_row R)
  of_option = told_so (option_row.the_row R) of_variants (λ o. IfSome o k.Fact) some_tells
