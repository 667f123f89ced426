use Rattle.std.proofs.Common.{List, [], ◌∷◌, take, sym, ap, ◌∙◌, subst, ℕ}
use Rattle.std.specs.Option.{option_to_list}
use Rattle.std.proofs.lemmas.Option.{slice_get-get_or}
use Rattle.lk_link.specs.declared.relocation.Relocation.{Relocation}
use Rattle.lk_reach.specs.declared.units.Ask.{Ask}
use Rattle.lk_reach.specs.Marks.{asking}
use Rattle.lk_explain.specs.Searching.{Takes, with_asker}
use Rattle.lk_explain.specs.Sharing.{references}
use Rattle.lk_explain.proofs.SharedLemmas.{reference_inside, references_next}
use Rattle.lk_explain.proofs.TakeLemmas.{below_after, takes_none}
use Rattle.lk_explain.proofs.search.Search.take_relocations.Goals as goal
use Rattle.lk_explain.proofs.search.Search.take_relocations.Goals.{in-Some+in_ok-take, in_default}

pub take-requires-clause-inside : goal.take-requires-clause-inside
take-requires-clause-inside c =
    let rs : List Relocation = c.args.references.relocations.now in
    let i : ℕ = c.loop-relocation.relocation-index in
    reference_inside c.args.asker.link.now c.args.references.first c.args.references.symbols.now rs i _ c.in-Some.ask c.requires.inside (slice_get-get_or rs i _ c.loop-relocation-test.true)
    (sym c.reference.ensures ∙ c.in-Some.is)

pub take-requires-clause-below : goal.take-requires-clause-below
take-requires-clause-below c =
    below_after (asking c.args.asker.link.now) c.args.asker.distance c.args.asker.number (references c.args.references.first c.args.references.symbols.now (take c.loop-relocation.relocation-index c.args.references.relocations.now))
    c.args.self.now c.loop-relocation.self c.requires.distance c.requires.below c.loop-relocation.invariant

pub loop-relocation-preserved : goal.loop-relocation-preserved
loop-relocation-preserved c =
    let g = asking c.args.asker.link.now in
    let rs : List Relocation = c.args.references.relocations.now in
    let i : ℕ = c.loop-relocation.relocation-index in
    let old = c.loop-relocation.self in
    let new = c.match-reference.self in
    let T : List Ask → Type 0 = λ asks. Takes g c.args.asker.distance (with_asker c.args.asker.number asks) old new in
    references_next g c.args.asker.distance c.args.asker.number c.args.references.first c.args.references.symbols.now rs i _ c.args.self.now old new c.requires.distance (slice_get-get_or rs i _ c.loop-relocation-test.true)
    c.loop-relocation.invariant
    (elim c.match-reference.branch [
      | in-Some+in_ok-take w ↦
          let took : T (w.in-Some.ask ∷ []) = subst (λ s. Takes g c.args.asker.distance (with_asker c.args.asker.number (w.in-Some.ask ∷ [])) old s) (sym w.self-is) w.in_ok-take.ensures in
          subst T (sym (ap option_to_list (sym c.reference.ensures ∙ w.in-Some.is))) took
      | in_default w ↦
          let same : T [] = subst (λ s. Takes g c.args.asker.distance [] old s) (sym w.self-is) (takes_none g c.args.asker.distance old c.requires.distance) in
          subst T (sym (ap option_to_list (sym c.reference.ensures ∙ w.in_default.is))) same
    ])
