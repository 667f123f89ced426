-- What the code has at hand once relaxation has ended: records of sections, and the look at what is deleted.
use Rattle.std.proofs.Common.{◌≡◌, ℕ, List, Option, Some, Result, Ok, Err, sym, ap, ◌∙◌}
use Rattle.std.specs.Prelude.{option_map, slice_get}
use Rattle.std.specs.Result.{IsErrAnd}
use Rattle.lk_expressions.specs.declared.positions.SymbolPosition.{SymbolPosition}
use Rattle.lk_expressions.specs.Records.{Record}
use Rattle.lk_link.specs.declared.link.LinkInput.{LinkInput}
use Rattle.lk_place.specs.Segments.{section_records}
use Rattle.lk_relax.specs.declared.sites.RelaxedPlace.{RelaxedPlace}
use Rattle.lk_deltas.specs.LinkDeletions.{Deletions}
use Rattle.lk_relax.specs.Positions.{section_positions, symbol_positions}
use Rattle.lk_relax.specs.Scan.{PassState}
use Rattle.lk_relax.specs.Sites.{past_limit}
use Rattle.lk_layout.specs.declared.error.LayoutError.{LayoutError}
use Rattle.lk_layout.specs.declared.stages.PlacedLink.{PlacedLink}
use Rattle.lk_layout.specs.Defined.{made_standing}
use Rattle.lk_layout.specs.Errors.{site_error}
use Rattle.lk_layout.specs.Machines.{Machine}
use Rattle.lk_layout.specs.Made.{Made, made_filling}
use Rattle.lk_layout.specs.Spans.{made_sections}
use Rattle.lk_layout.specs.Stages.{GivesNear, IsPlacedLink, made_placed}

-- the records of sections are those of the layout
pub sections_are : (machine : Machine) (link : LinkInput) (placed : PlacedLink) (is : IsPlacedLink machine link placed) → placed.records.sections ≡ made_sections (made_placed is)
sections_are machine link placed is = is.are.sections ∙ ap (section_records link.plan.sections) is.records

-- how all stands is the same where all of it is
same_standing : (made : Made) (sections sections' : List (Option (ℕ × ℕ))) (symbols symbols' : List (Option SymbolPosition)) (parts parts' : List Record) (deletions deletions' : Deletions)
    → sections ≡ sections' → symbols ≡ symbols' → parts ≡ parts' → deletions ≡ deletions'
    → ◌≡◌ {A = PassState} (record { link = made.link; live = made.live; sections = sections; symbols = symbols; parts = parts; deletions = deletions })
    (record { link = made.link; live = made.live; sections = sections'; symbols = symbols'; parts = parts'; deletions = deletions' })
same_standing made sections sections' symbols symbols' parts parts' deletions deletions' es ey ep ed = cc

-- how all stands, by what is at hand
pub standing_is : (machine : Machine) (link : LinkInput) (placed : PlacedLink) (is : IsPlacedLink machine link placed) (sections : List (Option (ℕ × ℕ))) (symbols : List (Option SymbolPosition)) (parts : List Record)
    (deletions : Deletions) → sections ≡ section_positions (made_filling (made_placed is)) → symbols ≡ symbol_positions link.groups deletions sections → parts ≡ placed.records.parts → deletions ≡ placed.deltas
    → ◌≡◌ {A = PassState} (record { link = link; live = placed.kept.live; sections = sections; symbols = symbols; parts = parts; deletions = deletions }) (made_standing (made_placed is))
standing_is machine link placed is sections symbols parts deletions es ey ep ed =
    let deleted : deletions ≡ is.stage.deletions = ed ∙ is.deltas in
    same_standing (made_placed is) sections _ symbols _ parts _ deletions _ es
    (ey ∙ ap (symbol_positions link.groups deletions) es ∙ ap (λ (ds : Deletions). symbol_positions link.groups ds (section_positions (made_filling (made_placed is)))) deleted)
    (ep ∙ is.records) deleted

-- the exit of the look: the first candidate past its limit
pub past_told : {A : Type 0} (made : Made) (by : PassState) (place : RelaxedPlace) (result : Result A LayoutError) → by ≡ made_standing made → slice_get (past_limit by) 0 ≡ Some place
    → IsErrAnd result (λ e. e ≡ site_error place) → GivesNear made result
past_told made by place (Ok a) same first h = absurd h
past_told made by place (Err e) same first h = λ some.
    ap (λ (s : PassState). option_map site_error (slice_get (past_limit s) 0)) (sym same)
    ∙ ap (option_map site_error) first ∙ ap (λ (x : LayoutError). Some x) (sym h)
