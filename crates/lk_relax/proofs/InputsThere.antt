-- Input sections are where their numbers say.
use Rattle.std.proofs.Common.{◌≡◌, ℕ, ◌<◌, ◌^◌, List, Some, length, IsSome, refl, sym, ap, ◌∙◌, arith}
use Rattle.std.specs.Iterator.{Yields, YieldsFirstBy}
use Rattle.std.specs.List.{slice_get}
use Rattle.std.proofs.lemmas.Iterator.Consumers.{YieldsList-from_first, YieldsList-turn}
use Rattle.std.proofs.lemmas.Option.{slice_get-get_or, slice_get_within}
use Rattle.lk_link.specs.declared.link.LinkInput.{LinkInput}
use Rattle.lk_link.specs.declared.walks.InputRef.{InputRef}
use Rattle.lk_link.specs.Files.{file_in}
use Rattle.lk_link.specs.Inputs.{Input, all_inputs, input_number}
use Rattle.lk_link.specs.Walks.{input_of}
use Rattle.lk_link.specs.WellFormed.{IsWellFormed}
use Rattle.lk_reach.proofs.Numbered.{file_of_input}
use Rattle.lk_reach.proofs.SymbolNumbers.{is_there, sections_few}
use Rattle.lk_sizes.specs.Tables.{IsInput}
use Rattle.lk_sizes.proofs.LiveByFiles.{number_of}

-- the next one of a walk over all
pub input_turn : (link : LinkInput) (s t u : List Input) (done : List InputRef) (x : InputRef) → s ≡ all_inputs link.groups
    → Yields (YieldsFirstBy {S = List Input} input_of (λ left. left)) s done t → YieldsFirstBy {S = List Input} input_of (λ left. left) t (Some x) u
    → slice_get (all_inputs link.groups) (length done) ≡ Some (input_of x)
input_turn link s t u done x begins yielded next =
    let walk = YieldsList-from_first input_of (λ (left : List Input). left) {s = s} (all_inputs link.groups) begins in
    let here = YieldsList-turn walk done t yielded (Some x) u x refl next in
    slice_get-get_or (all_inputs link.groups) (length done) (input_of x) here.0 ∙ ap Some (sym here.1)

-- stands at its number
pub at_its_number : (link : LinkInput) (k : ℕ) (x : Input) → slice_get (all_inputs link.groups) k ≡ Some x → IsInput link x
at_its_number link k x there = ap (slice_get (all_inputs link.groups)) (number_of link k x there) ∙ there

-- its file is there
pub file_there : (link : LinkInput) (x : Input) → IsInput link x → IsSome (file_in link.groups x.file)
file_there link x is = let f = file_of_input link.groups (input_number link.groups x.file x.index) x is in is_there link.groups x.file f.0 f.1

-- and its index is small
pub index_small : (link : LinkInput) (x : Input) → IsWellFormed link → IsInput link x → x.index < 2 ^ 32
index_small link x good is =
    let f = file_of_input link.groups (input_number link.groups x.file x.index) x is in
    omega (arith, slice_get_within f.0.sections x.index x.section f.2, sections_few link x.file f.0 good f.1)
