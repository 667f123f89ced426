use Rattle.std.proofs.Common.{ℕ, Option, IsSome, refl, sym, subst}
use Rattle.std.proofs.lemmas.Option.{slice_get_within}
use Rattle.lk_link.specs.declared.file.InputFile.{InputFile}
use Rattle.lk_link.specs.Inputs.{all_inputs, input_number}
use Rattle.lk_link.specs.Walks.{input_of}
use Rattle.lk_reach.proofs.Numbered.{file_of_input}
use Rattle.lk_sizes.proofs.OwnSizes.{own_size_at}
use Rattle.lk_sizes.proofs.sorted.size_of.Goals as goal

pub number_of-requires-clause-file : goal.number_of-requires-clause-file
number_of-requires-clause-file c =
    let groups = c.args.link.now.groups in
    let n : ℕ = input_number groups c.args.input.file c.args.input.index in
    subst (λ (o : Option InputFile). IsSome o) (sym (file_of_input groups n (input_of c.args.input) c.requires.there).1) refl

pub number_of-requires-clause-there : goal.number_of-requires-clause-there
number_of-requires-clause-there c =
    let groups = c.args.link.now.groups in
    slice_get_within (all_inputs groups) (input_number groups c.args.input.file c.args.input.index) (input_of c.args.input) c.requires.there

pub returns-in-None : goal.returns-in-None
returns-in-None c =
    let link = c.args.link.now in
    let n : ℕ = input_number link.groups c.args.input.file c.args.input.index in
    rw c.in-None.is (sym (own_size_at link n (input_of c.args.input) c.requires.there))
