use Rattle.std.proofs.Common.{◌≡◌, ℕ, List, ◌+◌, ◌++◌, take, sym, ◌∙◌, subst}
use Rattle.std.proofs.lemmas.List.{take-append-drop}
use Rattle.lk_merge.specs.Pieces.{IsString}
use Rattle.lk_merge.proofs.ZeroBytes.{string_found}
use Rattle.lk_merge.proofs.string.MergeString.take_string_hashed.Goals as goal

pub returns : goal.returns
returns c =
    let source : List ℕ = c.args.source.now.now in
    let k : ℕ = c.in_ok-last.last in
    let taken : c.take_hashed.result.bytes.now ≡ take (k + 1) source = c.take_hashed.ensures.bytes ∙ c.split_at.ensures.front in
    record {
      taken = (
        subst IsString (sym taken) (string_found source k c.in_ok-last.ensures),
        sym (take-append-drop (k + 1) source) ∙ (λ i. sym taken i ++ sym c.split_at.ensures.back i),
      );
    }
