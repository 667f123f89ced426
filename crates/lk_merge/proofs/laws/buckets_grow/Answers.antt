use Rattle.std.proofs.Common.{◌∙◌, ap, []}
use Rattle.std.proofs.lemmas.List.Elements.{filter-append}
use Rattle.lk_merge.specs.Image.{firsts_behind, in_bucket}
use Rattle.lk_merge.proofs.AmongLemmas.{firsts-append}
use Rattle.lk_merge.proofs.laws.buckets_grow.Goals as goal

pub returns : goal.returns
returns c = λ hash b first more. ap (firsts_behind []) (filter-append _ first more) ∙ firsts-append [] (in_bucket hash b first) (in_bucket hash b more)
