-- When what is merged of a link is refused.
use Rattle.std.specs.Prelude.{Option, option_map}
use Rattle.lk_link.specs.declared.link.LinkInput.{LinkInput}
use Rattle.lk_merge.specs.Hash.{fnv64}
use Rattle.lk_merge.specs.LinkInputs.{first_refusal, link_inputs}
use Rattle.lk_layout.specs.declared.error.LayoutError.{LayoutError}
use Rattle.lk_layout.specs.Errors.{merge_error}

-- an input that isn't terminated, or a piece that is too long for its bucket
abbrev pub merging_refusal : LinkInput → Option LayoutError
merging_refusal link = option_map merge_error (first_refusal fnv64 link.options.bucket_limit 0 (link_inputs link).outputs)
