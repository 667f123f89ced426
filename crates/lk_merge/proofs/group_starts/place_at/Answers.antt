use Rattle.std.proofs.Common.{◌∙◌, refl, sym, ap, arith, length}
use Rattle.std.specs.List.{slice_get}
use Rattle.std.proofs.lemmas.Option.{slice_get_read}
use Rattle.lk_merge.proofs.group_starts.place_at.Goals as goal

pub returns : goal.returns
returns c =
    let found = c.index-places-bucket.result in (
      found,
      slice_get_read c.args.places.now (length c.args.places.now) c.args.bucket found refl (omega (arith, c.if-bucket-places.false)) c.index-places-bucket.is,
      ap (λ l. slice_get l c.args.index) (sym c.as_slice-found.ensures.value)
          ∙ slice_get_read c.as_slice-found.result.now (length c.as_slice-found.result.now) c.args.index c.index-found-index.result refl c.if-index-found.false c.index-found-index.is,
    )
