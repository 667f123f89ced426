-- The objects that are planned, in their order.
use Rattle.std.proofs.Common.{◌≡◌, ℕ, suc, ◌+◌, ◌<◌, Bool, List, [], ◌∷◌, length, map, Some, IsSome, refl, ap, sym, subst, ◌∙◌, arith}
use Rattle.std.specs.List.{slice_get}
use Rattle.std.proofs.lemmas.List.{ext_get_or, length-map}
use Rattle.std.proofs.lemmas.Option.{get_or_from_slice_get}
use Rattle.lk_link.specs.declared.ids.FileId.{FileId}
use Rattle.lk_link.specs.declared.link.LinkInput.{LinkInput}
use Rattle.lk_link.specs.Files.{file_in}
use Rattle.lk_link.specs.Inputs.{NumberedFile, numbered_files}
use Rattle.lk_link.specs.Symbols.{file_number}
use Rattle.lk_link.proofs.Elements.{at_index, map_in}
use Rattle.lk_live.specs.declared.live.Live.{Live}
use Rattle.lk_reach.proofs.Numbered.{file_at}
use Rattle.lk_reach.proofs.SymbolNumbers.{is_there}
use Rattle.lk_sizes.proofs.LiveNumbers.{place_is_number}
use Rattle.lk_thunks.specs.Blocks.{assigned}
use Rattle.lk_thunks.specs.Ranges.{file_ranges, has_bytes, planned_objects, primary_bytes, ranges_from}
use Rattle.lk_thunks.proofs.UserLaws.{all_assigned, is_assigned}
use Rattle.lk_thunk_plan.proofs.FilesInOrder.{FilesRise, some_rise}

-- ranges are listed for files as these stand
ranges_rise : (link : LinkInput) (live : Live) (start n : ℕ) (fs : List NumberedFile)
    → ((k : ℕ) (f : NumberedFile) → slice_get fs k ≡ Some f → (file_number link.groups f.id ≡ n + k) × IsSome (file_in link.groups f.id))
    → FilesRise link.groups n (map (λ r. r.0) (ranges_from link live start fs))
unfolding ranges_from
ranges_rise link live start n [] each = tt
ranges_rise link live start n (f ∷ fs) each =
    let here = each 0 f refl in
    let rest = ranges_rise link live (start + primary_bytes link live f) (n + 1) fs (λ k g at.
    let later = each (suc k) g at in
    (omega (arith, later.0), later.1)) in
    let next : file_number link.groups f.id + 1 ≡ n + 1 = omega (arith, here.0) in (
      omega (arith, here.0),
      here.1,
      subst (λ m. FilesRise link.groups m (map (λ r. r.0) (ranges_from link live (start + primary_bytes link live f) fs))) (sym next) rest,
    )

objects_rise : (link : LinkInput) (live : Live) (start : ℕ) → FilesRise link.groups 0 (map (λ o. o.0) (planned_objects link live start))
objects_rise link live start =
    some_rise link.groups 0 (λ (r : FileId × ℕ × ℕ). r.0) has_bytes (file_ranges link live start)
    (ranges_rise link live start 0 (numbered_files link.groups) (λ k f at.
    let here = file_at link.groups k f at in
    (omega (arith, place_is_number link k f at), is_there link.groups f.id f.file here.there)))

-- each object is listed with its file
users_files : (range : ℕ) (objects : List (FileId × ℕ × ℕ)) → map (λ u. u.0) (assigned range objects) ≡ map (λ o. o.0) objects
users_files range objects =
    let none : FileId = record { group = 0; file = 0 } in
    let users : List (FileId × ℕ × Bool) = assigned range objects in
    let of_user : FileId × ℕ × Bool → FileId = λ u. u.0 in
    let of_object : FileId × ℕ × ℕ → FileId = λ o. o.0 in
    ext_get_or none (map of_user users) (map of_object objects)
    (length-map users of_user ∙ all_assigned range objects ∙ sym (length-map objects of_object)) (λ k below.
    let u = at_index users k (omega (arith, length-map users of_user)) in
    let within : k < length objects = omega (arith, length-map users of_user, all_assigned range objects) in
    let o = at_index objects k within in
    let is = is_assigned range objects k u.0 u.1 in
    get_or_from_slice_get (map of_user users) k u.0.0 none (map_in of_user users k u.0 u.1)
    ∙ is.file ∙ ap of_object (get_or_from_slice_get objects k o.0 (none, 0, 0) o.1)
    ∙ sym (get_or_from_slice_get (map of_object objects) k o.0.0 none (map_in of_object objects k o.0 o.1)))

pub users_rise : (link : LinkInput) (live : Live) (range start : ℕ) → FilesRise link.groups 0 (map (λ u. u.0) (assigned range (planned_objects link live start)))
users_rise link live range start =
    subst (FilesRise link.groups 0) (sym (users_files range (planned_objects link live start))) (objects_rise link live start)
