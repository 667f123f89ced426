-- The part that the plan names for a table has its entries alone.
use Rattle.std.proofs.Common.{◌≡◌, ℕ, true, List, Option, Some, refl, ap, ◌∙◌}
use Rattle.std.specs.List.{slice_get}
use Rattle.std.proofs.lemmas.Bool.{eq-eqb}
use Rattle.std.proofs.lemmas.List.Folds.{list_any_at}
use Rattle.std.proofs.lemmas.Option.{get_or_from_slice_get, slice_get_within}
use Rattle.lk_link.specs.declared.link.LinkInput.{LinkInput}
use Rattle.lk_link.specs.PartRules.{is_part, is_table_part, table_parts}
use Rattle.lk_link.specs.WellFormed.{IsWellFormed}
use Rattle.lk_live.specs.Reach.{AreLive}
use Rattle.lk_size_laws.proofs.TableParts.{table_parts_have_entries_alone}
use Rattle.lk_sizes.specs.Owners.{Filling}
use Rattle.lk_soundness.proofs.Stands.{TablesStandAlone}

-- the part of a table is a table part
named_is_table : (link : LinkInput) (k p : ℕ) → slice_get (table_parts link.plan.named) k ≡ Some (Some p) → is_table_part link.plan.named p ≡ true
named_is_table link k p named =
    let parts : List (Option ℕ) = table_parts link.plan.named in
    list_any_at (is_part p) parts k (Some p) (slice_get_within parts k (Some p) named) (ap (is_part p) (get_or_from_slice_get parts k (Some p) (Some p) named) ∙ eq-eqb p p refl)

pub tables_alone : (filling : Filling) → IsWellFormed filling.content.link → AreLive filling.content.link filling.content.live → TablesStandAlone filling
tables_alone filling good are k p named = table_parts_have_entries_alone filling p good are (named_is_table filling.content.link k p named)
