-- What sections span while their secondaries are joined to them. Contracts of private functions speak of it.
use Rattle.std.specs.Prelude.{ℕ, ◌==◌, if◌then◌else◌, List, nat_lt, Option, Some, None}
use Rattle.lk_link.specs.declared.plan.PlanSection.{PlanSection}
use Rattle.lk_link.specs.PlanSections.{section_at}
use Rattle.lk_expressions.specs.Records.{Record, nowhere, record_at}
use Rattle.lk_place.specs.Secondaries.{is_fitting, joined, joined_among}

-- what fits in 64 bits
abbrev pub if_fitting : Record → Option Record
if_fitting r = if is_fitting r then Some r else None

-- the record of section s after section n, which is this one and has this record, is joined to its primary
abbrev pub joined_to : Option ℕ → PlanSection → ℕ → Record → List Record → ℕ → Record
joined_to None section n r records s = record_at records s
joined_to (Some p) section n r records s =
    if s == n then nowhere else if s == p then joined section (record_at records p) r else record_at records s

-- the record of section s, whose primary this is, after the first n sections
abbrev pub merged_by : Option ℕ → List PlanSection → List Record → ℕ → ℕ → Record
merged_by None sections records n s = joined_among sections records n s
merged_by (Some p) sections records n s = if nat_lt s n then nowhere else record_at records s

-- the record of section s after the first n sections
abbrev pub merged_so_far : List PlanSection → List Record → ℕ → ℕ → Record
merged_so_far sections records n s = merged_by (section_at sections s).primary sections records n s
