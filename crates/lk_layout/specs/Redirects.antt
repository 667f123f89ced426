-- What the symbols of a layout stand for: by what is placed, and then behind all redirects.
use Rattle.std.specs.Prelude.{ℕ, List, [], Option, Some, None, Result, Ok, Err, option_map}
use Rattle.lk_own_symbols.specs.Edges.{Edges, edges_of}
use Rattle.lk_own_symbols.specs.Redirects.{AllPlaced, redirected, redirects_of}
use Rattle.lk_expressions.specs.Expressions.{Valued}
use Rattle.lk_expressions.specs.Records.{Record}
use Rattle.lk_link.specs.declared.resolution.Resolution.{Resolution}
use Rattle.lk_place.specs.declared.error.PlaceError.{PlaceError}
use Rattle.lk_place.specs.Counters.{counters_of}
use Rattle.lk_place.specs.Regions.{given_regions, regions_of}
use Rattle.lk_place.specs.Start.{base_by}
use Rattle.lk_layout.specs.declared.error.LayoutError.{LayoutError}
use Rattle.lk_layout.specs.Errors.{place_error}
use Rattle.lk_layout.specs.Headers.{header_bytes}
use Rattle.lk_layout.specs.Made.{Made, made_deletions, made_filling}
use Rattle.lk_layout.specs.Spans.{made_joined, made_sections, made_segments}
use Rattle.lk_resolutions.specs.Resolutions.{symbol_resolutions}
use Rattle.lk_resolution_list.specs.Lists.{resolution_at}
use Rattle.lk_resolutions.specs.Starts.{starts_of}
use Rattle.lk_resolution_list.specs.Stores.{resolution_store}

-- what the linker's own symbols stand at
abbrev pub made_edges : Made → Edges
made_edges made = edges_of made.link.plan (made_sections made) (made_segments made)

-- for each symbol its resolution by where it is placed, if it has one: that of a redirect is worth 0
abbrev pub placed_resolutions : Made → List (Option Resolution)
placed_resolutions made = symbol_resolutions (made_filling made) (made_deletions made) (made_edges made) (starts_of made.stage.records)

-- ---- what redirects read

-- origin and length of each region
abbrev pub made_regions : Made → List (ℕ × ℕ)
made_regions made = given_regions (regions_of made.link.plan.regions)

-- a value, 0 where there is none
abbrev pub value_or_0 : Valued → ℕ
value_or_0 (Ok value) = value
value_or_0 (Err cause) = 0

-- the value of the base, which is the first counter
abbrev pub made_base : Made → ℕ
made_base made = value_or_0 (base_by made.link.plan made.link.groups (header_bytes made.machine made.link made.live) (made_regions made))

-- what is known when all is placed, with these records of output sections, each by itself and with its secondaries
abbrev pub placed_with : Made → List Record → List Record → AllPlaced
placed_with made sections joined = record {
  groups = made.link.groups;
  headers = header_bytes made.machine made.link made.live;
  regions = made_regions made;
  counters = counters_of made.link.plan made.stage.states (made_base made);
  sections = sections;
  merged = joined;
}

-- ---- what they come to

-- the resolutions behind all redirects, or the first refusal
abbrev pub made_redirected : Made → Result (List (Option Resolution)) PlaceError
made_redirected made =
    redirected resolution_store (placed_with made (made_sections made) (made_joined made)) (placed_resolutions made) (redirects_of made.link.groups)

-- what isn't refused; nothing where it is
abbrev pub unless_refused : Result (List (Option Resolution)) PlaceError → List (Option Resolution)
unless_refused (Ok resolutions) = resolutions
unless_refused (Err e) = []

-- for each symbol of a layout its resolution, if it has one
abbrev pub made_resolutions : Made → List (Option Resolution)
made_resolutions made = unless_refused (made_redirected made)

-- what a symbol is worth, by the resolutions of all, if it has one
abbrev pub value_at : List (Option Resolution) → ℕ → Option ℕ
value_at resolutions s = option_map (λ r. r.raw_value) (resolution_at resolutions s)

-- why it is refused, if it is
abbrev pub refused_by : {A : Type 0} → Result A PlaceError → Option PlaceError
refused_by (Ok a) = None
refused_by (Err e) = Some e

-- a redirect whose expression has no value
abbrev pub redirects_refusal : Made → Option LayoutError
redirects_refusal made = option_map place_error (refused_by (made_redirected made))
