-- What the code has at hand of redirects, as definitions see it. Contracts of private functions speak of it.
use Rattle.lk_own_symbols.specs.declared.placed_link.PlacedLink.{PlacedLink}
use Rattle.lk_own_symbols.specs.declared.redirects.RedirectRef.{RedirectRef}
use Rattle.lk_own_symbols.specs.Redirects.{AllPlaced, Redirect}

-- all that is placed of a link
abbrev pub all_placed : PlacedLink → AllPlaced
all_placed placed = record {
  groups = placed.link.now.groups;
  headers = placed.headers;
  regions = placed.regions.now;
  counters = placed.counters.now;
  sections = placed.sections.now;
  merged = placed.merged.now;
}

-- a redirect whose expression is lent
abbrev pub redirect_in : RedirectRef → Redirect
redirect_in q = record { symbol = q.symbol; is_script = q.is_script; term = q.expression.now; loc = q.loc; provide = q.provide }
