-- What redirects come to when all is placed: each by the values of symbols and of redirects before it.
use Rattle.std.specs.Prelude.{◌≡◌, ℕ, ◌==◌, ◌&&◌, ◌||◌, not, Bool, true, false, if◌then◌else◌, List, [], ◌∷◌, Option, Some, None, Result, Ok, Err}
use Rattle.std.specs.Prelude.{is_some, nat_le, option_and_then, option_map, slice_get}
use Rattle.std.specs.List.{enumerate_from, filter_map}
use Rattle.lk_link.specs.declared.fault.Place.TheVariants as place
use Rattle.lk_link.specs.declared.file.FileKind.{FileKind}
use Rattle.lk_link.specs.declared.file.InputFile.{InputFile}
use Rattle.lk_link.specs.declared.symbol.InputSymbol.{InputSymbol}
use Rattle.lk_link.specs.declared.symbol.SymbolLoc.{SymbolLoc}
use Rattle.lk_link.specs.declared.symbol.SymbolLoc.TheVariants as loc
use Rattle.lk_link.specs.declared.symbol.SymbolPlacement.{SymbolPlacement}
use Rattle.lk_link.specs.declared.symbol.SymbolPlacement.TheVariants as at
use Rattle.lk_link.specs.Expressions.{Term}
use Rattle.lk_link.specs.FileKinds.{is_prelude, is_script}
use Rattle.lk_link.specs.SymbolRules.{file_symbols}
use Rattle.lk_link.specs.Symbols.{all_files, is_canonical}
use Rattle.lk_expressions.specs.Expressions.{Valued, ◌>>=◌, expression_value}
use Rattle.lk_expressions.specs.Records.{Record, mem_end}
use Rattle.lk_expressions.specs.Surroundings.{Late, late_operand}
use Rattle.lk_place.specs.declared.error.PlaceError.{PlaceError}
use Rattle.lk_place.specs.declared.error.PlaceError.TheVariants.{Expression}

-- what is known when all is placed, but for symbols' values: the files, the bytes of the headers, each region as origin and length, what
-- the location counter stood at, and the records of output sections, each by itself and with its secondaries
pub record AllPlaced : Type 0 where
  pub groups : List (List InputFile)
  pub headers : ℕ
  pub regions : List (ℕ × ℕ)
  pub counters : List ℕ
  pub sections : List Record
  pub merged : List Record

-- a redirect: its symbol, whether a script has it, its expression, where the location counter stands, and whether it counts only if
-- something wants it
pub record Redirect : Type 0 where
  pub symbol : ℕ
  pub is_script : Bool
  pub term : Term
  pub loc : SymbolLoc
  pub provide : Bool

-- ---- which there are

-- whether a file's redirects are evaluated when all is placed: those of the prelude and of scripts
abbrev pub has_redirects : FileKind → Bool
has_redirects kind = is_prelude kind || is_script kind

-- the redirect that a placement of symbol s is, in a file of this kind
abbrev pub redirect_at : FileKind → ℕ → SymbolPlacement → Option Redirect
redirect_at kind s (at.Redirect e l provide) = Some (record { symbol = s; is_script = is_script kind; term = e; loc = l; provide = provide })
redirect_at kind s _ = None

-- the redirect that symbol s of a file is, if it is one that is evaluated: it has to stand for itself
abbrev pub redirect_of : ℕ → InputFile × InputSymbol → Option Redirect
redirect_of s p = if has_redirects p.0.kind && is_canonical s p.1 then redirect_at p.0.kind s p.1.at else None

-- those among some symbols with their files, of which the first has number n
abbrev pub redirects_from : ℕ → List (InputFile × InputSymbol) → List Redirect
redirects_from n symbols = filter_map (λ q. redirect_of q.0 q.1) (enumerate_from n symbols)

-- all of them, by their symbols
abbrev pub redirects_of : List (List InputFile) → List Redirect
redirects_of groups = redirects_from 0 (file_symbols (all_files groups))

-- whether the symbol with this number is one
abbrev pub is_redirect : List (List InputFile) → ℕ → Bool
is_redirect groups s = is_some (option_and_then (redirect_of s) (slice_get (file_symbols (all_files groups)) s))

-- ---- what one reads

-- whether the location counter stands anywhere
abbrev pub has_location : SymbolLoc → Bool
has_location loc.None = false
has_location _ = true

-- a redirect reads records of sections with their secondaries; one of a script that has a location, of each section by itself
abbrev pub records_for : AllPlaced → Redirect → List Record
records_for placed q = if q.is_script && has_location q.loc then placed.sections else placed.merged

-- where the location counter stands, by what it stood at and the records of sections
abbrev pub location : List ℕ → List Record → SymbolLoc → Option ℕ
location counters records loc.None = None
location counters records (loc.SectionStart s) = option_map (λ r. r.mem_offset) (slice_get records s)
location counters records (loc.SectionEnd s) = option_map mem_end (slice_get records s)
location counters records (loc.Counter n) = slice_get counters n

-- of symbols a redirect reads these values, but those of redirects only if they stand before it
abbrev pub values_before : List (List InputFile) → ℕ → (ℕ → Option ℕ) → ℕ → Option ℕ
values_before groups own values s = if nat_le own s && is_redirect groups s then None else values s

-- what is known where a redirect is evaluated, with these values of symbols
abbrev pub known_for : AllPlaced → Redirect → (ℕ → Option ℕ) → Late
known_for placed q values = record {
  groups = placed.groups;
  own = q.symbol;
  dot = location placed.counters (records_for placed q) q.loc;
  headers = placed.headers;
  regions = placed.regions;
  sections = records_for placed q;
  values = values;
}

-- the value of its expression by these values of symbols, or why it has none
abbrev pub redirect_value : AllPlaced → Redirect → (ℕ → Option ℕ) → Valued
redirect_value placed q values = expression_value (late_operand (known_for placed q values)) q.term

-- ---- all of them, one after the other

-- where values of symbols are kept: the value of a symbol, if it has one, and what is kept with another value of a symbol that has one
pub record Store (S : Type 0) : Type 0 where
  pub value_of : S → ℕ → Option ℕ
  pub with_value : S → ℕ → ℕ → S

-- a redirect that counts only if something wants it is left out where it has no value so far
abbrev pub is_left_out : Redirect → (ℕ → Option ℕ) → Bool
is_left_out q values = q.provide && not (is_some (values q.symbol))

-- what is kept with this value of a symbol, or the refusal for this cause
abbrev pub updated : {S : Type 0} → Store S → S → ℕ → Valued → Result S PlaceError
updated store kept s (Ok value) = Ok (store.with_value kept s value)
updated store kept s (Err cause) = Err (Expression (place.Symbol s) cause)

-- what is kept behind a redirect, unless it is refused
abbrev pub redirected_by : {S : Type 0} → Store S → AllPlaced → S → Redirect → Result S PlaceError
redirected_by store placed kept q =
    if is_left_out q (store.value_of kept) then Ok kept
    else updated store kept q.symbol (redirect_value placed q (values_before placed.groups q.symbol (store.value_of kept)))

-- what is kept behind some redirects, one after the other, or the first refusal
unfoldable pub redirected : {S : Type 0} → Store S → AllPlaced → S → List Redirect → Result S PlaceError
redirected store placed kept [] = Ok kept
redirected store placed kept (q ∷ qs) = redirected_by store placed kept q >>= (λ next. redirected store placed next qs)

-- what is kept at last is what redirects come to, or the call refuses as they do
abbrev pub GivesRedirected : {S A : Type 0} → Result S PlaceError → Result A PlaceError → S → Type 0
GivesRedirected defined (Ok x) new = defined ≡ Ok new
GivesRedirected defined (Err e) new = defined ≡ Err e

-- ---- what that comes to

-- only a symbol that has a value gets another one, and no other symbol does with it
abbrev pub SetsAlone : {S : Type 0} → Store S → Type 0
SetsAlone {S} store = (kept : S) (s value t : ℕ) → store.value_of (store.with_value kept s value) t
    ≡ (if t == s then option_map (λ _. value) (store.value_of kept t) else store.value_of kept t)

-- a redirect's expression has a value by the values of symbols behind all redirects, and has it by these without those of redirects that don't
-- stand before it; that is its own value, if it has one
pub record HasItsValue (placed : AllPlaced) (before after : ℕ → Option ℕ) (q : Redirect) : Type 0 where
  pub value : ℕ
  pub is : redirect_value placed q after ≡ Ok value
  pub by_earlier : redirect_value placed q (values_before placed.groups q.symbol after) ≡ Ok value
  pub own : after q.symbol ≡ option_map (λ _. value) (before q.symbol)

-- so it is for each redirect that isn't left out; other symbols keep their values, and none gets or loses one
pub record RedirectsHold (placed : AllPlaced) (before after : ℕ → Option ℕ) : Type 0 where
  pub each : (k : ℕ) (q : Redirect) → slice_get (redirects_of placed.groups) k ≡ Some q → is_left_out q before ≡ false → HasItsValue placed before after q
  pub others : (s : ℕ) → is_redirect placed.groups s ≡ false → after s ≡ before s
  pub had : (s : ℕ) → is_some (after s) ≡ is_some (before s)
