-- The rule on expressions.
use Rattle.std.specs.Prelude.{◌≡◌, ℕ, ◌+◌, ◌≤◌, ◌&&◌, Bool, true, Some, is_some, length, max, nat_le, nat_lt, slice_get}
use Rattle.std.specs.List.{list_all}
use Rattle.std.specs.Option.{ForSome, option_map_or}
use Rattle.lk_link.specs.declared.expression.Operand.{Operand}
use Rattle.lk_link.specs.declared.expression.Operand.TheVariants as operand
use Rattle.lk_link.specs.declared.expression.Token.{Token}
use Rattle.lk_link.specs.declared.expression.Token.TheVariants as token
use Rattle.lk_link.specs.declared.file.InputFile.{InputFile}
use Rattle.lk_link.specs.declared.ids.FileId.{FileId}
use Rattle.lk_link.specs.declared.limits.TheConstants.{MOST_DEPTH}
use Rattle.lk_link.specs.declared.link.LinkInput.{LinkInput}
use Rattle.lk_link.specs.declared.plan.OrderEvent.{OrderEvent}
use Rattle.lk_link.specs.declared.plan.OrderEvent.TheVariants.{SetLocation, SetLocationRelative, SetSectionAddress}
use Rattle.lk_link.specs.declared.plan.PlanSection.{PlanSection}
use Rattle.lk_link.specs.declared.plan.Region.{Region}
use Rattle.lk_link.specs.declared.symbol.InputSymbol.{InputSymbol}
use Rattle.lk_link.specs.declared.symbol.SymbolPlacement.{SymbolPlacement}
use Rattle.lk_link.specs.declared.symbol.SymbolPlacement.TheVariants as at
use Rattle.lk_link.specs.Expressions.{Term, Leaf, Node}
use Rattle.lk_link.specs.Files.{file_in}
use Rattle.lk_link.specs.Symbols.{all_symbols, symbol_at}

-- ---- one expression

-- how deep an expression is: an operand is 1 deep, and what joins two is one deeper than the deeper one
unfoldable pub depth : Term → ℕ
depth (Leaf o) = 1
depth (Node o l r) = max (depth l) (depth r) + 1

-- whether all operands of an expression pass a test
unfoldable pub all_operands : (Operand → Bool) → Term → Bool
all_operands test (Leaf o) = test o
all_operands test (Node o l r) = all_operands test l && all_operands test r

-- whether a token passes it, if it is an operand
abbrev pub operand_passes : (Operand → Bool) → Token → Bool
operand_passes test (token.Operand o) = test o
operand_passes test (token.Operator o) = true

-- whether what an operand names is there
abbrev pub is_operand_there : LinkInput → Operand → Bool
is_operand_there link (operand.Symbol s) = is_some (symbol_at link.groups s)
is_operand_there link (operand.Address s) = nat_lt s (length link.plan.sections)
is_operand_there link (operand.SizeOf s) = nat_lt s (length link.plan.sections)
is_operand_there link (operand.Origin r) = nat_lt r (length link.plan.regions)
is_operand_there link (operand.Length r) = nat_lt r (length link.plan.regions)
is_operand_there link _ = true

-- what an expression names is there, and it isn't too deep
abbrev pub is_good_expression : LinkInput → Term → Bool
is_good_expression link t = all_operands (is_operand_there link) t && nat_le (depth t) MOST_DEPTH

-- ---- the expressions of a link

-- those of a region
abbrev pub is_good_region : LinkInput → Region → Bool
is_good_region link r = is_good_expression link r.origin && is_good_expression link r.length

-- that of where a section is loaded from, if it has one
abbrev pub has_good_address : LinkInput → PlanSection → Bool
has_good_address link s = option_map_or (is_good_expression link) s.at true

-- that of an event, if it has one
abbrev pub has_good_move : LinkInput → OrderEvent → Bool
has_good_move link (SetLocation e) = is_good_expression link e
has_good_move link (SetLocationRelative e s) = is_good_expression link e
has_good_move link (SetSectionAddress e) = is_good_expression link e
has_good_move link _ = true

-- that of a redirect, in whatever file
abbrev pub is_good_redirect : LinkInput → SymbolPlacement → Bool
is_good_redirect link (at.Redirect e l provide) = is_good_expression link e
is_good_redirect link _ = true

-- all of them
pub record HasGoodExpressions (link : LinkInput) : Type 0 where
  pub base : is_good_expression link link.plan.base ≡ true
  pub regions : list_all (is_good_region link) link.plan.regions ≡ true
  pub addresses : list_all (has_good_address link) link.plan.sections ≡ true
  pub moves : list_all (has_good_move link) link.plan.events ≡ true
  pub redirects : list_all (λ x. is_good_redirect link x.at) (all_symbols link.groups) ≡ true

-- ---- good ones, taken apart

pub record IsGoodExpression (link : LinkInput) (t : Term) : Type 0 where
  pub shallow : depth t ≤ MOST_DEPTH
  pub all_there : all_operands (is_operand_there link) t ≡ true

abbrev pub HasGoodMove : LinkInput → OrderEvent → Type 0
HasGoodMove link (SetLocation e) = IsGoodExpression link e
HasGoodMove link (SetLocationRelative e s) = IsGoodExpression link e
HasGoodMove link (SetSectionAddress e) = IsGoodExpression link e
HasGoodMove link _ = Unit {0}

abbrev pub IsGoodRedirect : LinkInput → SymbolPlacement → Type 0
IsGoodRedirect link (at.Redirect e l provide) = IsGoodExpression link e
IsGoodRedirect link _ = Unit {0}

pub record AreGoodExpressions (link : LinkInput) : Type 0 where
  pub base : IsGoodExpression link link.plan.base
  pub regions : (i : ℕ) (r : Region) → slice_get link.plan.regions i ≡ Some r → IsGoodExpression link r.origin × IsGoodExpression link r.length
  pub addresses : (s : ℕ) (x : PlanSection) → slice_get link.plan.sections s ≡ Some x → ForSome x.at (IsGoodExpression link)
  pub moves : (k : ℕ) (e : OrderEvent) → slice_get link.plan.events k ≡ Some e → HasGoodMove link e
  pub redirects : (s : ℕ) (x : InputSymbol) → symbol_at link.groups s ≡ Some x → IsGoodRedirect link x.at
  pub by_file : (id : FileId) (i : ℕ) (file : InputFile) (x : InputSymbol) → file_in link.groups id ≡ Some file
      → slice_get file.symbols i ≡ Some x → IsGoodRedirect link x.at
