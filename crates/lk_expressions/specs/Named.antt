-- Expressions that name no symbol.
use Rattle.std.specs.Prelude.{◌&&◌, Bool, true, false}
use Rattle.std.specs.List.{list_all}
use Rattle.std.specs.Option.{option_map_or}
use Rattle.lk_link.specs.declared.expression.Operand.{Operand}
use Rattle.lk_link.specs.declared.expression.Operand.TheVariants as operand
use Rattle.lk_link.specs.declared.plan.OrderEvent.{OrderEvent}
use Rattle.lk_link.specs.declared.plan.OrderEvent.TheVariants.{SetLocation, SetLocationRelative, SetSectionAddress}
use Rattle.lk_link.specs.declared.plan.Plan.{Plan}
use Rattle.lk_link.specs.declared.plan.PlanSection.{PlanSection}
use Rattle.lk_link.specs.ExpressionRules.{all_operands}
use Rattle.lk_link.specs.Expressions.{Term}

-- whether an operand is no symbol
abbrev pub is_no_symbol : Operand → Bool
is_no_symbol (operand.Symbol s) = false
is_no_symbol _ = true

-- whether an expression names no symbol
abbrev pub names_none : Term → Bool
names_none t = all_operands is_no_symbol t

-- whether the expression of an event names no symbol, if it has one
abbrev pub moves_by_none : OrderEvent → Bool
moves_by_none (SetLocation e) = names_none e
moves_by_none (SetLocationRelative e s) = names_none e
moves_by_none (SetSectionAddress e) = names_none e
moves_by_none _ = true

-- nor that of where a section is loaded from, if it names it
abbrev pub loads_by_none : PlanSection → Bool
loads_by_none section = option_map_or names_none section.at true

-- whether no expression that is evaluated while a plan is placed names a symbol: neither the base, nor that of an event or of a load
-- address (regions are by numbers alone)
abbrev pub names_no_symbol : Plan → Bool
names_no_symbol plan = names_none plan.base && list_all moves_by_none plan.events && list_all loads_by_none plan.sections
