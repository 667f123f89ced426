-- An expression without symbols has one value, whatever is known of symbols.
use Rattle.std.proofs.Common.{◌≡◌, ℕ, true, List, Option, refl, ap, ◌∙◌}
use Rattle.std.proofs.lemmas.Bool.{and_parts}
use Rattle.lk_link.specs.declared.expression.Operand.{Operand}
use Rattle.lk_link.specs.declared.expression.Operand.TheVariants as operand
use Rattle.lk_link.specs.declared.file.InputFile.{InputFile}
use Rattle.lk_link.specs.ExpressionRules.{all_operands}
use Rattle.lk_link.specs.Expressions.{Term, Leaf, Node}
use Rattle.lk_expressions.specs.declared.positions.SymbolPosition.{SymbolPosition}
use Rattle.lk_expressions.specs.ExpressionLaws.{UnnamedReadNoSymbols}
use Rattle.lk_expressions.specs.Expressions.{Valued, ◌>>=◌, applied, expression_value}
use Rattle.lk_expressions.specs.Named.{is_no_symbol, names_none}
use Rattle.lk_expressions.specs.Surroundings.{Early, Late, early_operand, late_operand}

-- the value goes by what the operands are worth that are no symbols
pub value_by : (f g : Operand → Valued) (t : Term) → ((o : Operand) → is_no_symbol o ≡ true → f o ≡ g o) → names_none t ≡ true → expression_value f t ≡ expression_value g t
unfolding all_operands expression_value
value_by f g (Leaf o) same h = same o h
value_by f g (Node n l r) same h =
    let both = and_parts (names_none l) (names_none r) h in
    ap (λ (x : Valued). x >>= (λ a. expression_value f r >>= (λ b. applied n a b))) (value_by f g l same both.0)
    ∙ ap (λ (y : Valued). expression_value g l >>= (λ a. y >>= (λ b. applied n a b))) (value_by f g r same both.1)

-- ---- while sections are placed

early_one : (k : Early) (gs : List (List InputFile)) (cs : List (Option Valued)) (ps : List (Option SymbolPosition)) (o : Operand) → is_no_symbol o ≡ true
    → early_operand (record k { groups = gs; constants = cs; positions = ps }) o ≡ early_operand k o
early_one k gs cs ps (operand.Symbol s) h = absurd (cc)
early_one k gs cs ps (operand.Number n) h = refl
early_one k gs cs ps operand.Dot h = refl
early_one k gs cs ps (operand.Address s) h = refl
early_one k gs cs ps (operand.SizeOf s) h = refl
early_one k gs cs ps (operand.Origin r) h = refl
early_one k gs cs ps (operand.Length r) h = refl
early_one k gs cs ps operand.SizeOfHeaders h = refl

-- ---- when all is placed

late_one : (k : Late) (gs : List (List InputFile)) (own : ℕ) (vs : ℕ → Option ℕ) (o : Operand) → is_no_symbol o ≡ true
    → late_operand (record k { groups = gs; own = own; values = vs }) o ≡ late_operand k o
late_one k gs own vs (operand.Symbol s) h = absurd (cc)
late_one k gs own vs (operand.Number n) h = refl
late_one k gs own vs operand.Dot h = refl
late_one k gs own vs (operand.Address s) h = refl
late_one k gs own vs (operand.SizeOf s) h = refl
late_one k gs own vs (operand.Origin r) h = refl
late_one k gs own vs (operand.Length r) h = refl
late_one k gs own vs operand.SizeOfHeaders h = refl

-- ---- so the value is one

pub unnamed_read_no_symbols : UnnamedReadNoSymbols
unnamed_read_no_symbols = record {
  early = λ k gs cs ps t h. value_by (early_operand (record k { groups = gs; constants = cs; positions = ps })) (early_operand k) t (early_one k gs cs ps) h;
  late = λ k gs own vs t h. value_by (late_operand (record k { groups = gs; own = own; values = vs })) (late_operand k) t (late_one k gs own vs) h;
}
