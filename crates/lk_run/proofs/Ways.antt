-- The answers to `why`, by what the check of the link answered.
use Rattle.std.proofs.Common.{◌≡◌, ℕ, ◌++◌, Option, Some, None, Result, Ok, Err, refl, sym, ap, subst}
use Rattle.std.specs.Prelude.{IfOk, MatchOption, codes}
use Rattle.lk_check.specs.FirstFault.{check_of, first_fault}
use Rattle.lk_link.specs.declared.fault.LinkFault.{LinkFault}
use Rattle.lk_link.specs.declared.ids.FileId.{FileId}
use Rattle.lk_link.specs.declared.link.LinkInput.{LinkInput}
use Rattle.lk_link.specs.Texts.{link_fault_text}
use Rattle.lk_run.specs.declared.answer.Answer.{Answer}
use Rattle.lk_run.specs.Run.{IsSectionAnswer, IsWhyAnswer, refused}

-- what a check of a link told is its first fault, or that there is none
pub fault_none : (o : Option LinkFault) → Ok tt ≡ check_of o → o ≡ None
unfolding check_of
fault_none None h = refl
fault_none (Some f) h = absurd (cc)

pub fault_some : (o : Option LinkFault) (f : LinkFault) → Err f ≡ check_of o → o ≡ Some f
unfolding check_of
fault_some None f h = absurd (cc)
fault_some (Some g) f h = let same : g ≡ f = cc in ap (λ (x : LinkFault). Some x) same

-- the answer to a link without a fault
pub told_unfaulted : {E : Type 0} (made : Result Answer E) (link : LinkInput) (file : FileId) (index : ℕ) → first_fault link ≡ None
    → IfOk made (IsSectionAnswer link file index) → IfOk made (IsWhyAnswer file index link)
told_unfaulted (Ok answer) link file index none is =
    subst (λ o. MatchOption o (IsSectionAnswer link file index answer) (λ fault. answer ≡ refused (link_fault_text fault ++ codes "\n"))) (sym none) is
told_unfaulted (Err e) link file index none is = is

-- that to a link with one
pub told_fault : {E : Type 0} (made : Result Answer E) (link : LinkInput) (file : FileId) (index : ℕ) (fault : LinkFault) → first_fault link ≡ Some fault
    → IfOk made (λ answer. answer ≡ refused (link_fault_text fault ++ codes "\n")) → IfOk made (IsWhyAnswer file index link)
told_fault (Ok answer) link file index fault found told =
    subst (λ o. MatchOption o (IsSectionAnswer link file index answer) (λ f. answer ≡ refused (link_fault_text f ++ codes "\n"))) (sym found) told
told_fault (Err e) link file index fault found told = told
