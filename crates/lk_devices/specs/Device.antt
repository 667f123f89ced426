-- What devices tell of themselves, and what a call of them does to that.
use Rattle.std.specs.Prelude.{◌≡◌, ℕ, ◌<◌, ◌≤◌, List, [], ◌++◌, length, take, drop, Option, Some, Result, MatchResult, IfSome}

-- a source: the bytes that reads will give from here on, where it tells them, and how often a call has failed
pub record SourceState : Type 0 where
  pub left : Option (List ℕ)
  pub faults : ℕ

-- a sink: all bytes that it took, where it tells them, and how often a call has failed or took nothing of some bytes
pub record SinkState : Type 0 where
  pub taken : Option (List ℕ)
  pub faults : ℕ

-- a call that failed raised the count of faults, and one that did not fail kept it
abbrev pub HasCause : {A E : Type 0} → Result A E → ℕ → ℕ → Type 0
HasCause result before after = MatchResult result (λ _. after ≡ before) (λ _. before < after)

-- a read of n bytes: the first n of the buffer are the next n of the bytes left, and the others are left.
-- Nothing comes into some room only at the end
pub record ReadsFrom (left : List ℕ) (left_after : Option (List ℕ)) (buffer : List ℕ) (n : ℕ) : Type 0 where
  pub held : n ≤ length left
  pub given : take n buffer ≡ take n left
  pub rest : left_after ≡ Some (drop n left)
  pub at_end : n ≡ 0 → 0 < length buffer → left ≡ []

-- the bytes that a sink took, where it tells them, stay as they were
abbrev pub Keeps : Option (List ℕ) → Option (List ℕ) → Type 0
Keeps before after = IfSome before (λ taken. after ≡ Some taken)

-- the bytes that a sink took, where it tells them, are followed by these
abbrev pub Appends : Option (List ℕ) → Option (List ℕ) → List ℕ → Type 0
Appends before after bytes = IfSome before (λ taken. after ≡ Some (taken ++ bytes))

-- a write that took n bytes of a piece kept the count of faults, but raised it where it took none of some
pub record CountsRefusal (n : ℕ) (piece : List ℕ) (before after : ℕ) : Type 0 where
  pub took : 0 < n → after ≡ before
  pub had_none : length piece ≡ 0 → after ≡ before
  pub refused : n ≡ 0 → 0 < length piece → before < after

-- the bytes that a sink took, where it tells them, are followed by some of these from the front on
abbrev pub AppendsPrefix : Option (List ℕ) → Option (List ℕ) → List ℕ → Type 0
AppendsPrefix before after text = IfSome before (λ taken. (n : ℕ) × (after ≡ Some (taken ++ take n text)))
