use Rattle.std.proofs.Common.{◌≡◌, ℕ, List, Bool, true, false, Some, None, IfSome, if◌then◌else◌, refl}
use Rattle.std.specs.Str.{IsUtf8, is_utf8}
use Rattle.std.proofs.lemmas.Str.{IsUtf8-from_is_utf8}
use Rattle.lk_merge.proofs.string.MergeStringDisplay.fmt.Goals as goal

-- nothing is said of bytes that aren't text
unsaid : (bytes : List ℕ) (P : List ℕ → Type 0) → ¬ IsUtf8 bytes → IfSome (if is_utf8 bytes then Some bytes else None) P
unsaid bytes P no_text = by (is_utf8 bytes) refl
  where
    by : (t : Bool) → is_utf8 bytes ≡ t → IfSome (if t then Some bytes else None) P
    by true e = absurd (no_text (IsUtf8-from_is_utf8 bytes e))
    by false e = tt

pub returns-in-Err-clause-writes : goal.returns-in-Err-clause-writes
returns-in-Err-clause-writes g c = unsaid c.args.self.now.bytes.now _ c.in-Err.ensures.cases.0
