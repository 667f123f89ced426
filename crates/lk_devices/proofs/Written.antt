-- What a sink took of a text in one write after another.
use Rattle.std.proofs.Common.{ℕ, ◌+◌, List, take, drop, Option, Some, None, append_assoc}
use Rattle.std.proofs.Math.Seq.{take-add}
use Rattle.lk_devices.specs.Device.{Appends}

-- the front of the text, and then a piece of the rest, are a longer front
pub goes_on : (before now after : Option (List ℕ)) (text : List ℕ) (at n : ℕ) → Appends before now (take at text) →
    Appends now after (take n (drop at text)) → Appends before after (take (at + n) text)
goes_on None now after text at n front piece = tt
goes_on (Some taken) None after text at n front piece = cc
goes_on (Some taken) (Some more) after text at n front piece =
    cc (take-add at n text, append_assoc taken (take at text) (take n (drop at text)))
