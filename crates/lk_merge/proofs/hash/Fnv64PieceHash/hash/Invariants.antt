use Rattle.std.proofs.Common.{◌≡◌, take, fold}
use Rattle.lk_merge.specs.Hash.{fnv_step}
use Rattle.lk_merge.proofs.hash.Fnv64PieceHash.hash.Given as goal

-- the hash is that of the bytes so far
abbrev pub invariant-loop-byte : goal.invariant-loop-byte
invariant-loop-byte l = l.hash ≡ fold fnv_step 0xcbf29ce484222325 (take l.byte-index l.bytes)
