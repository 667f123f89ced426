use Rattle.std.proofs.Common.{refl}
use Rattle.lk_run.proofs.laws.numbers_are_these.Goals as goal

pub returns : goal.returns
returns c = (
  record { groups = refl; files = refl; sections = refl; parts = refl; segments = refl; regions = refl; events = refl; symbols = refl; inputs = refl; candidates = refl; relocations = refl; relaxations = refl; names = refl; merged = refl; unit = refl },
  record { attributes = refl; flags = refl; branch = refl; bucket = refl; group = refl; depth = refl; code = refl; alignment = refl },
  record { alloc = refl; write = refl; exec = refl; thread_local = refl; nobits = refl },
  record { absolute = refl; dynamic = refl; ifunc = refl; local = refl; signature = refl; interposable = refl; direct = refl; got = refl; plt = refl; offset = refl; modules = refl; descriptor = refl; size = refl; exported = refl; limited = refl },
  record { entry = refl; thunk = refl; input = refl; image = refl; workers = refl; objects = refl },
)
