-- What is read of the options, in the order of their fields.
use Rattle.std.specs.Prelude.{ℕ, List, [], ◌∷◌, Result, Ok, true, false}
use Rattle.serde_json.specs.Data.{Data}
use Rattle.lk_link.specs.declared.options.Options.{Options}
use Rattle.lk_link.specs.declared.options.OutputKind.{OutputKind}
use Rattle.lk_link.specs.declared.options.OutputKind.TheVariants.{StaticExecutable, DynamicExecutable, SharedObject, Partial}
use Rattle.lk_link.specs.declared.options.DiscardLocals.{DiscardLocals}
use Rattle.lk_link.specs.declared.options.DiscardLocals.TheVariants as discarded
use Rattle.lk_input.specs.ReadingSteps.{Path, ◌>>=◌, number_of, index_of, truth_of, text_of, one_of, object, defaulted, optional, list_of, written}

-- the kinds of output
abbrev pub outputs : List (List ℕ × OutputKind)
outputs = (written "static", StaticExecutable) ∷ (written "dynamic", DynamicExecutable) ∷ (written "shared", SharedObject) ∷ (written "partial", Partial) ∷ []

-- which names of local symbols are left out
abbrev pub discards : List (List ℕ × DiscardLocals)
discards = (written "default", discarded.Default) ∷ (written "all", discarded.All) ∷ (written "none", discarded.None) ∷ []

-- a list of names
abbrev pub names_of : Data → Result (List (List ℕ)) Path
names_of d = list_of text_of d

-- the options, each with its default
unfoldable pub options_of : Data → Result Options Path
options_of d = do
  _ ← object d
  output ← defaulted StaticExecutable (one_of outputs) (written "output") d
  gc ← defaulted true truth_of (written "gc") d
  error_objects ← defaulted true truth_of (written "error_objects") d
  error_dynamics ← defaulted true truth_of (written "error_dynamics") d
  export_all ← defaulted false truth_of (written "export_all") d
  export_list ← optional names_of (written "export_list") d
  restrictive ← defaulted false truth_of (written "restrictive") d
  strip_all ← defaulted false truth_of (written "strip_all") d
  discard ← defaulted discarded.Default (one_of discards) (written "discard") d
  strip_names ← defaulted [] names_of (written "strip_names") d
  identity ← optional text_of (written "identity") d
  stack ← defaulted 0 number_of (written "stack") d
  entry ← optional index_of (written "entry") d
  relax ← defaulted false truth_of (written "relax") d
  branch_range ← defaulted 0 number_of (written "branch_range") d
  bucket_limit ← defaulted 268435456 number_of (written "bucket_limit") d
  merge_group ← defaulted 140000 number_of (written "merge_group") d
  Ok (record {
    output = output;
    gc = gc;
    error_objects = error_objects;
    error_dynamics = error_dynamics;
    export_all = export_all;
    export_list = export_list;
    restrictive = restrictive;
    strip_all = strip_all;
    discard = discard;
    strip_names = strip_names;
    identity = identity;
    stack = stack;
    entry = entry;
    relax = relax;
    branch_range = branch_range;
    bucket_limit = bucket_limit;
    merge_group = merge_group;
  })
