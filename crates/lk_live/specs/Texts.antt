-- How references at fault are written.
use Rattle.std.specs.Prelude.{List, ℕ, [], ◌∷◌, codes}
use Rattle.std.specs.Fmt.{decimal}
use Rattle.lk_link.specs.declared.ids.FileId.{FileId}
use Rattle.lk_link.specs.Texts.{joined}
use Rattle.lk_live.specs.declared.error.ReferenceFault.{ReferenceFault}
use Rattle.lk_live.specs.declared.error.ReferenceFault.TheVariants.{Discarded, Undefined, UndefinedDynamic}

-- a file, by its group and its index there
abbrev pub file_text : FileId → List ℕ
file_text id = joined (decimal id.group ∷ codes " " ∷ decimal id.file ∷ [])

-- an input section, by its file and its index there
abbrev pub input_text : FileId → ℕ → List ℕ
input_text id section = joined (decimal id.group ∷ codes " " ∷ decimal id.file ∷ codes " " ∷ decimal section ∷ [])

-- a reference at fault, on a line of its own without the line's end
abbrev pub reference_text : ReferenceFault → List ℕ
reference_text (Discarded id section) = joined (codes "discarded: " ∷ input_text id section ∷ [])
reference_text (UndefinedDynamic symbol id) = joined (codes "undefined: symbol " ∷ decimal symbol ∷ codes " from " ∷ file_text id ∷ [])
reference_text (Undefined symbol id section relocation) =
    joined (codes "undefined: symbol " ∷ decimal symbol ∷ codes " from " ∷ input_text id section
    ∷ codes " relocation " ∷ decimal relocation ∷ [])
