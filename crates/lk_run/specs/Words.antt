-- The words of the command line.
use Rattle.std.specs.Prelude.{◌≡◌, ℕ, ◌-◌, ◌^◌, ◌<◌, ◌≤◌, List, [], ◌∷◌, ◌&&◌, Bool, true, false, bytes_eq, codes, decimal, nat_le, Option, None, Some, if◌then◌else◌}
use Rattle.std.specs.Str.Parse.{digits_value}
use Rattle.lk_run.specs.declared.words.Command.{Command}
use Rattle.lk_run.specs.declared.words.Command.TheVariants.{Layout, Gen, Why, Check, Image}
use Rattle.lk_run.specs.declared.words.TheConstants.{MOST_WORKERS, MOST_OBJECTS}

-- the words are those of the command, with numbers in decimal: `layout` and the number of workers, at most the most; or `gen`, a seed of
-- 64 bits and the number of objects, from one to the most; or `why`, and the group, the file and the index of a section, each of 32 bits; or
-- `check` alone; or `image` and the number of workers
abbrev pub IsCommand : List (List ℕ) → Command → Type 0
IsCommand words (Layout workers) = (workers ≤ MOST_WORKERS) × (words ≡ codes "layout" ∷ decimal workers ∷ [])
IsCommand words (Gen seed size) =
    (seed < 2 ^ 64) × (1 ≤ size) × (size ≤ MOST_OBJECTS) × (words ≡ codes "gen" ∷ decimal seed ∷ decimal size ∷ [])
IsCommand words (Why file index) =
    (file.group < 2 ^ 32) × (file.file < 2 ^ 32) × (index < 2 ^ 32) × (words ≡ codes "why" ∷ decimal file.group ∷ decimal file.file ∷ decimal index ∷ [])
IsCommand words Check = words ≡ codes "check" ∷ []
IsCommand words (Image workers) = (workers ≤ MOST_WORKERS) × (words ≡ codes "image" ∷ decimal workers ∷ [])

-- the number that a word writes: the value of its digits, if that is from the least to the most and is written just so
unfoldable pub number_in : ℕ → ℕ → List ℕ → Option ℕ
number_in least most word =
    let number = digits_value 10 word in
    if (nat_le least number && nat_le number most) && bytes_eq word (decimal number) then Some number else None

-- the number of workers, the seed, the number of objects, and the number of 32 bits that a word writes
abbrev pub workers_of : List ℕ → Option ℕ
workers_of word = number_in 0 MOST_WORKERS word

abbrev pub seed_of : List ℕ → Option ℕ
seed_of word = number_in 0 (2 ^ 64 - 1) word

abbrev pub size_of : List ℕ → Option ℕ
size_of word = number_in 1 MOST_OBJECTS word

abbrev pub short_of : List ℕ → Option ℕ
short_of word = number_in 0 (2 ^ 32 - 1) word

-- the command `layout` with so many workers, where there is such a number
abbrev pub layout_with : Option ℕ → Option Command
layout_with None = None
layout_with (Some workers) = Some (Layout workers)

-- the command `gen` with a seed and a number of objects, where there are both
abbrev pub gen_with : Option ℕ → Option ℕ → Option Command
gen_with None _ = None
gen_with (Some seed) None = None
gen_with (Some seed) (Some size) = Some (Gen seed size)

-- the command `why` with a group, a file and an index, where there are all
abbrev pub why_with : Option ℕ → Option ℕ → Option ℕ → Option Command
why_with None _ _ = None
why_with (Some group) None _ = None
why_with (Some group) (Some file) None = None
why_with (Some group) (Some file) (Some index) = Some (Why (record { group = group; file = file }) index)

-- the command `image` with so many workers, where there is such a number
abbrev pub image_with : Option ℕ → Option Command
image_with None = None
image_with (Some workers) = Some (Image workers)

-- the command that the words are, if they are one
unfoldable pub command_of : List (List ℕ) → Option Command
command_of [] = None
command_of (verb ∷ []) = if bytes_eq verb (codes "check") then Some Check else None
command_of (verb ∷ workers ∷ []) =
    if bytes_eq verb (codes "layout") then layout_with (workers_of workers)
    else if bytes_eq verb (codes "image") then image_with (workers_of workers)
    else None
command_of (verb ∷ seed ∷ size ∷ []) = if bytes_eq verb (codes "gen") then gen_with (seed_of seed) (size_of size) else None
command_of (verb ∷ group ∷ file ∷ index ∷ []) = if bytes_eq verb (codes "why") then why_with (short_of group) (short_of file) (short_of index) else None
command_of (_ ∷ _ ∷ _ ∷ _ ∷ _ ∷ _) = None

-- the number of workers that a command asks for
abbrev pub workers_for : Command → ℕ
workers_for (Layout workers) = workers
workers_for (Gen seed size) = 0
workers_for (Why file index) = 0
workers_for Check = 0
workers_for (Image workers) = workers

-- whether a command reads the source
abbrev pub reads : Command → Bool
reads (Gen seed size) = false
reads _ = true

-- what the program says where the words are no command
abbrev pub usage : List ℕ
usage = codes "usage: lk_program layout N | gen SEED SIZE | why G F I | check | image N\n"
