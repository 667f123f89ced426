-- The lists of a link that workers rest on, and how they fit it.
use Rattle.std.specs.Prelude.{◌≡◌, ℕ, ◌+◌, Bool, List, length}
use Rattle.lk_link.specs.declared.link.LinkInput.{LinkInput}
use Rattle.lk_link.specs.WellFormed.{IsWellFormed}
use Rattle.lk_flags.specs.Flags.{AllWithin}
use Rattle.lk_flags.specs.Lists.{Lists}
use Rattle.lk_reach.specs.Marks.{IsClosed, IsMarked, all_units, asking, flag_words, handed_in, reached_marks, symbols_in_all}

-- the files of a link, what is reached in it, the flags that are handed in, and all flags
abbrev pub lists_of : LinkInput → Lists
lists_of link = record { groups = link.groups; units = reached_marks link; handed = handed_in link; words = flag_words link }

-- as many marks, within what is reached, and as many words, within its flags, that have what was handed in
pub record AreInside (l : Lists) (marks : List Bool) (words : List ℕ) : Type 0 where
  pub marks_count : length marks ≡ length l.units
  pub words_count : length words ≡ length l.words
  pub reached : (n : ℕ) → IsMarked marks n → IsMarked l.units n
  pub handed : AllWithin l.handed words
  pub bounded : AllWithin words l.words

-- lists fit a link: each ask of a root or a reached unit has its target reached and its flags in its word; there is a mark for each
-- unit and a word for each symbol behind a spare one; and what is closed and inside is all
pub record Fits (l : Lists) (link : LinkInput) : Type 0 where
  pub groups : l.groups ≡ link.groups
  pub closed : IsClosed (asking link) l.units l.words
  pub marks_count : length l.units ≡ length (all_units link.groups)
  pub handed : l.handed ≡ handed_in link
  pub handed_count : length l.handed ≡ symbols_in_all link.groups + 1
  pub words_count : length l.words ≡ symbols_in_all link.groups + 1
  pub within : AllWithin l.handed l.words
  pub all : (marks : List Bool) (words : List ℕ) → AreInside l marks words → IsClosed (asking link) marks words
      → (marks ≡ l.units) × (words ≡ l.words)

-- the lists of a well-formed link fit it
abbrev pub ListsFit : Type 0
ListsFit = (link : LinkInput) → IsWellFormed link → Fits (lists_of link) link
