-- Lines and words of a text.
use Rattle.std.specs.Prelude.{ℕ, ◌-◌, Bool, true, false, ◌&&◌, ◌||◌, ◌==◌, if◌then◌else◌, List, [], ◌∷◌, length, slice_index, take}

-- the text goes on with a line feed
abbrev pub begins_with_feed : List ℕ → Bool
begins_with_feed [] = false
begins_with_feed (c ∷ cs) = c == 10

-- a byte in front of the first line
abbrev pub before_first : ℕ → List (List ℕ) → List (List ℕ)
before_first c [] = (c ∷ []) ∷ []
before_first c (line ∷ lines) = (c ∷ line) ∷ lines

-- The lines of a text: each ends with a line feed, the last perhaps without one. A carriage return before a line feed is dropped.
abbrev pub lines_of : List ℕ → List (List ℕ)
lines_of [] = []
lines_of (c ∷ cs) =
    if c == 10 then [] ∷ lines_of cs else
    if (c == 13) && begins_with_feed cs then lines_of cs else before_first c (lines_of cs)

-- a space or a tab
abbrev pub is_blank : ℕ → Bool
is_blank c = (c == 32) || (c == 9)

abbrev pub begins_with_word : List ℕ → Bool
begins_with_word [] = false
begins_with_word (c ∷ cs) = if is_blank c then false else true

-- a byte of a word: in front of the first word where that goes on, else a word of its own
abbrev pub with_byte : ℕ → (goes_on : Bool) → List (List ℕ) → List (List ℕ)
with_byte c true (word ∷ words) = (c ∷ word) ∷ words
with_byte c goes_on words = (c ∷ []) ∷ words

-- the words of a line, parted by blanks
abbrev pub words_of : List ℕ → List (List ℕ)
words_of [] = []
words_of (c ∷ cs) = if is_blank c then words_of cs else with_byte c (begins_with_word cs) (words_of cs)

-- a line that says nothing: it has no word, or its first word begins with `#`
abbrev pub is_comment : List ℕ → Bool
is_comment [] = false
is_comment (c ∷ cs) = c == 35

abbrev pub says_nothing : List (List ℕ) → Bool
says_nothing [] = true
says_nothing (word ∷ words) = is_comment word

abbrev pub is_feed : ℕ → Bool
is_feed c = c == 10

-- what stands before a line feed, without a carriage return at its end
abbrev pub without_return : List ℕ → List ℕ
without_return line = if slice_index line (length line - 1) == 13 then take (length line - 1) line else line
