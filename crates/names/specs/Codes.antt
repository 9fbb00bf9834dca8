-- The codes of names: a word's is its place in `words`, counted from 1. Two more stand past them, with room for words that are yet to come.
use Rattle.std.specs.Prelude.{ℕ, length}
use Rattle.rules.specs.Context.{words}

abbrev pub last_word : ℕ
last_word = length words

-- of the name with no bytes
abbrev pub blank_code : ℕ
blank_code = 15

-- of a name that a bit may have
abbrev pub bit_code : ℕ
bit_code = 16
