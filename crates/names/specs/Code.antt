-- What a look at a block of the names text says of a name's code.
use Rattle.std.specs.Prelude.{ℕ, ◌*◌, ◌≡◌, Bool, true, List, Option, Some, None, get_or, take, drop}
use Rattle.sheet.specs.Mark.{continue_by}

-- a names text, and the marks that tell its bytes
pub record MarkedText : Type 0 where
  pub marks : List ℕ
  pub names : List ℕ

-- the blocks of 64 bytes of a text that are known as good have only bytes that may go on in a name, by a table of marks
abbrev pub Judged : List ℕ → List ℕ → List (Option Bool) → Type 0
Judged marks text blocks = (k : ℕ) → get_or blocks k None ≡ Some true → continue_by marks (take 64 (drop (k * 64) text)) ≡ true
