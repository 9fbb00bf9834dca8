-- What putting text into a buffer does to the buffer and to the place behind the text so far.
use Rattle.std.specs.Prelude.{ℕ, ◌≡◌, ◌+◌, List, [], ◌∷◌, length, set}
use Rattle.report.specs.declared.text.Text.{Text}

-- the bytes of the buffer, and the place at which the next byte goes
abbrev pub State : Type 0
State = List ℕ × ℕ

-- the bytes are stored one after the other
unfoldable pub put : List ℕ → State → State
put [] s = s
put (b ∷ bs) s = put bs (set s.0 s.1 b, s.1 + 1)

-- the bytes of a text's buffer, and the place behind the text
abbrev pub state_of : Text → State
state_of text = (text.buffer.now, text.len)

-- the bytes are put behind the text, in the same buffer
pub record Adds (old new : Text) (bytes : List ℕ) : Type 0 where
  pub reference : new.buffer.ghost_name ≡ old.buffer.ghost_name
  pub state : state_of new ≡ put bytes (state_of old)
  pub place : new.len ≡ old.len + length bytes
  pub room : length new.buffer.now ≡ length old.buffer.now
