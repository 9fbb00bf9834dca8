-- Which names the rules and the rows ask for, by the kinds of their records. No rule is stated by this: it is what a table of names has to know.
use Rattle.std.specs.Prelude.{ℕ, Bool, not, [], ◌∷◌, eqb}
use Rattle.rules.specs.Words.{within, member}
use Rattle.rules.specs.Kind

-- the names that may be compared with others or looked up: all but those of variants, arguments and bits
abbrev pub is_compared : ℕ → Bool
is_compared k = not (member k (Kind.Variant ∷ Kind.Argument ∷ Kind.BitName ∷ []))

-- the names that may be words
abbrev pub is_worded : ℕ → Bool
is_worded = within Kind.Annotation Kind.Argument

-- the names that are judged byte by byte
abbrev pub is_spelled : ℕ → Bool
is_spelled k = eqb k Kind.BitName
