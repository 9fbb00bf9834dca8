-- Parts of small sheets, for examples that are computed: records with the names text "abcd" or "..ba", by their label t, as in the table.
use Prim.Native.Nat.{ℕ, ◌+◌}
use mathlib.Core.List.{List, [], ◌∷◌, ◌++◌}
use Rattle.rules.specs.Kind
use Rattle.rules.specs.Sub
use Rattle.rules.specs.Table.{rec}

abbrev pub abcd : List ℕ
abcd = 97 ∷ 98 ∷ 99 ∷ 100 ∷ []

-- the names text "..ba"
abbrev pub ba : List ℕ
ba = 46 ∷ 46 ∷ 98 ∷ 97 ∷ []

abbrev pub head_of : ℕ → List ℕ
head_of sub = rec 1 Kind.Head sub 0 0 0

-- a type U8
abbrev pub u8 : ℕ → List ℕ
u8 t = rec t Kind.Primitive Sub.U8 0 0 0

-- a field of type U8, named by the byte at an offset
abbrev pub field : ℕ → ℕ → ℕ → List ℕ
field t offset ordinal = rec t Kind.Field 0 1 offset ordinal ++ u8 (t + 1)

abbrev pub field_tombstone : ℕ → ℕ → List ℕ
field_tombstone t ordinal = rec t Kind.FieldTombstone 0 0 0 ordinal

-- a variant or a bit, named by the byte at an offset
abbrev pub variant : ℕ → ℕ → ℕ → List ℕ
variant t offset ordinal = rec t Kind.Variant 0 1 offset ordinal

abbrev pub tombstone : ℕ → ℕ → List ℕ
tombstone t ordinal = rec t Kind.Tombstone 0 0 0 ordinal

-- a backing U8
abbrev pub backing : ℕ → List ℕ
backing t = rec t Kind.Backing 0 0 0 0
