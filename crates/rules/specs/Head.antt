-- The five bodies, and which of them a head opens.
use Rattle.std.specs.Prelude.{ℕ, true, false, eqb}
use Rattle.rules.specs.Sub

pub data Body : Type 0 where
  message_body enum_body flags_body union_body newtype_body : Body

-- the body behind a head of that sub; a newtype's by every sub that is none of the other four
abbrev pub body_of : ℕ → Body
body_of sub =
    elim (eqb sub Sub.MessageHead) [
      | true ↦ message_body
      | false ↦ elim (eqb sub Sub.EnumHead) [
        | true ↦ enum_body
        | false ↦ elim (eqb sub Sub.FlagsHead) [
          | true ↦ flags_body
          | false ↦ elim (eqb sub Sub.UnionHead) [ true ↦ union_body | false ↦ newtype_body ]
        ]
      ]
    ]
