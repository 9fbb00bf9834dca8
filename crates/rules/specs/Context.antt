-- What a declaration is checked against: the known declarations, the imported names and a wildcard; and what the rules ask of a name.
use Rattle.std.specs.Prelude.{ℕ, zero, suc, Bool, true, false, not, ◌&&◌, ◌||◌, List, [], ◌∷◌, length, eqb}
use Rattle.std.proofs.Math.Option.{Option, some, none}
use Rattle.rules.specs.Words.{within, any_of, select, same_bytes}
use Rattle.rules.specs.Kind
use Rattle.rules.specs.Sub
use Rattle.rules.specs.Record.{Rec, is}

-- a known declaration: its sub, and the first record of its own type, which only one that renames a type has
pub record Declared (N P : Type 0) : Type 0 where
  pub sub : ℕ
  pub inner : Option (Rec N P)

-- What the rules ask of names. `declarations` is how many known declarations there are; `word` is the place in `words` of a name that
-- annotations and arguments know, counted from 1, and 0 for every other name; a name with no bytes is `blank`.
pub record ValidationContext (N P : Type 0) : Type 0 where
  pub decl_map : N → Option (Declared N P)
  pub imported_names : N → Bool
  pub has_wildcard_import : Bool
  pub declarations : ℕ
  pub same : N → N → Bool
  pub word : N → ℕ
  pub blank : N → Bool
  pub is_valid_field_name : N → Bool

-- the words, as bytes
abbrev pub words : List (List ℕ)
words =
    (118 ∷ 97 ∷ 114 ∷ 105 ∷ 110 ∷ 116 ∷ [])
    ∷ (122 ∷ 105 ∷ 103 ∷ 122 ∷ 97 ∷ 103 ∷ [])
    ∷ (100 ∷ 101 ∷ 108 ∷ 116 ∷ 97 ∷ [])
    ∷ (108 ∷ 105 ∷ 109 ∷ 105 ∷ 116 ∷ [])
    ∷ (100 ∷ 101 ∷ 112 ∷ 114 ∷ 101 ∷ 99 ∷ 97 ∷ 116 ∷ 101 ∷ 100 ∷ [])
    ∷ (100 ∷ 111 ∷ 99 ∷ [])
    ∷ (114 ∷ 101 ∷ 97 ∷ 115 ∷ 111 ∷ 110 ∷ [])
    ∷ []

abbrev pub varint : ℕ
varint = 1

abbrev pub zigzag : ℕ
zigzag = 2

abbrev pub delta : ℕ
delta = 3

abbrev pub limit : ℕ
limit = 4

abbrev pub deprecated : ℕ
deprecated = 5

abbrev pub doc : ℕ
doc = 6

abbrev pub reason : ℕ
reason = 7

-- the place of a name in a list of words, counted from n; 0 where it does not stand there
unfoldable pub word_from : ℕ → List (List ℕ) → List ℕ → ℕ
word_from n [] name = 0
word_from n (w ∷ ws) name = elim (same_bytes w name) [ true ↦ n | false ↦ word_from (suc n) ws name ]

-- "A bit name starts with a-z or `_`, then ASCII letters, digits, `_`"
abbrev pub starts_name : ℕ → Bool
starts_name b = within 97 122 b || eqb b 95

abbrev pub continues_name : ℕ → Bool
continues_name b = within 97 122 b || within 65 90 b || within 48 57 b || eqb b 95

unfoldable pub valid_field_name : List ℕ → Bool
valid_field_name [] = false
valid_field_name (b ∷ bs) = starts_name b && not (any_of (λ c. not (continues_name c)) bs)

abbrev pub is_blank : List ℕ → Bool
is_blank [] = true
is_blank (b ∷ bs) = false

module _ {P : Type 0} where
  -- the type that stands directly after a declaration that renames it; the other declarations have none
  abbrev pub inner_of : ℕ → List (Rec (List ℕ) P) → Option (Rec (List ℕ) P)
  inner_of sub [] = none
  inner_of sub (t ∷ rs) = elim (Sub.is_renaming sub && Kind.is_type t.kind) [ true ↦ some t | false ↦ none ]

  -- the first declaration of a name
  unfoldable pub declared : List (Rec (List ℕ) P) → List ℕ → Option (Declared (List ℕ) P)
  declared [] name = none
  declared (r ∷ rs) name =
      elim (is Kind.Declaration r && same_bytes r.name name) [
        | true ↦ some (record { sub = r.sub; inner = inner_of r.sub rs })
        | false ↦ declared rs name
      ]

  -- the context of the records of a sheet
  unfoldable pub context_of : List (Rec (List ℕ) P) → ValidationContext (List ℕ) P
  context_of rs =
      record {
        decl_map = declared rs;
        imported_names = λ name. any_of (λ r. is Kind.ImportedName r && same_bytes r.name name) rs;
        has_wildcard_import = any_of (is Kind.Wildcard) rs;
        declarations = length (select (is Kind.Declaration) rs);
        same = same_bytes;
        word = word_from 1 words;
        blank = is_blank;
        is_valid_field_name = valid_field_name;
      }

module _ {N P : Type 0} where
  -- the type of what a name is declared as
  abbrev pub inner_type : Option (Declared N P) → Option (Rec N P)
  inner_type none = none
  inner_type (some d) = d.inner

module _ {N P : Type 0} (ctx : ValidationContext N P) where
  -- the name is declared with that sub
  abbrev pub declared_as : ℕ → N → Bool
  declared_as sub name = elim (ctx.decl_map name) [ none ↦ false | some d ↦ eqb d.sub sub ]

  abbrev pub is_declared : N → Bool
  is_declared name = elim (ctx.decl_map name) [ none ↦ false | some d ↦ true ]

  -- "A wildcard import makes every type name known, and no constant"
  abbrev pub is_known_type : N → Bool
  is_known_type name = is_declared name || ctx.imported_names name || ctx.has_wildcard_import

  abbrev pub is_known_const : N → Bool
  is_known_const name = declared_as Sub.Const name || ctx.imported_names name

  -- the type behind a type that names a newtype
  unfoldable pub behind : Rec N P → Option (Rec N P)
  behind r = elim (is Kind.Named r) [ true ↦ inner_type (ctx.decl_map r.name) | false ↦ none ]

  -- the type at the end of the chain of named newtypes, or the one after n steps where it has not ended by then
  unfoldable pub chain_end : ℕ → Rec N P → Rec N P
  chain_end zero r = r
  chain_end (suc n) r = elim (behind r) [ none ↦ r | some t ↦ chain_end n t ]

  -- the chain from a type on never ends: it has not ended after as many steps as there are declarations
  abbrev pub never_ends : Rec N P → Bool
  never_ends r = elim (behind (chain_end ctx.declarations r)) [ none ↦ false | some t ↦ true ]
