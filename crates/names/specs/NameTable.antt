-- The table of names: what the rules ask of the name of each record, worked out once, so that names are compared nowhere else. It has five
-- parts of 1024 numbers, one number for each record, 0 past the last: the record's id; the place of the first declaration of its name;
-- whether the name is imported; the place of the first record of the type that the name is declared with; and the name's code. Behind them
-- stand whether there is a wildcard, and how many declarations there are. A place is a record's index and one more; 0 is none. Only the names
-- that the rules compare have ids, and only those that may be words or are judged byte by byte have codes.
use Rattle.std.specs.Prelude.{ℕ, zero, suc, ◌+◌, Bool, true, false, ◌&&◌, List, [], ◌∷◌, ◌++◌, length, take, drop, replicate}
use Rattle.rules.specs.declared.span.Span.{Span}
use Rattle.rules.specs.Words.{number_if, any_of, select, same_bytes}
use Rattle.rules.specs.Kind
use Rattle.rules.specs.Sub
use Rattle.rules.specs.Record.{Rec, is, records}
use Rattle.rules.specs.Asked.{is_compared, is_worded, is_spelled}
use Rattle.rules.specs.Context.{words, word_from, valid_field_name, is_blank}
use Rattle.rules.specs.Refusals.{max_records}
use Rattle.names.specs.Codes.{blank_code, bit_code}

module _ {A : Type 0} where
  -- the place of the first element that passes the test, counted from 1; 0 where there is none
  unfoldable pub place_of : (A → Bool) → List A → ℕ
  place_of p [] = 0
  place_of p (x ∷ xs) = elim (p x) [ true ↦ 1 | false ↦ elim (place_of p xs) [ zero ↦ 0 | suc n ↦ suc (suc n) ] ]

  -- a number for each element, worked out from its index, counted from i, and the element
  unfoldable pub numbered : (ℕ → A → ℕ) → ℕ → List A → List ℕ
  numbered f i [] = []
  numbered f i (x ∷ xs) = f i x ∷ numbered f (suc i) xs

  -- a part of the table: a number for each element, and 0 past the last
  unfoldable pub column : (ℕ → A → ℕ) → List A → List ℕ
  column f xs = take max_records (numbered f 0 xs ++ replicate max_records 0)

module _ {P : Type 0} where
  -- the record has a name, and the name fits
  abbrev pub is_named : Rec (List ℕ) P → Bool
  is_named r = Kind.has_name r.kind r.sub && r.fits

  -- and the name is compared
  abbrev pub is_keyed : Rec (List ℕ) P → Bool
  is_keyed r = (Kind.has_name r.kind r.sub && is_compared r.kind) && r.fits

  -- both have a name that is compared, and the names have the same bytes
  unfoldable pub same_name : Rec (List ℕ) P → Rec (List ℕ) P → Bool
  same_name r q = is_keyed r && is_keyed q && same_bytes q.name r.name

  -- the id of a record: the index of the first record with the same name; a record whose name is not compared is its own
  unfoldable pub id_in : List (Rec (List ℕ) P) → ℕ → Rec (List ℕ) P → ℕ
  id_in rs i r = elim (place_of (same_name r) rs) [ zero ↦ i | suc n ↦ n ]

  -- the place of the first declaration of the record's name
  unfoldable pub declaration_in : List (Rec (List ℕ) P) → Rec (List ℕ) P → ℕ
  declaration_in rs r = place_of (λ q. is Kind.Declaration q && same_name r q) rs

  -- the record's name is imported
  unfoldable pub import_in : List (Rec (List ℕ) P) → Rec (List ℕ) P → ℕ
  import_in rs r = number_if (any_of (λ q. is Kind.ImportedName q && same_name r q) rs) 1

  -- the place of the type that stands directly after a declaration that renames it; the other declarations have none
  abbrev pub target_at : ℕ → List (Rec (List ℕ) P) → ℕ
  target_at place [] = 0
  target_at place (d ∷ []) = 0
  target_at place (d ∷ t ∷ rs) = number_if (Sub.is_renaming d.sub && Kind.is_type t.kind) (suc place)

  -- the place of the type that the record's name is declared with
  unfoldable pub target_in : List (Rec (List ℕ) P) → Rec (List ℕ) P → ℕ
  target_in rs r = elim (declaration_in rs r) [ zero ↦ 0 | suc n ↦ target_at (suc n) (drop n rs) ]

-- the code of a name that may be a word: that of a word that annotations and arguments know, that of the name with no bytes, and 0 for every other
unfoldable pub word_code : List ℕ → ℕ
word_code name = word_from 1 words name + number_if (is_blank name) blank_code

-- the code of a name, by the kind of its record: of a name that is judged it says whether a bit may have the name
unfoldable pub code_of : ℕ → List ℕ → ℕ
code_of kind name = elim (is_worded kind) [ true ↦ word_code name | false ↦ number_if (is_spelled kind && valid_field_name name) bit_code ]

-- the table of records
unfoldable pub table_of : List (Rec (List ℕ) Span) → List ℕ
table_of rs =
    column (id_in rs) rs
    ++ column (λ i r. declaration_in rs r) rs
    ++ column (λ i r. import_in rs r) rs
    ++ column (λ i r. target_in rs r) rs
    ++ column (λ i r. number_if (is_named r) (code_of r.kind r.name)) rs
    ++ (number_if (any_of (is Kind.Wildcard) rs) 1 ∷ length (select (is Kind.Declaration) rs) ∷ [])

-- the table of a sheet and a names text: that of its first 1024 records
unfoldable pub name_table : List ℕ → List ℕ → List ℕ
name_table sheet names = table_of (take max_records (records sheet names))
