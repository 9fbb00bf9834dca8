-- What the table has while it is filled. Of the records read so far it has the ids and the codes, and at each id what is noted of the name with
-- that id: where its first declaration stands, and whether it is imported.
use Rattle.std.specs.Prelude.{ℕ, zero, suc, ◌+◌, ◌<◌, ◌≡◌, Bool, true, false, ◌&&◌, List, length, get_or, take, set, eqb, ltb}
use Rattle.rules.specs.Kind
use Rattle.rules.specs.Words.{number_if, any_of}
use Rattle.rules.specs.Record.{Rec, is}
use Rattle.rules.specs.Refusals.{max_records}
use Rattle.names.specs.NameTable.{place_of, same_name, id_in}
use Rattle.names.specs.Parts.{known, known_count, record_of, ids, targets, codes}
use Rattle.names.specs.View.{ids_from, declarations_from, imports_from, targets_from, codes_from, table_size}

module _ {P : Type 0} where
  -- the record is of that kind, and record k is the first with its name
  unfoldable pub has_id : ℕ → List (Rec (List ℕ) P) → ℕ → Rec (List ℕ) P → Bool
  has_id kind rs k q = is kind q && eqb (place_of (same_name q) rs) (suc k)

-- the part of the table from place p on: its number k is f k
pub record Part (p : ℕ) (f : ℕ → ℕ) (table : List ℕ) : Type 0 where
  pub at : (k : ℕ) → k < max_records → get_or table (p + k) 0 ≡ f k

-- nothing is noted at the first n ids
unfoldable pub Silent : List ℕ → ℕ → Type 0
Silent table n = (k : ℕ) → k < n → (get_or table (declarations_from + k) 0 ≡ 0) × (get_or table (imports_from + k) 0 ≡ 0)

-- a number stored where there is 0
unfoldable pub set_first : List ℕ → ℕ → ℕ → List ℕ
set_first table p v = elim (get_or table p 0) [ zero ↦ set table p v | suc n ↦ table ]

module _ (sheet names : List ℕ) where
  -- what is noted at id k of the first m records: the place of the first declaration, and whether the name is imported
  unfoldable pub declaration_note : ℕ → ℕ → ℕ
  declaration_note m k = place_of (has_id Kind.Declaration (known sheet names) k) (take m (known sheet names))

  unfoldable pub import_note : ℕ → ℕ → ℕ
  import_note m k = number_if (any_of (has_id Kind.ImportedName (known sheet names) k) (take m (known sheet names))) 1

  -- the table has the ids and the codes of the first i records, and the notes of the first m
  pub record Read (table : List ℕ) (i m : ℕ) : Type 0 where
    pub size : length table ≡ table_size
    pub ids-part : Part ids_from (λ k. get_or (take i (ids sheet names)) k 0) table
    pub declaration-notes : Part declarations_from (declaration_note m) table
    pub import-notes : Part imports_from (import_note m) table
    pub targets-part : Part targets_from (λ k. 0) table
    pub codes-part : Part codes_from (λ k. get_or (take i (codes sheet names)) k 0) table

  -- the id whose note stands at k when what is noted is spread to the first i records
  unfoldable pub id_noted : ℕ → ℕ → ℕ
  id_noted i k = elim (ltb k i) [ true ↦ id_in (known sheet names) k (record_of sheet names k) | false ↦ k ]

  -- the table has the ids and the codes, and what is noted is spread to the first i records
  pub record Spread (table : List ℕ) (i : ℕ) : Type 0 where
    pub size : length table ≡ table_size
    pub ids-part : Part ids_from (λ k. get_or (ids sheet names) k 0) table
    pub declaration-notes : Part declarations_from (λ k. declaration_note (known_count sheet) (id_noted i k)) table
    pub import-notes : Part imports_from (λ k. import_note (known_count sheet) (id_noted i k)) table
    pub targets-part : Part targets_from (λ k. get_or (take i (targets sheet names)) k 0) table
    pub codes-part : Part codes_from (λ k. get_or (codes sheet names) k 0) table
