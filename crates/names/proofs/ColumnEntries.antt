-- The parts of the table stand one behind the other, each 1024 numbers long, so an entry of the filled table is worked out from its record.
use Prim.Native.Nat.{ℕ, zero, suc, ◌+◌, ◌*◌, ◌<◌, ◌≤◌}
use native.Mathlib.Nat.{zero-add}
use native.Mathlib.Decide.{dec_lt}
use native.Mathlib.Omega.{arith}
use mathlib.Core.Path.{◌≡◌, sym, ◌∙◌}
use mathlib.Core.List.{List, [], ◌∷◌, ◌++◌, append_assoc}
use lib.ListN.{length, get_or, get_or-append}
use lib.Seq.{get_or-append-add}
use Rattle.rules.specs.declared.span.Span.{Span}
use Rattle.rules.specs.Words.{number_if, any_of, select}
use Rattle.rules.specs.Kind
use Rattle.rules.specs.Record.{Rec, is}
use Rattle.rules.specs.Refusals.{max_records}
use Rattle.names.specs.NameTable.{column, is_named, id_in, declaration_in, import_in, target_in, code_of, table_of}
use Rattle.names.specs.View.{entry_of, wildcard_of, declarations_of}
use Rattle.names.proofs.Columns.{length-column, column-at, column-past}
use Rattle.names.proofs.Entries.{entry_in, entry-out}

module _ {A : Type 0} where
  -- a column for each function, and numbers behind them
  joined : List (ℕ → A → ℕ) → List A → List ℕ → List ℕ
  joined [] xs ns = ns
  joined (f ∷ fs) xs ns = column f xs ++ joined fs xs ns

  -- what stands behind a column
  past : (f : ℕ → A → ℕ) (xs : List A) (ns : List ℕ) (m n : ℕ) → n ≡ max_records + m → get_or (column f xs ++ ns) n 0 ≡ get_or ns m 0
  past f xs ns m n e = rw (e, ← length-column f xs) (get_or-append-add (column f xs) ns m 0)

  joined_at :
      (fs : List (ℕ → A → ℕ)) (xs : List A) (ns : List ℕ) (part i : ℕ) (d : A) → part < length fs → i < length xs → length xs ≤ max_records →
      get_or (joined fs xs ns) (part * max_records + i) 0 ≡ get_or fs part (λ k x. 0) i (get_or xs i d)
  unfolding joined
  joined_at [] xs ns part i d b h short = absurd (omega arith)
  joined_at (f ∷ fs) xs ns zero i d b h short =
      rw (zero-add i) (get_or-append (column f xs) (joined fs xs ns) 0 i (rw length-column (omega arith)) ∙ column-at f xs i d (omega arith) h)
  joined_at (f ∷ fs) xs ns (suc part) i d b h short =
      past f xs (joined fs xs ns) (part * max_records + i) (suc part * max_records + i) (omega arith) ∙ joined_at fs xs ns part i d (omega arith) h short

  -- past the last record
  joined-out :
      (fs : List (ℕ → A → ℕ)) (xs : List A) (ns : List ℕ) (part i : ℕ) → part < length fs → length xs ≤ i → i < max_records →
      get_or (joined fs xs ns) (part * max_records + i) 0 ≡ 0
  unfolding joined
  joined-out [] xs ns part i b h short = absurd (omega arith)
  joined-out (f ∷ fs) xs ns zero i b h short =
      rw (zero-add i) (get_or-append (column f xs) (joined fs xs ns) 0 i (rw length-column (omega arith)) ∙ column-past f xs i h)
  joined-out (f ∷ fs) xs ns (suc part) i b h short =
      past f xs (joined fs xs ns) (part * max_records + i) (suc part * max_records + i) (omega arith) ∙ joined-out fs xs ns part i (omega arith) h short

  joined-past : (fs : List (ℕ → A → ℕ)) (xs : List A) (ns : List ℕ) (m : ℕ) → get_or (joined fs xs ns) (length fs * max_records + m) 0 ≡ get_or ns m 0
  unfolding joined
  joined-past [] xs ns m = rw (zero-add m)
  joined-past (f ∷ fs) xs ns m =
      past f xs (joined fs xs ns) (length fs * max_records + m) (suc (length fs) * max_records + m) (omega arith) ∙ joined-past fs xs ns m

module _ (rs : List (Rec (List ℕ) Span)) where
  -- what each part of the table says of a record
  abbrev pub parts : List (ℕ → Rec (List ℕ) Span → ℕ)
  parts =
      id_in rs
      ∷ (λ i r. declaration_in rs r)
      ∷ (λ i r. import_in rs r)
      ∷ (λ i r. target_in rs r)
      ∷ (λ i r. number_if (is_named r) (code_of r.kind r.name))
      ∷ []

  -- the numbers behind the parts
  abbrev counts : List ℕ
  counts = number_if (any_of (is Kind.Wildcard) rs) 1 ∷ length (select (is Kind.Declaration) rs) ∷ []

  table-joined : table_of rs ≡ joined parts rs counts
  unfolding table_of joined
  table-joined = simp append_assoc

  pub wildcard-entry : wildcard_of (table_of rs) ≡ number_if (any_of (is Kind.Wildcard) rs) 1
  wildcard-entry = rw table-joined (joined-past parts rs counts 0)

  pub declarations-entry : declarations_of (table_of rs) ≡ length (select (is Kind.Declaration) rs)
  declarations-entry = rw table-joined (joined-past parts rs counts 1)

  -- the entry of a part for a record that the table has
  pub entry_at :
      (part i : ℕ) (d : Rec (List ℕ) Span) → part < 5 → i < length rs → length rs ≤ max_records →
      entry_of part (table_of rs) i ≡ get_or parts part (λ k r. 0) i (get_or rs i d)
  entry_at part i d b h short =
      sym (entry_in part i (table_of rs) (omega arith)) ∙ rw table-joined (joined_at parts rs counts part i d b h short)

  -- and for one that it does not have
  pub entry_past : (part i : ℕ) → part < 5 → length rs ≤ i → entry_of part (table_of rs) i ≡ 0
  entry_past part i b h = go (dec_lt i max_records)
    where
      go : Dec (i < max_records) → entry_of part (table_of rs) i ≡ 0
      go (yes l) = sym (entry_in part i (table_of rs) l) ∙ rw table-joined (joined-out parts rs counts part i b h l)
      go (no l) = sym (entry-out part i (table_of rs) (omega arith))
