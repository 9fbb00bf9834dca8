-- What code reads and finds of a record is what the definitions say of it: each law takes what was read and what the tests said at one
-- `return`.
use Prim.Native.Nat.{ℕ, ◌*◌, ◌≤◌, ◌<◌}
use mathlib.Core.Path.{◌≡◌, refl, ◌∙◌, sym}
use mathlib.Core.Bool.{Bool, true, false, ◌&&◌, true≢false, not, ◌||◌}
use mathlib.Core.List.{List}
use native.Mathlib.Omega.{arith}
use lib.ListN.{get_or, take, drop}
use lib.Seq.{take-take}
use Rattle.std.proofs.lemmas.Bool.{and_parts}
use Rattle.rules.specs.declared.span.Span.{Span}
use Rattle.rules.specs.Kind
use Rattle.rules.specs.Words.{same_bytes}
use Rattle.rules.specs.Record.{Rec, decode, record_bytes, kind_in, is_named_in, fits_in, name_fits, name_in, name_offset, name_length}
use Rattle.rules.specs.Refusals.{max_records}
use Rattle.names.specs.NameTable.{column, is_named, is_keyed, same_name}
use Rattle.names.specs.Parts.{known, known_count, record_of}
use Rattle.names.proofs.Known.{length-known, known_at, known_bounds}
use Rattle.names.proofs.Columns.{column-at}

-- a record with a name whose kind passes a test, and one that passes it with its name
tested-named : (n t f : Bool) → ((n && t) && f) ≡ true → (n && f) ≡ true
tested-named true true f h = h
tested-named true false f h = absurd (true≢false (sym h))
tested-named false t f h = h

named-tested : (n t f : Bool) → (n && f) ≡ true → ((n && t) && f) ≡ t
named-tested true true f h = h
named-tested true false f h = refl
named-tested false t f h = absurd (true≢false (sym h))

unnamed-tested : (n t f : Bool) → (n && f) ≡ false → ((n && t) && f) ≡ false
unnamed-tested true true f h = h
unnamed-tested true false f h = refl
unnamed-tested false t f h = refl

pub keyed-named : (r : Rec (List ℕ) Span) → is_keyed r ≡ true → is_named r ≡ true
keyed-named r = tested-named (Kind.has_name r.kind r.sub) _ r.fits

pub unnamed-keyed : (r : Rec (List ℕ) Span) → is_named r ≡ false → is_keyed r ≡ false
unnamed-keyed r = unnamed-tested (Kind.has_name r.kind r.sub) _ r.fits

-- what a test says of the kind that is read
module _ (sheet names : List ℕ) (i : ℕ) (named : is_named (record_of sheet names i) ≡ true) (kind : ℕ) (e : kind ≡ kind_in (record_bytes sheet i)) where
  abbrev r : Rec (List ℕ) Span
  r = record_of sheet names i

  pub kind-tested : (test : ℕ → Bool) (told : Bool) → told ≡ test kind → ((Kind.has_name r.kind r.sub && test r.kind) && r.fits) ≡ told
  unfolding record_of decode
  kind-tested test told h = named-tested (Kind.has_name r.kind r.sub) (test r.kind) r.fits named ∙ sym (rw e at h)

-- two records whose names are compared
module _ (sheet names : List ℕ) (i j : ℕ) (first : is_keyed (record_of sheet names i) ≡ true) (second : is_keyed (record_of sheet names j) ≡ true) where
  pub names-compared :
      (r : Bool) (a b : List ℕ) → a ≡ name_in names (record_bytes sheet j) → b ≡ name_in names (record_bytes sheet i) → r ≡ same_bytes a b →
      r ≡ same_name (record_of sheet names i) (record_of sheet names j)
  unfolding same_name record_of decode
  names-compared r a b ha hb hr = rw (first, second, ← ha, ← hb) hr

-- a part's number, worked out from the record where there is one
module _ (sheet names : List ℕ) (i n : ℕ) (hn : n ≡ known_count sheet) (f : ℕ → Rec (List ℕ) Span → ℕ) where
  pub part_at : (v : ℕ) → n ≤ max_records → i < n → v ≡ f i (record_of sheet names i) → v ≡ get_or (column f (known sheet names)) i 0
  part_at v l h e =
      let d : Rec (List ℕ) Span = record_of sheet names i in
      rw (column-at f (known sheet names) i d (omega arith) (rw (length-known sheet names, ← hn) h), known_at sheet names i d (rw (← hn) h)) e

-- a record has a name if its kind says so and the name's part ends within the names text, and the name is that part
module _ (sheet names : List ℕ) (i : ℕ) where
  pub named_by : is_named (record_of sheet names i) ≡ (is_named_in (record_bytes sheet i) && name_fits names (record_bytes sheet i))
  unfolding record_of decode fits_in
  named_by = both (is_named_in (record_bytes sheet i)) (name_fits names (record_bytes sheet i))
    where
      both : (a b : Bool) → (a && (not a || b)) ≡ (a && b)
      both true b = refl
      both false b = refl

  -- and so the part fits
  pub name_fitting : is_named (record_of sheet names i) ≡ true → name_fits names (record_bytes sheet i) ≡ true
  name_fitting named = (and_parts (is_named_in (record_bytes sheet i)) (name_fits names (record_bytes sheet i)) (sym named_by ∙ named)).1

  pub name_by : is_named (record_of sheet names i) ≡ true → name_in names (record_bytes sheet i) ≡ take (name_length (record_bytes sheet i)) (drop (name_offset (record_bytes sheet i)) names)
  unfolding name_in
  name_by named =
      let parts = and_parts (is_named_in (record_bytes sheet i)) (name_fits names (record_bytes sheet i)) (sym named_by ∙ named) in rw (parts.0, parts.1)

-- a record is the first of its own bytes
module _ (sheet own : List ℕ) (i : ℕ) (e : own ≡ record_bytes sheet i) where
  pub own_again : record_bytes own 0 ≡ record_bytes sheet i
  own_again = rw (e, take-take 32 32 (drop (32 * i) sheet) (omega arith))

  pub record_again : (names : List ℕ) → record_of own names 0 ≡ record_of sheet names i
  unfolding record_of
  record_again names = rw own_again

pub ruleset again = (own_again, record_again, known_bounds)
