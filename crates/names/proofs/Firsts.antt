-- A record with a name has the id of every record with that name: the index of the first of them.
use Prim.Native.Nat.{ℕ, suc, ◌≤◌, ◌<◌}
use native.Mathlib.Decide.{dec_lt}
use native.Mathlib.Omega.{arith}
use mathlib.Core.Path.{◌≡◌, sym, ◌∙◌}
use mathlib.Core.Bool.{true, false, ◌&&◌}
use mathlib.Core.List.{List}
use Rattle.rules.specs.declared.span.Span.{Span}
use Rattle.rules.specs.Words.{same_bytes}
use Rattle.rules.specs.Record.{Rec}
use Rattle.names.specs.NameTable.{place_of, is_keyed, same_name, id_in}
use Rattle.names.specs.Parts.{known, known_count, record_of}
use Rattle.names.proofs.FirstPlaces.{place-passes, place-before}
use Rattle.names.proofs.Known.{length-known, known_at}
use Rattle.names.proofs.Lookups.{id-place, same-itself}
use Rattle.names.proofs.SameIds.{same-tells, unnamed-place}

module _ (sheet names : List ℕ) where
  abbrev rs : List (Rec (List ℕ) Span)
  rs = known sheet names

  abbrev at : ℕ → Rec (List ℕ) Span
  at = record_of sheet names

  abbrev pub id_at : ℕ → ℕ
  id_at i = id_in rs i (at i)

  -- the place of the first record with the name
  first-place : (i : ℕ) → i < known_count sheet → is_keyed (at i) ≡ true → place_of (same_name (at i)) rs ≡ suc (id_at i)
  first-place i h named =
      let d : Rec (List ℕ) Span = at i in
      let here = known_at sheet names i d h in
      rw here at (id-place rs d i (rw length-known h) (rw here named))

  -- a record without a name is its own
  pub id-unnamed : (i : ℕ) → is_keyed (at i) ≡ false → id_at i ≡ i
  unfolding id_in
  id-unnamed i f = rw (unnamed-place (at i) f rs, id_in)

  -- records with the same name have the same id
  pub id-shared :
      (i j : ℕ) → i < known_count sheet → j < known_count sheet → is_keyed (at i) ≡ true → same_name (at i) (at j) ≡ true → id_at i ≡ id_at j
  unfolding same_name
  id-shared i j h l named same =
      let tells = same-tells (at i) (at j) same in
      let alike : place_of (same_name (at i)) rs ≡ place_of (same_name (at j)) rs =
      λ k. place_of (λ q. (named ∙ sym tells.1) k && is_keyed q && same_bytes q.name (sym tells.2 k)) rs in
      let ids = sym (first-place i h named) ∙ alike ∙ first-place j l tells.1 in
      omega arith

  module _ (i : ℕ) (h : i < known_count sheet) (named : is_keyed (at i) ≡ true) where
    -- the id is that of a record with the name
    pub id-known : id_at i < known_count sheet
    id-known = rw length-known at (place-passes (same_name (at i)) (at i) rs (id_at i) (first-place i h named)).0

    pub id-same-name : same_name (at i) (at (id_at i)) ≡ true
    id-same-name =
        rw (known_at sheet names (id_at i) (at i) id-known)
        at (place-passes (same_name (at i)) (at i) rs (id_at i) (first-place i h named)).1

    -- no record before it has the name
    id-least : (j : ℕ) → j < known_count sheet → same_name (at i) (at j) ≡ true → id_at i ≤ j
    id-least j l e = go (dec_lt j (id_at i))
      where
        go : Dec (j < id_at i) → id_at i ≤ j
        go (no g) = omega arith
        go (yes g) =
            let none = place-before (same_name (at i)) (at i) rs (id_at i) (first-place i h named) j g in
            let f : same_name (at i) (at j) ≡ false = rw (known_at sheet names j (at i) l) at none in
            let z : ◌≡◌ {A = ℕ} 0 1 = cc in
            omega arith

    -- the record itself has it
    pub id-within : id_at i ≤ i
    unfolding same_name
    id-within = id-least i h (rw (named, same-itself (at i).name))
