-- A record has the name of record i just if record i's id is the first record with its name: a record with a name has the first with that name
-- for its id, and a record without one is its own id and has nobody's name.
use Prim.Native.Nat.compare
use Prim.Native.Nat.{ℕ, suc, ◌<◌}
use native.Mathlib.Omega.{arith}
use mathlib.Core.Path.{◌≡◌, refl, sym, ◌∙◌}
use mathlib.Core.Bool.{Bool, true, false, ◌&&◌, and-true, and-false, true≢false}
use mathlib.Core.List.{List}
use lib.ListN.{length, get_or}
use lib.Dec.{eqb}
use borrow.Author.Tests.{eq-eqb, ne_eqb}
use Rattle.std.proofs.lemmas.Bool.{and_parts}
use Rattle.rules.specs.Words.{same_bytes}
use Rattle.rules.specs.Record.{Rec, is}
use Rattle.rules.proofs.Moved.{same_bytes-tells}
use Rattle.names.specs.NameTable.{place_of, is_keyed, same_name, id_in}
use Rattle.names.specs.Notes.{has_id}
use Rattle.names.proofs.FirstPlaces.{place-passes, place-never}
use Rattle.names.proofs.Lookups.{same-itself, id-place}

module _ {P : Type 0} where
  pub same-tells : (r q : Rec (List ℕ) P) → same_name r q ≡ true → (is_keyed r ≡ true) × (is_keyed q ≡ true) × (q.name ≡ r.name)
  unfolding same_name
  same-tells r q h =
      let all = and_parts (is_keyed r && is_keyed q) (same_bytes q.name r.name) h in
      let keyed = and_parts (is_keyed r) (is_keyed q) all.0 in (keyed.0, keyed.1, same_bytes-tells q.name r.name all.1)

  same_of : (r q : Rec (List ℕ) P) → is_keyed r ≡ true → is_keyed q ≡ true → q.name ≡ r.name → same_name r q ≡ true
  unfolding same_name
  same_of r q hr hq e = rw (hr, hq, e, same-itself r.name)

  -- no record has the name of one without
  pub unnamed-place : (r : Rec (List ℕ) P) → is_keyed r ≡ false → (rs : List (Rec (List ℕ) P)) → place_of (same_name r) rs ≡ 0
  unfolding same_name
  unnamed-place r h rs = place-never (same_name r) (λ q. rw h) rs

  module _ (rs : List (Rec (List ℕ) P)) (d : Rec (List ℕ) P) (i : ℕ) (l : i < length rs) where
    abbrev r : Rec (List ℕ) P
    r = get_or rs i d

    abbrev id : ℕ
    id = id_in rs i r

    unnamed-id : is_keyed r ≡ false → id ≡ i
    unfolding id_in
    unnamed-id h = rw (unnamed-place r h rs, id_in)

    pub has-id : (kind k : ℕ) → has_id kind rs k r ≡ ((is kind r && is_keyed r) && eqb id k)
    unfolding has_id
    has-id kind k = go (is_keyed r) refl
      where
        go : (b : Bool) → is_keyed r ≡ b → (is kind r && eqb (place_of (same_name r) rs) (suc k)) ≡ ((is kind r && is_keyed r) && eqb id k)
        go true h = rw (h, id-place rs d i l h, and-true, compare.suc-suc)
        go false h = rw (h, unnamed-place r h rs, ne_eqb 0 (suc k) (λ e. omega arith), and-false)

    module _ (q : Rec (List ℕ) P) where
      alike : same_name r q ≡ true → place_of (same_name q) rs ≡ place_of (same_name r) rs
      unfolding same_name
      alike e =
          let tells = same-tells r q e in
          λ t. place_of (λ x. (tells.1 ∙ sym tells.0) t && is_keyed x && same_bytes x.name (tells.2 t)) rs

      -- the record at the id has the name of q, and is or has the name of record i
      met : (b : Bool) → is_keyed r ≡ b → place_of (same_name q) rs ≡ suc id → same_name r q ≡ true
      met true h e =
          let mine = same-tells r (get_or rs id d) (place-passes (same_name r) d rs id (id-place rs d i l h)).1 in
          let its = same-tells q (get_or rs id d) (place-passes (same_name q) d rs id e).1 in
          same_of r q h its.0 (sym its.2 ∙ mine.2)
      met false h e =
          let itself : same_name q (get_or rs i d) ≡ true = rw (unnamed-id h) at (place-passes (same_name q) d rs id e).1 in
          absurd (true≢false (sym (same-tells q r itself).1 ∙ h))

      pub id-says : eqb (place_of (same_name q) rs) (suc id) ≡ same_name r q
      id-says = go (same_name r q) refl
        where
          go : (b : Bool) → same_name r q ≡ b → eqb (place_of (same_name q) rs) (suc id) ≡ same_name r q
          go true e = eq-eqb (place_of (same_name q) rs) (suc id) (alike e ∙ id-place rs d i l (same-tells r q e).0) ∙ sym e
          go false e =
              ne_eqb (place_of (same_name q) rs) (suc id) (λ p. true≢false (sym (met (is_keyed r) refl p) ∙ e)) ∙ sym e
