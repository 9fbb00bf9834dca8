-- Where every name fits, a named record's numbers in the table say of its name what the context says of it.
use Prim.Native.Nat.{ℕ, zero, suc, ◌<◌}
use native.Mathlib.Omega.{arith}
use mathlib.Core.Path.{◌≡◌, refl, sym, ap, ap₂, ◌∙◌}
use mathlib.Core.Bool.{Bool, true, false, not, ◌&&◌, and-false}
use mathlib.Core.List.{List, [], ◌∷◌, map-id}
use mathlib.Core.Option.{Option, some, none}
use lib.ListN.{length, get_or, drop}
use lib.Dec.{eqb}
use borrow.Author.Tests.{eq-eqb, ne_eqb}
use Rattle.std.proofs.lemmas.Bool.{and_parts}
use Rattle.rules.specs.Words.{number_if, any_of, same_bytes, member}
use Rattle.rules.specs.Kind
use Rattle.rules.specs.Record.{Rec, is}
use Rattle.rules.specs.Asked.{is_compared}
use Rattle.rules.specs.Context.{Declared, declared, inner_of}
use Rattle.rules.proofs.Every.{Every, every-as}
use Rattle.rules.proofs.Mapped.{any_same}
use Rattle.rules.proofs.Moved.{same_bytes-tells}
use Rattle.rules.proofs.Renamed.{named}
use Rattle.rules.proofs.Unused.{if-same}
use Rattle.names.specs.NameTable.{place_of, is_keyed, same_name, id_in, declaration_in, import_in}
use Rattle.names.proofs.FirstPlaces.{one_on, place_same, place-never, place-passes, place_none}

pub same-itself : (xs : List ℕ) → same_bytes xs xs ≡ true
unfolding same_bytes
same-itself [] = refl
same-itself (x ∷ xs) = ap₂ ◌&&◌ (eq-eqb x x refl) (same-itself xs)

-- 1 where the test passed
pub tested : (b : Bool) → not (eqb (number_if b 1) 0) ≡ b
tested true = refl
tested false = refl

module _ {P : Type 0} where
  -- the name is that record's, which is of that kind
  abbrev pub bears : ℕ → List ℕ → Rec (List ℕ) P → Bool
  bears k name q = is k q && same_bytes q.name name

  bears-same :
      (k : ℕ) → member k Kind.with_name ≡ true → is_compared k ≡ true → (r : Rec (List ℕ) P) → is_keyed r ≡ true → (q : Rec (List ℕ) P) → q.fits ≡ true →
      (is k q && same_name r q) ≡ bears k r.name q
  unfolding same_name
  bears-same k has compared r h q fits =
      if-same ◌&&◌ (is k q) (same_name r q) (same_bytes q.name r.name) refl (λ e. rw (h, named is_compared k has compared q e, fits))

  module _ (rs : List (Rec (List ℕ) P)) (fits : Every (λ q. q.fits ≡ true) rs) (r : Rec (List ℕ) P) (h : is_keyed r ≡ true) where
    pub declaration-place : declaration_in rs r ≡ place_of (bears Kind.Declaration r.name) rs
    unfolding declaration_in any_of
    declaration-place = place_same _ _ (every-as (bears-same Kind.Declaration refl refl r h) fits)

    pub import-says : any_of (bears Kind.ImportedName r.name) rs ≡ not (eqb (import_in rs r) 0)
    unfolding import_in any_of
    import-says =
        let test : Rec (List ℕ) P → Bool = λ q. is Kind.ImportedName q && same_name r q in
        let same = any_same (λ q. q) test (bears Kind.ImportedName r.name) (every-as (bears-same Kind.ImportedName refl refl r h) fits) in
        sym (ap (any_of test) (sym (map-id rs)) ∙ same) ∙ sym (tested (any_of test rs))

  -- a record without a name
  pub declaration-none : (rs : List (Rec (List ℕ) P)) (r : Rec (List ℕ) P) → is_keyed r ≡ false → declaration_in rs r ≡ 0
  unfolding declaration_in same_name
  declaration-none rs r h =
      place-never _ (λ q. ap (λ b. is Kind.Declaration q && (b && is_keyed q && same_bytes q.name r.name)) h ∙ and-false (is Kind.Declaration q)) rs

  -- the first declaration of the name, from a list that begins with it
  abbrev pub declared_first : List (Rec (List ℕ) P) → Option (Declared (List ℕ) P)
  declared_first [] = none
  declared_first (r ∷ rs) = some (record { sub = r.sub; inner = inner_of r.sub rs })

  pub declared-place :
      (rs : List (Rec (List ℕ) P)) (name : List ℕ) →
      declared rs name ≡ elim (place_of (bears Kind.Declaration name) rs) [ zero ↦ none | suc k ↦ declared_first (drop k rs) ]
  unfolding declared place_of
  declared-place [] name = refl
  declared-place (r ∷ rs) name = go (bears Kind.Declaration name r) (place_of (bears Kind.Declaration name) rs) (declared-place rs name)
    where
      go :
          (b : Bool) (m : ℕ) →
          declared rs name ≡ elim m [ zero ↦ none | suc k ↦ declared_first (drop k rs) ] →
          ◌≡◌ {A = Option (Declared (List ℕ) P)}
          (elim b [ true ↦ some (record { sub = r.sub; inner = inner_of r.sub rs }) | false ↦ declared rs name ])
          (elim (elim b as (λ c. ℕ) [ true ↦ 1 | false ↦ one_on m ]) [ zero ↦ none | suc k ↦ declared_first (drop k (r ∷ rs)) ])
      go true m e = refl
      go false zero e = e
      go false (suc m) e = e

  module _ (rs : List (Rec (List ℕ) P)) (d : Rec (List ℕ) P) where
    -- the id of a named record is the index of a record with its name
    pub id-place : (i : ℕ) → i < length rs → is_keyed (get_or rs i d) ≡ true → place_of (same_name (get_or rs i d)) rs ≡ suc (id_in rs i (get_or rs i d))
    unfolding id_in same_name
    id-place i l h = go (place_of (same_name (get_or rs i d)) rs) refl
      where
        go : (m : ℕ) → place_of (same_name (get_or rs i d)) rs ≡ m → place_of (same_name (get_or rs i d)) rs ≡ suc (id_in rs i (get_or rs i d))
        go zero e =
            let none = place_none (same_name (get_or rs i d)) d rs i e l in
            let itself : same_name (get_or rs i d) (get_or rs i d) ≡ true = rw (h, same-itself (get_or rs i d).name) in
            cc
        go (suc m) e = rw (e, id_in)

    pub id_same :
        (a b : ℕ) → a < length rs → b < length rs → is_keyed (get_or rs a d) ≡ true → is_keyed (get_or rs b d) ≡ true →
        same_bytes (get_or rs a d).name (get_or rs b d).name ≡ eqb (id_in rs a (get_or rs a d)) (id_in rs b (get_or rs b d))
    unfolding same_name
    id_same a b la lb ha hb = go (same_bytes (get_or rs a d).name (get_or rs b d).name) refl
      where
        found : (i : ℕ) → i < length rs → is_keyed (get_or rs i d) ≡ true → (get_or rs (id_in rs i (get_or rs i d)) d).name ≡ (get_or rs i d).name
        found i l h =
            let r : Rec (List ℕ) P = get_or rs i d in
            let q : Rec (List ℕ) P = get_or rs (id_in rs i r) d in
            let passes = (place-passes (same_name r) d rs (id_in rs i r) (id-place i l h)).1 in
            same_bytes-tells q.name r.name (and_parts (is_keyed r && is_keyed q) (same_bytes q.name r.name) passes).1

        go :
            (c : Bool) →
            same_bytes (get_or rs a d).name (get_or rs b d).name ≡ c →
            same_bytes (get_or rs a d).name (get_or rs b d).name ≡ eqb (id_in rs a (get_or rs a d)) (id_in rs b (get_or rs b d))
        go true e =
            let name = same_bytes-tells (get_or rs a d).name (get_or rs b d).name e in
            let alike : place_of (same_name (get_or rs a d)) rs ≡ place_of (same_name (get_or rs b d)) rs =
            λ i. place_of (λ q. (ha ∙ sym hb) i && is_keyed q && same_bytes q.name (name i)) rs in
            let ids = sym (id-place a la ha) ∙ alike ∙ id-place b lb hb in
            e ∙ sym (eq-eqb (id_in rs a (get_or rs a d)) (id_in rs b (get_or rs b d)) (omega arith))
        go false e =
            e ∙ sym (ne_eqb (id_in rs a (get_or rs a d)) (id_in rs b (get_or rs b d)) (λ id.
            let name : (get_or rs a d).name ≡ (get_or rs b d).name = sym (found a la ha) ∙ ap (λ i. (get_or rs i d).name) id ∙ found b lb hb in
            let z : true ≡ false = sym (same-itself (get_or rs b d).name) ∙ (rw name at e) in
            let y : ◌≡◌ {A = ℕ} 0 1 = cc in omega arith))
