-- The numbers of a kind of record, collected from the last record on.
use Prim.Native.Nat.{ℕ, ◌+◌, ◌-◌, ◌%◌, ◌≤◌, ◌<◌}
use native.Mathlib.Omega.{arith}
use mathlib.Core.Path.{◌≡◌, sym, ap, ◌∙◌}
use mathlib.Core.Bool.{Bool, true, false}
use mathlib.Core.List.{List, ◌∷◌}
use lib.ListN.{length, set, length-set}
use Rattle.rules.specs.Words.{select}
use Rattle.rules.specs.Record.{is, kind_in, value_in, record_bytes}
use Rattle.names.specs.View.{view_at, view_of}
use Rattle.names.proofs.Views.{view-cons, view-none}
use Rattle.lists.specs.Seen.{latest, narrow, Marked}
use Rattle.lists.specs.Earlier.{values_of}
use Rattle.lists.proofs.Marks.{latest-store, marked-none, marked-store}
use Rattle.lists.proofs.Narrow.{narrow-kept, narrow-out}
use Rattle.lists.proofs.ReadKinds.{kind-is, kind-not}

-- the values of the records of a kind, after one more and after none
values-member :
    (sheet : List ℕ) (kind i e : ℕ) → i < e → is kind (view_at sheet i) ≡ true →
    values_of kind (view_of sheet i e) ≡ value_in (record_bytes sheet i) ∷ values_of kind (view_of sheet (i + 1) e)
unfolding values_of select view_at
values-member sheet kind i e h t = rw (view-cons sheet i e h, t, select)

pub values_other :
    (sheet : List ℕ) (kind i e : ℕ) → i < e → is kind (view_at sheet i) ≡ false →
    values_of kind (view_of sheet i e) ≡ values_of kind (view_of sheet (i + 1) e)
unfolding values_of select view_at
values_other sheet kind i e h t = rw (view-cons sheet i e h, t, select)

-- the values that row 5 lets through, of the records from i up to e that are of a kind, stand in the array, that of the last first, and have their marks
abbrev pub Collected : List ℕ → ℕ → ℕ → ℕ → List ℕ → List Bool → ℕ → ℕ → Type 0
Collected sheet a e kind numbers marks len i =
    (length numbers ≡ 1024)
    × (length marks ≡ 1021)
    × (a ≤ i)
    × (len ≤ e - i)
    × (i ≤ e)
    × (latest numbers 0 len ≡ narrow (values_of kind (view_of sheet i e)))
    × Marked numbers marks len

module _ (sheet : List ℕ) (a e kind : ℕ) (numbers : List ℕ) (marks : List Bool) where
  pub collected-none : length numbers ≡ 1024 → length marks ≡ 1021 → a ≤ e → Collected sheet a e kind numbers marks 0 e
  unfolding latest values_of select
  collected-none size₁ size₂ le =
      let none : e ≤ e = omega arith in
      (size₁, size₂, le, omega arith, none, rw (view-none sheet e e none), marked-none numbers marks)

  module _ (len i k : ℕ) (c : Collected sheet a e kind numbers marks len i) (h : a < i) (hk : k ≡ kind_in (record_bytes sheet (i - 1))) where
    -- a record of another kind
    pub collected-other : (k ≡ kind → ⊥) → Collected sheet a e kind numbers marks len (i - 1)
    collected-other ne =
        let back : i - 1 + 1 ≡ i = omega arith in (
          c.0,
          c.1,
          omega arith,
          omega (arith, c.3, c.4),
          omega (arith, c.4),
          c.5
              ∙ ap narrow
              (ap (λ j. values_of kind (view_of sheet j e)) (sym back)
              ∙ sym (values_other sheet kind (i - 1) e (omega (arith, c.4)) (kind-not sheet (i - 1) k kind hk ne))),
          c.6,
        )

    -- and of that
    values-more : (v : ℕ) → k ≡ kind → v ≡ value_in (record_bytes sheet (i - 1)) → v ∷ values_of kind (view_of sheet i e) ≡ values_of kind (view_of sheet (i - 1) e)
    values-more v same hv =
        let back : i - 1 + 1 ≡ i = omega arith in
        ap (λ j. v ∷ values_of kind (view_of sheet j e)) (sym back)
        ∙ ap (λ x. x ∷ values_of kind (view_of sheet (i - 1 + 1) e)) hv
        ∙ sym (values-member sheet kind (i - 1) e (omega (arith, c.4)) (kind-is sheet (i - 1) k kind hk same))

    pub collected-out :
        (v : ℕ) → k ≡ kind → v ≡ value_in (record_bytes sheet (i - 1)) → 4294967295 < v → Collected sheet a e kind numbers marks len (i - 1)
    collected-out v same hv wide = (
      c.0,
      c.1,
      omega arith,
      omega (arith, c.3, c.4),
      omega (arith, c.4),
      c.5 ∙ sym (narrow-out v (values_of kind (view_of sheet i e)) wide) ∙ ap narrow (values-more v same hv),
      c.6,
    )

    collected-next :
        (v n : ℕ) → e ≤ 1024 → k ≡ kind → v ≡ value_in (record_bytes sheet (i - 1)) → v ≤ 4294967295 → n ≡ v →
        Collected sheet a e kind (set numbers len n) (set marks (n % 1021) true) (len + 1) (i - 1)
    collected-next v n small same hv thin hn =
        let room : len < length numbers = omega (arith, c.0, c.3, c.4) in (
          length-set numbers len n ∙ c.0,
          length-set marks (n % 1021) true ∙ c.1,
          omega arith,
          omega (arith, c.3, c.4),
          omega (arith, c.4),
          latest-store numbers 0 len len n (omega arith) room
              ∙ ap (λ xs. n ∷ xs) c.5
              ∙ sym (narrow-kept n (values_of kind (view_of sheet i e)) (omega arith))
              ∙ ap narrow (values-more n same (hn ∙ hv)),
          marked-store numbers marks len n room c.1 c.6,
        )

    pub collected-kept :
        (numbers' : List ℕ) (marks' : List Bool) (v n len' : ℕ) → e ≤ 1024 → k ≡ kind → v ≡ value_in (record_bytes sheet (i - 1)) → v ≤ 4294967295 → n ≡ v →
        numbers' ≡ set numbers len n → marks' ≡ set marks (n % 1021) true → len' ≡ len + 1 → Collected sheet a e kind numbers' marks' len' (i - 1)
    collected-kept numbers' marks' v n len' small same hv thin hn hns hms hl = rw (hns, hms, hl) (collected-next v n small same hv thin hn)

  pub collected-all :
      (len i : ℕ) → Collected sheet a e kind numbers marks len i → i ≤ a →
      (length numbers ≡ 1024) × (length marks ≡ 1021) × (len ≤ e - a) × (latest numbers 0 len ≡ narrow (values_of kind (view_of sheet a e))) × Marked numbers marks len
  collected-all len i c h =
      let same : i ≡ a = omega (arith, c.2) in
      (c.0, c.1, omega (arith, c.3), c.5 ∙ ap (λ j. narrow (values_of kind (view_of sheet j e))) same, c.6)
