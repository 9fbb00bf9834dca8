-- The type that stands directly after a declaration: two records are there, or there is none.
use Prim.Native.Nat.{ℕ, zero, suc, ◌+◌, ◌-◌, ◌≤◌, ◌<◌}
use mathlib.Core.Path.{◌≡◌, refl, ◌∙◌, sym}
use mathlib.Core.Bool.{Bool, true, false}
use mathlib.Core.List.{List, [], ◌∷◌}
use native.Mathlib.Numerals.{add-one}
use native.Mathlib.Omega.{arith}
use lib.ListN.{length, drop, length-drop}
use Rattle.rules.specs.declared.span.Span.{Span}
use Rattle.rules.specs.Kind
use Rattle.rules.specs.Sub
use Rattle.rules.specs.Record.{Rec, decode, kind_in, sub_in, record_bytes}
use Rattle.names.specs.NameTable.{target_at}
use Rattle.names.specs.Parts.{known, known_count, record_of, target_of}
use Rattle.names.proofs.Known.{length-known, known-drop}

-- fewer than two records have no type
too_few : (place : ℕ) (rs : List (Rec (List ℕ) Span)) → length rs ≤ 1 → 0 ≡ target_at place rs
too_few place [] h = refl
too_few place (d ∷ []) h = refl
too_few place (d ∷ t ∷ rs) h = absurd (omega arith)

-- the type of the declaration at a place is told by the record before it and by the one at it
module _ (sheet : List ℕ) (place n : ℕ) (positive : 0 < place) (hn : n ≡ known_count sheet) where
  from_here : (names : List ℕ) → target_of (known sheet names) place ≡ target_at place (drop (place - 1) (known sheet names))
  from_here names = go place positive
    where
      go : (p : ℕ) → 0 < p → target_of (known sheet names) p ≡ target_at p (drop (p - 1) (known sheet names))
      go zero l = absurd (omega arith)
      go (suc m) l =
          let less : suc m - 1 ≡ m = omega arith in
          rw less

  pub none_after : n ≤ place → (names : List ℕ) → 0 ≡ target_of (known sheet names) place
  none_after h names =
      rw from_here (too_few place (drop (place - 1) (known sheet names)) (rw (length-drop, length-known, ← hn) (omega arith)))

  module _ (h : place < n) (sub : ℕ) (hs : sub ≡ sub_in (record_bytes sheet (place - 1))) (renaming : Bool) (hr : renaming ≡ Sub.is_renaming sub) where
    two : (names : List ℕ) → drop (place - 1) (known sheet names) ≡ record_of sheet names (place - 1) ∷ record_of sheet names place ∷ drop (place + 1) (known sheet names)
    two names =
        let next : place - 1 + 1 ≡ place = omega arith in
        rw (known-drop sheet names (place - 1) (rw (← hn) (omega arith)), next, known-drop sheet names place (rw (← hn) h))

    pub renames_none : renaming ≡ false → (names : List ℕ) → 0 ≡ target_of (known sheet names) place
    unfolding record_of decode
    renames_none f names = rw (from_here, two names, ← hs, sym hr ∙ f)

    module _ (e : renaming ≡ true) (kind : ℕ) (hk : kind ≡ kind_in (record_bytes sheet place)) (is : Bool) (hi : is ≡ Kind.is_type kind) where
      pub type_after : is ≡ true → (names : List ℕ) → place + 1 ≡ target_of (known sheet names) place
      unfolding record_of decode
      type_after t names =
          rw (from_here, two names, ← hs, sym hr ∙ e, ← hk, sym hi ∙ t) (add-one place)

      pub no_type_after : is ≡ false → (names : List ℕ) → 0 ≡ target_of (known sheet names) place
      unfolding record_of decode
      no_type_after f names =
          rw (from_here, two names, ← hs, sym hr ∙ e, ← hk, sym hi ∙ f)

pub ruleset targets = (none_after, renames_none, type_after, no_type_after)
