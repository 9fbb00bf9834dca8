-- A record's kind, as it was read.
use Prim.Native.Nat.{ℕ}
use mathlib.Core.Path.{◌≡◌, sym, ap, ◌∙◌}
use mathlib.Core.Bool.{true, false}
use mathlib.Core.List.{List}
use lib.Dec.{eqb}
use borrow.Author.Tests.{eq-eqb, ne_eqb}
use Rattle.rules.specs.Kind
use Rattle.rules.specs.Record.{is, kind_in, record_bytes}
use Rattle.names.specs.View.{view_at}

pub kind-is : (sheet : List ℕ) (i k kind : ℕ) → k ≡ kind_in (record_bytes sheet i) → k ≡ kind → is kind (view_at sheet i) ≡ true
unfolding view_at
kind-is sheet i k kind hk h = ap (λ n. eqb n kind) (sym hk) ∙ eq-eqb k kind h

pub kind-not : (sheet : List ℕ) (i k kind : ℕ) → k ≡ kind_in (record_bytes sheet i) → (k ≡ kind → ⊥) → is kind (view_at sheet i) ≡ false
unfolding view_at
kind-not sheet i k kind hk h = ap (λ n. eqb n kind) (sym hk) ∙ ne_eqb k kind h

-- an item has an ordinal where its kind has one
pub is-numbered : (sheet : List ℕ) (i k kind : ℕ) → k ≡ kind_in (record_bytes sheet i) → k ≡ kind → Kind.has_ordinal kind ≡ true → Kind.has_ordinal (kind_in (record_bytes sheet i)) ≡ true
is-numbered sheet i k kind hk h has = ap Kind.has_ordinal (sym hk ∙ h) ∙ has

pub ruleset item_rules = (kind-is, kind-not, is-numbered)
