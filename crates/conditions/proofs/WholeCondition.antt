-- A condition's records are taken one after the other, each with those after it.
use Rattle.std.proofs.Common.{◌≡◌, ℕ, ◌+◌, ◌≤◌, ◌<◌, Bool, true, List, [], ◌∷◌, ◌++◌, refl, sym, ap, ◌∙◌, eqb-true}
use Rattle.rules.specs.declared.span.Span.{Span}
use Rattle.rules.specs.Words.{rest}
use Rattle.rules.specs.Kind
use Rattle.rules.specs.Record.{Rec, is}
use Rattle.rules.specs.Context.{ValidationContext}
use Rattle.rules.specs.Types.{is_collection_type}
use Rattle.rules.specs.Conditions.{Literals, literals_of, own_condition_violations, condition_violations}
use Rattle.rules.specs.Rule.{Found}
use Rattle.diagnostic.specs.declared.violations.Violations.{Violations}
use Rattle.diagnostic.specs.Violations.{Adds}
use Rattle.names.specs.View.{view_at, view_of}
use Rattle.types.proofs.Views.{view-cons, view-none}
use Rattle.conditions.specs.Parts.{node_violations}
use Rattle.types.proofs.Left.{Leaves, leaves_rest, leaves_none}

module _ (ctx : ValidationContext ℕ Span) (ty : List (Rec ℕ Span)) where
  -- what is found at one record depends on the type by its literals and by whether it is a collection
  own-found :
      (takes : Literals) (collection : Bool) (c : Rec ℕ Span) (rs : List (Rec ℕ Span)) → takes ≡ literals_of ty → collection ≡ is_collection_type ty →
      node_violations ctx takes collection (record { head = c; rest = rs }) ≡ own_condition_violations ctx ty c rs
  unfolding node_violations own_condition_violations
  own-found takes collection c rs ht hc = rw (ht, hc)

  pub condition_next :
      (sheet : List ℕ) (i e : ℕ) (takes : Literals) (collection : Bool) (old mid new : Violations) (all : List (Found Span)) → i < e →
      takes ≡ literals_of ty → collection ≡ is_collection_type ty → Leaves old mid all (condition_violations ctx ty (view_of sheet i e)) →
      Adds mid new (node_violations ctx takes collection (record { head = view_at sheet i; rest = view_of sheet (i + 1) e })) →
      Leaves old new all (condition_violations ctx ty (view_of sheet (i + 1) e))
  unfolding condition_violations
  condition_next sheet i e takes collection old mid new all h ht hc left here =
      leaves_rest old mid new all _ _ _ left (ap (condition_violations ctx ty) (view-cons sheet i e h)) (rw (own-found takes collection (view_at sheet i) (view_of sheet (i + 1) e) ht hc) at here)

  pub condition_end :
      (sheet : List ℕ) (i e : ℕ) (old now : Violations) (all : List (Found Span)) → e ≤ i →
      Leaves old now all (condition_violations ctx ty (view_of sheet i e)) → Adds old now all
  unfolding condition_violations
  condition_end sheet i e old now all h left = leaves_none old now all _ left (ap (condition_violations ctx ty) (view-none sheet i e h))

-- an optional before another changes neither the literals nor whether there is a length, and so nothing that is found
module _ (ctx : ValidationContext ℕ Span) (t u : Rec ℕ Span) (rs : List (Rec ℕ Span)) (ht : is Kind.Optional t ≡ true) (hu : is Kind.Optional u ≡ true) where
  optional-literals : literals_of (t ∷ u ∷ rs) ≡ literals_of (u ∷ rs)
  unfolding rest
  optional-literals = rw (rest, eqb-true t.kind Kind.Optional ht, eqb-true u.kind Kind.Optional hu)

  optional-length : is_collection_type (t ∷ u ∷ rs) ≡ is_collection_type (u ∷ rs)
  unfolding rest
  optional-length = rw (rest, eqb-true t.kind Kind.Optional ht)

  pub optional-condition : (cs : List (Rec ℕ Span)) → condition_violations ctx (t ∷ u ∷ rs) cs ≡ condition_violations ctx (u ∷ rs) cs
  unfolding condition_violations
  optional-condition [] = refl
  optional-condition (c ∷ cs) =
      rw (
      sym (own-found ctx (t ∷ u ∷ rs) (literals_of (u ∷ rs)) (is_collection_type (u ∷ rs)) c cs (sym optional-literals) (sym optional-length))
      ∙ own-found ctx (u ∷ rs) (literals_of (u ∷ rs)) (is_collection_type (u ∷ rs)) c cs refl refl
      )
      (ap (λ found. own_condition_violations ctx (u ∷ rs) c cs ++ found) (optional-condition cs))
