-- Rules 20 and 21: the key `reason` stands among an annotation's arguments just if its code does.
use Rattle.std.proofs.Common.{ℕ, ◌≡◌, refl, ◌∙◌, ap, Bool, List, arith, eqb}
use Rattle.rules.specs.declared.span.Span.{Span}
use Rattle.rules.specs.Words.{any_of}
use Rattle.rules.specs.Context.{reason}
use Rattle.rules.specs.Record.{Rec}
use Rattle.rules.specs.Annotations.{has_reason}
use Rattle.names.specs.View.{view_at, view_of, context_by, entry_of, code_part}
use Rattle.annotations.specs.AnnotationAt.{annotation_at}
use Rattle.lists.proofs.Asked.{SomeFrom}
use Rattle.annotations.proofs.Views.{any_in}
use Rattle.annotations.proofs.WordCodes.{word-is}

module _ (table sheet : List ℕ) where
  pub is_reason : Rec ℕ Span → Bool
  is_reason argument = eqb ((context_by table sheet).word argument.name) reason

  pub code-is : (j : ℕ) (b : Bool) → eqb (entry_of code_part table j) 7 ≡ b → is_reason (view_at sheet j) ≡ b
  unfolding is_reason view_at
  code-is j b h = word-is table sheet j 7 (omega arith) (omega arith) _ refl ∙ h

  module _ (i e : ℕ) where
    -- each of the arguments was asked
    pub reason-asked :
        (a z : ℕ) (r : Bool) → view_of sheet a z ≡ (annotation_at sheet i e).rest → SomeFrom (λ j. is_reason (view_at sheet j)) a z r →
        r ≡ has_reason (context_by table sheet) (annotation_at sheet i e)
    unfolding is_reason
    reason-asked a z r same h = any_in sheet is_reason a z r h ∙ ap (any_of is_reason) same
