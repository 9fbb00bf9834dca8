-- The declaration of a sheet: its head, and the body by the head's sub.
use Prim.Native.Nat.{ℕ, ◌+◌, ◌≤◌, ◌<◌}
use mathlib.Core.Path.{◌≡◌, sym, subst, ◌∙◌}
use mathlib.Core.List.{List}
use lib.ListN.{length}
use lib.Dec.{leb}
use borrow.Author.Tests.{lt-leb, le-leb}
use Rattle.rules.specs.declared.span.Span.{Span}
use Rattle.rules.specs.Words.{only_if}
use Rattle.rules.specs.Record.{Rec, record_bytes, sub_in}
use Rattle.rules.specs.Head.{body_of}
use Rattle.rules.specs.Context.{ValidationContext}
use Rattle.rules.specs.Rule.{Found}
use Rattle.rules.specs.Bodies.{body_violations, declaration_violations, violations_of}
use Rattle.names.specs.View.{view_at, view_of}
use Rattle.types.proofs.Views.{view-cons, view-none}
use Rattle.diagnostic.specs.declared.violations.Violations.{Violations}
use Rattle.diagnostic.specs.Violations.{Adds}
use Rattle.diagnostic.proofs.Added.{adds_none}
use Rattle.bodies.specs.Runs.{before_head, EndsAt}

-- the head
module _ (ctx : ValidationContext ℕ Span) (sheet : List ℕ) (n h : ℕ) (ends : EndsAt before_head sheet 0 n h) where
  pub no-head : (vs : Violations) → n ≤ h → Adds vs vs (violations_of ctx (view_of sheet 0 n))
  unfolding EndsAt violations_of
  no-head vs le = subst (λ (rs : List (Rec ℕ Span)). Adds vs vs (declaration_violations ctx rs)) (sym (view-none sheet h n le) ∙ ends.1) (adds_none vs)

  pub at_head :
      (sub : ℕ) (old now : Violations) → h < n → sub ≡ sub_in (record_bytes sheet h) → Adds old now (body_violations ctx (body_of sub) (view_of sheet (h + 1) n)) →
      Adds old now (violations_of ctx (view_of sheet 0 n))
  unfolding EndsAt violations_of view_at
  at_head sub old now l hs adds =
      subst (λ (rs : List (Rec ℕ Span)). Adds old now (declaration_violations ctx rs)) (sym (view-cons sheet h n l) ∙ ends.1) (rw hs at adds)

-- a sheet that is too long, and one that is not
module _ (fs : List (Found Span)) (sheet : List ℕ) (old : Violations) where
  pub too_long : 32768 < length sheet → Adds old old (only_if (leb (length sheet) 32768) fs)
  too_long h = rw (lt-leb (length sheet) 32768 h) (adds_none old)

  pub not_long : (now : Violations) → length sheet ≤ 32768 → Adds old now fs → Adds old now (only_if (leb (length sheet) 32768) fs)
  not_long now h adds = rw (le-leb (length sheet) 32768 h) adds
