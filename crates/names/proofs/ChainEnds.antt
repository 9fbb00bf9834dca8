-- A chain ends where nothing stands behind the type that its steps lead to. A table that leads from a type on the way to the end at once keeps the
-- ends of all chains.
use Prim.Native.Nat.{ℕ, ◌+◌}
use native.Mathlib.Numerals.{add-one}
use mathlib.Core.Path.{◌≡◌, sym, ap, ◌∙◌}
use Rattle.std.specs.Prelude as std
use mathlib.Core.Bool.{false, true≢false}
use mathlib.Core.List.{List}
use mathlib.Core.Option.{some}
use Rattle.rules.specs.declared.span.Span.{Span}
use Rattle.rules.specs.Context.{ValidationContext, behind, chain_end, never_ends}
use Rattle.rules.proofs.Chains.{is_some, none-there}
use Rattle.names.specs.View.{view_at, at_place, declarations_of, context_by}
use Rattle.names.specs.SameEnds.{SameEnds, Lasting, with_target}
use Rattle.names.proofs.Shortened.{same-itself, same-through}
use Rattle.names.proofs.Targeted.{target-same, target-lasting, rest_end}
use Rattle.names.specs.Ends.{EndsAt, Kept}
use Rattle.names.proofs.ShortTables.{shortened-itself, shortened-now, shortened-through}

module _ (table sheet : List ℕ) where
  abbrev ctx : ValidationContext ℕ Span
  ctx = context_by table sheet

  -- the type at the end of the chain from the type at record t on, and the one behind it
  module _ (t e : ℕ) (he : view_at sheet e ≡ chain_end (context_by table sheet) (declarations_of table) (view_at sheet t)) where
    pub end_found : (o : std.Option ℕ) → at_place sheet o ≡ behind (context_by table sheet) (view_at sheet e) → std.is_some o ≡ false → EndsAt table sheet t e
    end_found std.None hb over = record { end = sym he; over = sym hb }
    end_found (std.Some next) hb over = absurd (true≢false over)

    pub end_told : (o : std.Option ℕ) → at_place sheet o ≡ behind (context_by table sheet) (view_at sheet e) → std.is_some o ≡ never_ends (context_by table sheet) (view_at sheet t)
    unfolding context_by
    end_told std.None hb = ap is_some (hb ∙ ap (behind ctx) he)
    end_told (std.Some next) hb = ap is_some (hb ∙ ap (behind ctx) he)

-- a table that is not changed
pub kept_itself : (sheet table : List ℕ) → Lasting (context_by table sheet) → Kept sheet table table
kept_itself sheet table lasts = record { short = shortened-itself sheet table; same = same-itself (context_by table sheet); lasts = lasts }

-- a table that leads to the end from one more type
module _ (sheet before table : List ℕ) (at end next : ℕ) (kept : Kept sheet before table) (ends : EndsAt table sheet at end) (o : std.Option ℕ)
    (hb : at_place sheet o ≡ behind (context_by table sheet) (view_at sheet at)) (e : o ≡ std.Some next) where
  step : behind (context_by table sheet) (view_at sheet at) ≡ some (view_at sheet next)
  step = sym (ap (at_place sheet) (sym e) ∙ hb)

  same-now : SameEnds (context_by table sheet) (context_by (with_target table at (end + 1)) sheet)
  same-now = rw add-one (target-same table sheet at end (ap is_some step) ends.end ends.over kept.lasts)

  pub shortened : (after : List ℕ) → after ≡ with_target table at (end + 1) → Kept sheet before after
  shortened after a =
      rw a
      (record {
        short = shortened-through sheet before table kept.same _ kept.short (rw add-one (shortened-now sheet table at end (ap is_some step) ends));
        same = same-through _ _ _ kept.same same-now;
        lasts = rw add-one (target-lasting table sheet at end (ap is_some step) ends.end ends.over kept.lasts);
      })

  pub shortened_again : (after : List ℕ) → after ≡ with_target table at (end + 1) → EndsAt after sheet next end
  unfolding context_by
  shortened_again after a =
      rw a
      (record {
        end =
            sym (same-now.ends (view_at sheet next))
            ∙ rw add-one (rest_end table sheet at end (ap is_some step) ends.end ends.over (view_at sheet next) step);
        over = none-there _ (sym (same-now.leads (view_at sheet end)) ∙ ap is_some ends.over);
      })

-- one more chain
pub kept_through : (sheet a b c : List ℕ) → Kept sheet a b → Kept sheet b c → Kept sheet a c
kept_through sheet a b c x y =
    record { short = shortened-through sheet a b x.same c x.short y.short; same = same-through _ _ _ x.same y.same; lasts = y.lasts }
