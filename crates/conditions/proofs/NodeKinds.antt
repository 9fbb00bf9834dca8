-- At a condition of one kind, the parts of the definition that are for other kinds are empty; at any other record all of them are.
use Rattle.std.proofs.Common.{◌≡◌, ℕ, ◌≤◌, Bool, List, sym, ◌∙◌, append-nil, arith, le-leb, ne_eqb}
use Rattle.rules.specs.declared.span.Span.{Span}
use Rattle.rules.proofs.Taken.{within-false}
use Rattle.rules.specs.Record.{Rec, record_bytes, kind_in}
use Rattle.rules.specs.Context.{ValidationContext}
use Rattle.rules.specs.Conditions.{Literals}
use Rattle.diagnostic.specs.declared.violations.Violations.{Violations}
use Rattle.diagnostic.specs.Violations.{Adds}
use Rattle.diagnostic.proofs.Added.{adds_none}
use Rattle.names.specs.View.{view_at}
use Rattle.conditions.specs.Parts.{operator_violations, comparison_violations, range_violations, length_violations, node_violations}

module _
    (ctx : ValidationContext ℕ Span) (sheet : List ℕ) (i : ℕ) (rs : List (Rec ℕ Span)) (takes : Literals) (collection : Bool) (old : Violations)
    (kind : ℕ) (hk : kind ≡ kind_in (record_bytes sheet i))
  where
    pub node_cmp :
        (new : Violations) → kind ≡ 53 → Adds old new (comparison_violations ctx takes (record { head = view_at sheet i; rest = rs })) →
        Adds old new (node_violations ctx takes collection (record { head = view_at sheet i; rest = rs }))
    unfolding view_at node_violations comparison_violations operator_violations
    node_cmp new e h = rw (sym hk ∙ e) (simp append-nil (rw (sym hk ∙ e) at h))

    pub node_range :
        (new : Violations) → kind ≡ 54 → Adds old new (range_violations ctx takes (record { head = view_at sheet i; rest = rs })) →
        Adds old new (node_violations ctx takes collection (record { head = view_at sheet i; rest = rs }))
    unfolding view_at node_violations range_violations
    node_range new e h = rw (sym hk ∙ e) (simp append-nil (rw (sym hk ∙ e) at h))

    pub node_len :
        (new : Violations) → 55 ≤ kind → kind ≤ 56 → Adds old new (length_violations ctx collection (record { head = view_at sheet i; rest = rs })) →
        Adds old new (node_violations ctx takes collection (record { head = view_at sheet i; rest = rs }))
    unfolding view_at node_violations length_violations
    node_len new a b h =
        rw (← hk)
        (simp (within-false 53 54 kind (λ p q. omega arith), le-leb 55 kind a, le-leb kind 56 b, ne_eqb kind 53 (λ e. omega arith), ne_eqb kind 54 (λ e. omega arith))
        (rw hk h))

    -- every other record
    pub node_other : (53 ≤ kind → kind ≤ 56 → ⊥) → Adds old old (node_violations ctx takes collection (record { head = view_at sheet i; rest = rs }))
    unfolding node_violations view_at
    node_other n =
        rw (← hk)
        (simp (within-false 53 54 kind (λ p q. n p (omega arith)), within-false 55 56 kind (λ p q. n (omega arith) q), ne_eqb kind 53 (λ e. n (omega arith) (omega arith)), ne_eqb kind 54 (λ e. n (omega arith) (omega arith)))
        (adds_none old))
