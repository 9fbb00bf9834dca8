-- The full list is the body's violations, each with the class and severity of its rule; so it is counted in the body, by the rules.
use Prim.Native.Nat.{ℕ}
use mathlib.Core.Path.{◌≡◌, refl, ap, ◌∙◌, sym}
use mathlib.Core.Bool.{Bool, true, not}
use mathlib.Core.List.{List, ◌∷◌}
use Rattle.rules.specs.declared.span.Span.{Span}
use Rattle.rules.specs.declared.violation.Violation.{Violation}
use Rattle.rules.specs.Words.{rest, same_bytes, Item, items}
use Rattle.rules.specs.Kind
use Rattle.rules.specs.Record.{Rec, is, records}
use Rattle.rules.specs.Head.{Body, body_of}
use Rattle.rules.specs.Context.{ValidationContext, context_of}
use Rattle.rules.specs.Rule.{class_of, severity_of, violation}
use Rattle.rules.specs.Bodies.{body_violations, declaration_violations, violations_of}
use Rattle.rules.specs.Answer.{is_accepted, found_in, full_list}
use Rattle.rules.specs.Items.{starts_in, lead_of, items_of, occurrences}
use Rattle.rules.proofs.Accepted.{accepted-parts}
use Rattle.rules.proofs.AcceptedSheet.{accepted-clean}
use Rattle.rules.proofs.Lead.{context-of-lead}
use Rattle.rules.proofs.Occurrences.{occurrences-map}
use Rattle.rules.proofs.ItemCounts.{rule_tally}
use Rattle.rules.proofs.SameLead.{SameBesideItems, same-frame}

-- a test of violations that looks at class and severity alone
module _ (q : ℕ → ℕ → Bool) where
  abbrev by_kind : Violation → Bool
  by_kind v = q v.class v.severity

  -- the same test, of rules
  abbrev pub of_rule : ℕ → Bool
  of_rule rule = q (class_of rule) (severity_of rule)

  sheet-tally :
      (sheet names : List ℕ) (head : Rec (List ℕ) Span) (body : List (Rec (List ℕ) Span)) →
      rest (λ r. not (is Kind.Head r)) (records sheet names) ≡ head ∷ body →
      occurrences by_kind (full_list sheet names) ≡ rule_tally of_rule (body_violations (context_of (records sheet names)) (body_of head.sub) body)
  unfolding full_list found_in violations_of
  sheet-tally sheet names head body e =
      let ctx = context_of (records sheet names) in
      occurrences-map violation by_kind (violations_of ctx (records sheet names))
      ∙ ap (λ rs. rule_tally of_rule (declaration_violations ctx rs)) e

  module _ (◌~◌ : ℕ → ℕ → Type 0) (◌≈◌ : List (Item (Rec (List ℕ) Span)) → List (Item (Rec (List ℕ) Span)) → Type 0) where
    -- counts of bodies compare where their items are related, and what no item has is the same
    abbrev pub BodiesCompare : Type 0
    BodiesCompare =
        (ctx : ValidationContext (List ℕ) Span) →
        ctx.same ≡ same_bytes →
        (b : Body) (xs ys : List (Rec (List ℕ) Span)) →
        ◌≈◌ (items (starts_in b) xs) (items (starts_in b) ys) →
        SameBesideItems b xs ys →
        ◌~◌ (rule_tally of_rule (body_violations ctx b xs)) (rule_tally of_rule (body_violations ctx b ys))

    -- then counts of accepted sheets with the same lead and related items compare
    pub sheets-compare :
        BodiesCompare →
        (sheet names sheet' names' : List ℕ) →
        is_accepted sheet names ≡ true →
        is_accepted sheet' names' ≡ true →
        lead_of (records sheet names) ≡ lead_of (records sheet' names') →
        ◌≈◌ (items_of (records sheet names)) (items_of (records sheet' names')) →
        ◌~◌ (occurrences by_kind (full_list sheet names)) (occurrences by_kind (full_list sheet' names'))
    unfolding context_of
    sheets-compare bodies sheet names sheet' names' ok ok' lead related =
        let rs = records sheet names in
        let rs' = records sheet' names' in
        let p = accepted-parts same_bytes rs (accepted-clean sheet names ok) in
        let p' = accepted-parts same_bytes rs' (accepted-clean sheet' names' ok') in
        let f = same-frame p p' lead in
        let contexts = context-of-lead same_bytes rs p ∙ ap context_of lead ∙ sym (context-of-lead same_bytes rs' p') in
        let its = rw (f.items_are, f.items_are') at related in
        rw
        (sheet-tally sheet names f.head f.body f.begins, sheet-tally sheet' names' f.head f.body' f.begins', ← contexts)
        (bodies (context_of rs) refl (body_of f.head.sub) _ _ its f.beside)
