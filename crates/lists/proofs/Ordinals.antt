-- What is found at an ordinal is what its rules find, one after the other.
use Prim.Native.Nat.{ℕ}
use mathlib.Core.Bool.{Bool, true, false, not, ◌&&◌, true≢false}
use mathlib.Core.List.{List, append-nil, flat_map}
use mathlib.Core.Path.{◌≡◌, refl, sym, ap, ◌∙◌}
use lib.Dec.{leb, ltb}
use borrow.Author.Tests.{leb-true, le-ltb}
use Rattle.rules.specs.Record.{record_bytes, span_in, ordinal_span_in, value_in}
use Rattle.rules.specs.Rule.{found_if}
use Rattle.rules.specs.RuleNumber.{rule_number}
use Rattle.rules.specs.declared.rule.Rule.TheVariants.{OrdinalTooLarge, OrdinalReusedAfterRemoved, OrdinalDuplicate}
use Rattle.rules.specs.Bodies.{max_field_ordinal, field_scheme}
use Rattle.names.specs.View.{view_at}
use Rattle.diagnostic.specs.declared.violations.Violations.{Violations}
use Rattle.diagnostic.specs.Violations.{Adds}
use Rattle.diagnostic.proofs.Added.{adds_none, adds_then}
use Rattle.lists.specs.declared.ordinal.OrdinalRules.{OrdinalRules}
use Rattle.lists.specs.Ordinal.{scheme_of, member_found}

-- rules 2 to 4
abbrev field_rules : OrdinalRules
field_rules = record { greatest = max_field_ordinal; too_large = OrdinalTooLarge; reused = OrdinalReusedAfterRemoved; duplicate = OrdinalDuplicate }

module _ (sheet : List ℕ) (i : ℕ) (tombstoned met : Bool) where
  -- the rules of an ordinal, one after the other
  pub ordinal_found :
      (rules : OrdinalRules) (ordinal : ℕ) (old large reused now : Violations) → ordinal ≡ value_in (record_bytes sheet i) →
      Adds old large (found_if (rule_number rules.too_large) (ltb rules.greatest ordinal) (ordinal_span_in (record_bytes sheet i))) →
      Adds large reused (found_if (rule_number rules.reused) tombstoned (ordinal_span_in (record_bytes sheet i))) →
      Adds reused now (found_if (rule_number rules.duplicate) (not tombstoned && met) (ordinal_span_in (record_bytes sheet i))) →
      Adds old now (member_found (scheme_of rules) tombstoned met false (view_at sheet i))
  unfolding member_found view_at flat_map
  ordinal_found rules ordinal old large reused now read first second third =
      simp append-nil (adds_then _ _ _ _ _ (adds_then _ _ _ _ _ (rw read at first) second) third)

  -- no rule is against it
  pub ordinal_fine :
      (rules : OrdinalRules) (ordinal : ℕ) (vs : Violations) → ordinal ≡ value_in (record_bytes sheet i) →
      ((not tombstoned && not met) && leb ordinal rules.greatest) ≡ true → Adds vs vs (member_found (scheme_of rules) tombstoned met false (view_at sheet i))
  unfolding member_found view_at flat_map
  ordinal_fine rules ordinal vs read fine = go tombstoned met refl refl
    where
      go : (t m : Bool) → tombstoned ≡ t → met ≡ m → Adds vs vs (member_found (scheme_of rules) tombstoned met false (view_at sheet i))
      go true m gone again = absurd (true≢false (sym (rw gone at fine)))
      go false true gone again = absurd (true≢false (sym (rw (gone, again) at fine)))
      go false false gone again =
          let under : ltb rules.greatest (value_in (record_bytes sheet i)) ≡ false =
          ap (ltb rules.greatest) (sym read) ∙ le-ltb rules.greatest ordinal (leb-true ordinal rules.greatest (rw (gone, again) at fine)) in
          rw (gone, again, under) (adds_none vs)

  -- a field's ordinal, and then its name
  pub named_found :
      (renamed : Bool) (old mid now : Violations) →
      Adds old mid (member_found (scheme_of field_rules) tombstoned met false (view_at sheet i)) →
      Adds mid now (found_if 5 renamed (span_in (record_bytes sheet i))) →
      Adds old now (member_found field_scheme tombstoned met renamed (view_at sheet i))
  unfolding member_found view_at flat_map
  named_found renamed old mid now ordinal name = simp append-nil (simp append-nil at (adds_then _ _ _ _ _ ordinal name))
