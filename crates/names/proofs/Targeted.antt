-- A table that leads from one name to another type says of all else what it said. If that type is the end of the name's chain, the chains that
-- the table gives end where they ended.
use Prim.Native.Nat.{ℕ, zero, suc, ◌+◌, ◌*◌, ◌<◌, ◌≤◌}
use native.Mathlib.Decide.{ℕ_discrete, dec_lt}
use native.Mathlib.Omega.{arith}
use mathlib.Core.Path.{◌≡◌, refl, sym, ap, ap₂, ◌∙◌}
use mathlib.Core.Bool.{Bool, true, false, not, true≢false}
use mathlib.Core.List.{List}
use mathlib.Core.Option.{Option, some, none}
use lib.ListN.{length, get_or, set}
use lib.Seq.{get_or-set_same, get_or-set_other, set_out}
use lib.Dec.{eqb, ltb}
use borrow.Author.Tests.{lt-ltb, le-ltb}
use Rattle.rules.specs.declared.span.Span.{Span}
use Rattle.rules.specs.Words.{within, number_if}
use Rattle.rules.specs.Kind
use Rattle.rules.specs.Record.{Rec, is}
use Rattle.rules.specs.Context.{ValidationContext, inner_type, behind, chain_end}
use Rattle.rules.specs.Refusals.{max_records}
use Rattle.rules.proofs.Chains.{is_some, chain-fixed}
use Rattle.names.specs.Codes.{last_word, blank_code, bit_code}
use Rattle.names.specs.View.{view_at, entry_of, id_part, declaration_part, import_part, target_part, code_part, declarations_of, declared_at, declared_by, context_by, targets_from, totals_from}
use Rattle.names.specs.SameEnds.{sub_of, leads_on, SameEnds, Lasting, with_target}
use Rattle.names.proofs.Shortened.{Next, kept, last, chain-step, short-ends, short-leads, short-lasting}

-- the store
pub target-in : (table : List ℕ) (i place : ℕ) → i < max_records → set table (targets_from + i) place ≡ with_target table i place
unfolding with_target
target-in table i place h = rw (lt-ltb i max_records h, with_target) refl

pub target-out : (table : List ℕ) (i place : ℕ) → max_records ≤ i → table ≡ with_target table i place
unfolding with_target
target-out table i place h = rw (le-ltb i max_records h, with_target) refl

module _ (table : List ℕ) (i place : ℕ) where
  -- a number elsewhere
  elsewhere : (k : ℕ) → ((i < max_records) → k ≡ targets_from + i → ⊥) → get_or (with_target table i place) k 0 ≡ get_or table k 0
  elsewhere k n = go (dec_lt i max_records)
    where
      go : Dec (i < max_records) → get_or (with_target table i place) k 0 ≡ get_or table k 0
      go (yes h) = rw (← target-in table i place h) (get_or-set_other table (targets_from + i) k place 0 (n h))
      go (no h) = rw (← target-out table i place (omega arith)) refl

  -- an entry of another part, or of another record
  pub other-entry : (part j : ℕ) → (part ≡ target_part → j ≡ i → ⊥) → entry_of part (with_target table i place) j ≡ entry_of part table j
  unfolding entry_of
  other-entry part j n = go (dec_lt j max_records)
    where
      differ : j < max_records → i < max_records → part * max_records + j ≡ targets_from + i → ⊥
      differ h l e = let same : part ≡ target_part = omega arith in n same (omega arith)

      go : Dec (j < max_records) → entry_of part (with_target table i place) j ≡ entry_of part table j
      go (yes h) = ap (λ (n : ℕ). number_if (ltb j max_records) n) (elsewhere (part * max_records + j) (differ h))
      go (no h) = rw (le-ltb j max_records (omega arith)) refl

  -- the entry itself
  pub own-entry : i < max_records → targets_from + i < length table → entry_of target_part (with_target table i place) i ≡ place
  unfolding entry_of
  own-entry h l = rw (lt-ltb i max_records h, ← target-in table i place h) (get_or-set_same table (targets_from + i) place 0 l)

-- the sub does not depend on the type
same-sub : (sheet : List ℕ) (d t t' : ℕ) → sub_of (declared_at sheet d t) ≡ sub_of (declared_at sheet d t')
same-sub sheet zero t t' = refl
same-sub sheet (suc d) t t' = refl

module _ (ctx : ValidationContext ℕ Span) where
  -- the type behind a type of a name
  named-behind : (r : Rec ℕ Span) → is Kind.Named r ≡ true → behind ctx r ≡ inner_type (ctx.decl_map r.name)
  unfolding behind
  named-behind r e = rw (e, behind)

  other-behind : (r : Rec ℕ Span) → is Kind.Named r ≡ false → behind ctx r ≡ none
  unfolding behind
  other-behind r e = rw (e, behind) refl

  pub undeclared-behind : (r : Rec ℕ Span) → ctx.decl_map r.name ≡ none → behind ctx r ≡ none
  undeclared-behind r e = go (is Kind.Named r) refl
    where
      go : (b : Bool) → is Kind.Named r ≡ b → behind ctx r ≡ none
      go true a = named-behind r a ∙ ap inner_type e
      go false a = other-behind r a

  -- a type that a chain goes on from has a name
  leads-named : (r : Rec ℕ Span) → leads_on ctx r ≡ true → is Kind.Named r ≡ true
  leads-named r h = go (is Kind.Named r) refl
    where
      go : (b : Bool) → is Kind.Named r ≡ b → b ≡ true
      go true e = refl
      go false e = absurd (true≢false (sym h ∙ ap is_some (other-behind r e)))

  -- types with the same type behind them have the same end
  same_end :
      (n : ℕ) (r q : Rec ℕ Span) → behind ctx r ≡ behind ctx q → leads_on ctx q ≡ true → behind ctx (chain_end ctx n q) ≡ none →
      chain_end ctx n r ≡ chain_end ctx n q
  unfolding chain_end
  same_end zero r q e h ended = absurd (true≢false (sym h ∙ ap is_some ended))
  same_end (suc n) r q e h ended = go (behind ctx q) refl
    where
      go : (o : Option (Rec ℕ Span)) → behind ctx q ≡ o → chain_end ctx (suc n) r ≡ chain_end ctx (suc n) q
      go none a = absurd (true≢false (sym h ∙ ap is_some a))
      go (some t) a = chain-step ctx n r t (e ∙ a) ∙ sym (chain-step ctx n q t a)

module _ (table sheet : List ℕ) (i e : ℕ) where
  abbrev ctx : ValidationContext ℕ Span
  ctx = context_by table sheet

  abbrev short : List ℕ
  short = with_target table i (suc e)

  abbrev ctx' : ValidationContext ℕ Span
  ctx' = context_by short sheet

  -- an entry of another part
  kept_entry : (part j : ℕ) → (part ≡ target_part → ⊥) → entry_of part short j ≡ entry_of part table j
  kept_entry part j n = other-entry table i (suc e) part j (λ h k. n h)

  other-declared : (j : ℕ) → (j ≡ i → ⊥) → declared_by short sheet j ≡ declared_by table sheet j
  unfolding declared_by
  other-declared j n =
      ap₂ (declared_at sheet) (kept_entry declaration_part j (λ h. omega arith)) (other-entry table i (suc e) target_part j (λ h k. n k))

  same-declared : (j : ℕ) → sub_of (declared_by table sheet j) ≡ sub_of (declared_by short sheet j)
  unfolding declared_by
  same-declared j =
      ap (λ d. sub_of (declared_at sheet d (entry_of target_part table j))) (sym (kept_entry declaration_part j (λ h. omega arith)))
      ∙ same-sub sheet (entry_of declaration_part short j) (entry_of target_part table j) (entry_of target_part short j)

  same_count : declarations_of table ≡ declarations_of short
  same_count = sym (elsewhere table i (suc e) 5121 (λ h k. omega arith))

  -- where the chain ends
  module _ (leads : leads_on (context_by table sheet) (view_at sheet i) ≡ true)
      (end : chain_end (context_by table sheet) (declarations_of table) (view_at sheet i) ≡ view_at sheet e)
      (ended : behind (context_by table sheet) (view_at sheet e) ≡ none) where
    -- the name leads to the end now
    inner-now : i < max_records → targets_from + i < length table → inner_type (declared_by short sheet i) ≡ some (view_at sheet e)
    unfolding declared_by context_by view_at
    inner-now h l = go (entry_of declaration_part table i) refl
      where
        goes : is_some (inner_type (declared_by table sheet i)) ≡ true
        goes = ap is_some (sym (named-behind ctx (view_at sheet i) (leads-named ctx (view_at sheet i) leads))) ∙ leads

        go : (d : ℕ) → entry_of declaration_part table i ≡ d → inner_type (declared_by short sheet i) ≡ some (view_at sheet e)
        go zero a = absurd (true≢false (sym goes ∙ ap (λ d. is_some (inner_type (declared_at sheet d (entry_of target_part table i)))) a))
        go (suc d) a =
            ap₂ (λ d t. inner_type (declared_at sheet d t)) (kept_entry declaration_part i (λ x. omega arith) ∙ a) (own-entry table i (suc e) h l)

    next : (r : Rec ℕ Span) → Next ctx r (behind ctx' r)
    unfolding context_by view_at
    next r = go (is Kind.Named r) refl (ℕ_discrete r.name i) (dec_lt i max_records) (dec_lt (targets_from + i) (length table))
      where
        same-table : table ≡ short → Next ctx r (behind ctx' r)
        same-table q = kept (ap (λ t. behind (context_by t sheet) r) (sym q))

        go : (b : Bool) → is Kind.Named r ≡ b → Dec (r.name ≡ i) → Dec (i < max_records) → Dec (targets_from + i < length table) → Next ctx r (behind ctx' r)
        go false a x y z = kept (other-behind ctx' r a ∙ sym (other-behind ctx r a))
        go true a (no n) y z =
            kept (named-behind ctx' r a ∙ ap inner_type (other-declared r.name n) ∙ sym (named-behind ctx r a))
        go true a (yes q) (no y) z = same-table (target-out table i (suc e) (omega arith))
        go true a (yes q) (yes y) (no z) =
            same-table (sym (set_out table (targets_from + i) (suc e) (omega arith)) ∙ target-in table i (suc e) y)
        go true a (yes q) (yes y) (yes z) =
            let own = leads-named ctx (view_at sheet i) leads in
            let same : behind ctx r ≡ behind ctx (view_at sheet i) =
            named-behind ctx r a ∙ ap (λ n. inner_type (declared_by table sheet n)) q ∙ sym (named-behind ctx (view_at sheet i) own) in
            let none-behind : behind ctx (chain_end ctx (declarations_of table) (view_at sheet i)) ≡ none = rw end ended in
            let ends = same_end ctx (declarations_of table) r (view_at sheet i) same leads none-behind in
            last (ap is_some same ∙ leads) (rw ends none-behind)
            (named-behind ctx' r a ∙ ap (λ n. inner_type (declared_by short sheet n)) q ∙ inner-now y z ∙ ap some (sym (ends ∙ end)))

    module _ (lasts : Lasting (context_by table sheet)) where
      pub target-same : SameEnds (context_by table sheet) (context_by (with_target table i (suc e)) sheet)
      unfolding context_by
      target-same =
          record {
            declared = same-declared;
            leads = short-leads ctx ctx' lasts same_count next;
            ends = short-ends ctx ctx' lasts same_count next;
            imported_names = λ t j. not (eqb (sym (kept_entry import_part j (λ h. omega arith)) t) 0);
            has_wildcard_import = ap (λ (n : ℕ). not (eqb n 0)) (sym (elsewhere table i (suc e) totals_from (λ h k. omega arith)));
            declarations = same_count;
            same = λ t j k. eqb (sym (kept_entry id_part j (λ h. omega arith)) t) (sym (kept_entry id_part k (λ h. omega arith)) t);
            word = λ t j. number_if (within 1 last_word (code j t)) (code j t);
            blank = λ t j. eqb (code j t) blank_code;
            is_valid_field_name = λ t j. eqb (code j t) bit_code;
          }
        where
          code : (j : ℕ) → entry_of code_part table j ≡ entry_of code_part short j
          code j = sym (kept_entry code_part j (λ h. omega arith))

      pub target-lasting : Lasting (context_by (with_target table i (suc e)) sheet)
      unfolding context_by
      target-lasting = short-lasting ctx ctx' lasts same_count next

    -- the rest of the chain ends there too
    pub rest_end : (q : Rec ℕ Span) → behind (context_by table sheet) (view_at sheet i) ≡ some q → chain_end (context_by table sheet) (declarations_of table) q ≡ view_at sheet e
    rest_end q a =
        let none-behind : behind ctx (chain_end ctx (declarations_of table) (view_at sheet i)) ≡ none = rw end ended in
        sym (chain-step ctx (declarations_of table) (view_at sheet i) q a)
        ∙ chain-fixed ctx (declarations_of table) (view_at sheet i) none-behind (suc (declarations_of table)) (omega arith)
        ∙ end
