-- What is noted of the first records. A record that declares or imports its name is noted at the name's id: a declaration unless one was noted
-- there before. No other record changes the notes.
use Prim.Native.Nat.{ℕ, zero, suc, ◌+◌, ◌<◌}
use native.Mathlib.Decide.{ℕ_discrete}
use native.Mathlib.Omega.{arith}
use native.Mathlib.Numerals.{add-one}
use mathlib.Core.Path.{◌≡◌, refl, ◌∙◌, sym, ap}
use mathlib.Core.Bool.{Bool, true, false, ◌&&◌, ◌||◌, and-false}
use mathlib.Core.List.{List, [], ◌∷◌, ◌++◌}
use lib.ListN.{length, get_or, take, set, length-set}
use lib.Seq.{take-suc, length-take-le}
use lib.Dec.{eqb}
use borrow.Author.Tests.{eq-eqb, ne_eqb}
use Rattle.rules.proofs.Lists.{or_swap}
use Rattle.rules.specs.declared.span.Span.{Span}
use Rattle.rules.specs.Kind
use Rattle.rules.specs.Words.{number_if, any_of}
use Rattle.rules.specs.Record.{Rec, decode, is, kind_in, record_bytes}
use Rattle.rules.specs.Asked.{is_compared}
use Rattle.rules.specs.Refusals.{max_records}
use Rattle.names.specs.NameTable.{place_of, is_named, is_keyed, id_in}
use Rattle.names.specs.Notes.{has_id, set_first, declaration_note, import_note, Read}
use Rattle.names.specs.Parts.{known, known_count, record_of}
use Rattle.names.proofs.FirstPlaces.{one_on}
use Rattle.names.proofs.Known.{length-known, known_at, known_bounds}
use Rattle.names.proofs.Numbers.{kind-tested}
use Rattle.names.proofs.SameIds.{has-id}
use Rattle.names.proofs.Stored.{part_same, part-set, part-ahead, part-behind}
use Rattle.names.specs.View.{declarations_from, imports_from}

-- a first place, where one more may be the first
abbrev or_else : ℕ → ℕ → ℕ
or_else zero v = v
or_else (suc n) v = suc n

module _ {A : Type 0} (p : A → Bool) (x : A) where
  place-more : (xs : List A) → place_of p (xs ++ (x ∷ [])) ≡ or_else (place_of p xs) (number_if (p x) (suc (length xs)))
  unfolding place_of
  place-more [] = go (p x)
    where
      go : (b : Bool) → ◌≡◌ {A = ℕ} (elim b [ true ↦ 1 | false ↦ 0 ]) (number_if b 1)
      go true = refl
      go false = refl
  place-more (y ∷ xs) = go (p y) (p x) (place_of p xs) (length xs) (place_of p (xs ++ (x ∷ []))) (place-more xs)
    where
      go :
          (b c : Bool) (m l r : ℕ) → r ≡ or_else m (number_if c (suc l)) →
          ◌≡◌ {A = ℕ} (elim b [ true ↦ 1 | false ↦ one_on r ]) (or_else (elim b [ true ↦ 1 | false ↦ one_on m ]) (number_if c (suc (suc l))))
      go true c m l r e = refl
      go false true zero l r e = ap one_on e
      go false false zero l r e = ap one_on e
      go false c (suc m) l r e = ap one_on e

  any-more : (xs : List A) → any_of p (xs ++ (x ∷ [])) ≡ (p x || any_of p xs)
  unfolding any_of
  any-more [] = refl
  any-more (y ∷ xs) = ap (p y ||◌) (any-more xs) ∙ or_swap (p y) (p x) (any_of p xs)

module _ (sheet names : List ℕ) (m : ℕ) (h : m < known_count sheet) where
  abbrev rs : List (Rec (List ℕ) Span)
  rs = known sheet names

  abbrev r : Rec (List ℕ) Span
  r = record_of sheet names m

  one_more : take (m + 1) rs ≡ take m rs ++ (r ∷ [])
  one_more = rw (add-one, take-suc rs m r (rw length-known h), known_at sheet names m r h)

  length_front : length (take m rs) ≡ m
  length_front = length-take-le m rs (rw length-known (omega arith))

  declaration-more : (k : ℕ) → declaration_note sheet names (m + 1) k ≡ or_else (declaration_note sheet names m k) (number_if (has_id Kind.Declaration rs k r) (suc m))
  unfolding declaration_note
  declaration-more k = rw (one_more, place-more (has_id Kind.Declaration rs k) r (take m rs), length_front)

  import-more : (k : ℕ) → import_note sheet names (m + 1) k ≡ number_if (has_id Kind.ImportedName rs k r || any_of (has_id Kind.ImportedName rs k) (take m rs)) 1
  unfolding import_note
  import-more k = rw (one_more, any-more (has_id Kind.ImportedName rs k) r (take m rs))

  -- a record that says nothing of the name
  declaration-kept : (k : ℕ) → has_id Kind.Declaration rs k r ≡ false → declaration_note sheet names m k ≡ declaration_note sheet names (m + 1) k
  declaration-kept k f = sym (declaration-more k ∙ rw f (none (declaration_note sheet names m k)))
    where
      none : (n : ℕ) → or_else n 0 ≡ n
      none zero = refl
      none (suc n) = refl

  import-kept : (k : ℕ) → has_id Kind.ImportedName rs k r ≡ false → import_note sheet names m k ≡ import_note sheet names (m + 1) k
  unfolding import_note
  import-kept k f = sym (import-more k ∙ rw f)

  -- what the record says of the name with id k
  has-test : (kind k : ℕ) → has_id kind rs k r ≡ ((is kind r && is_keyed r) && eqb (id_in rs m r) k)
  has-test kind k = rw (← known_at sheet names m r h) (has-id rs r m (rw length-known h) kind k)

  pub unnamed-silent : is_keyed r ≡ false → (kind k : ℕ) → has_id kind rs k r ≡ false
  unnamed-silent f kind k = has-test kind k ∙ rw (f, and-false)

  kind-silent : (kind : ℕ) → is kind r ≡ false → (k : ℕ) → has_id kind rs k r ≡ false
  kind-silent kind f k = has-test kind k ∙ rw f

  other-silent : (kind k id : ℕ) → id ≡ id_in rs m r → (id ≡ k → ⊥) → has_id kind rs k r ≡ false
  other-silent kind k id e differ = has-test kind k ∙ rw (ne_eqb (id_in rs m r) k (λ same. differ (e ∙ same)), and-false)

  says : (kind id : ℕ) → is kind r ≡ true → is_keyed r ≡ true → id ≡ id_in rs m r → has_id kind rs id r ≡ true
  says kind id f named e = has-test kind id ∙ rw (f, named, eq-eqb (id_in rs m r) id (sym e))

  module _ (t : List ℕ) (a : ℕ) (before : Read sheet names t a m) where
    pub noted-none :
        ((k : ℕ) → has_id Kind.Declaration rs k r ≡ false) → ((k : ℕ) → has_id Kind.ImportedName rs k r ≡ false) → Read sheet names t a (m + 1)
    noted-none d i =
        record {
          size = before.size;
          ids-part = before.ids-part;
          declaration-notes = part_same before.declaration-notes (λ k l. declaration-kept k (d k));
          import-notes = part_same before.import-notes (λ k l. import-kept k (i k));
          targets-part = before.targets-part;
          codes-part = before.codes-part;
        }

    module _ (id : ℕ) (small : id < max_records) (named : is_keyed r ≡ true) (e : id ≡ id_in rs m r) where
      pub noted-declaration :
          is Kind.Declaration r ≡ true → is Kind.ImportedName r ≡ false → (t' : List ℕ) → t' ≡ set_first t (declarations_from + id) (m + 1) →
          Read sheet names t' a (m + 1)
      unfolding set_first
      noted-declaration d i t' stored = rw stored (go (get_or t (declarations_from + id) 0) refl)
        where
          more : (n : ℕ) → get_or t (declarations_from + id) 0 ≡ n → declaration_note sheet names (m + 1) id ≡ or_else n (suc m)
          more n g =
              declaration-more id
              ∙ rw (says Kind.Declaration id d named e, ← before.declaration-notes.at id small, g)

          same : (n : ℕ) → get_or t (declarations_from + id) 0 ≡ suc n → (k : ℕ) → Dec (id ≡ k) → declaration_note sheet names m k ≡ declaration_note sheet names (m + 1) k
          same n g k (no differ) = declaration-kept k (other-silent Kind.Declaration k id e differ)
          same n g k (yes here) = rw (← here) (sym (before.declaration-notes.at id small) ∙ g ∙ sym (more (suc n) g))

          go : (n : ℕ) → get_or t (declarations_from + id) 0 ≡ n → Read sheet names (elim n [ zero ↦ set t (declarations_from + id) (m + 1) | suc l ↦ t ]) a (m + 1)
          go zero g =
              record {
                size = length-set t (declarations_from + id) (m + 1) ∙ before.size;
                ids-part = part-behind before.ids-part (declarations_from + id) (m + 1) (omega arith);
                declaration-notes = part-set before.declaration-notes id (m + 1) (omega (arith, before.size))
                    (λ k l differ. declaration-kept k (other-silent Kind.Declaration k id e differ)) (add-one m ∙ sym (more zero g));
                import-notes = part_same (part-ahead before.import-notes (declarations_from + id) (m + 1) (omega arith))
                    (λ k l. import-kept k (kind-silent Kind.ImportedName i k));
                targets-part = part-ahead before.targets-part (declarations_from + id) (m + 1) (omega arith);
                codes-part = part-ahead before.codes-part (declarations_from + id) (m + 1) (omega arith);
              }
          go (suc n) g =
              record {
                size = before.size;
                ids-part = before.ids-part;
                declaration-notes = part_same before.declaration-notes (λ k l. same n g k (ℕ_discrete id k));
                import-notes = part_same before.import-notes (λ k l. import-kept k (kind-silent Kind.ImportedName i k));
                targets-part = before.targets-part;
                codes-part = before.codes-part;
              }

      pub noted-import : is Kind.ImportedName r ≡ true → is Kind.Declaration r ≡ false → Read sheet names (set t (imports_from + id) 1) a (m + 1)
      noted-import i d =
          record {
            size = length-set t (imports_from + id) 1 ∙ before.size;
            ids-part = part-behind before.ids-part (imports_from + id) 1 (omega arith);
            declaration-notes = part_same (part-behind before.declaration-notes (imports_from + id) 1 (omega arith))
                (λ k l. declaration-kept k (kind-silent Kind.Declaration d k));
            import-notes = part-set before.import-notes id 1 (omega (arith, before.size))
                (λ k l differ. import-kept k (other-silent Kind.ImportedName k id e differ))
                (sym (import-more id ∙ rw (says Kind.ImportedName id i named e)));
            targets-part = part-ahead before.targets-part (imports_from + id) 1 (omega arith);
            codes-part = part-ahead before.codes-part (imports_from + id) 1 (omega arith);
          }

  -- what the record's kind says
  kind-is : (k : ℕ) → kind_in (record_bytes sheet m) ≡ k → is k r ≡ true
  unfolding record_of decode
  kind-is k f = eq-eqb (kind_in (record_bytes sheet m)) k f

  kind-is-not : (k : ℕ) → (kind_in (record_bytes sheet m) ≡ k → ⊥) → is k r ≡ false
  unfolding record_of decode
  kind-is-not k f = ne_eqb (kind_in (record_bytes sheet m)) k f

  pub says_nothing :
      (t : List ℕ) → Read sheet names t (m + 1) m → (kind_in (record_bytes sheet m) ≡ Kind.Declaration → ⊥) →
      (kind_in (record_bytes sheet m) ≡ Kind.ImportedName → ⊥) → Read sheet names t (m + 1) (m + 1)
  says_nothing t before d i =
      noted-none t (m + 1) before (kind-silent Kind.Declaration (kind-is-not Kind.Declaration d)) (kind-silent Kind.ImportedName (kind-is-not Kind.ImportedName i))

  module _ (named : is_named r ≡ true) (t : List ℕ) (before : Read sheet names t (m + 1) m) (id : ℕ) (small : id < max_records) (e : id ≡ id_in rs m r) where
    kind-keyed : (k : ℕ) → is_compared k ≡ true → kind_in (record_bytes sheet m) ≡ k → is_keyed r ≡ true
    kind-keyed k compared f =
        kind-tested sheet names m named (kind_in (record_bytes sheet m)) refl is_compared true (sym (ap is_compared f ∙ compared))

    pub says_declaration : kind_in (record_bytes sheet m) ≡ Kind.Declaration → (t' : List ℕ) → t' ≡ set_first t (declarations_from + id) (m + 1) → Read sheet names t' (m + 1) (m + 1)
    unfolding any_of
    says_declaration f =
        noted-declaration t (m + 1) before id small (kind-keyed Kind.Declaration refl f) e (kind-is Kind.Declaration f)
        (kind-is-not Kind.ImportedName (λ other. omega arith))

    pub says_import : kind_in (record_bytes sheet m) ≡ Kind.ImportedName → Read sheet names (set t (imports_from + id) 1) (m + 1) (m + 1)
    unfolding any_of
    says_import f =
        noted-import t (m + 1) before id small (kind-keyed Kind.ImportedName refl f) e (kind-is Kind.ImportedName f)
        (kind-is-not Kind.Declaration (λ other. omega arith))

-- what a record says of its name
pub ruleset notes = (says_nothing, known_bounds)
