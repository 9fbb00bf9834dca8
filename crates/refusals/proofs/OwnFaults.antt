-- Rows 3 to 5: what each test finds, and that the first of the three that passes gives the row.
use Prim.Native.Nat.{ℕ, zero, suc, ◌+◌, ◌≤◌, ◌<◌}
use native.Mathlib.Omega.{arith}
use native.Mathlib.Decide.{ℕ_discrete}
use Rattle.std.specs.Prelude as std
use mathlib.Core.Path.{◌≡◌, refl, sym, ap, ◌∙◌, subst}
use mathlib.Core.Bool.{Bool, true, false, not, ◌&&◌, ◌||◌, or-true}
use mathlib.Core.List.{List, []}
use mathlib.Core.Option.{some, none}
use lib.ListN.{length, get_or}
use lib.Dec.{eqb, ltb}
use borrow.Author.Tests.{eqb-false, lt-ltb, le-ltb, le-leb, lt-leb, ne_eqb}
use Rattle.rules.specs.Kind
use Rattle.rules.specs.Words.{number_if, member, look_up}
use Rattle.rules.specs.Record.{number_at, decode, kind_in, sub_in, clean_in, is_named_in, name_length, name_offset, fits_in, value_in}
use Rattle.rules.specs.Refusals.{is_unknown, is_too_great, own_fault}
use Rattle.sheet.proofs.Fields.{sub_read, ordinal-value}
use Rattle.refusals.specs.Answers.{limited, sub_limit}

-- byte 1 is the sub of a kind that has one
pub sub_at : (b : List ℕ) (kind sub key n : ℕ) → kind ≡ kind_in b → sub ≡ get_or b 1 0 → kind ≡ key → suc n ≡ Kind.sub_count key → sub ≡ sub_in b
sub_at b kind sub key n hk hs e hn = sub_read b kind hk (suc n) sub (hn ∙ ap Kind.sub_count (sym e)) (λ z. omega arith) hs

-- row 3: byte 1 is less than the limit just where the kind is known, and the sub if the kind has one
some-subs : (n : ℕ) → (n ≡ 0 → ⊥) → 0 < n
some-subs zero z = absurd (z refl)
some-subs (suc n) z = omega arith

limit-test : (n a : ℕ) → a < 256 → (z : Bool) → eqb n 0 ≡ z
    → ltb a (elim z [ true ↦ 256 | false ↦ n ]) ≡ (z || ltb (number_if (ltb 0 n) a) n)
limit-test n a h true e = lt-ltb a 256 h
limit-test n a h false e = sym (ap (λ (t : Bool). ltb (number_if t a) n) (lt-ltb 0 n (some-subs n (eqb-false n 0 e))))

unknown-limited : (known : Bool) (n a : ℕ) (clean : Bool) → a < 256 → (o : std.Option ℕ) → o ≡ limited known n
    → elim o [ std.None ↦ true | std.Some limit ↦ not (ltb a limit && clean) ] ≡ not (known && (eqb n 0 || ltb (number_if (ltb 0 n) a) n) && clean)
unknown-limited true n a clean h o e = rw e (ap (λ (t : Bool). not (t && clean)) (limit-test n a h (eqb n 0) refl))
unknown-limited false n a clean h o e = rw e refl

abbrev Missing : std.Option ℕ → Type 0
Missing std.None = Unit {0}
Missing (std.Some x) = ⊥

module _ (b : List ℕ) (kind : ℕ) (hk : kind ≡ kind_in b) (o : std.Option ℕ) (ho : o ≡ sub_limit kind) where
  unknown-by : (sub : ℕ) (clean : Bool) → sub ≡ get_or b 1 0 → sub < 256 → clean ≡ clean_in b
      → elim o [ std.None ↦ true | std.Some limit ↦ not (ltb sub limit && clean) ] ≡ is_unknown (decode [] b)
  unfolding decode sub_in
  unknown-by sub clean hs h256 hc =
      ap (λ (s : ℕ). elim o [ std.None ↦ true | std.Some limit ↦ not (ltb s limit && clean) ]) hs
      ∙ ap (λ (c : Bool). elim o [ std.None ↦ true | std.Some limit ↦ not (ltb (get_or b 1 0) limit && c) ]) hc
      ∙ unknown-limited (Kind.known (kind_in b)) (Kind.sub_count (kind_in b)) (get_or b 1 0) (clean_in b) (rw hs at h256) o (ho ∙ ap sub_limit hk)

  pub unknown_none : o ≡ std.None → true ≡ is_unknown (decode [] b)
  unfolding decode
  unknown_none e = go (Kind.known (kind_in b)) refl (sym e ∙ ho ∙ ap sub_limit hk)
    where
      go : (known : Bool) → Kind.known (kind_in b) ≡ known → std.None ≡ limited known (Kind.sub_count (kind_in b)) → true ≡ is_unknown (decode [] b)
      go true q n = absurd (subst Missing n tt)
      go false q n = rw q

  pub unknown_some : (limit : ℕ) → o ≡ std.Some limit → (sub : ℕ) (clean : Bool) → sub ≡ get_or b 1 0 → sub < 256 → clean ≡ clean_in b
      → not (ltb sub limit && clean) ≡ is_unknown (decode [] b)
  unknown_some limit e sub clean hs h256 hc = rw e at (unknown-by sub clean hs h256 hc)

-- row 4: of the kinds that may have a name, kind 60 alone is asked for its sub
pub named-read : (b : List ℕ) (kind sub : ℕ) → kind ≡ kind_in b → sub ≡ get_or b 1 0 → Kind.has_name kind sub ≡ is_named_in b
unfolding look_up
named-read b kind sub hk hs = go (ℕ_discrete kind 60)
  where
    go : Dec (kind ≡ 60) → Kind.has_name kind sub ≡ is_named_in b
    go (yes e) = ap (λ (n : ℕ). Kind.has_name kind n) (sub_at b kind sub 60 5 hk hs e refl) ∙ ap (λ (k : ℕ). Kind.has_name k (sub_in b)) hk
    go (no ne) =
        ap (λ (t : Bool). member kind Kind.with_name || t && eqb sub 5) (ne_eqb kind 60 ne)
        ∙ sym (ap (λ (t : Bool). member kind Kind.with_name || t && eqb (sub_in b) 5) (ne_eqb kind 60 ne))
        ∙ ap (λ (k : ℕ). Kind.has_name k (sub_in b)) hk

module _ (names b : List ℕ) (end : ℕ) (he : end ≡ name_offset b + name_length b) where
  pub cut_named : (kind sub : ℕ) (named : Bool) → length names < end → kind ≡ kind_in b → sub ≡ get_or b 1 0 → named ≡ Kind.has_name kind sub
      → named ≡ not (fits_in names b)
  unfolding fits_in
  cut_named kind sub named l hk hs hn =
      hn ∙ named-read b kind sub hk hs ∙ twice (is_named_in b)
      ∙ sym (ap (λ (t : Bool). not (not (is_named_in b) || t)) (lt-leb (name_offset b + name_length b) (length names) (rw he at l)))
    where
      twice : (n : Bool) → n ≡ not (not n || false)
      twice true = refl
      twice false = refl

  pub name_fits : end ≤ length names → false ≡ not (fits_in names b)
  unfolding fits_in
  name_fits l =
      sym (ap (λ (t : Bool). not (not (is_named_in b) || t)) (le-leb (name_offset b + name_length b) (length names) (rw he at l)) ∙ ap not (or-true (not (is_named_in b))))

-- row 5: the value of a kind with an ordinal is its eight bytes
module _ (b : List ℕ) (v : ℕ) (hv : v ≡ number_at 24 8 b) where
  great-as : (has : Bool) → has ≡ Kind.has_ordinal (kind_in b) → (great : Bool) → ltb 4294967295 v ≡ great → (has && great) ≡ (has && ltb 4294967295 (value_in b))
  great-as true h great e = sym e ∙ ap (λ (n : ℕ). ltb 4294967295 n) (ordinal-value b (kind_in b) refl true v h refl hv)
  great-as false h great e = refl

  pub great_read : (kind : ℕ) (has : Bool) → 4294967295 < v → kind ≡ kind_in b → has ≡ Kind.has_ordinal kind → has ≡ is_too_great (decode [] b)
  unfolding decode
  great_read kind has l hk hh =
      hh ∙ ap Kind.has_ordinal hk ∙ kept (Kind.has_ordinal (kind_in b)) ∙ great-as (Kind.has_ordinal (kind_in b)) refl true (lt-ltb 4294967295 v l)
    where
      kept : (h : Bool) → h ≡ (h && true)
      kept true = refl
      kept false = refl

  pub small_read : v ≤ 4294967295 → false ≡ is_too_great (decode [] b)
  unfolding decode
  small_read l = none (Kind.has_ordinal (kind_in b)) ∙ great-as (Kind.has_ordinal (kind_in b)) refl false (le-ltb 4294967295 v l)
    where
      none : (h : Bool) → false ≡ (h && false)
      none true = refl
      none false = refl

module _ (names b : List ℕ) (unknown : Bool) (hu : unknown ≡ is_unknown (decode [] b)) where
  pub own_unknown : unknown ≡ true → some 3 ≡ own_fault (decode names b)
  unfolding own_fault decode
  own_unknown t = rw (sym hu ∙ t)

  module _ (u : unknown ≡ false) (cut : Bool) (hf : cut ≡ not (fits_in names b)) where
    pub own_cut : cut ≡ true → some 4 ≡ own_fault (decode names b)
    unfolding own_fault decode
    own_cut t = rw (sym hu ∙ u, sym hf ∙ t)

    module _ (f : cut ≡ false) (great : Bool) (hg : great ≡ is_too_great (decode [] b)) where
      pub own_great : great ≡ true → some 5 ≡ own_fault (decode names b)
      unfolding own_fault decode
      own_great t = rw (sym hu ∙ u, sym hf ∙ f, sym hg ∙ t)

      pub own_none : great ≡ false → none ≡ own_fault (decode names b)
      unfolding own_fault decode
      own_none t = rw (sym hu ∙ u, sym hf ∙ f, sym hg ∙ t)
