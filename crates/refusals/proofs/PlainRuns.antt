-- A record of a run has no fault of its own, and its step is told by its kind: an imported name and a bit name leave the state as it is, and a type of
-- one part has the part that is due one deeper. So a run takes the pass as far as the steps of its records would.
use Prim.Native.Nat.{ℕ, zero, suc, ◌+◌, ◌-◌, ◌/◌, ◌≤◌, ◌<◌}
use native.Mathlib.Omega.{arith}
use native.Mathlib.Decide.{dec_lt, ℕ_discrete}
use mathlib.Core.Path.{◌≡◌, refl, sym, ap, ◌∙◌, subst}
use mathlib.Core.Bool.{Bool, true, false, not, ◌&&◌, ◌||◌, false≢true}
use mathlib.Core.List.{List, [], ◌∷◌}
use mathlib.Core.Option.{none}
use Rattle.std.specs.Prelude as std
use Rattle.std.specs.Prelude.{min, Ok, MatchOption, unwrap_or, ⊤}
use Rattle.names.specs.View.{view_at}
use lib.ListN.{length, get_or, drop}
use lib.Dec.{eqb, leb}
use Rattle.std.proofs.lemmas.Bool.{and_parts}
use borrow.Author.Tests.{eqb-true, leb-true, le-ltb, not-false}
use Rattle.rules.specs.Words.{within, look_up, any_of}
use Rattle.rules.specs.Kind
use Rattle.rules.specs.Kind.{type, condition, operand}
use Rattle.rules.specs.Record.{record_bytes, decode, kind_in, sub_in, clean_in, is_named_in, fits_in, name_offset, name_length, is_renaming, records}
use Rattle.rules.specs.Grammar as Grammar
use Rattle.rules.specs.Grammar.{Due, due_at, none_due, lifted, step, context_step, field_list_step, field_step, type_step, part_step}
use Rattle.rules.specs.Refusals.{own_fault}
use Rattle.rules.proofs.Taken.{within-true}
use Rattle.grammar.specs.declared.state.Body.{Body}
use Rattle.grammar.specs.declared.state.Item.{Item}
use Rattle.grammar.specs.declared.state.State.{State}
use Rattle.grammar.specs.Due.{bare, room, deepened}
use Rattle.grammar.specs.States.{type_with, in_body, state_of}
use Rattle.refusals.specs.Pass.{or_second, record_step_by, first_fault_by, Ended}
use Rattle.refusals.specs.Runs.{is_import, is_bit_name, is_nest, Plain, Ran, at}
use Rattle.refusals.proofs.OwnFaults.{own_none, name_fits}
use Rattle.refusals.proofs.Passes.{grammar_then, pass_again}

-- the kinds of types of one part
nest-cases : (P : ℕ → Type 0) (kind : ℕ) → within Kind.Optional Kind.Set kind ≡ true → P 36 → P 37 → P 38 → P 39 → P kind
nest-cases P kind h p q r s = go (ℕ_discrete kind 36) (ℕ_discrete kind 37) (ℕ_discrete kind 38)
  where
    go : Dec (kind ≡ 36) → Dec (kind ≡ 37) → Dec (kind ≡ 38) → P kind
    go (yes e) d f = subst P (sym e) p
    go (no _) (yes e) f = subst P (sym e) q
    go (no _) (no _) (yes e) = subst P (sym e) r
    go (no a) (no b) (no c) =
        let between : (36 ≤ kind) × (kind ≤ 39) = within-true 36 39 kind h in
        let e : 39 ≡ kind = omega (arith, a, b, c) in
        subst P e s

-- a kind that is known, without subs and without an ordinal, and no declaration's
record Quiet (kind : ℕ) : Type 0 where
  known : Kind.known kind ≡ true
  subs : eqb (Kind.sub_count kind) 0 ≡ true
  ordinal : Kind.has_ordinal kind ≡ false
  other : eqb kind Kind.Declaration ≡ false

quiet-import : (kind : ℕ) → is_import kind ≡ true → Quiet kind
unfolding look_up any_of
quiet-import kind h = subst Quiet (sym (eqb-true kind 2 h)) (record { known = refl; subs = refl; ordinal = refl; other = refl })

quiet-bit-name : (kind : ℕ) → is_bit_name kind ≡ true → Quiet kind
unfolding look_up any_of
quiet-bit-name kind h = subst Quiet (sym (eqb-true kind 22 h)) (record { known = refl; subs = refl; ordinal = refl; other = refl })

quiet-nest : (kind : ℕ) → is_nest kind ≡ true → Quiet kind
unfolding look_up any_of
quiet-nest kind h =
    nest-cases Quiet kind h (record { known = refl; subs = refl; ordinal = refl; other = refl })
    (record { known = refl; subs = refl; ordinal = refl; other = refl }) (record { known = refl; subs = refl; ordinal = refl; other = refl })
    (record { known = refl; subs = refl; ordinal = refl; other = refl })

-- rows 3 to 5 let a plain record pass
known-sub : (known unsubbed less clean : Bool) → known ≡ true → unsubbed ≡ true → clean ≡ true → false ≡ not (known && (unsubbed || less) && clean)
known-sub known unsubbed less clean k u c = rw (k, u, c)

no-ordinal : (has great : Bool) → has ≡ false → false ≡ (has && great)
no-ordinal has great h = rw h

module _ (names b : List ℕ) (kind : ℕ) (quiet : Quiet kind) (k : kind_in b ≡ kind) where
  own-quiet : clean_in b ≡ true → fits_in names b ≡ true → none ≡ own_fault (decode names b)
  unfolding decode
  own-quiet c f =
      own_none names b false
      (known-sub (Kind.known (kind_in b)) (eqb (Kind.sub_count (kind_in b)) 0) _ (clean_in b) (ap Kind.known k ∙ quiet.known)
      (ap (λ (n : ℕ). eqb (Kind.sub_count n) 0) k ∙ quiet.subs) c)
      refl false (sym (ap not f)) refl false (no-ordinal (Kind.has_ordinal (kind_in b)) _ (ap Kind.has_ordinal k ∙ quiet.ordinal)) refl

  -- and the step is told by the kind
  quiet_step :
      (second : Bool) (g t : Grammar.State) → clean_in b ≡ true → fits_in names b ≡ true → step g (bare kind (sub_in b)) ≡ Grammar.to t →
      Grammar.to t ≡ record_step_by second g (decode names b)
  quiet_step second g t c f h =
      grammar_then names b second g (Ok tt) (own-quiet c f) (Grammar.to t) tt refl
      (sym (ap (λ (x : Grammar.Step Grammar.State). or_second (eqb (kind_in b) 1 && second) x) (ap (λ (n : ℕ). step g (bare n (sub_in b))) k ∙ h)
      ∙ ap (λ (one : Bool). or_second (one && second) (Grammar.to t)) (ap (λ (n : ℕ). eqb n 1) k ∙ quiet.other)))

-- the steps
import-step : (kind sub : ℕ) → is_import kind ≡ true → step Grammar.start (bare kind sub) ≡ Grammar.to Grammar.start
unfolding step context_step
import-step kind sub h = rw (eqb-true kind 2 h)

bit-step : (ds : List Due) (kind sub : ℕ) → is_bit_name kind ≡ true → step (in_body Body.Message Item.BitNames ds) (bare kind sub) ≡ Grammar.to (in_body Body.Message Item.BitNames ds)
unfolding step field_list_step field_step type_step
bit-step [] kind sub h = rw (eqb-true kind 22 h)
bit-step (d ∷ ds) kind sub h = rw (eqb-true kind 22 h)

abbrev in_field : Grammar.Step (List Due) → Grammar.Step Grammar.State
in_field x = lifted Grammar.message (lifted Grammar.field (lifted Grammar.typed (lifted (type_with false) x)))

module _ (depth : ℕ) (ds : List Due) (kind sub : ℕ) (d : depth ≤ 64) (h : is_nest kind ≡ true) where
  nest-part : part_step (due_at depth type ∷ ds) (bare kind sub) ≡ Grammar.to (due_at (suc depth) type ∷ ds)
  unfolding part_step Kind.parts_of
  nest-part =
      nest-cases (λ (n : ℕ). part_step (due_at depth type ∷ ds) (bare n sub) ≡ Grammar.to (due_at (suc depth) type ∷ ds)) kind h
      (rw (part_step, le-ltb 64 depth d)) (rw (part_step, le-ltb 64 depth d)) (rw (part_step, le-ltb 64 depth d)) (rw (part_step, le-ltb 64 depth d))

  -- a step of the part is one of the type, of the field and of the message
  nest-field : step (in_body Body.Message Item.Typed (due_at depth type ∷ ds)) (bare kind sub) ≡ in_field (part_step (due_at depth type ∷ ds) (bare kind sub))
  unfolding step field_list_step field_step type_step
  nest-field =
      nest-cases (λ (n : ℕ). step (in_body Body.Message Item.Typed (due_at depth type ∷ ds)) (bare n sub) ≡ in_field (part_step (due_at depth type ∷ ds) (bare n sub))) kind h
      refl refl refl refl

  nest_step : step (in_body Body.Message Item.Typed (due_at depth type ∷ ds)) (bare kind sub) ≡ Grammar.to (in_body Body.Message Item.Typed (due_at (suc depth) type ∷ ds))
  nest_step = nest-field ∙ ap in_field nest-part

-- the pass over a run, by the state after each of its records
module _ (second : ℕ → Bool) (sheet names : List ℕ) where
  run :
      (g : ℕ → Grammar.State) (i n : ℕ) → i + n ≤ length sheet / 32 →
      ((k : ℕ) → k < n → Grammar.to (g (suc k)) ≡ record_step_by (second (i + k)) (g k) (decode names (record_bytes sheet (i + k)))) →
      first_fault_by second (g n) (i + n) (drop (i + n) (records sheet names)) ≡ first_fault_by second (g 0) i (drop i (records sheet names))
  run g i zero h steps = let same : i + 0 ≡ i = omega arith in rw same
  run g i (suc n) h steps =
      let next : i + suc n ≡ i + n + 1 = omega arith in
      rw next (
      pass_again second sheet names (g n) (i + n) _ (run g i n (omega arith) (λ k l. steps k (omega arith))) (g (suc n)) (omega arith)
      (steps n (omega arith))
      )

module _ (is_in : ℕ → Bool) (quiet : (kind : ℕ) → is_in kind ≡ true → Quiet kind) (sheet names : List ℕ) (i r n : ℕ) (first : i ≤ r) (last : r ≤ n) (all : n ≡ length sheet / 32)
    (plain : (j : ℕ) → i ≤ j → j < r → Plain is_in names (record_bytes sheet j)) where
  -- no record of a run is a newtype
  run-ended : (end : ℕ) → Ended sheet end i → Ended sheet end r
  unfolding view_at
  run-ended end h = record { within = omega (arith, h.within); none = λ j a b. by j a b (dec_lt j i) }
    where
      by : (j : ℕ) → end ≤ j → j < r → Dec (j < i) → is_renaming (view_at sheet j) ≡ false
      by j a b (yes l) = h.none j a l
      by j a b (no l) = rw (quiet (kind_in (record_bytes sheet j)) (plain j (omega arith) b).kind).other refl

  -- the states after its records are those told by their kinds
  run-same :
      (g : ℕ → Grammar.State) → ((k kind sub : ℕ) → k < r - i → is_in kind ≡ true → step (g k) (bare kind sub) ≡ Grammar.to (g (suc k))) → (second : ℕ → Bool) →
      first_fault_by second (g (r - i)) r (drop r (records sheet names)) ≡ first_fault_by second (g 0) i (drop i (records sheet names))
  run-same g steps second =
      let end : i + (r - i) ≡ r = omega arith in
      rw end at (run second sheet names g i (r - i) (omega arith) (λ k l. one k l (plain (i + k) (omega arith) (omega arith))))
    where
      one : (k : ℕ) → k < r - i → Plain is_in names (record_bytes sheet (i + k)) → Grammar.to (g (suc k)) ≡ record_step_by (second (i + k)) (g k) (decode names (record_bytes sheet (i + k)))
      one k l p =
          quiet_step names (record_bytes sheet (i + k)) (kind_in (record_bytes sheet (i + k))) (quiet _ p.kind) refl (second (i + k)) (g k) (g (suc k)) p.clean
          p.fits (steps k (kind_in (record_bytes sheet (i + k))) (sub_in (record_bytes sheet (i + k))) l p.kind)

  ran-stays :
      (s : State) (ds : List Due) → ((kind sub : ℕ) → is_in kind ≡ true → step (state_of s ds) (bare kind sub) ≡ Grammar.to (state_of s ds)) →
      Ran sheet names s ds ds i r
  ran-stays s ds steps =
      record { least = first; most = omega arith; same = run-same (λ k. state_of s ds) (λ k kind sub l h. steps kind sub h); ended = run-ended }

-- types of one part have the part that is due one deeper each
module _ (sheet names : List ℕ) (i r n : ℕ) (first : i ≤ r) (last : r ≤ n) (all : n ≡ length sheet / 32) (plain : (j : ℕ) → i ≤ j → j < r → Plain is_nest names (record_bytes sheet j)) where
  ran-deeper : (depth : ℕ) (ds : List Due) → r ≤ i + (65 - depth) →
      Ran sheet names (at Body.Message Item.Typed) (due_at depth type ∷ ds) (due_at (depth + (r - i)) type ∷ ds) i r
  unfolding state_of
  ran-deeper depth ds few =
      record {
        least = first;
        most = omega arith;
        same = λ second. rw none_more at (run-same is_nest quiet-nest sheet names i r n first last all plain deeper steps second);
        ended = run-ended is_nest quiet-nest sheet names i r n first last all plain;
      }
    where
      deeper : ℕ → Grammar.State
      deeper k = in_body Body.Message Item.Typed (due_at (depth + k) type ∷ ds)

      none_more : depth + 0 ≡ depth
      none_more = omega arith

      steps : (k kind sub : ℕ) → k < r - i → is_nest kind ≡ true → step (deeper k) (bare kind sub) ≡ Grammar.to (deeper (suc k))
      steps k kind sub l h =
          let next : depth + suc k ≡ suc (depth + k) = omega arith in
          rw next (nest_step (depth + k) ds kind sub (omega arith) h)

  ran-first : (part : Kind.Part) (depth : ℕ) (ds : List Due) → (room (due_at depth part ∷ ds) ≡ 0 → ⊥) → r ≤ i + room (due_at depth part ∷ ds) →
      Ran sheet names (at Body.Message Item.Typed) (due_at depth part ∷ ds) (deepened (r - i) (due_at depth part ∷ ds)) i r
  ran-first type depth ds some few = let fit : min (r - i) (65 - depth) ≡ r - i = omega arith in rw fit (ran-deeper depth ds few)
  ran-first condition depth ds some few = absurd (some refl)
  ran-first operand depth ds some few = absurd (some refl)

  pub ran_nests : (ds after : List Due) → (room ds ≡ 0 → ⊥) → r ≤ i + room ds → after ≡ deepened (r - i) ds →
      Ran sheet names (at Body.Message Item.Typed) ds after i r
  ran_nests [] after some few e = absurd (some refl)
  ran_nests (d ∷ ds) after some few e = rw e (ran-first d.part d.depth ds some few)

-- no record is passed
pub ran_none : (sheet names : List ℕ) (s : State) (ds : List Due) (i : ℕ) → i ≤ length sheet / 32 → Ran sheet names s ds ds i i
ran_none sheet names s ds i l = record { least = omega arith; most = omega arith; same = λ second. refl; ended = λ end h. h }

pub ran_at :
    (sheet names : List ℕ) (before after : List Due) (i r : ℕ) (s : State) (body : Body) → s.body ≡ body → Ran sheet names (at body s.item) before after i r →
    Ran sheet names s before after i r
ran_at sheet names before after i r s body e h = subst (λ (b : Body). Ran sheet names (at b s.item) before after i r) (sym e) h

-- a bit name where one may come
pub ran_bits :
    (sheet names : List ℕ) (ds : List Due) (item : Item) (i r n : ℕ) → n ≡ length sheet / 32 → item ≡ Item.BitNames →
    i ≤ r → r ≤ n → ((j : ℕ) → i ≤ j → j < r → Plain is_bit_name names (record_bytes sheet j)) → Ran sheet names (at Body.Message item) ds ds i r
unfolding state_of
ran_bits sheet names ds item i r n all e first last plain =
    rw e (ran-stays is_bit_name quiet-bit-name sheet names i r n first last all plain (at Body.Message Item.BitNames) ds (bit-step ds))

-- an imported name where one may come
pub ran_imports :
    (sheet names : List ℕ) (ds : List Due) (item : Item) (i r n : ℕ) → n ≡ length sheet / 32 → none_due ds ≡ true → item ≡ Item.Between →
    i ≤ r → r ≤ n → ((j : ℕ) → i ≤ j → j < r → Plain is_import names (record_bytes sheet j)) → Ran sheet names (at Body.Context item) ds ds i r
unfolding state_of
ran_imports sheet names [] item i r n all empty e first last plain =
    rw e (ran-stays is_import quiet-import sheet names i r n first last all plain (at Body.Context Item.Between) [] import-step)
ran_imports sheet names (d ∷ ds) item i r n all empty e first last plain = absurd (false≢true empty)

-- what the tests of a record say
pub plain_named :
    (names b : List ℕ) (wanted end : ℕ) → end ≡ name_offset b + name_length b →
    (eqb (get_or b 3 0) 0 && eqb (get_or b 0 0) wanted && leb end (length names)) ≡ true → Plain (λ n. eqb n wanted) names b
plain_named names b wanted end he h =
    let front : ((eqb (get_or b 3 0) 0 && eqb (get_or b 0 0) wanted) ≡ true) × (leb end (length names) ≡ true) =
    and_parts (eqb (get_or b 3 0) 0 && eqb (get_or b 0 0) wanted) (leb end (length names)) h in
    let first : (eqb (get_or b 3 0) 0 ≡ true) × (eqb (get_or b 0 0) wanted ≡ true) = and_parts (eqb (get_or b 3 0) 0) (eqb (get_or b 0 0) wanted) front.0 in
    record {
      kind = first.1;
      clean = first.0;
      fits = not-false (fits_in names b) (sym (name_fits names b end he (leb-true end (length names) front.1)));
    }

pub plain_nest : (names b : List ℕ) → (clean_in b && is_nest (kind_in b)) ≡ true → Plain is_nest names b
unfolding fits_in any_of
plain_nest names b h =
    let first = and_parts (clean_in b) (is_nest (kind_in b)) h in
    record { kind = first.1; clean = first.0; fits = rw (unnamed first.1) }
  where
    unnamed : is_nest (kind_in b) ≡ true → is_named_in b ≡ false
    unnamed n = nest-cases (λ (n : ℕ). Kind.has_name n (sub_in b) ≡ false) (kind_in b) n refl refl refl refl

-- where a search ends
pub found_end :
    (i n end : ℕ) (No : ℕ → Type 0) (found : std.Option ℕ) → end ≡ unwrap_or found n →
    MatchOption found ((k : ℕ) → i ≤ k → k < n → No k) (λ e. (i ≤ e) × (e < n) × ⊤ × ((k : ℕ) → i ≤ k → k < e → No k)) →
    (k : ℕ) → i ≤ k → k < end → No k
found_end i n end No std.None h all k a b = all k a (rw h at b)
found_end i n end No (std.Some e) h at k a b = at.3 k a (rw h at b)
