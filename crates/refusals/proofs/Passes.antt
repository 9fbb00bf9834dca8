-- The pass: each turn takes one record off the list of those that are left, and what is left to find from there is what was to find at first.
use Prim.Native.Nat.{ℕ, suc, ◌+◌, ◌/◌, ◌<◌, ◌≤◌}
use native.Mathlib.Omega.{arith}
use native.Mathlib.Decide.{dec_lt}
use native.Mathlib.Numerals.{add-one}
use mathlib.Core.Path.{◌≡◌, refl, sym, ap, ◌∙◌, subst}
use mathlib.Core.Bool.{Bool, true, false, not, ◌&&◌}
use mathlib.Core.List.{List, []}
use Rattle.std.specs.Prelude.{Result, Ok, Err}
use mathlib.Core.Option.{Option, some, none}
use lib.ListN.{length, get_or, drop}
use lib.Dec.{eqb}
use Rattle.rules.specs.Words.{look_up}
use Rattle.rules.specs.Record.{record_bytes, decode, kind_in, sub_in, is_renaming, records}
use Rattle.rules.specs.Grammar as Grammar
use Rattle.rules.specs.Grammar.{Due}
use Rattle.rules.specs.Refusals.{Fault, own_fault}
use Rattle.rules.specs.Answer.{number_of}
use Rattle.rules.specs.declared.answer.Refusal.{Refusal}
use Rattle.rules.specs.declared.answer.Refused.{Refused}
use Rattle.rules.proofs.Records.{records-drop, records-end}
use Rattle.names.specs.View.{entry_of, declaration_part, view_at}
use Rattle.grammar.specs.declared.state.State.{State}
use Rattle.refusals.specs.Answers.{own_of, told_at}
use Rattle.grammar.specs.Due.{bare}
use Rattle.grammar.specs.States.{start_state, state_of}
use Rattle.refusals.specs.Pass.{is_second, or_second, record_step_by, first_fault_by, Ended}
use Rattle.refusals.proofs.OwnFaults.{sub_at}
use Rattle.grammar.proofs.KindOnly.{step-kind, step-sub}

pub second_read : (table : List ℕ) (i d : ℕ) → d ≡ entry_of declaration_part table i → not (eqb d (i + 1)) ≡ is_second table i
second_read table i d e = rw (e, add-one)

-- rows 6 to 8
step_read : (g : Grammar.State) (b : List ℕ) (kind sub : ℕ) → kind ≡ kind_in b → sub ≡ get_or b 1 0
    → Grammar.step g (bare kind sub) ≡ Grammar.step g (bare (kind_in b) (sub_in b))
unfolding look_up
step_read g b kind sub hk hs =
    step-sub kind sub (sub_in b) (λ e. sub_at b kind sub 1 9 hk hs e refl) (λ e. sub_at b kind sub 10 4 hk hs e refl) g
    ∙ ap (λ (k : ℕ). Grammar.step g (bare k (sub_in b))) hk

module _ (g : Grammar.State) (b : List ℕ) (kind sub : ℕ) (hk : kind ≡ kind_in b) (hs : sub ≡ get_or b 1 0) (second : Bool) where
  grammar-stepped : (x : Grammar.Step Grammar.State) (two : Bool) → x ≡ Grammar.step g (bare kind sub) → (eqb kind 1 && second) ≡ two
      → or_second two x ≡ or_second (eqb (kind_in b) 1 && second) (Grammar.step g (bare (kind_in b) (sub_in b)))
  grammar-stepped x two h e =
      ap (or_second two) (h ∙ step_read g b kind sub hk hs)
      ∙ ap (λ (t : Bool). or_second t (Grammar.step g (bare (kind_in b) (sub_in b)))) (sym e ∙ ap (λ (k : ℕ). eqb k 1 && second) hk)

  pub grammar_fault : (n : ℕ) → Grammar.fault n ≡ Grammar.step g (bare kind sub)
      → Grammar.fault n ≡ or_second (eqb (kind_in b) 1 && second) (Grammar.step g (bare (kind_in b) (sub_in b)))
  grammar_fault n h = grammar-stepped (Grammar.fault n) (eqb kind 1 && second) h refl

  pub grammar_second : (t : Grammar.State) → Grammar.to t ≡ Grammar.step g (bare kind sub) → (eqb kind 1 && second) ≡ true
      → Grammar.fault 8 ≡ or_second (eqb (kind_in b) 1 && second) (Grammar.step g (bare (kind_in b) (sub_in b)))
  grammar_second t h e = grammar-stepped (Grammar.to t) true h e

  pub grammar_first : (t : Grammar.State) → Grammar.to t ≡ Grammar.step g (bare kind sub) → (eqb kind 1 && second) ≡ false
      → Grammar.to t ≡ or_second (eqb (kind_in b) 1 && second) (Grammar.step g (bare (kind_in b) (sub_in b)))
  grammar_first t h e = grammar-stepped (Grammar.to t) false h e

-- rows 3 to 5 first
abbrev own_then : Grammar.Step Grammar.State → Option ℕ → Grammar.Step Grammar.State
own_then x o = elim o [ some n ↦ Grammar.fault n | none ↦ x ]

module _ (names b : List ℕ) (second : Bool) (g : Grammar.State) (o : Result (Unit {0}) Refusal) (ho : own_of o ≡ own_fault (decode names b)) where
  pub own_first : (why : Refusal) → o ≡ Err why → Grammar.fault (number_of why) ≡ record_step_by second g (decode names b)
  unfolding record_step_by
  own_first why e = ap (own_then (or_second (eqb (decode names b).kind 1 && second) (Grammar.step g (decode names b)))) (sym (ap own_of e) ∙ ho)

  pub grammar_then : (x : Grammar.Step Grammar.State) (passed : Unit {0}) → o ≡ Ok passed
      → x ≡ or_second (eqb (kind_in b) 1 && second) (Grammar.step g (bare (kind_in b) (sub_in b))) → x ≡ record_step_by second g (decode names b)
  unfolding record_step_by decode
  grammar_then x passed e h =
      h ∙ ap (or_second (eqb (kind_in b) 1 && second)) (sym (step-kind (decode names b) g))
      ∙ ap (own_then (or_second (eqb (kind_in b) 1 && second) (Grammar.step g (decode names b)))) (sym (ap own_of e) ∙ ho)

-- one record is taken off
module _ (second : ℕ → Bool) (sheet names : List ℕ) where
  abbrev turn : ℕ → Grammar.Step Grammar.State → Option Fault
  turn i x = elim x [ Grammar.fault n ↦ some (record { number = n; index = i }) | Grammar.to t ↦ first_fault_by second t (suc i) (drop (i + 1) (records sheet names)) ]

  turned : (g : Grammar.State) (i : ℕ) (x : Grammar.Step Grammar.State) → i < length sheet / 32
      → x ≡ record_step_by (second i) g (decode names (record_bytes sheet i)) → first_fault_by second g i (drop i (records sheet names)) ≡ turn i x
  unfolding first_fault_by
  turned g i x h e = rw (records-drop sheet names i h) (ap (turn i) (sym e))

  module _ (g : Grammar.State) (i : ℕ) (all : Option Fault) (inv : first_fault_by second g i (drop i (records sheet names)) ≡ all) where
    pub pass_fault : (n : ℕ) → i < length sheet / 32 → Grammar.fault n ≡ record_step_by (second i) g (decode names (record_bytes sheet i))
        → some (record { number = n; index = i }) ≡ all
    pass_fault n h e = sym (turned g i (Grammar.fault n) h e) ∙ inv

    pub pass_again : (t : Grammar.State) → i < length sheet / 32 → Grammar.to t ≡ record_step_by (second i) g (decode names (record_bytes sheet i))
        → first_fault_by second t (i + 1) (drop (i + 1) (records sheet names)) ≡ all
    pass_again t h e = rw add-one (rw add-one at (sym (turned g i (Grammar.to t) h e) ∙ inv))

    abbrev end : Bool → Option Fault
    end b = elim b [ true ↦ none | false ↦ some (record { number = 6; index = i }) ]

    ended : (b : Bool) → length sheet / 32 ≤ i → b ≡ Grammar.done g → end b ≡ all
    unfolding first_fault_by
    ended b h e = ap end e ∙ sym (ap (first_fault_by second g i) (records-end sheet names i h)) ∙ inv

    pub pass_done : (b : Bool) → length sheet / 32 ≤ i → b ≡ Grammar.done g → b ≡ true → none ≡ all
    pass_done b h e t = ap end (sym t) ∙ ended b h e

    pub pass_early : (b : Bool) (n : ℕ) → length sheet / 32 ≤ i → i ≤ n → n ≡ length sheet / 32 → b ≡ Grammar.done g → b ≡ false
        → some (record { number = 6; index = n }) ≡ all
    pass_early b n h le hn e t = let same : n ≡ i = omega arith in rw same (ap end (sym t) ∙ ended b h e)

-- before the first record
pub pass_starts : (second : ℕ → Bool) (sheet names : List ℕ) (s : State) (ds : List Due) → s ≡ start_state → ds ≡ []
    → first_fault_by second (state_of s ds) 0 (drop 0 (records sheet names)) ≡ first_fault_by second Grammar.start 0 (records sheet names)
unfolding state_of
pass_starts second sheet names s ds e d = rw (e, d)

pub count_below : (i n m : ℕ) → n ≡ m → i < n → i < m
count_below i n m e h = omega arith

pub count_reached : (i n m : ℕ) → n ≡ m → n ≤ i → m ≤ i
count_reached i n m e h = omega arith

-- where the newtypes end
pub none_ended : (sheet : List ℕ) → Ended sheet 0 0
none_ended sheet = record { within = omega arith; none = λ j a b. absurd (omega arith) }

module _ (sheet : List ℕ) (end i : ℕ) (h : Ended sheet end i) where
  pub ends_here : Ended sheet (i + 1) (i + 1)
  ends_here = record { within = omega arith; none = λ j a b. absurd (omega arith) }

  pub ends_after : (newtype : Bool) → newtype ≡ is_renaming (view_at sheet i) → newtype ≡ false → Ended sheet end (i + 1)
  ends_after newtype hn f = record { within = omega (arith, h.within); none = λ j a b. none j a b (dec_lt j i) }
    where
      none : (j : ℕ) → end ≤ j → j < i + 1 → Dec (j < i) → is_renaming (view_at sheet j) ≡ false
      none j a b (yes l) = h.none j a l
      none j a b (no l) = let same : j ≡ i = omega arith in rw same (sym hn ∙ f)

  pub ends_all : (n : ℕ) → n ≡ length sheet / 32 → i ≤ n → n ≤ i → Ended sheet end (length sheet / 32)
  ends_all n hn a b = let same : i ≡ length sheet / 32 = omega arith in rw same at h

-- a step, by what was told of it
abbrev pub Told : ℕ → Result (Unit {0}) Refusal → Result (Unit {0}) Refused → Type 0
Told i step (Ok passed) = step ≡ Ok tt
Told i step (Err w) = (step ≡ Err w.refusal) × (w ≡ record { refusal = w.refusal; index = i })

told-itself : (i : ℕ) (step : Result (Unit {0}) Refusal) → Told i step (told_at step i)
told-itself i (Ok passed) = refl
told-itself i (Err why) = (refl, refl)

pub told : (i : ℕ) (step : Result (Unit {0}) Refusal) (m n : Result (Unit {0}) Refused) → m ≡ told_at step i → m ≡ n → Told i step n
told i step m n h e = subst (Told i step) (sym h ∙ e) (told-itself i step)
