-- Row 9 takes the newtypes in turn.
use Prim.Native.Nat.{ℕ, zero, suc, ◌+◌, ◌/◌, ◌<◌, ◌≤◌}
use native.Mathlib.Decide.{dec_lt}
use native.Mathlib.Omega.{arith}
use native.Mathlib.Numerals.{add-one}
use mathlib.Core.Path.{◌≡◌, refl, sym, ap, ◌∙◌}
use mathlib.Core.Bool.{Bool, true, false, ◌&&◌, true≢false}
use mathlib.Core.List.{List, [], ◌∷◌}
use mathlib.Core.Option.{Option, some, none}
use lib.ListN.{length}
use Rattle.rules.specs.declared.span.Span.{Span}
use Rattle.rules.specs.Record.{Rec, is_renaming}
use Rattle.rules.specs.Context.{ValidationContext, never_ends}
use Rattle.rules.specs.Refusals.{Fault, leads_nowhere, endless_chain}
use Rattle.rules.proofs.Chains.{is_some}
use Rattle.names.specs.View.{view_at, view_of, context_by}
use Rattle.names.specs.SameEnds.{leads_on, SameEnds}
use Rattle.names.specs.Ends.{Kept}
use Rattle.names.proofs.Views.{view-cons, view-none}
use Rattle.refusals.specs.Pass.{Ended}
use Rattle.refusals.specs.Turned.{endless_by}

module _ (table sheet : List ℕ) where
  abbrev ctx : ValidationContext ℕ Span
  ctx = context_by table sheet

  -- a newtype whose chain never ends
  module _ (i n : ℕ) (newtype : Bool) (hn : newtype ≡ is_renaming (view_at sheet i)) where
    abbrev rest : Bool
    rest = leads_nowhere ctx (view_of sheet (i + 1) n)

    pub other_ends : newtype ≡ false → false ≡ (is_renaming (view_at sheet i) && rest)
    other_ends f = rw (← hn, f)

    pub last_ends : newtype ≡ true → n ≤ i + 1 → false ≡ (is_renaming (view_at sheet i) && rest)
    last_ends t h = rw (← hn, t, view-none sheet (i + 1) n h)

    pub newtype_walked : newtype ≡ true → (r : Bool) → i + 1 < n → r ≡ never_ends ctx (view_at sheet (i + 1)) → r ≡ (is_renaming (view_at sheet i) && rest)
    newtype_walked t r h hr = rw (← hn, t, view-cons sheet (i + 1) n h) hr

  -- the first of them
  abbrev chosen : ℕ → ℕ → Bool → Option Fault
  chosen i n b = elim b [ true ↦ some (record { number = 9; index = i }) | false ↦ endless_chain ctx (suc i) (view_of sheet (i + 1) n) ]

  module _ (i n : ℕ) (b : Bool) (all : Option Fault) (inv : endless_chain ctx i (view_of sheet i n) ≡ all)
      (hb : b ≡ (is_renaming (view_at sheet i) && leads_nowhere ctx (view_of sheet (i + 1) n))) (h : i < n) where
    chain-turn : (c : Bool) → b ≡ c → chosen i n c ≡ all
    unfolding endless_chain
    chain-turn c e = ap (chosen i n) (sym e ∙ hb) ∙ sym (ap (endless_chain ctx i) (view-cons sheet i n h)) ∙ inv

    pub endless_found : b ≡ true → some (record { number = 9; index = i }) ≡ all
    endless_found = chain-turn true

    pub endless_again : b ≡ false → endless_chain ctx (i + 1) (view_of sheet (i + 1) n) ≡ all
    endless_again e = ap (λ (m : ℕ). endless_chain ctx m (view_of sheet (i + 1) n)) (add-one i) ∙ chain-turn false e

  pub endless-none : (i n : ℕ) (all : Option Fault) → endless_chain ctx i (view_of sheet i n) ≡ all → n ≤ i → none ≡ all
  unfolding endless_chain
  endless-none i n all inv h = sym (ap (endless_chain ctx i) (view-none sheet i n h)) ∙ inv

  pub endless_starts : (n : ℕ) → n ≡ length sheet / 32 → endless_chain ctx 0 (view_of sheet 0 n) ≡ endless_by table sheet
  unfolding endless_by
  endless_starts n e = ap (λ (m : ℕ). endless_chain ctx 0 (view_of sheet 0 m)) e

  -- no newtype is left
  endless-rest : (k i n : ℕ) (all : Option Fault) → n ≤ i + k → endless_chain ctx i (view_of sheet i n) ≡ all
      → ((j : ℕ) → i ≤ j → j < n → is_renaming (view_at sheet j) ≡ false) → none ≡ all
  endless-rest zero i n all h inv f = endless-none i n all inv (omega arith)
  endless-rest (suc k) i n all h inv f = go (endless-rest k (i + 1) n all) (dec_lt i n)
    where
      go : (n ≤ i + 1 + k → endless_chain ctx (i + 1) (view_of sheet (i + 1) n) ≡ all
          → ((j : ℕ) → i + 1 ≤ j → j < n → is_renaming (view_at sheet j) ≡ false) → none ≡ all) → Dec (i < n) → none ≡ all
      go next (no l) = endless-none i n all inv (omega arith)
      go next (yes l) =
          next (omega arith) (endless_again i n false all inv (other_ends i n false (sym (f i (omega arith) l)) refl) l refl) (λ j a b. f j (omega arith) b)

  module _ (end n : ℕ) (e : Ended sheet end (length sheet / 32)) where
    pub past_end : (i : ℕ) (all : Option Fault) → n ≡ length sheet / 32 → endless_chain ctx i (view_of sheet i n) ≡ all → end ≤ i → none ≡ all
    past_end i all hn inv h = endless-rest n i n all (omega arith) inv (λ j a b. e.none j (omega arith) (omega arith))

-- row 9 is told as row 9
pub endless-number : (a : ValidationContext ℕ Span) (i : ℕ) (rs : List (Rec ℕ Span)) (f : Fault) → endless_chain a i rs ≡ some f → f.number ≡ 9
unfolding endless_chain
endless-number a i [] f e = absurd (true≢false (sym (ap is_some e)))
endless-number a i (r ∷ rs) f e = go (is_renaming r && leads_nowhere a rs) (endless-number a (suc i) rs f) e
  where
    go :
        (b : Bool) → (endless_chain a (suc i) rs ≡ some f → f.number ≡ 9) →
        elim b [ true ↦ some (record { number = 9; index = i }) | false ↦ endless_chain a (suc i) rs ] ≡ some f → f.number ≡ 9
    go true ih e = sym (ap (λ o. elim o [ none ↦ 9 | some g ↦ g.number ]) e)
    go false ih e = ih e

-- by a table that was kept, the same chains never end
same-nowhere : (a b : ValidationContext ℕ Span) (rs : List (Rec ℕ Span)) → SameEnds a b → leads_nowhere b rs ≡ leads_nowhere a rs
same-nowhere a b [] same = refl
same-nowhere a b (t ∷ rs) same = sym (ap (leads_on a) (same.ends t) ∙ same.leads _)

pub kept_nowhere : (sheet before table : List ℕ) (i n : ℕ) (b : Bool) → Kept sheet before table
    → b ≡ (is_renaming (view_at sheet i) && leads_nowhere (context_by table sheet) (view_of sheet (i + 1) n))
    → b ≡ (is_renaming (view_at sheet i) && leads_nowhere (context_by before sheet) (view_of sheet (i + 1) n))
kept_nowhere sheet before table i n b kept e =
    e ∙ ap (λ x. is_renaming (view_at sheet i) && x) (same-nowhere _ _ (view_of sheet (i + 1) n) kept.same)
