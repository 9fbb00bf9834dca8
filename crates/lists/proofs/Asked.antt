-- `any` over a range asks one number after the other: each has failed the test, or one has passed it.
use Rattle.std.proofs.Common.{ℕ, ◌+◌, ◌-◌, ◌≤◌, ◌<◌, ◌≡◌, refl, subst, Bool, true, false, List, arith, length, get_or, Option, MatchOption}
use denote.Param.Members.{Mut}
use Rattle.std.specs.Bool.{MatchBool}
use Rattle.std.specs.Fn.{Called}
use Rattle.std.specs.Iterator.{YieldsThen}
use Rattle.std.specs.List.{range_with_len, FoldsTo, AllWithin, HoldsAt}
use Rattle.std.proofs.iter.Yields.{nat_range_steps}
use Rattle.std.proofs.lemmas.Iterator.{YieldsList-from_range, cases_from_any}
use Rattle.std.proofs.lemmas.List.FromFn.{length-range_with_len, get_or-range_with_len}

-- whether a number from a up to e passes the test
abbrev pub SomeFrom : (ℕ → Bool) → ℕ → ℕ → Bool → Type 0
SomeFrom p a e r =
    MatchBool r ((k : ℕ) × (a ≤ k) × (k < e) × (p k ≡ true)) ((k : ℕ) → a ≤ k → k < e → p k ≡ false)

pub any_from_range :
    {F : Type 0} {g : Mut F (ℕ × Unit {0}) Bool} (s u : _) (f : F) (r : Bool) (p : ℕ → Bool) →
    (xs : List ℕ) × (o : Option ℕ) × (j : F) × YieldsThen nat_range_steps s xs o u × FoldsTo (λ h x q. Called g h (x, tt) false q) f xs j
    × MatchOption o (r ≡ false) (λ x. (r ≡ true) × ((h : F) × Called g j (x, tt) true h)) →
    ((x : ℕ) (q : F) → Called g f (x, tt) true q → p x ≡ true) → ((x : ℕ) (q : F) → Called g f (x, tt) false q → (q ≡ f) × (p x ≡ false)) →
    SomeFrom p s.start s.end r
any_from_range s u f r p ran yes' no' =
    by r (cases_from_any u f r (λ k. p k ≡ true) (λ k. p k ≡ false) ran (YieldsList-from_range s.start s.end _ refl refl) yes' no')
  where
    all : List ℕ
    all = range_with_len s.start (s.end - s.start)

    long : length all ≡ s.end - s.start
    long = length-range_with_len s.start (s.end - s.start)

    by :
        (b : Bool) → MatchBool b ((k : ℕ) × (k < length all) × HoldsAt (λ k. p k ≡ true) all k) (AllWithin (λ k. p k ≡ false) all 0 (length all)) →
        SomeFrom p s.start s.end b
    by true h =
        let few : h.0 < s.end - s.start = omega (arith, long, h.1) in
        let at = get_or-range_with_len s.start (s.end - s.start) h.0 0 few in
        (s.start + h.0, omega arith, omega arith, subst (λ k. p k ≡ true) at (h.2 0))
    by false h = λ k a b.
        let few : k - s.start < s.end - s.start = omega arith in
        subst (λ k. p k ≡ false) {x = get_or all (k - s.start) 0} {y = k}
        (omega (arith, get_or-range_with_len s.start (s.end - s.start) (k - s.start) 0 few)) (h (k - s.start) 0 (omega arith) (omega (arith, long)))
