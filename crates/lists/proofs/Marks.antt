-- The numbers already met: what a store behind the last of them adds, and that a number that has no mark is not among them.
use Prim.Native.Nat.{ℕ, zero, suc, ◌+◌, ◌-◌, ◌%◌, ◌≤◌, ◌<◌}
use native.Mathlib.Decide.{ℕ_discrete}
use native.Mathlib.Omega.{arith}
use native.Mathlib.Numerals.{add-one}
use mathlib.Core.Path.{◌≡◌, refl, sym, ap, ap₂, ◌∙◌}
use mathlib.Core.Bool.{Bool, true, false, ◌||◌, or_assoc, or_comm, true≢false}
use mathlib.Core.List.{List, ◌∷◌}
use lib.ListN.{length, get_or, set, take, drop}
use lib.Seq.{get_or-set_same, get_or-set_other, take-length, length-take-le}
use lib.ListN.{length-drop}
use Rattle.std.proofs.lemmas.List.{get_or-take, get_or-drop}
use Rattle.std.specs.List.{list_any}
use Rattle.std.proofs.lemmas.List.Folds.{list_any_more}
use lib.Dec.{eqb}
use borrow.Author.Tests.{ne_eqb}
use Rattle.rules.specs.Words.{any_of, member}
use Rattle.lists.specs.Seen.{latest, Marked}

-- a store behind the last alters nothing before it
pub latest-above : (numbers : List ℕ) (i v a n : ℕ) → a + n ≤ i → latest (set numbers i v) a n ≡ latest numbers a n
unfolding latest
latest-above numbers i v a zero le = refl
latest-above numbers i v a (suc n) le = rw (get_or-set_other numbers i (a + n) v 0 (omega arith), latest-above numbers i v a n (omega arith))

-- and is the latest
pub latest-store :
    (numbers : List ℕ) (a n i v : ℕ) → a + n ≡ i → i < length numbers → latest (set numbers i v) a (n + 1) ≡ v ∷ latest numbers a n
unfolding latest
latest-store numbers a n i v behind h =
    rw (add-one, behind, get_or-set_same numbers i v 0 h, latest-above numbers i v a n (omega arith))

-- there are as many as were stored
pub length-latest : (numbers : List ℕ) (a n : ℕ) → length (latest numbers a n) ≡ n
unfolding latest
length-latest numbers a zero = refl
length-latest numbers a (suc n) = ap suc (length-latest numbers a n)

eqb-turn : (x y : ℕ) → eqb x y ≡ eqb y x
eqb-turn x y = grind arith

-- a number is among them, asked in two windows, of which the second ends where they end
or_turn : (p q b c : Bool) → ((p || q) || (b || c)) ≡ ((q || b) || (p || c))
or_turn true true b c = refl
or_turn true false true c = refl
or_turn true false false c = refl
or_turn false q b c = sym (or_assoc q b c)

or-twice : (p q r : Bool) → ((p || q) || (q || r)) ≡ (p || (q || r))
or-twice true q r = refl
or-twice false true r = refl
or-twice false false r = refl

module _ (numbers : List ℕ) (x a : ℕ) where
  -- m of them, and n behind those
  contains-both :
      (m n : ℕ) → (member x (latest numbers (a + m) n) || member x (latest numbers a m)) ≡ member x (latest numbers a (m + n))
  unfolding latest any_of
  contains-both m zero = let none : m + 0 ≡ m = omega arith in rw none
  contains-both m (suc n) =
      let more : m + suc n ≡ suc (m + n) = omega arith in
      let place : a + m + n ≡ a + (m + n) = omega arith in
      rw (more, place) (or_assoc (eqb x (get_or numbers (a + (m + n)) 0)) (member x (latest numbers (a + m) n)) (member x (latest numbers a m)) ∙ ap (λ b. eqb x (get_or numbers (a + (m + n)) 0) || b) (contains-both m n))

-- p of them before the second window, q in both, and r behind the first
contains-windows :
    (numbers : List ℕ) (x a p q r : ℕ) →
    (member x (latest numbers (a + p) (r + q)) || member x (latest numbers a (p + q))) ≡ member x (latest numbers a (p + q + r))
contains-windows numbers x a p q r =
    let turn : r + q ≡ q + r = omega arith in
    let place : a + p + q ≡ a + (p + q) = omega arith in
    ap (λ n. member x (latest numbers (a + p) n) || member x (latest numbers a (p + q))) turn
    ∙ sym
    (ap (λ b. (member x (latest numbers (a + p + q) r) || member x (latest numbers (a + p) q)) || b) (contains-both numbers x a p q)
    ∙ ap (λ b. b || member x (latest numbers a (p + q))) (contains-both numbers x (a + p) q r))
    ∙ or-twice (member x (latest numbers (a + p + q) r)) (member x (latest numbers (a + p) q)) (member x (latest numbers a p))
    ∙ ap (λ b. member x (latest numbers (a + p + q) r) || b) (contains-both numbers x a p q)
    ∙ rw place (contains-both numbers x a (p + q) r)

module _ (numbers : List ℕ) (x a : ℕ) where
  -- the first i of either window were asked
  abbrev pub InWindows : ℕ → Bool → ℕ → Type 0
  InWindows last found i = found ≡ (member x (latest numbers last i) || member x (latest numbers a i))

  pub windows-none : (last : ℕ) → InWindows last false 0
  unfolding latest any_of
  windows-none last = refl

  pub windows-next :
      (last i : ℕ) (found : Bool) → InWindows last found i →
      InWindows last ((eqb x (get_or numbers (a + i) 0) || eqb x (get_or numbers (last + i) 0)) || found) (i + 1)
  unfolding latest any_of
  windows-next last i found h = rw (add-one, h)
      (or_turn (eqb x (get_or numbers (a + i) 0)) (eqb x (get_or numbers (last + i) 0)) (member x (latest numbers last i)) (member x (latest numbers a i)))

  windows-meet :
      (p q last i n : ℕ) (found : Bool) → InWindows last found i → last ≡ a + p → i ≡ p + q → n ≡ p + q + p → found ≡ member x (latest numbers a n)
  windows-meet p q last i n found h start same size =
      rw size ((rw (start, same) at h) ∙ contains-windows numbers x a p q p)

  -- windows that leave no gap
  pub windows-all :
      (e window last i : ℕ) (found : Bool) → a ≤ e → InWindows last found i → i ≤ window → window ≤ i → window ≤ e - a → e - a ≤ window + window →
      last ≡ e - window → found ≡ member x (latest numbers a (e - a))
  windows-all e window last i found order h le ge room cover place =
      windows-meet (e - a - window) (window - (e - a - window)) last i (e - a) found h (omega arith) (omega arith) (omega arith)

-- asked by the library
few-some :
    (numbers : List ℕ) (x n : ℕ) → n ≤ length numbers → list_any (λ y. eqb y x) (take n numbers) ≡ member x (latest numbers 0 n)
unfolding latest any_of
few-some numbers x zero le = refl
few-some numbers x (suc n) le =
    let more : suc n ≡ n + 1 = omega arith in
    let from-none : n ≡ 0 + n = omega arith in
    ap (λ k. list_any (λ y. eqb y x) (take k numbers)) more
    ∙ list_any_more (λ y. eqb y x) numbers n 0 (omega arith)
    ∙ or_comm (list_any (λ y. eqb y x) (take n numbers)) (eqb (get_or numbers n 0) x)
    ∙ ap₂ ◌||◌ (eqb-turn (get_or numbers n 0) x) (few-some numbers x n (omega arith))
    ∙ ap (λ k. eqb x (get_or numbers k 0) || member x (latest numbers 0 n)) from-none

pub few-all : (numbers : List ℕ) (x : ℕ) (found : Bool) → found ≡ list_any (λ y. eqb y x) numbers → found ≡ member x (latest numbers 0 (length numbers))
few-all numbers x found h =
    h ∙ ap (list_any (λ y. eqb y x)) (sym (take-length numbers)) ∙ few-some numbers x (length numbers) (omega arith)

-- those of a part of the array
latest-same :
    (ys xs : List ℕ) (a n : ℕ) → ((i : ℕ) → i < n → get_or ys i 0 ≡ get_or xs (a + i) 0) → latest ys 0 n ≡ latest xs a n
unfolding latest
latest-same ys xs a zero same = refl
latest-same ys xs a (suc n) same =
    let from-none : 0 + n ≡ n = omega arith in
    ap₂ ◌∷◌ (rw from-none (same n (omega arith))) (latest-same ys xs a n (λ i h. same i (omega arith)))

pub latest-front : (xs : List ℕ) (n : ℕ) → n ≤ length xs → latest (take n xs) 0 (length (take n xs)) ≡ latest xs 0 n
latest-front xs n le =
    ap (latest (take n xs) 0) (length-take-le n xs le)
    ∙ latest-same (take n xs) xs 0 n (λ i h. let from-none : 0 + i ≡ i = omega arith in rw from-none (get_or-take n xs i 0 h))

pub latest-part : (xs : List ℕ) (a n : ℕ) → a + n ≤ length xs → latest (take n (drop a xs)) 0 (length (take n (drop a xs))) ≡ latest xs a n
latest-part xs a n le =
    ap (latest (take n (drop a xs)) 0) (length-take-le n (drop a xs) (omega (arith, length-drop a xs)))
    ∙ latest-same (take n (drop a xs)) xs a n (λ i h. get_or-take n (drop a xs) i 0 h ∙ get_or-drop a xs i 0)

-- none has its mark yet
pub marked-none : (numbers : List ℕ) (marks : List Bool) → Marked numbers marks 0
unfolding Marked
marked-none numbers marks j h = absurd (omega arith)

pub marked-fewer : (numbers : List ℕ) (marks : List Bool) (m n : ℕ) → m ≤ n → Marked numbers marks n → Marked numbers marks m
unfolding Marked
marked-fewer numbers marks m n le all j h = all j (omega arith)

-- one mark more
marked-set : (numbers : List ℕ) (marks : List Bool) (n p : ℕ) → p < length marks → Marked numbers marks n → Marked numbers (set marks p true) n
unfolding Marked
marked-set numbers marks n p room all j h = go (ℕ_discrete (get_or numbers j 0 % 1021) p)
  where
    go : Dec (get_or numbers j 0 % 1021 ≡ p) → get_or (set marks p true) (get_or numbers j 0 % 1021) false ≡ true
    go (yes same) = rw same (get_or-set_same marks p true false room)
    go (no differ) = get_or-set_other marks p (get_or numbers j 0 % 1021) true false differ ∙ all j h

-- one number more, which has its mark
marked_more :
    (numbers : List ℕ) (marks : List Bool) (n v : ℕ) → n < length numbers → get_or marks (v % 1021) false ≡ true → Marked numbers marks n →
    Marked (set numbers n v) marks (n + 1)
unfolding Marked
marked_more numbers marks n v room one all j h = go (ℕ_discrete j n)
  where
    go : Dec (j ≡ n) → get_or marks (get_or (set numbers n v) j 0 % 1021) false ≡ true
    go (yes same) =
        let here : get_or (set numbers n v) j 0 ≡ v = rw same (get_or-set_same numbers n v 0 room) in rw here one
    go (no differ) = rw (get_or-set_other numbers n j v 0 differ) (all j (omega arith))

-- a number and its mark
pub marked-store :
    (numbers : List ℕ) (marks : List Bool) (n v : ℕ) → n < length numbers → length marks ≡ 1021 → Marked numbers marks n →
    Marked (set numbers n v) (set marks (v % 1021) true) (n + 1)
marked-store numbers marks n v room size all =
    let place : v % 1021 < length marks = omega arith in
    marked_more numbers (set marks (v % 1021) true) n v room (get_or-set_same marks (v % 1021) true false place) (marked-set numbers marks n (v % 1021) place all)

-- a number that has no mark was not met
module _ (numbers : List ℕ) (marks : List Bool) (x a e p : ℕ) (hp : p ≡ x % 1021) (z : get_or marks p false ≡ false) (all : Marked numbers marks e) where
  unmarked-among : (n : ℕ) → a + n ≤ e → false ≡ member x (latest numbers a n)
  unfolding latest any_of Marked
  unmarked-among zero le = refl
  unmarked-among (suc n) le =
      rw (ne_eqb x (get_or numbers (a + n) 0)
      (λ same. true≢false
      (sym (all (a + n) (omega arith)) ∙ ap (λ v. get_or marks (v % 1021) false) (sym same) ∙ ap (λ q. get_or marks q false) (sym hp) ∙ z)))
      (unmarked-among n (omega arith))

  pub unmarked : a ≤ e → false ≡ member x (latest numbers a (e - a))
  unmarked le = unmarked-among (e - a) (omega arith)
