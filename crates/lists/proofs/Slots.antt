-- A record put into its slot is the last there. A slot tells whether a key is met, but where its last record has another key that falls into it.
use Rattle.std.proofs.Common.{ℕ, zero, suc, ◌+◌, ◌-◌, ◌%◌, ◌≤◌, ◌<◌, arith, ◌≡◌, refl, sym, ap, ◌∙◌, Bool, true, false, ◌&&◌, true≢false, List, get_or, set, replicate, length-set, get_or-set_same, get_or-set_other, eqb, eq-eqb, ne_eqb, eqb-true}
use native.Mathlib.Decide.{ℕ_discrete}
use mathlib.Core.Bool.{or-true}
use lib.ListN.{length-replicate}
use Rattle.std.proofs.lemmas.Bool.{and_parts}
use Rattle.names.proofs.Columns.{zeros-at}
use Rattle.lists.proofs.Asked.{SomeFrom}
use Rattle.lists.specs.Slots.{has_key, Behind, Slotted, Ready}

-- no slot has a record yet
pub ready-new : (a : ℕ) → Ready (replicate 1024 0) a
unfolding Ready
ready-new a = (length-replicate {A = ℕ} 1024 0, λ b. omega (arith, zeros-at 1024 b))

module _ (on : ℕ → Bool) (key : ℕ → ℕ) (a : ℕ) where
  -- nothing is on from a up to a
  pub slotted-none : (slots : List ℕ) → Ready slots a → Slotted on key a slots a
  unfolding Slotted Ready
  slotted-none slots r = (r.0, λ b. (r.1 b, λ j l q h t k. absurd (omega arith), λ h. absurd (omega (arith, r.1 b))))

  pub slotted-ready : (slots : List ℕ) (i e : ℕ) → Slotted on key a slots i → i ≤ e → Ready slots e
  unfolding Slotted Ready
  slotted-ready slots i e c h = (c.0, λ b. omega (arith, (c.1 b).0))

  -- a record that is not in the slot changes nothing for it
  behind-next : (q b i : ℕ) → (on i ≡ true → key i % 1024 ≡ b → ⊥) → Behind on key a q b i → Behind on key a q b (i + 1)
  behind-next q b i other h = (omega (arith, h.0), λ j l hq hj t k. go j l hq t k (ℕ_discrete j i) hj, h.2)
    where
      go : (j : ℕ) → a ≤ j → q ≤ j → on j ≡ true → key j % 1024 ≡ b → Dec (j ≡ i) → j < i + 1 → ⊥
      go j l hq t k (yes same) hj = other (ap on (sym same) ∙ t) (ap (λ n. key n % 1024) (sym same) ∙ k)
      go j l hq t k (no differ) hj = h.1 j l hq (omega arith) t k

  -- a record that is not on
  pub slotted-other : (slots : List ℕ) (i : ℕ) → on i ≡ false → Slotted on key a slots i → Slotted on key a slots (i + 1)
  unfolding Slotted
  slotted-other slots i off c = (c.0, λ b. behind-next (get_or slots b 0) b i (λ t k. true≢false (sym t ∙ off)) (c.1 b))

  -- a record that is: it is the last of its slot
  slotted-add :
      (slots : List ℕ) (i b : ℕ) → on i ≡ true → b ≡ key i % 1024 → Slotted on key a slots i → Slotted on key a (set slots b (i + 1)) (i + 1)
  unfolding Slotted
  slotted-add slots i b t hb c = (length-set slots b (i + 1) ∙ c.0, λ d. last d (ℕ_discrete d b))
    where
      last : (d : ℕ) → Dec (d ≡ b) → Behind on key a (get_or (set slots b (i + 1)) d 0) d (i + 1)
      last d (yes same) =
          let now : get_or (set slots b (i + 1)) d 0 ≡ i + 1 = rw same (get_or-set_same slots b (i + 1) 0 (omega (arith, c.0, hb))) in
          let back : i + 1 - 1 ≡ i = omega arith in
          rw now (omega arith, λ j l q h s k. absurd (omega arith), λ h. rw back (t, sym hb ∙ sym same))
      last d (no differ) =
          rw (get_or-set_other slots b d (i + 1) 0 differ) (behind-next (get_or slots d 0) d i (λ s k. differ (sym k ∙ sym hb)) (c.1 d))

  pub slotted-added :
      (slots : List ℕ) (i v b place : ℕ) → on i ≡ true → v ≡ key i → b ≡ v % 1024 → place ≡ i + 1 → Slotted on key a slots i →
      Slotted on key a (set slots b place) (i + 1)
  slotted-added slots i v b place t hv hb hp c = rw hp (slotted-add slots i b t (hb ∙ ap (λ n. n % 1024) hv) c)

  has_here : (v n : ℕ) → on (a + n) ≡ true → key (a + n) ≡ v → has_key on key a v (suc n) ≡ true
  unfolding has_key
  has_here v n t k = rw (t, eq-eqb v (key (a + n)) (sym k))

  has-among : (v n m : ℕ) → m < n → on (a + m) ≡ true → key (a + m) ≡ v → has_key on key a v n ≡ true
  unfolding has_key
  has-among v zero m h t k = absurd (omega arith)
  has-among v (suc n) m h t k = go (has-among v n m) (ℕ_discrete m n)
    where
      go : (m < n → on (a + m) ≡ true → key (a + m) ≡ v → has_key on key a v n ≡ true) → Dec (m ≡ n) → has_key on key a v (suc n) ≡ true
      go ih (yes same) = has_here v n (ap (λ x. on (a + x)) (sym same) ∙ t) (ap (λ x. key (a + x)) (sym same) ∙ k)
      go ih (no differ) = rw (ih (omega arith) t k) (or-true (on (a + n) && eqb v (key (a + n))))

  has-none : (v n : ℕ) → ((m : ℕ) → m < n → on (a + m) ≡ true → key (a + m) ≡ v → ⊥) → has_key on key a v n ≡ false
  unfolding has_key
  has-none v zero h = refl
  has-none v (suc n) h = go (has-none v n (λ m l. h m (omega arith))) (on (a + n)) refl
    where
      go : has_key on key a v n ≡ false → (b : Bool) → on (a + n) ≡ b → has_key on key a v (suc n) ≡ false
      go ih true t = rw (t, ne_eqb v (key (a + n)) (λ e. h n (omega arith) t (sym e)), ih)
      go ih false t = rw (t, ih)

  -- what the slot of a key tells
  module _ (slots : List ℕ) (v i b q : ℕ) (c : Slotted on key a slots i) (hb : b ≡ v % 1024) (hq : q ≡ get_or slots b 0) where
    last-there : Behind on key a q b i
    unfolding Slotted
    last-there = rw hq (c.1 b)

    pub slot-none : q ≤ a → false ≡ has_key on key a v (i - a)
    slot-none h =
        sym (has-none v (i - a) (λ m l t k. last-there.1 (a + m) (omega arith) (omega arith) (omega arith) t (ap (λ n. n % 1024) k ∙ sym hb)))

    pub slot-found : (k : ℕ) → a < q → k ≡ key (q - 1) → k ≡ v → true ≡ has_key on key a v (i - a)
    slot-found k h hk e =
        let back : a + (q - 1 - a) ≡ q - 1 = omega arith in
        sym (has-among v (i - a) (q - 1 - a) (omega (arith, last-there.0)) (ap on back ∙ (last-there.2 h).0) (ap key back ∙ sym hk ∙ e))

  -- all were asked
  pub all-asked : (v i : ℕ) (r : Bool) → SomeFrom (λ j. on j && eqb v (key j)) a i r → r ≡ has_key on key a v (i - a)
  unfolding has_key
  all-asked v i true h =
      let back : a + (h.0 - a) ≡ h.0 = omega (arith, h.1) in
      let both = and_parts (on h.0) (eqb v (key h.0)) h.3 in
      sym (has-among v (i - a) (h.0 - a) (omega (arith, h.1, h.2)) (ap on back ∙ both.0) (ap key back ∙ sym (eqb-true v (key h.0) both.1)))
  all-asked v i false none = sym (never (i - a) (λ m l. none (a + m) (omega arith) (omega arith)))
    where
      never : (n : ℕ) → ((m : ℕ) → m < n → on (a + m) && eqb v (key (a + m)) ≡ false) → has_key on key a v n ≡ false
      never zero h = refl
      never (suc n) h = rw (h n (omega arith), never n (λ m l. h m (omega arith)))
