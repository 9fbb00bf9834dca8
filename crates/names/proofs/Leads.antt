-- A name's first record is found in the chain of its bucket: a record with the name has the same bytes, so it has the same bucket, and the chain
-- has every first record of the bucket.
use Prim.Native.Nat.{ℕ, suc, ◌+◌, ◌-◌, ◌≤◌, ◌<◌}
use native.Mathlib.Decide.{dec_lt, ℕ_discrete}
use native.Mathlib.Omega.{arith}
use mathlib.Core.Path.{◌≡◌, sym, ap, ◌∙◌}
use mathlib.Core.Bool.{Bool, true, false}
use mathlib.Core.List.{List}
use lib.ListN.{get_or, set, replicate, length-set, length-replicate}
use lib.Seq.{get_or-set_same, get_or-set_other}
use Rattle.rules.specs.declared.span.Span.{Span}
use Rattle.rules.specs.Words.{same_bytes}
use Rattle.rules.specs.Record.{Rec, decode, record_bytes, name_in}
use Rattle.rules.specs.Refusals.{max_records}
use Rattle.names.specs.NameTable.{is_named, is_keyed, same_name}
use Rattle.names.specs.Parts.{known_count, record_of}
use Rattle.names.specs.Buckets.{bucket_of, Lead, LastLead, Chained}
use Rattle.names.proofs.Columns.{zeros-at}
use Rattle.names.proofs.Known.{known-few, known_bounds}
use Rattle.names.proofs.Numbers.{keyed-named, names-compared}
use Rattle.names.proofs.SameIds.{same-tells}
use Rattle.names.proofs.Firsts.{id_at, id-unnamed, id-known, id-same-name, id-within, id-shared}

module _ (sheet names : List ℕ) where
  abbrev at : ℕ → Rec (List ℕ) Span
  at = record_of sheet names

  abbrev id : ℕ → ℕ
  id = id_at sheet names

  abbrev bucket_at : ℕ → ℕ
  bucket_at i = bucket_of (at i).name

  -- a first record with the name of record i is that of its id
  lead-found : (b i k : ℕ) → i < known_count sheet → is_keyed (at i) ≡ true → Lead sheet names b k → same_name (at i) (at k) ≡ true → k ≡ id i
  lead-found b i k h named lead same = sym (id-shared sheet names i k h lead.known-record named same ∙ lead.first)

  module _ (i : ℕ) (h : i < known_count sheet) (named : is_keyed (at i) ≡ true) where
    -- the record of the id is one
    id-leads : Lead sheet names (bucket_at i) (id i)
    id-leads =
        let same = id-same-name sheet names i h named in
        let tells = same-tells (at i) (at (id i)) same in
        let l = id-known sheet names i h named in
        record {
          known-record = l;
          named = tells.1;
          bucket = ap bucket_of tells.2;
          first = sym (id-shared sheet names i (id i) h l named same);
        }

    -- where no record before record i is a first one with its name, record i is
    lead-none : ((j : ℕ) → j < i → Lead sheet names (bucket_at i) j → same_name (at i) (at j) ≡ true → ⊥) → i ≡ id i
    lead-none none = go (dec_lt (id i) i)
      where
        go : Dec (id i < i) → i ≡ id i
        go (no g) = let w = id-within sheet names i h named in omega arith
        go (yes g) = absurd (none (id i) g id-leads (id-same-name sheet names i h named))

  -- what is known of a walk along the chain of the bucket of record i, at a place: every first record before record i with the name of record i
  -- stands before that place
  pub record Sought (i place : ℕ) : Type 0 where
    pub before : place ≤ i
    pub leads : (k : ℕ) → place ≡ suc k → Lead sheet names (bucket_at i) k
    pub ahead : (j : ℕ) → j < i → Lead sheet names (bucket_at i) j → same_name (at i) (at j) ≡ true → j < place

  -- and the numbers that bound it
  abbrev pub Walk : ℕ → ℕ → Type 0
  Walk i place = (i < max_records) × (place ≤ i) × Sought i place

  pub walk_start :
      (heads links : List ℕ) (i b place : ℕ) → i < known_count sheet → b ≡ bucket_at i → Chained sheet names heads links i → place ≡ get_or heads b 0 → Walk i place
  walk_start heads links i b place h eb chained e =
      let few = known-few sheet in
      let l : LastLead sheet names (bucket_at i) i place = rw (e, ← eb) (chained.head b) in
      (omega arith, l.within, record { before = l.within; leads = l.leads; ahead = λ j g lead same. l.last j g lead })

  -- the record at the place has a name
  pub walk-named : (i place : ℕ) → Sought i place → (place ≡ 0 → ⊥) → (place - 1 < known_count sheet) × (is_named (at (place - 1)) ≡ true)
  walk-named i place s some =
      let here = s.leads (place - 1) (omega arith) in
      (here.known-record, keyed-named (at (place - 1)) here.named)

  -- a record of the chain with another name is passed
  sought-next :
      (i k place : ℕ) → Sought i (suc k) → LastLead sheet names (bucket_at i) k place → same_name (at i) (at k) ≡ false → Sought i place
  sought-next i k place s l differ =
      record {
        before = let b = s.before in let w = l.within in omega arith;
        leads = l.leads;
        ahead = λ j h lead same. l.last j (earlier j h lead same (ℕ_discrete j k)) lead;
      }
    where
      earlier : (j : ℕ) → j < i → Lead sheet names (bucket_at i) j → same_name (at i) (at j) ≡ true → Dec (j ≡ k) → j < k
      earlier j h lead same (no g) = let b = s.ahead j h lead same in omega arith
      earlier j h lead same (yes e) =
          let f : same_name (at i) (at j) ≡ false = rw e differ in
          let z : ◌≡◌ {A = ℕ} 0 1 = cc in
          omega arith

  -- at the chain's end there is none
  pub walk-ended : (i place : ℕ) → i < known_count sheet → is_keyed (at i) ≡ true → Sought i place → place ≡ 0 → i ≡ id i
  walk-ended i place h named s e = lead-none i h named (λ j l lead same. let b = s.ahead j l lead same in omega arith)

  -- a record that is no first one of the bucket leaves the chain's last as it was
  last-kept : (b i place : ℕ) → (Lead sheet names b i → ⊥) → LastLead sheet names b i place → LastLead sheet names b (i + 1) place
  last-kept b i place other l =
      record {
        within = let w = l.within in omega arith;
        leads = l.leads;
        last = λ j h lead. l.last j (earlier j h lead (ℕ_discrete j i)) lead;
      }
    where
      earlier : (j : ℕ) → j < i + 1 → Lead sheet names b j → Dec (j ≡ i) → j < i
      earlier j h lead (no g) = omega arith
      earlier j h lead (yes e) = absurd (other (rw (← e) lead))

  module _ (heads links : List ℕ) (i : ℕ) (chained : Chained sheet names heads links i) where
    chained-kept : ((b : ℕ) → Lead sheet names b i → ⊥) → Chained sheet names heads links (i + 1)
    chained-kept other =
        record {
          heads-size = chained.heads-size;
          links-size = chained.links-size;
          head = λ b. last-kept b i (get_or heads b 0) (other b) (chained.head b);
          link = λ b k h lead. chained.link b k (earlier b k h lead (ℕ_discrete k i)) lead;
        }
      where
        earlier : (b k : ℕ) → k < i + 1 → Lead sheet names b k → Dec (k ≡ i) → k < i
        earlier b k h lead (no g) = omega arith
        earlier b k h lead (yes e) = absurd (other b (rw (← e) lead))

    -- a first record stands at the head of its bucket's chain, before what stood there
    pub chained_more :
        (b : ℕ) → b < max_records → i < max_records → Lead sheet names b i →
        Chained sheet names (set heads b (i + 1)) (set links i (get_or heads b 0)) (i + 1)
    chained_more b hb hi lead =
        record {
          heads-size = length-set heads b (i + 1) ∙ chained.heads-size;
          links-size = length-set links i (get_or heads b 0) ∙ chained.links-size;
          head = λ c. new-head c (ℕ_discrete b c);
          link = λ c k h l. new-link c k h l (ℕ_discrete i k);
        }
      where
        -- record i is of no other bucket
        elsewhere : (c : ℕ) → (b ≡ c → ⊥) → Lead sheet names c i → ⊥
        elsewhere c differ l = differ (sym lead.bucket ∙ l.bucket)

        new-head : (c : ℕ) → Dec (b ≡ c) → LastLead sheet names c (i + 1) (get_or (set heads b (i + 1)) c 0)
        new-head c (yes e) =
            let here : get_or (set heads b (i + 1)) c 0 ≡ i + 1 =
            rw (← e) (get_or-set_same heads b (i + 1) 0 (let s = chained.heads-size in omega arith)) in
            rw here (record {
              within = omega arith;
              leads = λ k f. let same : i ≡ k = omega arith in rw (← e, ← same) lead;
              last = λ j h l. h;
            })
        new-head c (no differ) =
            rw (get_or-set_other heads b c (i + 1) 0 (λ e. differ (sym e))) (last-kept c i (get_or heads c 0) (elsewhere c differ) (chained.head c))

        new-link : (c k : ℕ) → k < i + 1 → Lead sheet names c k → Dec (i ≡ k) → LastLead sheet names c k (get_or (set links i (get_or heads b 0)) k 0)
        new-link c k h l (yes e) =
            let same : b ≡ c = sym lead.bucket ∙ ap bucket_at e ∙ l.bucket in
            let here : get_or (set links i (get_or heads b 0)) k 0 ≡ get_or heads b 0 =
            rw (← e) (get_or-set_same links i (get_or heads b 0) 0 (let s = chained.links-size in omega arith)) in
            rw (here, ← e, ← same) (chained.head b)
        new-link c k h l (no differ) =
            rw (get_or-set_other links i k (get_or heads b 0) 0 (λ e. differ (sym e))) (chained.link c k (omega arith) l)

  -- at the start every chain is empty
  pub chained_none : Chained sheet names (replicate max_records 0) (replicate max_records 0) 0
  chained_none =
      record {
        heads-size = length-replicate {A = ℕ} max_records 0;
        links-size = length-replicate {A = ℕ} max_records 0;
        head = λ b. rw (zeros-at max_records b) (record {
          within = omega arith;
          leads = λ k e. absurd (omega arith);
          last = λ j h l. absurd (omega arith);
        });
        link = λ b k h l. absurd (omega arith);
      }

  -- one step of a walk along the chain of the bucket of record i, at record k
  module _ (i : ℕ) (h : i < known_count sheet) (named : is_keyed (at i) ≡ true) (place : ℕ) (sought : Sought i place)
      (some : place ≡ 0 → ⊥) (same : Bool) (a b : List ℕ) (compared : same ≡ same_bytes a b)
      (theirs : a ≡ name_in names (record_bytes sheet (place - 1))) (ours : b ≡ name_in names (record_bytes sheet i)) where
    here : Lead sheet names (bucket_at i) (place - 1)
    here = sought.leads (place - 1) (omega arith)

    told : same ≡ same_name (at i) (at (place - 1))
    told = names-compared sheet names i (place - 1) named here.named same a b theirs ours compared

    pub walk-found : same ≡ true → place - 1 ≡ id i
    walk-found t = lead-found (bucket_at i) i (place - 1) h named here (sym told ∙ t)

    module _ (heads links : List ℕ) (chained : Chained sheet names heads links i) where
      next : LastLead sheet names (bucket_at i) (place - 1) (get_or links (place - 1) 0)
      next = let w = sought.before in chained.link (bucket_at i) (place - 1) (omega arith) here

      pub walk-on : same ≡ false → (v : ℕ) → v ≡ get_or links (place - 1) 0 → Walk i v
      walk-on f v e =
          let one : suc (place - 1) ≡ place = omega arith in
          let few = known-few sheet in
          let on : Sought i v = rw e (sought-next i (place - 1) (get_or links (place - 1) 0) (rw one sought) next (sym told ∙ f)) in
          (omega arith, on.before, on)

      pub walk-less : (v : ℕ) → v ≡ get_or links (place - 1) 0 → v < place
      walk-less v e = let w = next.within in omega arith

  -- the bucket of the name that is read
  pub bucket-of : (i b : ℕ) (name : List ℕ) → name ≡ name_in names (record_bytes sheet i) → b ≡ bucket_of name → b ≡ bucket_at i
  unfolding record_of decode
  bucket-of i b name en eb = rw (← en) eb

  -- what record i adds to the chains
  module _ (heads links : List ℕ) (i : ℕ) (h : i < known_count sheet) (chained : Chained sheet names heads links i) where
    pub added-unnamed : is_keyed (at i) ≡ false → Chained sheet names heads links (i + 1)
    added-unnamed f =
        chained-kept heads links i chained (λ b lead.
        let t = lead.named in
        let z : ◌≡◌ {A = ℕ} 0 1 = cc in
        omega arith)

    -- a record whose name is not compared is its own, and adds nothing
    pub added_none : is_keyed (at i) ≡ false → (i ≡ id i) × (i ≤ i) × Chained sheet names heads links (i + 1)
    added_none f = (sym (id-unnamed sheet names i f), omega arith, added-unnamed f)

    pub added_old : (found : ℕ) → found ≡ id i → found < i → Chained sheet names heads links (i + 1)
    added_old found hf l = chained-kept heads links i chained (λ b lead. let same = hf ∙ lead.first in omega arith)

    pub added_new :
        (b : ℕ) → is_keyed (at i) ≡ true → b ≡ bucket_at i → b < max_records → id i ≡ i →
        Chained sheet names (set heads b (i + 1)) (set links i (get_or heads b 0)) (i + 1)
    added_new b named eb hb new =
        let few = known-few sheet in
        chained_more heads links i chained b hb (omega arith) (record { known-record = h; named = named; bucket = sym eb; first = new })

-- what decides a walk along a chain
pub ruleset walks = (walk_start, walk-ended, walk-found, walk-less, bucket-of, known_bounds)
