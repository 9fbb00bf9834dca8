-- How ids are found without comparing each name with all others: the records that are the first with their name stand in chains, one for each
-- bucket, and a name is looked for in the chain of its bucket alone. The bucket is worked out from the name's bytes.
use Rattle.std.specs.Prelude.{ℕ, suc, ◌+◌, ◌*◌, ◌-◌, ◌/◌, ◌%◌, ◌≤◌, ◌<◌, ◌≡◌, true, false, List, length, get_or, ltb}
use Rattle.rules.specs.Refusals.{max_records}
use Rattle.names.specs.NameTable.{is_keyed, id_in}
use Rattle.names.specs.Parts.{known, known_count, record_of}

-- the number in four bytes of a name
unfoldable pub word_at : ℕ → List ℕ → ℕ
word_at at name = get_or name at 0 + 256 * get_or name (at + 1) 0 + 65536 * get_or name (at + 2) 0 + 16777216 * get_or name (at + 3) 0

-- the bytes of a name of fewer than four, weighed
abbrev pub weighed_bytes : List ℕ → ℕ
weighed_bytes name = 506952121 * get_or name 0 0 + 351452291 * get_or name 1 0 + 302546453 * get_or name 2 0

-- its first four and its last four bytes
abbrev pub weighed_ends : List ℕ → ℕ
weighed_ends name = 506952121 * word_at 0 name + 512927357 * word_at (length name - 4) name

-- the four after the first, and the four before the last
abbrev pub weighed_next : List ℕ → ℕ
weighed_next name = 351452291 * word_at 4 name + 466848937 * word_at (length name - 8) name

-- eight in its middle
abbrev pub weighed_middle : List ℕ → ℕ
weighed_middle name = 302546453 * word_at (length name / 2) name + 409637633 * word_at (length name / 2 - 4) name

-- the bytes of a name, weighed; of a name longer than 24 not all of them
unfoldable pub weighed : List ℕ → ℕ
weighed name =
    elim (ltb (length name) 4) [
      | true ↦ weighed_bytes name
      | false ↦ elim (ltb (length name) 8) [
        | true ↦ weighed_ends name
        | false ↦ elim (ltb (length name) 17) [
          | true ↦ weighed_ends name + weighed_next name
          | false ↦ weighed_ends name + weighed_next name + weighed_middle name
        ]
      ]
    ]

-- the bucket of a name
unfoldable pub bucket_of : List ℕ → ℕ
bucket_of name = (weighed name / 262144 + weighed name / 1099511627776) % max_records

module _ (sheet names : List ℕ) where
  -- record j is the first with its name, which is of bucket b
  pub record Lead (b j : ℕ) : Type 0 where
    pub known-record : j < known_count sheet
    pub named : is_keyed (record_of sheet names j) ≡ true
    pub bucket : bucket_of (record_of sheet names j).name ≡ b
    pub first : id_in (known sheet names) j (record_of sheet names j) ≡ j

  -- the place of the last such record before record i; 0 where there is none
  pub record LastLead (b i place : ℕ) : Type 0 where
    pub within : place ≤ i
    pub leads : (k : ℕ) → place ≡ suc k → Lead b k
    pub last : (j : ℕ) → j < i → Lead b j → j < place

  -- the chains of the records before record i: `heads` has the place of each bucket's last, `links` that of the one before a record
  pub record Chained (heads links : List ℕ) (i : ℕ) : Type 0 where
    pub heads-size : length heads ≡ max_records
    pub links-size : length links ≡ max_records
    pub head : (b : ℕ) → LastLead b i (get_or heads b 0)
    pub link : (b k : ℕ) → k < i → Lead b k → LastLead b k (get_or links k 0)
