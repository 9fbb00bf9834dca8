-- The names that are met: a record of the kind goes into its slot, and the slots tell of a name what asking all records tells.
use Rattle.std.proofs.Common.{ℕ, ◌+◌, ◌%◌, ◌≡◌, sym, ◌∙◌, List, set, eq-eqb, ne_eqb}
use Rattle.rules.specs.Record.{kind_in, record_bytes}
use Rattle.names.specs.Known.{numbers_of}
use Rattle.names.specs.View.{view_at, entry_of, id_part}
use Rattle.lists.specs.declared.named.NamedRecords.{NamedRecords}
use Rattle.lists.specs.Named.{HasNames}
use Rattle.lists.proofs.Slots.{slotted-other, slotted-added}

module _ (records : NamedRecords) (slots : List ℕ) (i k : ℕ) (before : HasNames records slots i) (hk : k ≡ kind_in (record_bytes records.context.sheet.now i)) where
  pub passed-by : (k ≡ records.kind → ⊥) → HasNames records slots (i + 1)
  unfolding view_at
  passed-by other = slotted-other _ _ _ slots i (ne_eqb _ _ (λ e. other (hk ∙ e))) before

  pub entered :
      (id b place : ℕ) → k ≡ records.kind → id ≡ entry_of id_part (numbers_of records.context) i → b ≡ id % 1024 → place ≡ i + 1 →
      HasNames records (set slots b place) (i + 1)
  unfolding view_at
  entered id b place here hi hb hp = slotted-added _ _ _ slots i id b place (eq-eqb _ _ (sym hk ∙ here)) hi hb hp before
