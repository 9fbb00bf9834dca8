-- What a record adds to the table when it is read: its id, its code, and what it says of its name.
use Prim.Native.Nat.{ℕ, ◌+◌, ◌≤◌, ◌<◌}
use native.Mathlib.Omega.{arith}
use mathlib.Core.Path.{◌≡◌, refl, ◌∙◌, sym, ap, ap₂}
use mathlib.Core.Bool.{true, false}
use mathlib.Core.List.{List}
use lib.ListN.{length, get_or, take, set, replicate, length-set, length-replicate}
use Rattle.rules.specs.Kind
use Rattle.rules.specs.Words.{number_if, any_of}
use Rattle.rules.specs.Record.{decode, record_bytes, kind_in, name_in}
use Rattle.rules.specs.Refusals.{max_records}
use Rattle.names.specs.NameTable.{place_of, is_named, is_keyed, id_in, code_of}
use Rattle.names.specs.Notes.{declaration_note, import_note, Part, Read}
use Rattle.names.specs.Parts.{known, known_count, record_of, ids, codes}
use Rattle.names.proofs.Columns.{zeros-at}
use Rattle.names.proofs.Firsts.{id-unnamed}
use Rattle.names.proofs.Known.{known-few}
use Rattle.names.proofs.Noting.{unnamed-silent, noted-none}
use Rattle.names.proofs.Numbers.{part_at, unnamed-keyed}
use Rattle.names.proofs.Stored.{part_same, part-set, part-ahead, part-behind, taken_here, taken_next, taken-zero}
use Rattle.names.specs.View.{declarations_from, imports_from, targets_from, codes_from, table_size}

-- before the first record the table has zeros
module _ (sheet names t : List ℕ) (e : t ≡ replicate table_size 0) where
  zero-part : (p : ℕ) (f : ℕ → ℕ) → ((k : ℕ) → f k ≡ 0) → Part p f t
  zero-part p f none = record { at = λ k h. ap (λ (l : List ℕ). get_or l (p + k) 0) e ∙ zeros-at table_size (p + k) ∙ sym (none k) }

  pub read_none : Read sheet names t 0 0
  unfolding declaration_note import_note place_of any_of
  read_none =
      record {
        size = ap length e ∙ length-replicate {A = ℕ} table_size 0;
        ids-part = zero-part 0 _ (λ k. refl);
        declaration-notes = zero-part declarations_from _ (λ k. refl);
        import-notes = zero-part imports_from _ (λ k. refl);
        targets-part = zero-part targets_from _ (λ k. refl);
        codes-part = zero-part codes_from _ (λ k. refl);
      }

module _ (sheet names : List ℕ) (i : ℕ) (h : i < known_count sheet) where
  pub id-number : (v : ℕ) → v ≡ id_in (known sheet names) i (record_of sheet names i) → v ≡ get_or (ids sheet names) i 0
  unfolding ids
  id-number v e = part_at sheet names i (known_count sheet) refl (id_in (known sheet names)) v (known-few sheet) h e

  code-number : (v : ℕ) → v ≡ number_if (is_named (record_of sheet names i)) (code_of (record_of sheet names i).kind (record_of sheet names i).name) → v ≡ get_or (codes sheet names) i 0
  unfolding codes
  code-number v e =
      part_at sheet names i (known_count sheet) refl (λ i r. number_if (is_named r) (code_of r.kind r.name)) v (known-few sheet) h e

  module _ (t : List ℕ) (before : Read sheet names t i i) where
    small : i < max_records
    small = let few = known-few sheet in omega arith

    -- the table with the id
    id-stored : (v : ℕ) → v ≡ id_in (known sheet names) i (record_of sheet names i) → Part 0 (λ k. get_or (take (i + 1) (ids sheet names)) k 0) (set t (0 + i) v)
    id-stored v e =
        let few = small in
        part-set before.ids-part i v (omega (arith, before.size)) (λ k l differ. taken_next (ids sheet names) i k differ)
        (id-number v e ∙ sym (taken_here (ids sheet names) i))

    pub read-unnamed : is_named (record_of sheet names i) ≡ false → (v : ℕ) → v ≡ i → Read sheet names (set t (0 + i) v) (i + 1) (i + 1)
    read-unnamed f v e =
        noted-none sheet names i h (set t (0 + i) v) (i + 1) stored (unnamed-silent sheet names i h unkeyed Kind.Declaration)
        (unnamed-silent sheet names i h unkeyed Kind.ImportedName)
      where
        unkeyed : is_keyed (record_of sheet names i) ≡ false
        unkeyed = unnamed-keyed (record_of sheet names i) f

        stored : Read sheet names (set t (0 + i) v) (i + 1) i
        stored =
            let few = small in
            record {
              size = length-set t (0 + i) v ∙ before.size;
              ids-part = id-stored v (e ∙ sym (id-unnamed sheet names i unkeyed));
              declaration-notes = part-ahead before.declaration-notes (0 + i) v (omega arith);
              import-notes = part-ahead before.import-notes (0 + i) v (omega arith);
              targets-part = part-ahead before.targets-part (0 + i) v (omega arith);
              codes-part = part_same (part-ahead before.codes-part (0 + i) v (omega arith))
                  (λ k l. taken-zero (codes sheet names) i k (sym (code-number 0 (rw f))));
            }

    pub read_named :
        is_named (record_of sheet names i) ≡ true → (v id c : ℕ) → v ≡ id → id ≡ id_in (known sheet names) i (record_of sheet names i) →
        (kind : ℕ) → kind ≡ kind_in (record_bytes sheet i) → (name : List ℕ) → name ≡ name_in names (record_bytes sheet i) → c ≡ code_of kind name →
        Read sheet names (set (set t (0 + i) v) (codes_from + i) c) (i + 1) i
    unfolding record_of decode
    read_named named v id c e f kind ek name en ec =
        let few = small in
        let coded : c ≡ number_if (is_named (record_of sheet names i)) (code_of (record_of sheet names i).kind (record_of sheet names i).name) =
        rw named (ec ∙ ap₂ code_of ek en) in
        let t' : List ℕ = set t (0 + i) v in
        let size' : length t' ≡ table_size = length-set t (0 + i) v ∙ before.size in
        record {
          size = length-set t' (codes_from + i) c ∙ size';
          ids-part = part-behind (id-stored v (e ∙ f)) (codes_from + i) c (omega arith);
          declaration-notes = part-behind (part-ahead before.declaration-notes (0 + i) v (omega arith)) (codes_from + i) c (omega arith);
          import-notes = part-behind (part-ahead before.import-notes (0 + i) v (omega arith)) (codes_from + i) c (omega arith);
          targets-part = part-behind (part-ahead before.targets-part (0 + i) v (omega arith)) (codes_from + i) c (omega arith);
          codes-part = part-set (part-ahead before.codes-part (0 + i) v (omega arith)) i c (omega arith)
              (λ k l differ. taken_next (codes sheet names) i k differ) (code-number c coded ∙ sym (taken_here (codes sheet names) i));
        }

-- all records are read
pub read_all :
    (sheet names t : List ℕ) (i n : ℕ) → n ≡ known_count sheet → i ≤ n → n ≤ i → Read sheet names t i i →
    Read sheet names t (known_count sheet) (known_count sheet)
read_all sheet names t i n e a b before =
    let last : i ≡ known_count sheet = omega arith in
    rw last at before
