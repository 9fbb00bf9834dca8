-- What is noted at a record's id is what the table has for the record. The id is the record's own index or that of a record before it, so the note
-- still stands there when the record's turn comes.
use Prim.Native.Nat.{ℕ, zero, suc, ◌+◌, ◌≤◌, ◌<◌}
use native.Mathlib.Decide.{dec_lt}
use native.Mathlib.Numerals.{add-one}
use native.Mathlib.Omega.{arith}
use mathlib.Core.Path.{◌≡◌, refl, ◌∙◌, sym, ap}
use mathlib.Core.Bool.{Bool, true, false, ◌&&◌, and-false}
use mathlib.Core.List.{List, ◌++◌}
use lib.ListN.{length, get_or, take, set, length-set}
use lib.Seq.{take_all, set-get_or}
use lib.Dec.{eqb}
use borrow.Author.Tests.{lt-ltb, le-ltb, ne_eqb}
use Rattle.rules.specs.declared.span.Span.{Span}
use Rattle.rules.specs.Kind
use Rattle.rules.specs.Words.{number_if, any_of}
use Rattle.rules.specs.Record.{Rec, is}
use Rattle.rules.specs.Refusals.{max_records}
use Rattle.names.specs.NameTable.{place_of, is_keyed, is_named, same_name, id_in, declaration_in, import_in, target_in, code_of}
use Rattle.names.specs.Notes.{has_id, declaration_note, import_note, id_noted, Part, Silent, Read, Spread}
use Rattle.names.specs.Parts.{known, known_count, record_of, target_of, ids, declarations, imported, targets, codes}
use Rattle.names.specs.SameEnds.{with_target}
use Rattle.names.proofs.Columns.{column-past, length_ids, length-declarations, length-imported, length-targets, length-codes}
use Rattle.names.proofs.FirstPlaces.{place-never, place-passes, any_place}
use Rattle.names.proofs.Firsts.{id_at, id-unnamed, id-known, id-same-name, id-shared, id-within}
use Rattle.names.proofs.Known.{known-few, known_bounds, length-known, known_at}
use Rattle.names.proofs.Numbers.{part_at}
use Rattle.names.proofs.Reading.{id-number}
use Rattle.names.proofs.SameIds.{id-says}
use Rattle.names.proofs.Stored.{part_same, part-set, part-ahead, part-behind, part-whole, taken_here, taken_next, taken-zero, taken-all}
use Rattle.names.specs.View.{declarations_from, imports_from, targets_from, codes_from, totals_from, table_size}

module _ (sheet names : List ℕ) where
  abbrev rs : List (Rec (List ℕ) Span)
  rs = known sheet names

  abbrev at : ℕ → Rec (List ℕ) Span
  at = record_of sheet names

  abbrev id : ℕ → ℕ
  id = id_at sheet names

  abbrev count : ℕ
  count = known_count sheet

  -- an id is its own id, and not past the record
  id-twice : (i : ℕ) → i < count → id (id i) ≡ id i
  id-twice i h = go (is_keyed (at i)) refl
    where
      go : (b : Bool) → is_keyed (at i) ≡ b → id (id i) ≡ id i
      go true named =
          sym (id-shared sheet names i (id i) h (id-known sheet names i h named) named (id-same-name sheet names i h named))
      go false f = ap id (id-unnamed sheet names i f)

  id-before : (i : ℕ) → i < count → id i ≤ i
  id-before i h = go (is_keyed (at i)) refl
    where
      go : (b : Bool) → is_keyed (at i) ≡ b → id i ≤ i
      go true named = id-within sheet names i h named
      go false f = let own = id-unnamed sheet names i f in omega arith

  -- the id whose note stands at an index
  noted-spread : (i k : ℕ) → k < i → id_noted sheet names i k ≡ id k
  unfolding id_noted
  noted-spread i k h = rw (lt-ltb k i h, id_noted)

  noted-left : (i k : ℕ) → i ≤ k → id_noted sheet names i k ≡ k
  unfolding id_noted
  noted-left i k h = rw (le-ltb k i h, id_noted)

  noted-next : (i k : ℕ) → (i ≡ k → ⊥) → id_noted sheet names i k ≡ id_noted sheet names (i + 1) k
  noted-next i k differ = go (dec_lt k i)
    where
      go : Dec (k < i) → id_noted sheet names i k ≡ id_noted sheet names (i + 1) k
      go (yes h) = noted-spread i k h ∙ sym (noted-spread (i + 1) k (omega arith))
      go (no h) = noted-left i k (omega arith) ∙ sym (noted-left (i + 1) k (omega arith))

  noted-id : (i : ℕ) → i < count → id_noted sheet names i (id i) ≡ id i
  noted-id i h = go (dec_lt (id i) i)
    where
      go : Dec (id i < i) → id_noted sheet names i (id i) ≡ id i
      go (yes l) = noted-spread i (id i) l ∙ id-twice i h
      go (no l) = noted-left i (id i) (omega arith)

  -- all records
  all_known : take count rs ≡ rs
  all_known = take_all count rs (rw length-known (omega arith))

  -- what is noted at the id of a record
  module _ (i : ℕ) (h : i < count) where
    says : (q : Rec (List ℕ) Span) → eqb (place_of (same_name q) rs) (suc (id i)) ≡ same_name (at i) q
    says q = rw (← known_at sheet names i (at i) h) (id-says rs (at i) i (rw length-known h) q)

    declaration-noted : declaration_note sheet names count (id i) ≡ declaration_in rs (at i)
    unfolding declaration_note declaration_in has_id
    declaration-noted = rw all_known (λ s. place_of (λ q. is Kind.Declaration q && says q s) rs)

    import-noted : import_note sheet names count (id i) ≡ import_in rs (at i)
    unfolding import_note import_in has_id
    import-noted = rw all_known (λ s. number_if (any_of (λ q. is Kind.ImportedName q && says q s) rs) 1)

  -- nothing is noted past the last record
  module _ (k : ℕ) (h : count ≤ k) where
    none-past : (kind : ℕ) (q : Rec (List ℕ) Span) → has_id kind rs k q ≡ false
    unfolding has_id
    none-past kind q =
        rw (
          ne_eqb (place_of (same_name q) rs) (suc k) (λ e.
              let inside : k < count = rw length-known at (place-passes (same_name q) q rs k e).0 in
              omega arith),
          and-false,
        )

    declaration-past : declaration_note sheet names count k ≡ 0
    unfolding declaration_note
    declaration-past = place-never (has_id Kind.Declaration rs k) (none-past Kind.Declaration) (take count rs)

    import-past : import_note sheet names count k ≡ 0
    unfolding import_note
    import-past =
        rw (any_place (has_id Kind.ImportedName rs k) (take count rs), place-never (has_id Kind.ImportedName rs k) (none-past Kind.ImportedName) (take count rs))

    -- nor has a part a number there
    ids-past : get_or (ids sheet names) k 0 ≡ 0
    unfolding ids
    ids-past = column-past (id_in rs) rs k (rw length-known h)

    declarations-past : get_or (declarations sheet names) k 0 ≡ 0
    unfolding declarations
    declarations-past = column-past (λ i r. declaration_in rs r) rs k (rw length-known h)

    imported-past : get_or (imported sheet names) k 0 ≡ 0
    unfolding imported
    imported-past = column-past (λ i r. import_in rs r) rs k (rw length-known h)

    targets-past : get_or (targets sheet names) k 0 ≡ 0
    unfolding targets
    targets-past = column-past (λ i r. target_in rs r) rs k (rw length-known h)

    codes-past : get_or (codes sheet names) k 0 ≡ 0
    unfolding codes
    codes-past = column-past (λ i r. number_if (is_named r) (code_of r.kind r.name)) rs k (rw length-known h)

  -- before the first record nothing is spread
  pub spread_none : (t : List ℕ) → Read sheet names t count count → Spread sheet names t 0
  spread_none t before =
      record {
        size = before.size;
        ids-part = part_same before.ids-part (λ k l. taken-all (ids sheet names) count k ids-past);
        declaration-notes = part_same before.declaration-notes (λ k l. sym (ap (declaration_note sheet names count) (noted-left 0 k (omega arith))));
        import-notes = part_same before.import-notes (λ k l. sym (ap (import_note sheet names count) (noted-left 0 k (omega arith))));
        targets-part = before.targets-part;
        codes-part = part_same before.codes-part (λ k l. taken-all (codes sheet names) count k codes-past);
      }

  -- the turn of record i, whose id is read
  module _ (t : List ℕ) (i : ℕ) (h : i < count) (before : Spread sheet names t i) (own : ℕ) (e : own ≡ get_or t (0 + i) 0) where
    few : i < max_records
    few = let most = known-few sheet in omega arith

    own-id : own ≡ id i
    own-id = e ∙ before.ids-part.at i few ∙ sym (id-number sheet names i h (id i) refl)

    pub own-small : own < max_records
    own-small = let low = id-before i h in let same = own-id in let most = few in omega arith

    module _ (place : ℕ) (ep : place ≡ get_or t (declarations_from + own) 0) (im : ℕ) (ei : im ≡ get_or t (imports_from + own) 0) where
      place-noted : place ≡ declaration_note sheet names count (id i)
      place-noted =
          ep ∙ before.declaration-notes.at own own-small
          ∙ ap (declaration_note sheet names count) (ap (id_noted sheet names i) own-id ∙ noted-id i h)

      import-read : im ≡ import_note sheet names count (id i)
      import-read =
          ei ∙ before.import-notes.at own own-small
          ∙ ap (import_note sheet names count) (ap (id_noted sheet names i) own-id ∙ noted-id i h)

      target-number : (v : ℕ) → v ≡ target_of rs place → v ≡ get_or (targets sheet names) i 0
      unfolding targets target_in
      target-number v ev =
          part_at sheet names i count refl (λ i r. target_in rs r) v (known-few sheet) h
          (ev ∙ ap (target_of rs) (place-noted ∙ declaration-noted i h))

      -- the table with the two notes
      noted : List ℕ
      noted = set (set t (declarations_from + i) place) (imports_from + i) im

      size-noted : length noted ≡ table_size
      unfolding noted
      size-noted = length-set (set t (declarations_from + i) place) (imports_from + i) im ∙ length-set t (declarations_from + i) place ∙ before.size

      new-place : declaration_note sheet names count (id i) ≡ declaration_note sheet names count (id_noted sheet names (i + 1) i)
      new-place = ap (declaration_note sheet names count) (sym (noted-spread (i + 1) i (omega arith)))

      new-import : import_note sheet names count (id i) ≡ import_note sheet names count (id_noted sheet names (i + 1) i)
      new-import = ap (import_note sheet names count) (sym (noted-spread (i + 1) i (omega arith)))

      ids-noted : Part 0 (λ k. get_or (ids sheet names) k 0) noted
      unfolding noted
      ids-noted = part-behind (part-behind before.ids-part (declarations_from + i) place (omega arith)) (imports_from + i) im (omega arith)

      declarations-noted : Part declarations_from (λ k. declaration_note sheet names count (id_noted sheet names (i + 1) k)) noted
      unfolding noted
      declarations-noted =
          let most = few in
          part-behind
          (part-set before.declaration-notes i place (omega (arith, before.size))
          (λ k l differ. ap (declaration_note sheet names count) (noted-next i k differ)) (place-noted ∙ new-place))
          (imports_from + i) im (omega arith)

      imports-noted : Part imports_from (λ k. import_note sheet names count (id_noted sheet names (i + 1) k)) noted
      unfolding noted
      imports-noted =
          let most = few in
          let size' = length-set t (declarations_from + i) place ∙ before.size in
          part-set (part-ahead before.import-notes (declarations_from + i) place (omega arith)) i im (omega (arith, size'))
          (λ k l differ. ap (import_note sheet names count) (noted-next i k differ)) (import-read ∙ new-import)

      targets-noted : Part targets_from (λ k. get_or (take i (targets sheet names)) k 0) noted
      unfolding noted
      targets-noted =
          let most = few in
          part-ahead (part-ahead before.targets-part (declarations_from + i) place (omega arith)) (imports_from + i) im (omega arith)

      codes-noted : Part codes_from (λ k. get_or (codes sheet names) k 0) noted
      unfolding noted
      codes-noted =
          let most = few in
          part-ahead (part-ahead before.codes-part (declarations_from + i) place (omega arith)) (imports_from + i) im (omega arith)

      -- a name with no declaration has no target
      pub spread-undeclared : place ≡ 0 → Spread sheet names (set (set t (declarations_from + i) place) (imports_from + i) im) (i + 1)
      unfolding noted
      spread-undeclared none =
          record {
            size = size-noted;
            ids-part = ids-noted;
            declaration-notes = declarations-noted;
            import-notes = imports-noted;
            targets-part = part_same targets-noted (λ k l. taken-zero (targets sheet names) i k (sym (target-number 0 (rw none))));
            codes-part = codes-noted;
          }

      pub spread-declared :
          (v p : ℕ) → p ≡ place → ((others : List ℕ) → v ≡ target_of (known sheet others) p) →
          Spread sheet names (with_target (set (set t (declarations_from + i) place) (imports_from + i) im) i v) (i + 1)
      unfolding noted with_target
      spread-declared v p same target =
          let most = few in
          rw (with_target, lt-ltb i max_records most) (record {
            size = length-set noted (targets_from + i) v ∙ size-noted;
            ids-part = part-behind ids-noted (targets_from + i) v (omega arith);
            declaration-notes = part-behind declarations-noted (targets_from + i) v (omega arith);
            import-notes = part-behind imports-noted (targets_from + i) v (omega arith);
            targets-part = part-set targets-noted i v (omega (arith, size-noted)) (λ k l differ. taken_next (targets sheet names) i k differ)
                (target-number v (target names ∙ ap (target_of rs) same) ∙ sym (taken_here (targets sheet names) i));
            codes-part = part-ahead codes-noted (targets_from + i) v (omega arith);
          })

  -- where nothing is noted, there is nothing to spread
  module _ (t : List ℕ) (silent : (k : ℕ) → k < count → (get_or t (declarations_from + k) 0 ≡ 0) × (get_or t (imports_from + k) 0 ≡ 0)) where
    silent-next : (i : ℕ) → i < count → Spread sheet names t i → Spread sheet names t (i + 1)
    silent-next i h before =
        let low : get_or t (0 + i) 0 < count = omega (arith, own-id t i h before (get_or t (0 + i) 0) refl, id-before i h) in
        let place : get_or t (declarations_from + get_or t (0 + i) 0) 0 ≡ get_or t (declarations_from + i) 0 = (silent (get_or t (0 + i) 0) low).0 ∙ sym (silent i h).0 in
        let import : get_or t (imports_from + get_or t (0 + i) 0) 0 ≡ get_or t (imports_from + i) 0 = (silent (get_or t (0 + i) 0) low).1 ∙ sym (silent i h).1 in
        rw (place, set-get_or t (declarations_from + i) 0, import, set-get_or t (imports_from + i) 0)
        at (spread-undeclared t i h before (get_or t (0 + i) 0) refl _ refl _ refl (silent (get_or t (0 + i) 0) low).0)

    silent-spread : (i : ℕ) → i ≤ count → Spread sheet names t 0 → Spread sheet names t i
    silent-spread zero h start = start
    silent-spread (suc i) h start = rw add-one at (silent-next i (omega arith) (silent-spread i (omega arith) start))

  -- after the last record every part has its numbers
  module _ (t : List ℕ) (before : Spread sheet names t count) where
    declarations-part : Part declarations_from (λ k. get_or (declarations sheet names) k 0) t
    unfolding declarations
    declarations-part = part_same before.declaration-notes (λ k l. go k (dec_lt k count))
      where
        go : (k : ℕ) → Dec (k < count) → declaration_note sheet names count (id_noted sheet names count k) ≡ get_or (declarations sheet names) k 0
        go k (yes h) =
            ap (declaration_note sheet names count) (noted-spread count k h)
            ∙ part_at sheet names k count refl (λ i r. declaration_in rs r) _ (known-few sheet) h (declaration-noted k h)
        go k (no h) =
            let past : count ≤ k = omega arith in
            ap (declaration_note sheet names count) (noted-left count k past) ∙ declaration-past k past ∙ sym (declarations-past k past)

    imports-part : Part imports_from (λ k. get_or (imported sheet names) k 0) t
    unfolding imported
    imports-part = part_same before.import-notes (λ k l. go k (dec_lt k count))
      where
        go : (k : ℕ) → Dec (k < count) → import_note sheet names count (id_noted sheet names count k) ≡ get_or (imported sheet names) k 0
        go k (yes h) =
            ap (import_note sheet names count) (noted-spread count k h)
            ∙ part_at sheet names k count refl (λ i r. import_in rs r) _ (known-few sheet) h (import-noted k h)
        go k (no h) =
            let past : count ≤ k = omega arith in
            ap (import_note sheet names count) (noted-left count k past) ∙ import-past k past ∙ sym (imported-past k past)

    targets-part : Part targets_from (λ k. get_or (targets sheet names) k 0) t
    targets-part = part_same before.targets-part (λ k l. taken-all (targets sheet names) count k targets-past)

    all-spread :
        take totals_from t ≡ ids sheet names ++ declarations sheet names ++ imported sheet names ++ targets sheet names ++ codes sheet names
    all-spread =
        part-whole codes_from (codes sheet names) t (length-codes sheet names) (omega (arith, before.size)) before.codes-part
        ∙ ap (◌++ codes sheet names)
        (part-whole targets_from (targets sheet names) t (length-targets sheet names) (omega (arith, before.size)) targets-part
        ∙ ap (◌++ targets sheet names)
        (part-whole imports_from (imported sheet names) t (length-imported sheet names) (omega (arith, before.size)) imports-part
        ∙ ap (◌++ imported sheet names)
        (part-whole declarations_from (declarations sheet names) t (length-declarations sheet names) (omega (arith, before.size)) declarations-part
        ∙ ap (◌++ declarations sheet names)
        (part-whole 0 (ids sheet names) t (length_ids sheet names) (omega (arith, before.size)) before.ids-part))))

pub none-spread :
    (sheet names t : List ℕ) (n : ℕ) → n ≡ known_count sheet → Silent t n → Read sheet names t (known_count sheet) (known_count sheet) →
    take totals_from t ≡ ids sheet names ++ declarations sheet names ++ imported sheet names ++ targets sheet names ++ codes sheet names
unfolding Silent
none-spread sheet names t n e silent read =
    all-spread sheet names t (silent-spread sheet names t (λ k l. silent k (rw e l)) (known_count sheet) (omega arith) (spread_none sheet names t read))

pub spread-all :
    (sheet names t : List ℕ) (i n : ℕ) → n ≡ known_count sheet → i ≤ n → n ≤ i → Spread sheet names t i →
    take totals_from t ≡ ids sheet names ++ declarations sheet names ++ imported sheet names ++ targets sheet names ++ codes sheet names
spread-all sheet names t i n e a b before =
    let last : i ≡ known_count sheet = omega arith in
    all-spread sheet names t (rw last at before)

-- what spreads the notes
pub ruleset spreads = (own-small, none-spread, spread-all, known_bounds)
