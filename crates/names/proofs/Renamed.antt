-- Record i of the view is record i of the sheet, with its index for a name; and the table answers at that index what the context answers of
-- the name. So the rules find the same list through the table, and the same chains never end.
use Prim.Native.Nat.{ℕ, zero, suc, ◌+◌, ◌-◌, ◌*◌, ◌/◌, ◌%◌, ◌<◌, ◌≤◌}
use native.Mathlib.Nat.{sub-zero}
use native.Mathlib.Decide.{dec_lt}
use native.Mathlib.Numerals.{add-one}
use native.Mathlib.Omega.{arith}
use mathlib.Core.Path.{◌≡◌, refl, sym, ap, ap₂, ◌∙◌}
use mathlib.Core.Bool.{Bool, true, false, not, ◌&&◌, true≢false}
use mathlib.Core.List.{List, [], ◌∷◌, map}
use mathlib.Core.Option.{Option, some, none}
use lib.ListN.{length, get_or, drop, drop_of_length-le}
use lib.Seq.{drop-drop, take_all}
use lib.Dec.{eqb}
use borrow.Author.Tests.{eqb-true}
use Rattle.std.proofs.lemmas.Bool.{and_parts}
use Rattle.rules.specs.declared.span.Span.{Span}
use Rattle.rules.specs.Words.{within, number_if, any_of, same_bytes, look_up}
use Rattle.rules.specs.Kind
use Rattle.rules.specs.Sub
use Rattle.rules.specs.Record.{Rec, is, record_size, record_bytes, kind_in, is_named_in, fits_in, name_in, sub_in, decode, pieces, records}
use Rattle.rules.specs.Asked.{is_compared, is_worded, is_spelled}
use Rattle.rules.specs.Context.{valid_field_name, Declared, ValidationContext, context_of, declared, inner_of, behind}
use Rattle.rules.specs.Refusals.{endless_chain, max_records}
use Rattle.rules.specs.Bodies.{violations_of}
use Rattle.rules.specs.Answer.{is_accepted, found_in}
use Rattle.rules.proofs.Every.{Every, every-nil, every-cons, every-at}
use Rattle.rules.proofs.Records.{length-records, records-at, records-drop, records-end}
use Rattle.rules.proofs.AcceptedSheet.{accepted-length, accepted-whole, accepted-fits}
use Rattle.rules.proofs.Chains.{is_some, goes_on, chain-stays, never_ends_lem}
use Rattle.rules.proofs.Renamed.{renamed, has_name_of, map_option, Holds, renamed_declared, WellNamed, Agree, Alike, endless-renamed, goes-renamed, never-renamed, agree-alike}
use Rattle.rules.proofs.RenamedBodies.{violations-renamed}
use Rattle.names.specs.Codes.{last_word, blank_code, bit_code}
use Rattle.names.specs.NameTable.{place_of, id_in, declaration_in, target_at, target_in, word_code, code_of, name_table, table_of}
use Rattle.names.specs.Parts.{target_of}
use Rattle.names.specs.View.{view_at, view_from, view_of, entry_of, id_part, declaration_part, import_part, target_part, code_part, index_at, at_place, declared_at, declared_by, context_by}
use Rattle.names.specs.SameEnds.{sub_of, SameEnds, Lasting}
use Rattle.names.proofs.Targeted.{undeclared-behind}
use Rattle.names.proofs.CodeEntries.{code-word, code-blank, code-valid}
use Rattle.names.proofs.FirstPlaces.{place-passes}
use Rattle.names.proofs.ColumnEntries.{parts, entry_at, entry_past, wildcard-entry, declarations-entry}
use Rattle.names.proofs.Lookups.{tested, bears, declaration-place, declaration-none, import-says, declared_first, declared-place, id_same}

-- the name of record i
abbrev pub name_at : List ℕ → List ℕ → ℕ → List ℕ
name_at sheet names i = name_in names (record_bytes sheet i)

-- record i has a name, and its kind passes the test
abbrev has_name_at : (ℕ → Bool) → List ℕ → ℕ → Bool
has_name_at test sheet i = is_named_in (record_bytes sheet i) && test (kind_in (record_bytes sheet i))

abbrev pub HasName : (ℕ → Bool) → List ℕ → ℕ → Type 0
HasName test sheet i = has_name_at test sheet i ≡ true

-- a record of the view, which has the names of its own index
abbrev Viewed : List ℕ → Rec ℕ Span → Type 0
Viewed sheet = WellNamed (HasName is_compared sheet) (HasName is_worded sheet) (HasName is_spelled sheet)

-- a record that fits is its view under its name
decode-view :
    (sheet names : List ℕ) (i : ℕ) → fits_in names (record_bytes sheet i) ≡ true →
    decode names (record_bytes sheet i) ≡ renamed (name_at sheet names) (view_at sheet i)
unfolding decode view_at
decode-view sheet names i fits =
    let r : Rec (List ℕ) Span = decode names (record_bytes sheet i) in
    λ t. record {
      kind = r.kind;
      sub = r.sub;
      clean = r.clean;
      fits = fits t;
      name = r.name;
      place = r.place;
      ordinal_place = r.ordinal_place;
      value = r.value;
    }

-- the records from record i on
pieces-view :
    (sheet names : List ℕ) (i n : ℕ) → ((j : ℕ) → j < i + n → fits_in names (record_bytes sheet j) ≡ true) →
    map (decode names) (pieces n (drop (32 * i) sheet)) ≡ map (renamed (name_at sheet names)) (view_from sheet i n)
unfolding pieces view_from
pieces-view sheet names i zero fits = refl
pieces-view sheet names i (suc n) fits =
    let next : 32 * i + 32 ≡ 32 * suc i = omega arith in
    let moved = drop-drop 32 (32 * i) sheet ∙ ap (λ at. drop at sheet) next in
    ap₂ ◌∷◌ (decode-view sheet names i (fits i (omega arith)))
    (ap (λ s. map (decode names) (pieces n s)) moved ∙ pieces-view sheet names (suc i) n (λ j h. fits j (omega arith)))

view-well : (sheet : List ℕ) (i n : ℕ) → Every (Viewed sheet) (view_from sheet i n)
unfolding view_from view_at
view-well sheet i zero = every-nil
view-well sheet i (suc n) = every-cons {x = view_at sheet i} (record { good = λ h. h; worded = λ h. h; spelled = λ h. h }) (view-well sheet (suc i) n)

-- past the last record there is none with a name
named-within : (test : ℕ → Bool) (sheet : List ℕ) (i : ℕ) → length sheet % 32 ≡ 0 → HasName test sheet i → i < length sheet / 32
unfolding sub_in look_up any_of
named-within test sheet i whole h = go (dec_lt i (length sheet / 32))
  where
    go : Dec (i < length sheet / 32) → i < length sheet / 32
    go (yes l) = l
    go (no g) =
        let empty = drop_of_length-le sheet {i = 32 * i} (omega arith) in
        let z : ◌≡◌ {A = ℕ} 0 1 = cc (rw empty at h) in omega arith

declared-well :
    (sheet : List ℕ) (declaration target : ℕ) →
    Holds (λ d. Holds (Viewed sheet) d.inner) (declared_at sheet declaration target)
unfolding view_at
declared-well sheet zero target = tt
declared-well sheet (suc d) zero = tt
declared-well sheet (suc d) (suc t) = record { good = λ h. h; worded = λ h. h; spelled = λ h. h }

-- a sheet of whole records that the table has room for, with names that fit
module _ (sheet names : List ℕ) (room : length sheet ≤ 32768) (whole : length sheet % 32 ≡ 0)
    (fits : Every (λ r. r.fits ≡ true) (records sheet names)) where
  fits-at : (i : ℕ) → i < length sheet / 32 → fits_in names (record_bytes sheet i) ≡ true
  unfolding decode
  fits-at i h =
      let d : Rec (List ℕ) Span = decode names [] in
      rw (records-at sheet names i d h) at (every-at fits d i (rw length-records h))

  -- the records are those of the view, each under its name
  records-renamed : records sheet names ≡ map (renamed (name_at sheet names)) (view_of sheet 0 (length sheet / record_size))
  unfolding records
  records-renamed = rw (sub-zero (length sheet / 32)) (pieces-view sheet names 0 (length sheet / 32) (λ j h. fits-at j (omega arith)))

  abbrev rs : List (Rec (List ℕ) Span)
  rs = records sheet names

  abbrev record_at : ℕ → Rec (List ℕ) Span
  record_at i = decode names (record_bytes sheet i)

  -- what stands for a record past the last
  abbrev nobody : Rec (List ℕ) Span
  nobody = decode names []

  -- the table has room for every record
  short : length rs ≤ max_records
  short = rw length-records (omega arith)

  table-whole : name_table sheet names ≡ table_of rs
  unfolding name_table
  table-whole = ap table_of (take_all max_records rs short)

  -- what the table says of a record with a name that is asked for
  module _ (test : ℕ → Bool) (i : ℕ) (has : HasName test sheet i) where
    inside : i < length sheet / 32
    inside = named-within test sheet i whole has

    named-at : ((Kind.has_name (record_at i).kind (record_at i).sub && test (record_at i).kind) && (record_at i).fits) ≡ true
    unfolding decode
    named-at = rw (has, fits-at i inside)

    at-place : get_or rs i nobody ≡ record_at i
    at-place = records-at sheet names i nobody inside

    entry : (part : ℕ) → part < 5 → entry_of part (table_of rs) i ≡ get_or (parts rs) part (λ k r. 0) i (record_at i)
    entry part b = entry_at rs part i nobody b (rw length-records inside) short ∙ ap (get_or (parts rs) part (λ k r. 0) i) at-place

    code-entry : entry_of code_part (table_of rs) i ≡ code_of (kind_in (record_bytes sheet i)) (name_at sheet names i)
    unfolding decode
    code-entry =
        let named = (and_parts (is_named_in (record_bytes sheet i)) (test (kind_in (record_bytes sheet i))) has).0 in
        entry code_part (omega arith) ∙ rw (named, fits-at i inside)

  -- a name that may be a word, and one that is judged
  word-entry : (i : ℕ) → HasName is_worded sheet i → entry_of code_part (table_of rs) i ≡ word_code (name_at sheet names i)
  unfolding code_of
  word-entry i has =
      let worded = (and_parts (is_named_in (record_bytes sheet i)) (is_worded (kind_in (record_bytes sheet i))) has).1 in
      code-entry is_worded i has ∙ rw (worded, code_of)

  valid-entry : (i : ℕ) → HasName is_spelled sheet i → entry_of code_part (table_of rs) i ≡ number_if (valid_field_name (name_at sheet names i)) bit_code
  unfolding code_of
  valid-entry i has =
      let spelled = (and_parts (is_named_in (record_bytes sheet i)) (is_spelled (kind_in (record_bytes sheet i))) has).1 in
      code-entry is_spelled i has ∙ ap (λ k. code_of k (name_at sheet names i)) (eqb-true (kind_in (record_bytes sheet i)) Kind.BitName spelled)

  module _ (i : ℕ) (has : HasName is_compared sheet i) where
    import-entry : any_of (bears Kind.ImportedName (name_at sheet names i)) rs ≡ not (eqb (entry_of import_part (table_of rs) i) 0)
    unfolding decode
    import-entry =
        import-says rs (fits) (record_at i) (named-at is_compared i has)
        ∙ ap (λ (n : ℕ). not (eqb n 0)) (sym (entry is_compared i has import_part (omega arith)))

    declaration-entry : entry_of declaration_part (table_of rs) i ≡ place_of (bears Kind.Declaration (name_at sheet names i)) rs
    unfolding decode
    declaration-entry =
        entry is_compared i has declaration_part (omega arith) ∙ declaration-place rs (fits) (record_at i) (named-at is_compared i has)

    target-entry : entry_of target_part (table_of rs) i ≡ target_of rs (place_of (bears Kind.Declaration (name_at sheet names i)) rs)
    unfolding target_in decode
    target-entry =
        entry is_compared i has target_part (omega arith)
        ∙ ap (target_of rs) (declaration-place rs (fits) (record_at i) (named-at is_compared i has))

  same-entry :
      (a b : ℕ) → HasName is_compared sheet a → HasName is_compared sheet b →
      same_bytes (name_at sheet names a) (name_at sheet names b) ≡ eqb (entry_of id_part (table_of rs) a) (entry_of id_part (table_of rs) b)
  unfolding decode
  same-entry a b ha hb =
      ap₂ (λ (r q : Rec (List ℕ) Span). same_bytes r.name q.name) (sym (at-place is_compared a ha)) (sym (at-place is_compared b hb))
      ∙ id_same rs nobody a b (in-records a ha) (in-records b hb) (rw (at-place is_compared a ha) (named-at is_compared a ha)) (rw (at-place is_compared b hb) (named-at is_compared b hb))
      ∙ ap₂ eqb (id-entry a ha) (id-entry b hb)
    where
      in-records : (i : ℕ) → HasName is_compared sheet i → i < length rs
      in-records i has = rw length-records (inside is_compared i has)

      id-entry : (i : ℕ) → HasName is_compared sheet i → id_in rs i (get_or rs i nobody) ≡ entry_of id_part (table_of rs) i
      id-entry i has = sym (entry_at rs id_part i nobody (omega arith) (in-records i has) short)

  drop_at : (i : ℕ) → i < length sheet / 32 → drop i rs ≡ record_at i ∷ drop (suc i) rs
  drop_at i h = records-drop sheet names i h ∙ ap (λ n. record_at i ∷ drop n rs) (add-one i)

  -- the type of a declaration is the record directly after it
  inner-at :
      (k : ℕ) →
      inner_of (record_at k).sub (drop (suc k) rs)
      ≡ map_option (renamed (name_at sheet names)) (at_place sheet (index_at (target_at (suc k) (record_at k ∷ drop (suc k) rs))))
  inner-at k = go (dec_lt (suc k) (length sheet / 32))
    where
      by-test :
          (b : Bool) → suc k < length sheet / 32 →
          ◌≡◌ {A = Option (Rec (List ℕ) Span)} (elim b [ true ↦ some (record_at (suc k)) | false ↦ none ])
          (map_option (renamed (name_at sheet names)) (at_place sheet (index_at (number_if b (suc (suc k))))))
      by-test true l = ap some (decode-view sheet names (suc k) (fits-at (suc k) l))
      by-test false l = refl

      go : Dec (suc k < length sheet / 32) →
          inner_of (record_at k).sub (drop (suc k) rs)
          ≡ map_option (renamed (name_at sheet names)) (at_place sheet (index_at (target_at (suc k) (record_at k ∷ drop (suc k) rs))))
      go (yes l) = rw (drop_at (suc k) l) (by-test (Sub.is_renaming (record_at k).sub && Kind.is_type (record_at (suc k)).kind) l)
      go (no g) = rw (records-end sheet names (suc k) (omega arith))

  declared-at :
      (k : ℕ) → k < length sheet / 32 →
      declared_first (drop k rs) ≡ map_option (renamed_declared (name_at sheet names)) (declared_at sheet (suc k) (target_at (suc k) (drop k rs)))
  unfolding decode
  declared-at k h = rw (drop_at k h) (λ i. some (record { sub = sub_in (record_bytes sheet k); inner = inner-at k i }))

  declared-entry :
      (m : ℕ) → HasName is_compared sheet m →
      declared rs (name_at sheet names m) ≡ map_option (renamed_declared (name_at sheet names)) (declared_by (table_of rs) sheet m)
  unfolding declared_by
  declared-entry m h =
      declared-place rs (name_at sheet names m)
      ∙ go (place_of (bears Kind.Declaration (name_at sheet names m)) rs) refl
      ∙ ap (map_option (renamed_declared (name_at sheet names)))
      (λ i. declared_at sheet (sym (declaration-entry m h) i) (sym (target-entry m h) i))
    where
      go :
          (place : ℕ) →
          place_of (bears Kind.Declaration (name_at sheet names m)) rs ≡ place →
          ◌≡◌ {A = Option (Declared (List ℕ) Span)} (elim place [ zero ↦ none | suc k ↦ declared_first (drop k rs) ])
          (map_option (renamed_declared (name_at sheet names)) (declared_at sheet place (target_of rs place)))
      go zero e = refl
      go (suc k) e =
          let l = (place-passes (bears Kind.Declaration (name_at sheet names m)) nobody rs k e).0 in
          declared-at k (rw length-records at l)

  agree : Agree (name_at sheet names) (HasName is_compared sheet) (HasName is_worded sheet) (HasName is_spelled sheet) (context_of rs) (context_by (table_of rs) sheet)
  unfolding context_of context_by declared_by
  agree =
      record {
        decl_map = declared-entry;
        inner = λ m h. declared-well sheet (entry_of declaration_part (table_of rs) m) (entry_of target_part (table_of rs) m);
        imported_names = import-entry;
        has_wildcard_import = sym (tested (any_of (is Kind.Wildcard) rs)) ∙ ap (λ (n : ℕ). not (eqb n 0)) (sym (wildcard-entry rs));
        declarations = sym (declarations-entry rs);
        same = same-entry;
        word = λ m h. code-word (name_at sheet names m) ∙ ap (λ (c : ℕ). number_if (within 1 last_word c) c) (sym (word-entry m h));
        blank = λ m h. code-blank (name_at sheet names m) ∙ ap (λ (c : ℕ). eqb c blank_code) (sym (word-entry m h));
        is_valid_field_name = λ m h. code-valid (valid_field_name (name_at sheet names m)) ∙ ap (λ (c : ℕ). eqb c bit_code) (sym (valid-entry m h));
      }

  -- the table says of the index of a record with a name what the context says of the name
  contexts-agree :
      Agree (name_at sheet names) (HasName is_compared sheet) (HasName is_worded sheet) (HasName is_spelled sheet) (context_of (records sheet names)) (context_by (name_table sheet names) sheet)
  contexts-agree = rw table-whole agree

  -- a record without a name that is compared is not declared
  nameless : (m : ℕ) → has_name_at is_compared sheet m ≡ false → declared_by (table_of rs) sheet m ≡ none
  unfolding declared_by decode
  nameless m h = ap (λ d. declared_at sheet d (entry_of target_part (table_of rs) m)) (go (dec_lt m (length sheet / 32)))
    where
      go : Dec (m < length sheet / 32) → entry_of declaration_part (table_of rs) m ≡ 0
      go (yes l) =
          entry_at rs declaration_part m nobody (omega arith) (rw length-records l) short
          ∙ ap (declaration_in rs) (records-at sheet names m nobody l)
          ∙ declaration-none rs (record_at m) (ap (λ b. b && fits_in names (record_bytes sheet m)) h)
      go (no l) = entry_past rs declaration_part m (omega arith) (rw length-records (omega arith))

  abbrev by_table : ValidationContext ℕ Span
  by_table = context_by (name_table sheet names) sheet

  -- a chain that the table gives and that has not ended after as many steps as there are declarations never ends
  pub table-lasting : Lasting (context_by (name_table sheet names) sheet)
  unfolding context_by context_of behind
  table-lasting r e n = go (is Kind.Named r) refl (has_name_at is_compared sheet r.name) refl
    where
      -- a chain that has ended at once does not last
      ended : behind by_table r ≡ none → goes_on by_table n r ≡ true
      ended none-behind = absurd (true≢false (sym e ∙ ap is_some (ap (behind by_table) (chain-stays by_table _ r none-behind) ∙ none-behind)))

      -- the name of a type may be no word, and is not judged
      not-asked : (test : ℕ → Bool) → test Kind.Named ≡ false → is Kind.Named r ≡ true → has_name_of test r ≡ true → HasName test sheet r.name
      not-asked test f k x =
          absurd (true≢false (sym (and_parts (Kind.has_name r.kind r.sub) (test r.kind) x).1 ∙ ap test (eqb-true r.kind Kind.Named k) ∙ f))

      go : (k : Bool) → is Kind.Named r ≡ k → (b : Bool) → has_name_at is_compared sheet r.name ≡ b → goes_on by_table n r ≡ true
      go true k true h =
          let well : Viewed sheet r = record { good = λ x. h; worded = not-asked is_worded refl k; spelled = not-asked is_spelled refl k } in
          sym (goes-renamed contexts-agree n r well)
          ∙ never_ends_lem rs (renamed (name_at sheet names) r) (never-renamed contexts-agree r well ∙ e) n
      go true k false h = ended (rw table-whole (undeclared-behind (context_by (table_of rs) sheet) r (nameless r.name h)))
      go false k b h = ended (rw (k, behind))

  -- row 9 by the table
  pub table-chains :
      endless_chain (context_by (name_table sheet names) sheet) 0 (view_of sheet 0 (length sheet / record_size))
      ≡ endless_chain (context_of (records sheet names)) 0 (records sheet names)
  table-chains =
      sym (endless-renamed contexts-agree 0 (view-well sheet 0 (length sheet / record_size - 0)))
      ∙ ap (endless_chain (context_of (records sheet names)) 0) (sym records-renamed)

-- what has the same ends as an alike context is alike
alike-through : {M N P : Type 0} {g : M → N} {Good Worded Spelled : M → Type 0} (ctx : ValidationContext N P) (ctx' ctx'' : ValidationContext M P)
    → Alike g Good Worded Spelled ctx ctx' → SameEnds ctx' ctx'' → Alike g Good Worded Spelled ctx ctx''
alike-through {M} {N} {P} {g} {Good} {Worded} {Spelled} ctx ctx' ctx'' alike ends =
    record {
      declared = λ ask m h. alike.declared ask m h ∙ told ask (ctx'.decl_map m) ∙ ap (asked ask) (ends.declared m) ∙ sym (told ask (ctx''.decl_map m));
      end = λ r w.
          let end = alike.end r w in
          (end.0 ∙ ap (renamed g) (ends.ends r), rw (← ends.ends r) end.1);
      imported_names = λ m h. alike.imported_names m h ∙ ap (λ f. f m) ends.imported_names;
      has_wildcard_import = alike.has_wildcard_import ∙ ends.has_wildcard_import;
      same = λ m k h l. alike.same m k h l ∙ ap (λ f. f m k) ends.same;
      word = λ m h. alike.word m h ∙ ap (λ f. f m) ends.word;
      blank = λ m h. alike.blank m h ∙ ap (λ f. f m) ends.blank;
      is_valid_field_name = λ m h. alike.is_valid_field_name m h ∙ ap (λ f. f m) ends.is_valid_field_name;
    }
  where
    asked : (ℕ → Bool) → Option ℕ → Bool
    asked ask none = false
    asked ask (some s) = ask s

    told : (ask : ℕ → Bool) (o : Option (Declared M P)) → ◌≡◌ {A = Bool} (elim o [ none ↦ false | some d ↦ ask d.sub ]) (asked ask (sub_of o))
    told ask none = refl
    told ask (some d) = refl

module _ (sheet names : List ℕ) (accepted : is_accepted sheet names ≡ true) where
  -- the table gives the list, and so does one that leads to the same ends
  pub table-list : (table : List ℕ) → SameEnds (context_by (name_table sheet names) sheet) (context_by table sheet)
      → violations_of (context_by table sheet) (view_of sheet 0 (length sheet / record_size)) ≡ found_in sheet names
  unfolding found_in
  table-list table ends =
      let room = accepted-length sheet names accepted in
      let whole = accepted-whole sheet names accepted in
      let fits = accepted-fits sheet names accepted in
      let alike = alike-through _ _ _ (agree-alike (contexts-agree sheet names room whole fits)) ends in
      sym (violations-renamed alike (view-well sheet 0 (length sheet / record_size - 0)))
      ∙ ap (violations_of (context_of (records sheet names))) (sym (records-renamed sheet names room whole fits))
