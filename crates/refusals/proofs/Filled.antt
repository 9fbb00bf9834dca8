-- The filled table's entry for a record is the place of the first declaration of its name, so the pass that looks declarations up in it finds
-- the first fault.
use Prim.Native.Nat.{ℕ, suc, ◌<◌, ◌≤◌}
use native.Mathlib.Nat.{add-zero}
use native.Mathlib.Omega.{arith}
use mathlib.Core.Path.{◌≡◌, refl, sym, ap, ◌∙◌}
use mathlib.Core.Bool.{not}
use mathlib.Core.List.{List, [], ◌∷◌, ◌++◌}
use lib.ListN.{length, get_or, length-append}
use lib.Seq.{get_or-append-add, take_all}
use lib.Dec.{eqb}
use Rattle.rules.specs.declared.span.Span.{Span}
use Rattle.rules.specs.Words.{any_of, same_bytes}
use Rattle.rules.specs.Record.{Rec, records}
use Rattle.rules.specs.Grammar.{start}
use Rattle.rules.specs.Refusals.{max_records, first_fault}
use Rattle.rules.proofs.Records.{length-records}
use Rattle.names.specs.NameTable.{declaration_in, table_of, name_table}
use Rattle.names.specs.View.{entry_of, declaration_part}
use Rattle.names.proofs.ColumnEntries.{entry_at}
use Rattle.refusals.specs.Pass.{is_second, first_fault_by}
use Rattle.refusals.proofs.Seconds.{faults-same}

-- the element after a front
after_front : {A : Type 0} (pre post : List A) (x : A) → get_or (pre ++ x ∷ post) (length pre) x ≡ x
after_front pre post x = ap (λ n. get_or (pre ++ x ∷ post) n x) (sym (add-zero (length pre))) ∙ get_or-append-add pre (x ∷ post) 0 x

-- the place of the first declaration of the name of the record after a front
declaration-at :
    (rs pre post : List (Rec (List ℕ) Span)) (r : Rec (List ℕ) Span) → length rs ≤ max_records → rs ≡ pre ++ r ∷ post →
    entry_of declaration_part (table_of rs) (length pre) ≡ declaration_in rs r
declaration-at rs pre post r few e =
    let below : length pre < length rs = omega (arith, ap length e, length-append pre (r ∷ post)) in
    entry_at rs declaration_part (length pre) r (omega arith) below few
    ∙ ap (declaration_in rs) (ap (λ l. get_or l (length pre) r) e ∙ after_front pre post r)

-- rows 3 to 8 by the filled table
pub pass-filled :
    (sheet names : List ℕ) → length sheet ≤ 32768 →
    first_fault_by (is_second (name_table sheet names)) start 0 (records sheet names) ≡ first_fault same_bytes start [] 0 (records sheet names)
unfolding name_table any_of
pass-filled sheet names h =
    let rs : List (Rec (List ℕ) Span) = records sheet names in
    let few : length rs ≤ max_records = omega (arith, length-records sheet names) in
    faults-same rs (is_second (name_table sheet names))
    (λ pre post r e. ap (λ d. not (eqb d (suc (length pre)))) (rw (take_all max_records rs few) (declaration-at rs pre post r few e)))
    rs [] [] start refl (λ q. refl) refl
