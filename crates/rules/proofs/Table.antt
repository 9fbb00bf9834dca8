-- Every row of the table holds: the definitions are computed at each row, and compared with what the row expects by one test, whose
-- passing gives the equations.
use Prim.Native.Nat.{ℕ}
use mathlib.Core.Path.{◌≡◌, refl, ap₂, subst⁻¹}
use mathlib.Core.Bool.{Bool, true, false, ◌&&◌}
use mathlib.Core.List.{List, [], ◌∷◌, Memᴰ}
use lib.Dec.{eqb}
use Rattle.std.proofs.lemmas.Bool.{eqb-true, and_parts}
use Rattle.rules.specs.declared.violation.Violation.{Violation}
use Rattle.rules.specs.declared.answer.AnswerValues.{AnswerValues}
use Rattle.rules.specs.Answer.{answer}
use Rattle.rules.specs.Table.{Case, table, told}
use Rattle.rules.proofs.Computed.{computed}

same_violation : Violation → Violation → Bool
same_violation v w =
    eqb v.class w.class
    && eqb v.severity w.severity
    && eqb v.span.offset w.span.offset
    && eqb v.span.len w.span.len

same_list : List Violation → List Violation → Bool
same_list [] [] = true
same_list [] (w ∷ ws) = false
same_list (v ∷ vs) [] = false
same_list (v ∷ vs) (w ∷ ws) = same_violation v w && same_list vs ws

same_values : AnswerValues → AnswerValues → Bool
same_values a b =
    eqb a.number b.number && eqb a.index b.index && eqb a.total b.total && eqb a.errors b.errors

-- the row's sheet and names text get the row's answer and list
case_test : Case → Bool
case_test c = same_values (answer c.sheet c.names) c.expected && same_list (told c.sheet c.names) c.list

table_test : List Case → Bool
table_test [] = true
table_test (c ∷ cs) = case_test c && table_test cs

table-passes : table_test table ≡ true
unfolding computed table_test case_test same_values same_list same_violation table told
table-passes = refl

-- four numbers that pass the test are the same
four : (a b c d a' b' c' d' : ℕ) → (eqb a a' && eqb b b' && eqb c c' && eqb d d') ≡ true → (a ≡ a') × (b ≡ b') × (c ≡ c') × (d ≡ d')
four a b c d a' b' c' d' h =
    let abcd = and_parts (eqb a a' && eqb b b' && eqb c c') (eqb d d') h in
    let abc = and_parts (eqb a a' && eqb b b') (eqb c c') abcd.0 in
    let ab = and_parts (eqb a a') (eqb b b') abc.0 in (eqb-true a a' ab.0, eqb-true b b' ab.1, eqb-true c c' abc.1, eqb-true d d' abcd.1)

same-violation : (v w : Violation) → same_violation v w ≡ true → v ≡ w
unfolding same_violation
same-violation v w h =
    let e = four v.class v.severity v.span.offset v.span.len w.class w.severity w.span.offset w.span.len h in
    λ i. record { class = e.0 i; severity = e.1 i; span = record { offset = e.2 i; len = e.3 i } }

same-list : (vs ws : List Violation) → same_list vs ws ≡ true → vs ≡ ws
unfolding same_list
same-list [] [] h = refl
same-list [] (w ∷ ws) h = cc
same-list (v ∷ vs) [] h = cc
same-list (v ∷ vs) (w ∷ ws) h =
    ap₂ ◌∷◌ (same-violation v w (and_parts _ _ h).0) (same-list vs ws (and_parts (same_violation v w) _ h).1)

same-values : (a b : AnswerValues) → same_values a b ≡ true → a ≡ b
unfolding same_values
same-values a b h =
    let e = four a.number a.index a.total a.errors b.number b.index b.total b.errors h in
    λ i. record { number = e.0 i; index = e.1 i; total = e.2 i; errors = e.3 i }

-- the row's sheet and names text get the row's answer and the row's list
Holds : Case → Type 0
Holds c = (answer c.sheet c.names ≡ c.expected) × (told c.sheet c.names ≡ c.list)

case-holds : (c : Case) → case_test c ≡ true → Holds c
unfolding case_test Holds
case-holds c h = (
  same-values _ _ (and_parts (same_values (answer c.sheet c.names) c.expected) _ h).0,
  same-list _ _ (and_parts (same_values (answer c.sheet c.names) c.expected) _ h).1,
)

rows-hold : (c : Case) (cs : List Case) → table_test cs ≡ true → Memᴰ c cs → Holds c
unfolding table_test
rows-hold c cs h (Memᴰ.head {x} e) = subst⁻¹ Holds e (case-holds x (and_parts _ _ h).0)
rows-hold c cs h (Memᴰ.tail {x} {xs} m) = rows-hold c xs (and_parts (case_test x) _ h).1 m

-- every row of the table holds
pub table-holds : (c : Case) → Memᴰ c table → (answer c.sheet c.names ≡ c.expected) × (told c.sheet c.names ≡ c.list)
unfolding Holds
table-holds c m = rows-hold c table table-passes m
