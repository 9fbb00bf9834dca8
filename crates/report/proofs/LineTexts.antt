-- The lines of one violation more are its line behind the others.
use Prim.Native.Nat.{ℕ, zero, suc, ◌+◌, ◌*◌}
use mathlib.Core.Path.{◌≡◌, refl, ap, ◌∙◌}
use mathlib.Core.List.{List, [], ◌++◌, flat_map, append_assoc, append-nil}
use native.Mathlib.Omega.{arith}
use native.Mathlib.Numerals.{add-one}
use lib.Seq.{drop-drop}
use lib.ListN.{drop}
use Rattle.rules.specs.Buffer.{decode_violation, decode_list, violation_size}
use Rattle.rules.specs.Printed.{violation_line}
use Rattle.report.specs.Lines.{violation_lines}

pub lines_none : (list : List ℕ) → violation_lines 0 list ≡ []
unfolding violation_lines decode_list flat_map
lines_none list = refl

lines_last :
    (n : ℕ) (list : List ℕ) →
    violation_lines (suc n) list ≡ violation_lines n list ++ violation_line (decode_violation (drop (violation_size * n) list))
unfolding violation_lines decode_list flat_map
lines_last zero list = append-nil _
lines_last (suc n) list =
    let next : violation_size + violation_size * n ≡ violation_size * suc n = omega arith in
    ap (λ lines. violation_line (decode_violation list) ++ lines) (lines_last n (drop violation_size list))
    ∙ rw (drop-drop, next) (simp append_assoc)

pub lines_more :
    (n : ℕ) (list : List ℕ) →
    violation_lines (n + 1) list ≡ violation_lines n list ++ violation_line (decode_violation (drop (violation_size * n) list))
lines_more n list = rw (add-one n) (lines_last n list)
