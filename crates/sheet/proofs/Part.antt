-- The bytes of record i, as code cuts them out of a sheet: a whole record has 32, after the last whole one fewer are left, and beyond that
-- there are none.
use Prim.Native.Nat.{ℕ, ◌+◌, ◌-◌, ◌*◌, ◌/◌, ◌≤◌}
use mathlib.Core.Path.{◌≡◌}
use mathlib.Core.List.{List, []}
use native.Mathlib.Omega.{arith}
use lib.ListN.{length, take, drop, length-drop, drop_of_length-le}
use lib.Seq.{take_all}
use Rattle.rules.specs.Record.{record_bytes}

module _ (sheet : List ℕ) (i : ℕ) where
  pub whole_record : take (i * 32 + 32 - i * 32) (drop (i * 32) sheet) ≡ record_bytes sheet i
  whole_record =
      let size : i * 32 + 32 - i * 32 ≡ 32 = omega arith in
      let start : i * 32 ≡ 32 * i = omega arith in
      rw (size, start)

  pub last_part : i ≡ length sheet / 32 → take (length sheet - i * 32) (drop (i * 32) sheet) ≡ record_bytes sheet i
  last_part h =
      let start : i * 32 ≡ 32 * i = omega arith in
      let rest : length (drop (32 * i) sheet) ≤ 32 = simp length-drop (omega arith) in
      rw (start, take_all 32 (drop (32 * i) sheet) rest) (take_all (length sheet - 32 * i) (drop (32 * i) sheet) (simp length-drop (omega arith)))

  pub no_part : length sheet / 32 ≤ i → (i ≡ length sheet / 32 → ⊥) → [] ≡ record_bytes sheet i
  no_part h k = rw (drop_of_length-le sheet {i = 32 * i} (omega arith))
