-- A record that is written stands whole at its place, and every other byte is kept.
use Rattle.std.proofs.Common.{◌≡◌, ℕ, ◌+◌, ◌*◌, ◌<◌, ◌≤◌, List, ◌++◌, length, take, drop, le-leb}
use borrow.Author.Tests.{lt-leb}
use Rattle.rules.specs.declared.violation.Violation.{Violation}
use Rattle.rules.specs.Buffer.{encode, violation_size}
use Rattle.diagnostic.specs.Push.{stored}

-- "A violation is 12 bytes"
-- the byte at which record number `index` starts
abbrev pub start : ℕ → ℕ
start index = violation_size * index

module _ (v : Violation) (index : ℕ) (l : List ℕ) where
  -- a buffer with no room for the record is kept
  pub stored-kept : length l < start index + violation_size → l ≡ stored v index l
  unfolding stored
  stored-kept h = rw (lt-leb _ _ h, stored)

  -- with room for the record, its bytes stand at its place
  pub stored-room :
      start index + violation_size ≤ length l →
      stored v index l ≡ take (start index) l ++ encode v ++ drop (start index + violation_size) l
  unfolding stored
  stored-room h = rw (le-leb _ _ h, stored)
