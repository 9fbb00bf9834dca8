-- The version of what callers in other languages are given: the layout of structs, and of buffers that the library itself writes.
use Rattle.std.specs.Prelude.{ℕ}

abbrev pub version : ℕ
version = 1
