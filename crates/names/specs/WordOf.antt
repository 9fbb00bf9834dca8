-- The words by the codes that the table of names has for them.
use Rattle.std.specs.Prelude.{ℕ, Option, Some, None, if◌then◌else◌, ◌==◌}
use Rattle.names.specs.declared.words.Word.{Word}
use Rattle.names.specs.declared.words.Word.TheVariants.{Varint, Zigzag, Delta, Limit, Deprecated, Doc, Reason, Blank}
use Rattle.names.specs.Codes.{blank_code}

-- the word with that code
unfoldable pub word_of : ℕ → Option Word
word_of code =
    if code == 1 then Some Varint
    else (if code == 2 then Some Zigzag
    else (if code == 3 then Some Delta
    else (if code == 4 then Some Limit
    else (if code == 5 then Some Deprecated
    else (if code == 6 then Some Doc
    else (if code == 7 then Some Reason
    else (if code == blank_code then Some Blank
    else None)))))))

-- the code of a word
abbrev pub code_of : Word → ℕ
code_of Varint = 1
code_of Zigzag = 2
code_of Delta = 3
code_of Limit = 4
code_of Deprecated = 5
code_of Doc = 6
code_of Reason = 7
code_of Blank = blank_code
