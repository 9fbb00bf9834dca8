-- Every definition of document 01, in its order: what a reader of the promises must believe.
-- Words: Words. The sheet: Kind, Sub, Record, Used, Context, Head. Turned down: Grammar, Refusals. The rules: Rule, RuleNumber, Types,
-- Annotations, Conditions, Bodies. What a caller gets: Answer, Buffer, Printed. The cases that document 01 marks: Table.
-- What demand 3 speaks of: Items. What demands 1 and 2 say of refusals: Refused.
-- Beside them, and said in no promise of an answer: which names a table must know, Asked.
pub mod Words
pub mod Kind
pub mod Sub
pub mod Record
pub mod Used
pub mod Context
pub mod Head
pub mod Grammar
pub mod Refusals
pub mod Rule
pub mod RuleNumber
pub mod Types
pub mod Annotations
pub mod Conditions
pub mod Bodies
pub mod Answer
pub mod Buffer
pub mod Printed
pub mod Table
pub mod Items
pub mod Refused
pub mod Asked
pub mod Range
