-- What the code does.
pub mod Puts
pub mod Decoded
pub mod Digits
pub mod LineTexts
pub mod Answers
-- What it means: the lines are what the program prints.
pub mod Printed
