pub mod WholeWords
