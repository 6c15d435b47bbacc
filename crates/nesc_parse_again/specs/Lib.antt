pub mod ParsedAgain
