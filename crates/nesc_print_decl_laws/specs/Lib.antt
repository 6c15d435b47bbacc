pub mod DeclarationsAgain
