mod Ends
mod Elaborated
