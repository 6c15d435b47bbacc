mod Firsts
mod Found
mod Reached
mod SameItems
