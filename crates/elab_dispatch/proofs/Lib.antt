mod Ranges
mod Served
