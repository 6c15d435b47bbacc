mod Blocks
mod Boots
mod Limits
