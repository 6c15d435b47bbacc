-- From open code with the loop of tasks to loop runs.
pub mod Instructions
pub mod Standing
pub mod Plain
pub mod Places
pub mod BodyStep
pub mod PopStep
pub mod HandlerStep
pub mod Enter
pub mod LoopStep
pub mod BaseStep
pub mod Follow
pub mod Bytes
pub mod Whole
pub mod Laid
pub mod Fixed
pub mod Idle
