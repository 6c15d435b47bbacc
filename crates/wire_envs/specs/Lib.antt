pub mod Envs
