-- Two rolls in label order, looked through together.
pub mod Walk
